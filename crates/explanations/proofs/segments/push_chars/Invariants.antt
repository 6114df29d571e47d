use Rattle.std.proofs.Common.{◌≡◌, ◌++◌, map, string_bytes, encode_utf8_all}
use Rattle.explanations.specs.inner.Segments.{drawn_char}
use Rattle.explanations.proofs.segments.push_chars.Given as goal

abbrev pub invariant-loop-c : goal.invariant-loop-c
invariant-loop-c l =
    string_bytes l.out ≡ string_bytes l.initial.out ++ encode_utf8_all (map (drawn_char l.are_blank) l.yielded)
