use Rattle.std.proofs.Common.{◌≡◌, ◌++◌, take, string_bytes}
use Rattle.std.specs.List.{flat_map}
use Rattle.explanations.specs.inner.Segments.{bytes_of}
use Rattle.explanations.proofs.segments.push_all.Given as goal

abbrev pub invariant-loop-segment : goal.invariant-loop-segment
invariant-loop-segment l =
    string_bytes l.out ≡ string_bytes l.initial.out ++ flat_map bytes_of (take l.segment-index l.segments)
