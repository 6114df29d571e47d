use Rattle.std.proofs.Common.{◌≡◌, ◌++◌, drop, map}
use Rattle.std.specs.Prelude.{string_bytes}
use Rattle.values.specs.Paths.{path_of}
use Rattle.values.proofs.Joining.{tails}
use Rattle.values.proofs.type_name.TypeName.from_words.Given as goal

abbrev pub invariant-loop-word : goal.invariant-loop-word
invariant-loop-word l = string_bytes l.joined ++ tails (drop l.word-index l.more) ≡ path_of (map (λ w. w.now) l.words)
