use Rattle.std.proofs.Common.{◌≡◌, map, take}
use Rattle.grammar_desugaring.specs.Faults.{key_of}
use Rattle.grammar_desugaring.specs.inner.Searching.{held}
use Rattle.grammar_desugaring.proofs.repeats.keys_of.Given as goal

-- the keys up to here
abbrev pub invariant-loop-entry : goal.invariant-loop-entry
invariant-loop-entry l = map held l.keys.items ≡ map (key_of l.text) (take l.entry-index l.entries)
