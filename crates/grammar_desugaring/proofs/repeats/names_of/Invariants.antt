use Rattle.std.proofs.Common.{◌≡◌, map, take}
use Rattle.grammar_desugaring.specs.Repeats.{abstract_names}
use Rattle.grammar_desugaring.specs.inner.Searching.{held}
use Rattle.grammar_desugaring.proofs.repeats.names_of.Given as goal

-- the marks up to here
abbrev pub invariant-loop-key : goal.invariant-loop-key
invariant-loop-key l = abstract_names l.marks.items ≡ map held (take l.key-index l.keys)
