use Rattle.std.proofs.Common.{◌≡◌, drop}
use Rattle.policy_grammar.specs.inner.Parts.{some_index_name}
use Rattle.policy_grammar.proofs.repeats.some_index_name.Given as goal

-- none up to here
abbrev pub invariant-loop-i : goal.invariant-loop-i
invariant-loop-i l = some_index_name l.text l.names l.trees ≡ some_index_name l.text (drop l.i l.names) (drop l.i l.trees)
