use Rattle.std.proofs.Common.{◌≡◌, ◌++◌, drop}
use Rattle.grammar_desugaring.specs.Repeats.{abstract_names}
use Rattle.policy_grammar.specs.inner.Parts.{names_to_compare}
use Rattle.policy_grammar.proofs.repeats.names_to_compare.Given as goal

-- the marks up to here, and those behind
abbrev pub invariant-loop-i : goal.invariant-loop-i
invariant-loop-i l = abstract_names l.marks.items ++ names_to_compare l.text l.wide (drop l.i l.names) (drop l.i l.trees) ≡ names_to_compare l.text l.wide l.names l.trees
