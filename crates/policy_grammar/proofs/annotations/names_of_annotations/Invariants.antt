use Rattle.std.proofs.Common.{◌≡◌, map, take}
use Rattle.grammar_desugaring.specs.Repeats.{abstract_names}
use Rattle.policy_grammar.specs.Annotations.{key_at}
use Rattle.policy_grammar.proofs.annotations.names_of_annotations.Given as goal

-- the marks up to here
abbrev pub invariant-loop-annotation : goal.invariant-loop-annotation
invariant-loop-annotation l = abstract_names l.marks.items ≡ map (key_at l.text) (take l.annotation-index l.annotation-items)
