use Rattle.std.proofs.Common.{◌≡◌, find, drop}
use Rattle.policy_grammar.specs.CoreOf.{is_id}
use Rattle.policy_grammar.proofs.names.id_of.Given as goal

-- none was found up to here
abbrev pub invariant-loop-annotation : goal.invariant-loop-annotation
invariant-loop-annotation l = find (is_id l.text) l.annotations ≡ find (is_id l.text) (drop l.annotation-index l.annotations)
