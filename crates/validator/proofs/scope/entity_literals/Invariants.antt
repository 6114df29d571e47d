use Rattle.std.proofs.Common.{◌≡◌, map, take}
use Rattle.type_checker.specs.policy_grammar.PolicyExpression.{entity_literal}
use Rattle.validator.proofs.scope.entity_literals.Given as goal

abbrev pub invariant-loop-uid : goal.invariant-loop-uid
invariant-loop-uid l = l.literals.items ≡ map entity_literal (take l.uid-index l.uids)
