use Rattle.std.proofs.Common.{Bool, true, Result, drop}
use Rattle.type_checker.specs.schema.Views.{schema_view}
use Rattle.type_checker.specs.policy_grammar.PolicyExpression.{expression_of}
use Rattle.type_checker.specs.typing.declared.fault.TypeFault.{TypeFault}
use Rattle.validator.specs.inner.Checking.{typing_environments, AreJudged}
use Rattle.validator.proofs.checking.is_false_everywhere.Given as goal

-- the result of the remaining environments, with that of those before, is the result of all
abbrev pub invariant-loop-environment : goal.invariant-loop-environment
invariant-loop-environment l =
    let x = expression_of l.policy in
    let s = schema_view l.schema in
    (r : Result Bool TypeFault) → AreJudged x l.all_false (typing_environments s (drop l.environment-index l.environments)) r
    → AreJudged x true (typing_environments s l.environments) r
