use Rattle.std.proofs.Common.{subst}
use Rattle.std.specs.Prelude.{IfOk}
use Rattle.evaluator.specs.Operators.{entities_with}
use Rattle.authoriser.specs.Answers.{IsAnswer}
use Rattle.authoriser.specs.Views.{named}
use Rattle.authoriser.proofs.deciding.decide.Goals as goal

pub returns : goal.returns
returns g c =
    subst (λ k. IfOk c.decide_prepared.result (λ a. IsAnswer (entities_with (g.L.Lookup.stored k.0) (g.L.Ancestry.parents k.0)) k.1 (named c.args.policies.now) a))
    c.in_ok-prepared.ensures c.decide_prepared.ensures.answer
