use Rattle.std.proofs.Common.{subst}
use Rattle.std.specs.Prelude.{IfOk}
use Rattle.answer_lines.specs.authoriser.Answers.{IsAnswer}
use Rattle.answer_lines.specs.authoriser.Views.{named}
use Rattle.entity_data.specs.Entities.{Actions, with_actions, entity_data_in}
use Rattle.entity_data.specs.EntityStores.{kept_in}
use Rattle.decision_texts.proofs.deciding.answer_over.Goals as goal

pub returns : goal.returns
returns g c =
    subst (λ (actions : Actions). IfOk c.decide.result (λ a. IsAnswer (entity_data_in (with_actions actions (kept_in c.args.store.now))) c.args.request.now (named c.args.policies.now) a))
    c.actions.ensures
    (subst (λ w. IfOk c.decide.result (λ a. IsAnswer (entity_data_in (with_actions (g.S.Actions.ActionSource.declared w.1) (kept_in w.0))) c.args.request.now (named c.args.policies.now) a))
    c.new-world.ensures c.decide.ensures)
