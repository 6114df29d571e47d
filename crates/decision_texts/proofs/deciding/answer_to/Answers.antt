use Rattle.std.proofs.Common.{ap}
use Rattle.answer_lines.specs.authoriser.Views.{named}
use Rattle.decision_texts.specs.inner.Stores.{entity_data_stored}
use Rattle.decision_texts.proofs.DecidedLemmas.{in_order_answered}
use Rattle.decision_texts.proofs.deciding.answer_to.Goals as goal

pub returns : goal.returns
returns g c = in_order_answered _ (named c.deref.result.now) (named c.in_ok-ordered.ordered.items) (entity_data_stored (g.S.Setting.reading c.args.setting.now) c.args.store.now)
    c.args.request.now c.answer_over.result (ap named c.deref.ensures.value) c.in_ok-ordered.ensures c.answer_over.ensures
