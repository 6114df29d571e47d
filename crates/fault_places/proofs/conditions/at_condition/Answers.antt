use Rattle.std.proofs.Common.{sym, ap, ◌∙◌}
use Rattle.fault_places.specs.Places.{by_word, unless_at}
use Rattle.fault_places.proofs.Turning.{unless-other}
use Rattle.fault_places.proofs.conditions.at_condition.Goals as goal

pub returns-in_default : goal.returns-in_default
returns-in_default c =
    unless-other c.first_turn.result c.args.condition.now c.args.tokens.now c.in_default.not-Stop c.in_default.not-Left
    ∙ ap (λ x. unless_at x c.args.condition.now c.args.tokens.now) c.first_turn.ensures
    ∙ ap (λ x. by_word x c.args.condition.now c.args.tokens.now c.args.path.now) (sym c.in-Unless.is)
