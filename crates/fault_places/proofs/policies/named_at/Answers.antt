use Rattle.std.proofs.Common.{ap, ◌∙◌}
use Rattle.fault_places.specs.Names.{named}
use Rattle.fault_places.proofs.Turning.{named-other}
use Rattle.fault_places.proofs.policies.named_at.Goals as goal

pub returns-in_default : goal.returns-in_default
returns-in_default c =
    named-other c.place_at.result c.in_default.not-Entity c.in_default.not-Action c.in_default.not-Expression ∙ ap named c.place_at.ensures
