use Rattle.std.proofs.Common.{[], sym, subst}
use Rattle.typing.specs.Gained as gained
use Rattle.type_capabilities.specs.CapabilityList.{capabilities}
use Rattle.type_checker.proofs.known.known_among.Goals as goal

pub loop-pair-init : goal.loop-pair-init
loop-pair-init c =
    subst (λ ps. gained.InBoth [] c.args.known.now (capabilities ps)) (sym c.new-both.ensures.items) gained.both_none
