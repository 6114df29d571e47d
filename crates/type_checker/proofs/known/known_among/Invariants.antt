use Rattle.std.proofs.Common.{take}
use Rattle.typing.specs.Gained.{InBoth}
use Rattle.type_capabilities.specs.CapabilityList.{capabilities}
use Rattle.type_checker.proofs.known.known_among.Given as goal

abbrev pub invariant-loop-pair : goal.invariant-loop-pair
invariant-loop-pair l = InBoth (capabilities (take l.pair-index l.these)) l.known (capabilities l.both.items)
