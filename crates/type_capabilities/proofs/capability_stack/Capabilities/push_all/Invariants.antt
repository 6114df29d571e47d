use Rattle.std.proofs.Common.{◌≡◌, ◌++◌, take}
use Rattle.type_capabilities.specs.CapabilityList.{capabilities}
use Rattle.type_capabilities.proofs.capability_stack.Capabilities.push_all.Given as goal

abbrev pub invariant-loop-capability : goal.invariant-loop-capability
invariant-loop-capability l = l.self ≡ l.fn.self ++ capabilities (take l.capability-index l.these)
