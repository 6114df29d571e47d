use Rattle.std.proofs.Common.{drop}
use Rattle.schema.specs.inner.Making.{Places, AddsResources}
use Rattle.schema.proofs.environments.add_resources.Given as goal

-- where those that are left are added too, all are
abbrev pub invariant-loop-resource : goal.invariant-loop-resource
invariant-loop-resource l = (last : Places) → AddsResources l.action l.context (drop l.resource-index l.resources) l.principal l.places last → AddsResources l.action l.context l.resources l.principal l.fn.places last
