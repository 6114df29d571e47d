use Rattle.std.proofs.Common.{◌≡◌, drop}
use Rattle.schema.specs.Views.{schema_view}
use Rattle.entities.specs.Entities.{parents_fit}
use Rattle.entities.proofs.parents.demand_parents.Given as goal

abbrev pub invariant-loop-parent : goal.invariant-loop-parent
invariant-loop-parent l = parents_fit (schema_view l.schema) l.uid l.parents ≡ parents_fit (schema_view l.schema) l.uid (drop l.parent-index l.parents)
