use Rattle.std.proofs.Common.{subst}
use Rattle.std.specs.Prelude.{Contains, ◌↔◌, IfOk}
use Rattle.values.specs.declared.entity_uid.EntityUid.{EntityUid}
use Rattle.ancestor_search.specs.Hierarchy.{referenced}
use Rattle.ancestor_closure.proofs.changing.parents_by.Goals as goal

pub returns-clause-all : goal.returns-clause-all
returns-clause-all g c =
    subst (λ l. IfOk c.ascending.result (λ found. (x : EntityUid) → Contains (referenced found.items) x ↔ Contains l x)) c.parents_of.ensures c.ascending.ensures.all
