use Rattle.std.proofs.Common.{◌≡◌, Some, take}
use Rattle.std.specs.Prelude.{Contains}
use Rattle.values.specs.declared.entity_uid.EntityUid.{EntityUid}
use Rattle.ancestor_search.specs.Hierarchy.{referenced}
use Rattle.scope_index.specs.Keys.{lent}
use Rattle.scope_index.specs.Buckets.{policy_of_uid}
use Rattle.scope_index.proofs.Offering.{Offers}
use Rattle.scope_index.proofs.candidates.add_each.Given as goal

-- the policies in the buckets of the entities so far are in the list
abbrev pub invariant-loop-entity : goal.invariant-loop-entity
invariant-loop-entity l = Offers (λ o. (e : EntityUid) × Contains (referenced (take l.entity-index l.entities)) e × (policy_of_uid l.under e o.0 ≡ Some o.1))
    (lent l.fn.found.items) (lent l.found.items)
