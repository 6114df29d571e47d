use Rattle.std.proofs.Common.{◌≡◌, Some}
use Rattle.values.specs.declared.entity_uid.EntityUid.{EntityUid}
use Rattle.ancestor_search.specs.Hierarchy.{IsIn}
use Rattle.scope_index.specs.Keys.{Candidate, lent}
use Rattle.scope_index.specs.Buckets.{policy_of_uid}
use Rattle.scope_index.proofs.Offering.{in_turn}
use Rattle.scope_index.proofs.candidates.add_by_entities.Goals as goal

pub returns : goal.returns
returns g c =
    let parents = g.A.Ancestry.parents c.args.ancestry.now in
    let q = c.args.request.now in
    let b = c.args.buckets.now in
    in_turn (λ (o : Candidate). (e : EntityUid) × IsIn parents q.principal e × (policy_of_uid b.principals e o.0 ≡ Some o.1))
    (λ (o : Candidate). (e : EntityUid) × IsIn parents q.resource e × (policy_of_uid b.resources e o.0 ≡ Some o.1))
    (lent c.args.found.now.items) (lent c.add_with_ancestors.new.found.items) (lent c.add_with_ancestors-2.new.found.items)
    c.in_ok-add_with_ancestors.ensures c.in_ok-add_with_ancestors-2.ensures
