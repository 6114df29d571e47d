use Rattle.std.proofs.Common.{◌≡◌, List, Some, subst}
use Rattle.std.specs.Prelude.{Contains}
use Rattle.std.specs.Borrow.{Bor}
use Rattle.values.specs.declared.entity_uid.EntityUid.{EntityUid}
use Rattle.ancestor_search.specs.Hierarchy.{IsIn, referenced}
use Rattle.scope_index.specs.Keys.{Candidate, lent}
use Rattle.scope_index.specs.Buckets.{policy_of_uid}
use Rattle.scope_index.proofs.Offering.{Offers, in_turn, said_as, it_and_above}
use Rattle.scope_index.proofs.candidates.add_with_ancestors.Goals as goal

pub returns : goal.returns
returns g c =
    let Has : EntityUid → Candidate → Type 0 = λ e o. policy_of_uid c.args.under.now e o.0 ≡ Some o.1 in
    let uid = c.args.uid.now in
    let above = referenced c.in_ok-ancestors.ancestors.items in
    said_as _ (λ o. (e : EntityUid) × IsIn (g.A.Ancestry.parents c.args.ancestry.now) uid e × Has e o)
    (lent c.args.found.now.items) (lent c.add_each.new.found.items)
    (it_and_above (g.A.Ancestry.parents c.args.ancestry.now) Has uid above c.in_ok-ancestors.ensures.all)
    (in_turn (λ o. Has uid o) (λ o. (e : EntityUid) × Contains above e × Has e o)
    (lent c.args.found.now.items) (lent c.add_bucket.new.found.items) (lent c.add_each.new.found.items)
    c.in_ok-add_bucket.ensures
    (subst (λ (us : List (Bor EntityUid)). Offers (λ o. (e : EntityUid) × Contains (referenced us) e × Has e o)
    (lent c.add_bucket.new.found.items) (lent c.add_each.new.found.items)) c.deref.ensures.value c.in_ok-add_each.ensures))
