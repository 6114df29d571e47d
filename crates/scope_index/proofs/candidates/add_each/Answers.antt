use Rattle.std.proofs.Common.{◌≡◌, ◌∙◌, ◌∷◌, ◌++◌, ◌+◌, [], List, Some, sym, ap, subst, take}
use Rattle.std.specs.Prelude.{Contains}
use Rattle.std.specs.Borrow.{Bor}
use Rattle.std.proofs.lemmas.List.{take_more, take_all}
use Rattle.values.specs.declared.entity_uid.EntityUid.{EntityUid}
use Rattle.ancestor_search.specs.Hierarchy.{referenced}
use Rattle.ancestor_search.specs.Deciding.{Contains-none}
use Rattle.scope_index.specs.Keys.{lent}
use Rattle.scope_index.specs.Buckets.{policy_of_uid}
use Rattle.scope_index.proofs.Offering.{Offers, in_turn, said_as, nothing_more, one_entity_more}
use Rattle.scope_index.proofs.candidates.add_each.Goals as goal

pub loop-entity-init : goal.loop-entity-init
loop-entity-init c = nothing_more _ (lent c.args.found.now.items) (λ o h. Contains-none h.0 h.1)

pub loop-entity-preserved : goal.loop-entity-preserved
loop-entity-preserved c =
    let before = lent c.args.found.now.items in
    let k = c.loop-entity.entity-index in
    let x = c.entity-item.result in
    let so_far = take k c.args.entities.now in
    let more : take (k + 1) c.args.entities.now ≡ so_far ++ x ∷ [] =
    take_more c.args.entities.now k x c.loop-entity-test.true ∙ ap (λ y. so_far ++ y ∷ []) (sym c.entity-item.is) in
    subst (λ (us : List (Bor EntityUid)). Offers (λ o. (e : EntityUid) × Contains (referenced us) e × (policy_of_uid c.args.under.now e o.0 ≡ Some o.1)) before (lent c.add_bucket.new.found.items)) (sym more)
    (said_as _ (λ o. (e : EntityUid) × Contains (referenced (so_far ++ x ∷ [])) e × (policy_of_uid c.args.under.now e o.0 ≡ Some o.1))
    before (lent c.add_bucket.new.found.items) (one_entity_more (λ e o. policy_of_uid c.args.under.now e o.0 ≡ Some o.1) so_far x)
    (in_turn (λ o. (e : EntityUid) × Contains (referenced so_far) e × (policy_of_uid c.args.under.now e o.0 ≡ Some o.1)) (λ o. policy_of_uid c.args.under.now x.now o.0 ≡ Some o.1)
    before (lent c.loop-entity.found.items) (lent c.add_bucket.new.found.items) c.loop-entity.invariant c.in_ok-add_bucket.ensures))

pub returns : goal.returns
returns c =
    subst (λ (us : List (Bor EntityUid)). Offers (λ o. (e : EntityUid) × Contains (referenced us) e × (policy_of_uid c.args.under.now e o.0 ≡ Some o.1)) (lent c.args.found.now.items) (lent c.loop-entity.found.items))
    (take_all c.loop-entity.entity-index c.args.entities.now c.loop-entity-test.false) c.loop-entity.invariant
