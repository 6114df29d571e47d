use Rattle.std.proofs.Common.{◌≡◌, ◌∷◌, ◌++◌, [], map, Some}
use Rattle.std.specs.Prelude.{Contains, ◌⊎◌}
use Rattle.std.specs.Map.Iter.{deref_pair}
use Rattle.std.proofs.lemmas.Map.Iter.{iter_end}
use Rattle.scope_index.specs.Keys.{lent, kept_at}
use Rattle.scope_index.proofs.Offering.{Lent, Pair, behind, offers_lent, one_more, said_as, nothing_yet, pushed_pair, all_lent}
use Rattle.ancestor_search.specs.Deciding.{Contains-none}
use Rattle.scope_index.proofs.candidates.add_policies.Goals as goal

pub loop-id-init : goal.loop-id-init
loop-id-init c =
    nothing_yet (λ o. Contains (offers_lent []) o) c.args.found.now.items c.reserve.new.self.items c.reserve.ensures.items
    (λ o h. Contains-none o h)

pub loop-id-preserved : goal.loop-id-preserved
loop-id-preserved c =
    let before = lent c.args.found.now.items in
    let xs = c.loop-id.yielded in
    let x : Pair = (c.in-Some.id, c.in-Some.policy) in
    let k : Lent = (c.as_str.result, c.in-Some.policy) in
    said_as (λ o. Contains (offers_lent xs) o ⊎ (behind k ≡ o)) (λ o. Contains (offers_lent (xs ++ x ∷ [])) o)
    before (lent c.push.new.self.items) (pushed_pair xs x c.as_str.result c.as_str.ensures.value)
    (one_more (λ o. Contains (offers_lent xs) o) before c.loop-id.found.items c.push.new.self.items k
    c.in_ok-push.ensures.items c.loop-id.invariant)

pub returns : goal.returns
returns c =
    let gives = c.into_iter-id-iterator.ensures.into_iter_gives in
    let whole : map deref_pair c.loop-id.yielded ≡ c.args.bucket.now.entries =
    (iter_end deref_pair _ _ _ _ _ _ gives.0 c.loop-id.yielded_by c.in-None.is c.next.ensures.steps).0 in
    said_as (λ o. Contains (offers_lent c.loop-id.yielded) o) (λ o. kept_at c.args.bucket.now.entries o.0 ≡ Some o.1)
    (lent c.args.found.now.items) (lent c.loop-id.found.items) (all_lent c.args.bucket.now c.loop-id.yielded whole gives.6)
    c.loop-id.invariant
