use Rattle.std.proofs.Common.{◌≡◌, ◌∙◌, ℕ, ◌∷◌, ◌++◌, [], List, map, Some, ap, sym, subst}
use Rattle.std.specs.Prelude.{Contains, ◌↔◌}
use Rattle.std.specs.List.Sorted.{IsStrictlySortedBy}
use Rattle.std.specs.Map.Iter.{deref_pair}
use Rattle.std.proofs.lemmas.Map.Iter.{iter_end}
use Rattle.values.specs.Names.{text_cmp}
use Rattle.scope_index.specs.Keys.{ids, lent, kept_at}
use Rattle.scope_index.proofs.Offering.{Lent, Pair, behind, offers_lent, offers_lent-push, lent-push, lent_ascend, all_lent}
use Rattle.scope_index.proofs.candidates.all_of.Goals as goal

pub loop-id-init : goal.loop-id-init
loop-id-init c = ap lent c.in_ok-all.ensures.items

pub loop-id-preserved : goal.loop-id-preserved
loop-id-preserved c =
    let xs = c.loop-id.yielded in
    let x : Pair = (c.in-Some.id, c.in-Some.policy) in
    let k : Lent = (c.as_str.result, c.in-Some.policy) in
    ap lent c.in_ok-push.ensures.items ∙ lent-push c.loop-id.all.items k ∙ ap (λ l. l ++ behind k ∷ []) c.loop-id.invariant
    ∙ ap (λ (b : List ℕ). offers_lent xs ++ (b, c.in-Some.policy.now) ∷ []) c.as_str.ensures.value ∙ sym (offers_lent-push xs x)

pub returns-clause-all : goal.returns-clause-all
returns-clause-all c = λ o.
    let gives = c.into_iter-id-iterator.ensures.into_iter_gives in
    let whole : map deref_pair c.loop-id.yielded ≡ c.args.bucket.now.entries =
    (iter_end deref_pair _ _ _ _ _ _ gives.0 c.loop-id.yielded_by c.in-None.is c.next.ensures.steps).0 in
    subst (λ l. Contains l o ↔ (kept_at c.args.bucket.now.entries o.0 ≡ Some o.1)) (sym c.loop-id.invariant)
    (all_lent c.args.bucket.now c.loop-id.yielded whole gives.6 o)

pub returns-clause-ascending : goal.returns-clause-ascending
returns-clause-ascending c =
    let gives = c.into_iter-id-iterator.ensures.into_iter_gives in
    let whole : map deref_pair c.loop-id.yielded ≡ c.args.bucket.now.entries =
    (iter_end deref_pair _ _ _ _ _ _ gives.0 c.loop-id.yielded_by c.in-None.is c.next.ensures.steps).0 in
    subst (λ l. IsStrictlySortedBy text_cmp (ids l)) (sym c.loop-id.invariant)
    (lent_ascend c.args.bucket.now c.loop-id.yielded whole c.len.ensures.ordered)
