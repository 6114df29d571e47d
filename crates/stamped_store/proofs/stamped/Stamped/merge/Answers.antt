use Rattle.std.proofs.Common.{◌≡◌, sym, ap, subst, ◌∙◌, take, length, ◌++◌, ◌∷◌, [], arith, length-append, append_assoc, append-nil}
use Rattle.std.specs.List.Sorted.{IsStrictlySortedBy}
use Rattle.std.specs.Map.{keys_of}
use Rattle.stamped_store.specs.JoinMaps.{taken, all_joined, IsJoined}
use Rattle.stamped_store.proofs.Lifted.{is_least-joined}
use Rattle.stamped_store.proofs.Points.{is_joined-all_joined, is_joined-prefix, all_joined-push}
use Rattle.stamped_store.proofs.stamped.Stamped.merge.Goals as goal

pub returns-in-Err-clause-short_values : goal.returns-in-Err-clause-short_values
returns-in-Err-clause-short_values g c =
    let join = g.V.Join.joined in
    let cmp = g.K.Ord.cmp in
    let old = c.args.self.now in
    let other = c.args.other in
    let yielded = c.loop-key.yielded in
    let sorted : IsStrictlySortedBy cmp (keys_of other) = subst (λ es. IsStrictlySortedBy cmp (keys_of es)) c.other.view_is c.into_iter-key-iterator.ensures.into_iter_gives.5 in
    subst (λ n. IsJoined cmp join old (take n other) c.take_next.new.self) (sym (c.in-Err.ensures.short ∙ c.loop-key.invariant.count))
    (subst (λ s. IsJoined cmp join old (take (length yielded) other) s) (sym (c.in-Err.ensures.err ∙ c.loop-key.invariant.joined))
    (is_joined-prefix g.met.K.Ord.total join old yielded c.loop-key.key-iterator other c.loop-key.invariant.rest sorted))

pub loop-key-preserved : goal.loop-key-preserved
loop-key-preserved g c =
    let join = g.V.Join.joined in
    let cmp = g.K.Ord.cmp in
    let item : g.row.K.Denot × g.row.V.Denot = (c.in-Some.key, c.in-Some.value) in
    let yielded = c.loop-key.yielded in
    record {
      can_next = tt;
      is_finite = tt;
      rest = append_assoc yielded (item ∷ []) c.next.new.self ∙ ap (λ es. yielded ++ es) (sym c.in-Some.ensures.steps) ∙ c.loop-key.invariant.rest;
      count = omega (arith, length-append yielded (item ∷ []), c.in-Ok.ensures.count);
      joined = c.in-Ok.ensures.ok ∙ ap (λ s. taken cmp join s c.in-Some.key c.in-Some.value) c.loop-key.invariant.joined ∙ sym (all_joined-push cmp join c.args.self.now yielded item);
    }

pub returns-clause-ok_values : goal.returns-clause-ok_values
returns-clause-ok_values g c =
    let join = g.V.Join.joined in
    let cmp = g.K.Ord.cmp in
    let old = c.args.self.now in
    let other = c.args.other in
    let yielded = c.loop-key.yielded in
    let sorted : IsStrictlySortedBy cmp (keys_of other) = subst (λ es. IsStrictlySortedBy cmp (keys_of es)) c.other.view_is c.into_iter-key-iterator.ensures.into_iter_gives.5 in
    let whole : yielded ≡ other = sym (append-nil yielded) ∙ ap (λ es. yielded ++ es) (sym c.in-None.ensures.steps.0) ∙ c.loop-key.invariant.rest in
    subst (λ s. IsJoined cmp join old other s) (sym (c.loop-key.invariant.joined ∙ ap (all_joined cmp join old) whole))
    (is_joined-all_joined g.met.K.Ord.total join old other sorted)

pub returns-in-Err-clause-short : goal.returns-in-Err-clause-short
returns-in-Err-clause-short g c =
    is_least-joined g.V.Join.is_below g.V.Join.joined g.met.V.Join.laws g.K.Ord.cmp _ _ _ (returns-in-Err-clause-short_values g c)

pub returns-clause-ok : goal.returns-clause-ok
returns-clause-ok g c =
    is_least-joined g.V.Join.is_below g.V.Join.joined g.met.V.Join.laws g.K.Ord.cmp _ _ _ (returns-clause-ok_values g c)
