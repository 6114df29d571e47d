-- Policies that are put in order by their ids, each once.
use Rattle.std.proofs.Common.{◌≡◌, ◌∙◌, ℕ, suc, ◌+◌, ◌<◌, refl, sym, ap, subst, Bool, true, false, cond, List, [], ◌∷◌, map, length, arith, inl, inr}
use Rattle.std.specs.Prelude.{nat_eq, ◌↔◌, Contains}
use Rattle.std.specs.List.{dedup_from, dedup}
use Rattle.std.specs.List.Sorted.{IsStrictlySortedBy, IsPermutation, IsSorted, IsSortedByKey}
use Rattle.std.specs.Ordering.{nat_cmp}
use Rattle.std.specs.Cmp.Lexicographic.{slice_cmp, pointwise, bytes_decides, texts_ties}
use Rattle.std.proofs.lemmas.List.{get_or-map}
use Rattle.std.proofs.lemmas.List.Kept.{Contains-from_dedup, IsStrictlySortedBy-dedup}
use Rattle.std.proofs.lemmas.List.Sorted.{Contains-permutation, IsPermutation-sym, IsPermutation-map}
use Rattle.values.specs.Names.{text_cmp, text_cmp-IsTotalOrder}
use Rattle.ancestor_search.specs.Deciding.{Contains-here, Contains-there, Contains-cases}
use Rattle.scope_index.specs.Keys.{Candidate, lent, ids}
use Rattle.scope_index.specs.Buckets.{HaveOnePolicyPerId}
use Rattle.scope_index.proofs.Offering.{Lent, behind}

-- whether two have one id, of references and of what they refer to
abbrev pub one_id : Lent → Lent → Bool
one_id x y = pointwise nat_eq x.0.now y.0.now

abbrev same_id : Candidate → Candidate → Bool
same_id x y = pointwise nat_eq x.0 y.0

lent-dedup_from : (x : Lent) (xs : List Lent) → lent (dedup_from one_id x xs) ≡ dedup_from same_id (behind x) (lent xs)
lent-dedup_from x [] = refl
lent-dedup_from x (y ∷ xs) =
    elim (one_id y x) as (λ b. lent (cond b (dedup_from one_id x xs) (x ∷ dedup_from one_id y xs))
    ≡ cond b (dedup_from same_id (behind x) (lent xs)) (behind x ∷ dedup_from same_id (behind y) (lent xs))) [
      | true ↦ lent-dedup_from x xs
      | false ↦ ap (λ r. behind x ∷ r) (lent-dedup_from y xs)
    ]

lent-dedup : (xs : List Lent) → lent (dedup one_id xs) ≡ dedup same_id (lent xs)
lent-dedup [] = refl
lent-dedup (x ∷ xs) = lent-dedup_from x xs

ids-dedup_from : (x : Candidate) (xs : List Candidate) → ids (dedup_from same_id x xs) ≡ dedup_from (pointwise nat_eq) x.0 (ids xs)
ids-dedup_from x [] = refl
ids-dedup_from x (y ∷ xs) =
    elim (same_id y x) as (λ b. ids (cond b (dedup_from same_id x xs) (x ∷ dedup_from same_id y xs))
    ≡ cond b (dedup_from (pointwise nat_eq) x.0 (ids xs)) (x.0 ∷ dedup_from (pointwise nat_eq) y.0 (ids xs))) [
      | true ↦ ids-dedup_from x xs
      | false ↦ ap (λ r. x.0 ∷ r) (ids-dedup_from y xs)
    ]

ids-dedup : (xs : List Candidate) → ids (dedup same_id xs) ≡ dedup (pointwise nat_eq) (ids xs)
ids-dedup [] = refl
ids-dedup (x ∷ xs) = ids-dedup_from x xs

-- ---- none is lost, where one id has one policy

same_offer : (x o : Candidate) → x.0 ≡ o.0 → x.1 ≡ o.1 → x ≡ o
same_offer x o id policy = λ i. (id i, policy i)

one_of_two : (x y : Candidate) (os : List Candidate) → HaveOnePolicyPerId os → Contains os x → Contains os y → x.0 ≡ y.0 → x ≡ y
one_of_two x y os one has_x has_y id =
    same_offer x y id (one y.0 x.1 y.1 (subst (λ i. Contains os (i, x.1)) id has_x) has_y)

fewer : (x : Candidate) (xs : List Candidate) → HaveOnePolicyPerId (x ∷ xs) → HaveOnePolicyPerId xs
fewer x xs one id p r has_p has_r = one id p r (Contains-there x xs (id, p) has_p) (Contains-there x xs (id, r) has_r)

first_and_rest : (x y : Candidate) (xs : List Candidate) → HaveOnePolicyPerId (x ∷ y ∷ xs) → HaveOnePolicyPerId (x ∷ xs)
first_and_rest x y xs one id p r has_p has_r = one id p r (within (id, p) has_p) (within (id, r) has_r)
  where
    within : (o : Candidate) → Contains (x ∷ xs) o → Contains (x ∷ y ∷ xs) o
    within o h = elim (Contains-cases x xs o h) [
      | inl e ↦ subst (λ z. Contains (x ∷ y ∷ xs) z) e (Contains-here x (y ∷ xs))
      | inr t ↦ Contains-there x (y ∷ xs) o (Contains-there y xs o t)
    ]

kept_from : (x : Candidate) (xs : List Candidate) (o : Candidate) → HaveOnePolicyPerId (x ∷ xs) → Contains (x ∷ xs) o → Contains (dedup_from same_id x xs) o
kept_from x [] o one h = h
kept_from x (y ∷ xs) o one h =
    elim (same_id y x) as (λ b. same_id y x ≡ b
    → Contains (cond b (dedup_from same_id x xs) (x ∷ dedup_from same_id y xs)) o) [
      | true ↦ λ is.
          let same : y ≡ x = one_of_two y x (x ∷ y ∷ xs) one (Contains-there x (y ∷ xs) y (Contains-here y xs))
          (Contains-here x (y ∷ xs)) ((bytes_decides y.0 x.0).0 is) in
          kept_from x xs o (first_and_rest x y xs one) (elim (Contains-cases x (y ∷ xs) o h) [
            | inl e ↦ subst (λ z. Contains (x ∷ xs) z) e (Contains-here x xs)
            | inr t ↦ subst (λ z. Contains (z ∷ xs) o) same t
          ])
      | false ↦ λ apart. elim (Contains-cases x (y ∷ xs) o h) [
        | inl e ↦ subst (λ z. Contains (x ∷ dedup_from same_id y xs) z) e (Contains-here x (dedup_from same_id y xs))
        | inr t ↦ Contains-there x (dedup_from same_id y xs) o (kept_from y xs o (fewer x (y ∷ xs) one) t)
      ]
    ] refl

all_kept : (os : List Candidate) (o : Candidate) → HaveOnePolicyPerId os → Contains os o → Contains (dedup same_id os) o
all_kept [] o one h = h
all_kept (x ∷ xs) o one h = kept_from x xs o one h

-- ---- the calls

pub same_in_order : (xs ys zs : List Lent) → HaveOnePolicyPerId (lent xs) → IsPermutation xs ys → zs ≡ dedup one_id ys
    → (o : Candidate) → Contains (lent zs) o ↔ Contains (lent xs) o
same_in_order xs ys zs one moved left o =
    let whole : lent zs ≡ dedup same_id (lent ys) = ap lent left ∙ lent-dedup ys in
    let moves : IsPermutation (lent xs) (lent ys) = IsPermutation-map behind xs ys moved in
    let back : IsPermutation (lent ys) (lent xs) = IsPermutation-sym (lent xs) (lent ys) moves in
    let still : HaveOnePolicyPerId (lent ys) = λ id p r has_p has_r. one id p r
    (Contains-permutation (lent ys) (lent xs) (id, p) back has_p) (Contains-permutation (lent ys) (lent xs) (id, r) back has_r) in (
      (λ h. Contains-permutation (lent ys) (lent xs) o back
          (Contains-from_dedup same_id (lent ys) o (subst (λ l. Contains l o) whole h))),
      (λ h. subst (λ l. Contains l o) (sym whole) (all_kept (lent ys) o still (Contains-permutation (lent xs) (lent ys) o moves h))),
    )

lent_length : (xs : List Lent) → length (ids (lent xs)) ≡ length xs
lent_length [] = refl
lent_length (x ∷ xs) = ap suc (lent_length xs)

id_of : Lent → List ℕ
id_of x = x.0.now

ids_are : (xs : List Lent) → ids (lent xs) ≡ map id_of xs
unfolding id_of
ids_are [] = refl
ids_are (x ∷ xs) = ap (λ r. x.0.now ∷ r) (ids_are xs)

ids_sorted : (xs : List Lent) → IsSortedByKey (λ (x : Lent). x.0.now) (slice_cmp nat_cmp) xs → IsSorted text_cmp (map id_of xs)
unfolding id_of
ids_sorted [] h k d le lt = absurd (omega arith)
ids_sorted (x ∷ xs) h k d le lt =
    let within : k + 1 < length (x ∷ xs) = subst (λ n. k + 1 < n) (ap length (sym (ids_are (x ∷ xs))) ∙ lent_length (x ∷ xs)) lt in
    rw (get_or-map id_of (x ∷ xs) (k + 1) x d within, get_or-map id_of (x ∷ xs) k x d (omega (arith, within))) (h k x le within)

pub ascending_once : (ys zs : List Lent) → IsSortedByKey (λ (x : Lent). x.0.now) (slice_cmp nat_cmp) ys → zs ≡ dedup one_id ys
    → IsStrictlySortedBy text_cmp (ids (lent zs))
ascending_once ys zs sorted left =
    let whole : ids (lent zs) ≡ dedup (pointwise nat_eq) (ids (lent ys)) =
    ap (λ l. ids (lent l)) left ∙ ap ids (lent-dedup ys) ∙ ids-dedup (lent ys) in
    let rising : IsSorted text_cmp (ids (lent ys)) = subst (λ l. IsSorted text_cmp l) (sym (ids_are ys)) (ids_sorted ys sorted) in
    subst (λ l. IsStrictlySortedBy text_cmp l) (sym whole)
    (IsStrictlySortedBy-dedup text_cmp-IsTotalOrder texts_ties (ids (lent ys)) rising)
