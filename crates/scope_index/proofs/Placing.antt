-- A policy that is put at its place in an ascending list.
use Rattle.std.proofs.Common.{◌≡◌, ◌∙◌, ℕ, ◌+◌, ◌-◌, ◌<◌, ◌≤◌, refl, sym, ap, subst, List, [], ◌∷◌, ◌++◌, map, length, get_or, take, drop, arith, inl, inr}
use Rattle.std.specs.Prelude.{◌↔◌, ◌⊎◌, Contains}
use Rattle.std.specs.List.{All, AllByRecursion, insert}
use Rattle.std.specs.List.Sorted.{IsStrictlySortedBy, IsPermutation, IsPartitionPoint, IsNonDecreasingBy, IsSortedBy}
use Rattle.std.specs.Ordering.{is_lt, ordering_index, ordering_reverse}
use Rattle.std.specs.declared.cmp.Ordering.{Ordering}
use Rattle.std.specs.declared.cmp.Ordering.TheVariants.{Less, Equal, Greater}
use Rattle.std.proofs.lemmas.List.{take_more, get_or-map, get_or-take, get_or-drop, length-take-le, length-drop, take-append-drop, length-map}
use Rattle.std.proofs.lemmas.List.Elements.{recursion_from_All, Contains-get_or, Contains-append_left, Contains-append_right, Contains-append_cases}
use Rattle.std.proofs.lemmas.List.Sorted.{searchable_from_sorted, IsPermutation-insert, IsPermutation-sym, IsPermutation-map, Contains-permutation}
use Rattle.std.proofs.lemmas.Map.Keys.{Less-from_sorted}
use Rattle.values.specs.Names.{text_cmp, text_cmp-IsTotalOrder, text_cmp-IsAntisymmetric}
use Rattle.policy_grammar.specs.declared.policy.Policy.{Policy}
use Rattle.ancestor_search.specs.Deciding.{Contains-here, Contains-there, Contains-cases, Contains-none}
use Rattle.scope_index.specs.Keys.{Candidate, ids, lent}
use Rattle.scope_index.specs.Buckets.{HaveOnePolicyPerIdTogether, HaveOnePolicyPerId}
use Rattle.scope_index.proofs.Offering.{Lent, behind, lent-push, Contains-pushed}

-- the id of a policy
abbrev pub id : Lent → List ℕ
id x = x.0.now

ids_map : (xs : List Lent) → ids (lent xs) ≡ map id xs
ids_map [] = refl
ids_map (x ∷ xs) = ap (λ r. id x ∷ r) (ids_map xs)

ids_append : (xs ys : List Lent) → ids (lent (xs ++ ys)) ≡ ids (lent xs) ++ ids (lent ys)
ids_append [] ys = refl
ids_append (x ∷ xs) ys = ap (λ r. id x ∷ r) (ids_append xs ys)

turned : (a b : List ℕ) → text_cmp a b ≡ Less → text_cmp b a ≡ Greater
turned a b e = text_cmp-IsTotalOrder.antisymm b a ∙ ap ordering_reverse e

turned_back : (a b : List ℕ) → text_cmp a b ≡ Greater → text_cmp b a ≡ Less
turned_back a b e = text_cmp-IsTotalOrder.antisymm b a ∙ ap ordering_reverse e

-- ---- what the search needs

rises : (xs : List Lent) → IsStrictlySortedBy text_cmp (ids (lent xs)) → IsSortedBy (λ x y. is_lt (text_cmp (id x) (id y))) xs
rises xs s k d le lt =
    let shown : IsStrictlySortedBy text_cmp (map id xs) = subst (λ l. IsStrictlySortedBy text_cmp l) (ids_map xs) s in
    let within : k + 1 < length (map id xs) = subst (λ n. k + 1 < n) (sym (length-map xs id)) lt in
    let less : text_cmp (get_or (map id xs) k (id d)) (get_or (map id xs) (k + 1) (id d)) ≡ Less =
    Less-from_sorted text_cmp (map id xs) k (k + 1) (id d) shown (omega arith) within in
    let here : get_or (map id xs) k (id d) ≡ id (get_or xs k d) = get_or-map id xs k d (id d) (omega (arith, lt)) in
    let next : get_or (map id xs) (k + 1) (id d) ≡ id (get_or xs (k + 1) d) = get_or-map id xs (k + 1) d (id d) lt in
    let apart : text_cmp (id (get_or xs k d)) (id (get_or xs (k + 1) d)) ≡ Less =
    subst (λ b. text_cmp (id (get_or xs k d)) b ≡ Less) next (subst (λ a. text_cmp a (get_or (map id xs) (k + 1) (id d)) ≡ Less) here less) in
    ap is_lt (turned (id (get_or xs k d)) (id (get_or xs (k + 1) d)) apart)

pub comparisons_rise : (xs : List Lent) (x : List ℕ) → IsStrictlySortedBy text_cmp (ids (lent xs))
    → IsNonDecreasingBy (λ y. ordering_index (text_cmp (id y) x)) xs
comparisons_rise xs x s = searchable_from_sorted text_cmp-IsTotalOrder id xs x (rises xs s)

-- ---- one that is there

Contains-lent : (xs : List Lent) (i : ℕ) (d : Lent) → i < length xs → Contains (lent xs) (behind (get_or xs i d))
Contains-lent xs i d lt =
    subst (λ z. Contains (lent xs) z) (get_or-map behind xs i d (behind d) lt)
    (Contains-get_or (lent xs) i (behind d) (subst (λ n. i < n) (sym (length-map xs behind)) lt))

pub is_there : (xs : List Lent) (i : ℕ) (x : Lent) → i < length xs → ((d : Lent) → text_cmp (id (get_or xs i d)) (id x) ≡ Equal)
    → ((p : Policy) → Contains (lent xs) (id x, p) → p ≡ x.1.now) → (o : Candidate) → Contains (lent xs) o ↔ Contains (lent xs) o ⊎ (behind x ≡ o)
is_there xs i x lt same one o = ((λ h. inl h), (λ s. elim s [ inl h ↦ h | inr e ↦ subst (λ z. Contains (lent xs) z) (whole ∙ e) has ]))
  where
    has : Contains (lent xs) (behind (get_or xs i x))
    has = Contains-lent xs i x lt

    alike : id (get_or xs i x) ≡ id x
    alike = text_cmp-IsAntisymmetric _ _ (same x)

    policy : (get_or xs i x).1.now ≡ x.1.now
    policy = one (get_or xs i x).1.now (subst (λ (k : List ℕ). Contains (lent xs) (k, (get_or xs i x).1.now)) alike has)

    whole : behind (get_or xs i x) ≡ behind x
    whole = λ j. (alike j, policy j)

-- ---- one that is put

all_ids : (P : List ℕ → Type 0) (xs : List Lent) → AllByRecursion (λ y. P (id y)) xs → AllByRecursion P (ids (lent xs))
all_ids P [] all = tt
all_ids P (x ∷ xs) all = (all.0, all_ids P xs all.1)

all_between : (P : List ℕ → Type 0) (front back : List (List ℕ)) (x : List ℕ) → P x → AllByRecursion P (front ++ back) → AllByRecursion P (front ++ x ∷ back)
all_between P [] back x p all = (p, all)
all_between P (f ∷ front) back x p all = (all.0, all_between P front back x p all.1)

between_ascends : (front back : List (List ℕ)) (x : List ℕ) → AllByRecursion (λ y. text_cmp y x ≡ Less) front → AllByRecursion (λ y. text_cmp x y ≡ Less) back
    → IsStrictlySortedBy text_cmp (front ++ back) → IsStrictlySortedBy text_cmp (front ++ x ∷ back)
unfolding IsStrictlySortedBy
between_ascends [] back x below above s = (above, s)
between_ascends (f ∷ front) back x below above s =
    (all_between (λ y. text_cmp f y ≡ Less) front back x below.0 s.0, between_ascends front back x below.1 above s.1)

pub put_ascends : (xs : List Lent) (i : ℕ) (x : Lent) → i ≤ length xs → IsStrictlySortedBy text_cmp (ids (lent xs))
    → IsPartitionPoint (λ y. text_cmp (id y) (id x) ≡ Less) (λ y. text_cmp (id y) (id x) ≡ Greater) xs i
    → IsStrictlySortedBy text_cmp (ids (lent (insert xs i x)))
put_ascends xs i x le s parts =
    subst (λ l. IsStrictlySortedBy text_cmp l) (sym (ids_append (take i xs) (x ∷ drop i xs)))
    (between_ascends (ids (lent (take i xs))) (ids (lent (drop i xs))) (id x) below above
    (subst (λ l. IsStrictlySortedBy text_cmp l) (sym (ap (λ l. ids (lent l)) (take-append-drop i xs)) ∙ ids_append (take i xs) (drop i xs)) s))
  where
    all_below : All (λ y. text_cmp (id y) (id x) ≡ Less) (take i xs)
    all_below k d lt =
        let within : k < i = subst (λ n. k < n) (length-take-le i xs le) lt in
        subst (λ y. text_cmp (id y) (id x) ≡ Less) (sym (get_or-take i xs k d within)) (parts.0 k d (omega arith) within)

    all_above : All (λ y. text_cmp (id x) (id y) ≡ Less) (drop i xs)
    all_above k d lt =
        let within : k < length xs - i = subst (λ n. k < n) (length-drop i xs) lt in
        subst (λ y. text_cmp (id x) (id y) ≡ Less) (sym (get_or-drop i xs k d))
        (turned_back (id (get_or xs (i + k) d)) (id x) (parts.1 (i + k) d (omega arith) (omega (arith, within))))

    below : AllByRecursion (λ y. text_cmp y (id x) ≡ Less) (ids (lent (take i xs)))
    below = all_ids (λ y. text_cmp y (id x) ≡ Less) (take i xs) (recursion_from_All (λ (y : Lent). text_cmp (id y) (id x) ≡ Less) (take i xs) all_below)

    above : AllByRecursion (λ y. text_cmp (id x) y ≡ Less) (ids (lent (drop i xs)))
    above = all_ids (λ y. text_cmp (id x) y ≡ Less) (drop i xs) (recursion_from_All (λ (y : Lent). text_cmp (id x) (id y) ≡ Less) (drop i xs) all_above)

pub put_same : (xs : List Lent) (i : ℕ) (x : Lent) (o : Candidate) → Contains (lent (insert xs i x)) o ↔ Contains (lent xs) o ⊎ (behind x ≡ o)
put_same xs i x o =
    let moves : IsPermutation (lent (x ∷ xs)) (lent (insert xs i x)) = IsPermutation-map behind (x ∷ xs) (insert xs i x) (IsPermutation-insert xs i x) in
    let back : IsPermutation (lent (insert xs i x)) (lent (x ∷ xs)) = IsPermutation-sym (lent (x ∷ xs)) (lent (insert xs i x)) moves in (
      (λ h. elim (Contains-cases (behind x) (lent xs) o (Contains-permutation (lent (insert xs i x)) (lent (x ∷ xs)) o back h)) [
        | inl e ↦ inr e
        | inr t ↦ inl t
      ]),
      (λ s. Contains-permutation (lent (x ∷ xs)) (lent (insert xs i x)) o moves (elim s [
        | inl t ↦ Contains-there (behind x) (lent xs) o t
        | inr e ↦ subst (λ z. Contains (lent (x ∷ xs)) z) e (Contains-here (behind x) (lent xs))
      ])),
    )

-- ---- one after another

lent-append : (xs ys : List Lent) → lent (xs ++ ys) ≡ lent xs ++ lent ys
lent-append [] ys = refl
lent-append (x ∷ xs) ys = ap (λ r. behind x ∷ r) (lent-append xs ys)

Contains-of_take : (i : ℕ) (xs : List Lent) (o : Candidate) → Contains (lent (take i xs)) o → Contains (lent xs) o
Contains-of_take i xs o h =
    subst (λ l. Contains (lent l) o) (take-append-drop i xs)
    (subst (λ l. Contains l o) (sym (lent-append (take i xs) (drop i xs))) (Contains-append_left (lent (take i xs)) (lent (drop i xs)) o h))

-- the next one has the one policy of its id
pub one_of_next : (os all : List Candidate) (ps : List Lent) (i : ℕ) (x : Lent) → i < length ps → x ≡ get_or ps i x → HaveOnePolicyPerIdTogether os (lent ps)
    → ((o : Candidate) → Contains all o ↔ Contains os o ⊎ Contains (lent (take i ps)) o)
    → (p : Policy) → Contains all (id x, p) → p ≡ x.1.now
one_of_next os all ps i x lt at one so_far p h = one (id x) p x.1.now (elim ((so_far (id x, p)).0 h) [
  | inl t ↦ inl t
  | inr t ↦ inr (Contains-of_take i ps (id x, p) t)
]) (inr (subst (λ (y : Lent). Contains (lent ps) (behind y)) (sym at) (Contains-lent ps i x lt)))

-- it is among those so far, once it is put
pub one_more_put : (os all all' : List Candidate) (ps : List Lent) (i : ℕ) (x : Lent) → i < length ps → x ≡ get_or ps i x
    → ((o : Candidate) → Contains all o ↔ Contains os o ⊎ Contains (lent (take i ps)) o)
    → ((o : Candidate) → Contains all' o ↔ Contains all o ⊎ (behind x ≡ o))
    → (o : Candidate) → Contains all' o ↔ Contains os o ⊎ Contains (lent (take (i + 1) ps)) o
one_more_put os all all' ps i x lt at so_far put o =
    let more : lent (take (i + 1) ps) ≡ lent (take i ps) ++ behind x ∷ [] =
    ap lent (take_more ps i x lt ∙ ap (λ y. take i ps ++ y ∷ []) (sym at)) ∙ lent-push (take i ps) x in
    let pushed = Contains-pushed (lent (take i ps)) (behind x) o in (
      (λ h. elim ((put o).0 h) [
        | inl t ↦ elim ((so_far o).0 t) [ inl s ↦ inl s | inr s ↦ inr (subst (λ l. Contains l o) (sym more) (pushed.1 (inl s))) ]
        | inr e ↦ inr (subst (λ l. Contains l o) (sym more) (pushed.1 (inr e)))
      ]),
      (λ s. elim s [
        | inl t ↦ (put o).1 (inl ((so_far o).1 (inl t)))
        | inr t ↦ elim (pushed.0 (subst (λ l. Contains l o) more t)) [
          | inl u ↦ (put o).1 (inl ((so_far o).1 (inr u)))
          | inr e ↦ (put o).1 (inr e)
        ]
      ]),
    )

pub none_put : (os : List Candidate) (o : Candidate) → Contains os o ↔ Contains os o ⊎ Contains (lent []) o
none_put os o = ((λ h. inl h), (λ s. elim s [ inl h ↦ h | inr h ↦ Contains-none o h ]))

-- ---- the lists joined

pub in_both : (xs ys all : List Lent) → all ≡ xs ++ ys → (o : Candidate) → Contains (lent all) o ↔ Contains (lent xs) o ⊎ Contains (lent ys) o
in_both xs ys all is o =
    let shown : lent all ≡ lent xs ++ lent ys = ap lent is ∙ lent-append xs ys in (
      (λ h. Contains-append_cases (lent xs) (lent ys) o (subst (λ l. Contains l o) shown h)),
      (λ s. subst (λ l. Contains l o) (sym shown) (elim s [ inl t ↦ Contains-append_left (lent xs) (lent ys) o t | inr t ↦ Contains-append_right (lent xs) (lent ys) o t ])),
    )

pub one_at_each_joined : (xs ys all : List Lent) → all ≡ xs ++ ys → HaveOnePolicyPerIdTogether (lent xs) (lent ys) → HaveOnePolicyPerId (lent all)
one_at_each_joined xs ys all is one i p r has_p has_r = one i p r ((in_both xs ys all is (i, p)).0 has_p) ((in_both xs ys all is (i, r)).0 has_r)
