-- A record as a finite map: what it has at each key, and that equal fields make equal records.
use Rattle.std.proofs.Common.{◌≡◌, ℕ, List, [], ◌∷◌, Option, Some, None, Ordering, Less, Equal, Greater, refl, sym, ap, subst, ◌∙◌, ◌⊎◌, inl, inr}
use Rattle.std.specs.Prelude.{◌≢◌, map}
use Rattle.std.specs.List.{AllByRecursion}
use Rattle.std.specs.List.Sorted.{IsStrictlySortedBy}
use Rattle.std.specs.Ordering.{match_ordering, ordering_reverse}
use Rattle.std.proofs.lemmas.Cmp.{tied_itself}
use Rattle.values.specs.Values.{PlainValue}
use Rattle.values.specs.Uids.{text_cmp, text_cmp-IsTotalOrder, text_cmp-IsAntisymmetric}
use Rattle.values.specs.Fields.{Field, AreKeysAscending, put, find_field}

-- ---- what a record has at each key after a field was set

-- the field that was set
pub put_here : (k : List ℕ) (v : PlainValue) (fs : List Field) → find_field k (put k v fs) ≡ Some v
put_here k v [] = rw (tied_itself text_cmp-IsTotalOrder k) refl
put_here k v (f ∷ fs) = at (put_here k v fs) (text_cmp k f.0) refl
  where
    at : find_field k (put k v fs) ≡ Some v → (o : Ordering) → text_cmp k f.0 ≡ o → find_field k (match_ordering o ((k, v) ∷ f ∷ fs) ((f.0, v) ∷ fs) (f ∷ put k v fs)) ≡ Some v
    at rest Less e = rw (tied_itself text_cmp-IsTotalOrder k) refl
    at rest Equal e = rw e refl
    at rest Greater e = rw e rest

-- a field of another name is passed over
passed : (k l : List ℕ) → (l ≡ k → ⊥) → (o : Ordering) → text_cmp l k ≡ o → (v : PlainValue) (rest : Option PlainValue) → match_ordering o rest (Some v) rest ≡ rest
passed k l n Less e v rest = refl
passed k l n Equal e v rest = absurd (n (text_cmp-IsAntisymmetric l k e))
passed k l n Greater e v rest = refl

same_rest : (o : Ordering) (v : PlainValue) (a b : Option PlainValue) → a ≡ b → match_ordering o a (Some v) a ≡ match_ordering o b (Some v) b
same_rest Less v a b e = e
same_rest Equal v a b e = refl
same_rest Greater v a b e = e

-- each other field stays
pub put_there : (k l : List ℕ) → (l ≡ k → ⊥) → (v : PlainValue) (fs : List Field) → find_field l (put k v fs) ≡ find_field l fs
put_there k l n v [] = passed k l n (text_cmp l k) refl v None
put_there k l n v (f ∷ fs) = at (put_there k l n v fs) (text_cmp k f.0) refl
  where
    at : find_field l (put k v fs) ≡ find_field l fs → (o : Ordering) → text_cmp k f.0 ≡ o
        → find_field l (match_ordering o ((k, v) ∷ f ∷ fs) ((f.0, v) ∷ fs) (f ∷ put k v fs)) ≡ find_field l (f ∷ fs)
    at rest Less e = passed k l n (text_cmp l k) refl v (find_field l (f ∷ fs))
    at rest Equal e =
        let same : k ≡ f.0 = text_cmp-IsAntisymmetric k f.0 e in
        let m : l ≡ f.0 → ⊥ = λ d. n (d ∙ sym same) in
        passed f.0 l m (text_cmp l f.0) refl v (find_field l fs) ∙ sym (passed f.0 l m (text_cmp l f.0) refl f.1 (find_field l fs))
    at rest Greater e = same_rest (text_cmp l f.0) f.1 _ _ rest

-- ---- keys ascend

-- a key is below all keys of these fields
abbrev Below : List ℕ → List Field → Type 0
Below k fs = AllByRecursion (λ l. text_cmp k l ≡ Less) (map (λ f. f.0) fs)

turned : (k l : List ℕ) → text_cmp k l ≡ Greater → text_cmp l k ≡ Less
turned k l e = text_cmp-IsTotalOrder.antisymm l k ∙ ap ordering_reverse e

below_put : (l k : List ℕ) (v : PlainValue) (fs : List Field) → text_cmp l k ≡ Less → Below l fs → Below l (put k v fs)
below_put l k v [] lt b = (lt, tt)
below_put l k v (f ∷ fs) lt b =
    elim (text_cmp k f.0) as (λ o. Below l (match_ordering o ((k, v) ∷ f ∷ fs) ((f.0, v) ∷ fs) (f ∷ put k v fs))) [
      | Less ↦ (lt, b)
      | Equal ↦ b
      | Greater ↦ (b.0, below_put l k v fs lt b.1)
    ]

below_all : (k l : List ℕ) (fs : List Field) → text_cmp k l ≡ Less → Below l fs → Below k fs
below_all k l [] lt b = tt
below_all k l (f ∷ fs) lt b = (text_cmp-IsTotalOrder.trans k l f.0 lt b.0, below_all k l fs lt b.1)

pub put_ascending : (k : List ℕ) (v : PlainValue) (fs : List Field) → AreKeysAscending fs → AreKeysAscending (put k v fs)
unfolding IsStrictlySortedBy
put_ascending k v [] s = (tt, tt)
put_ascending k v (f ∷ fs) s =
    elim (text_cmp k f.0) as (λ o. text_cmp k f.0 ≡ o → AreKeysAscending (match_ordering o ((k, v) ∷ f ∷ fs) ((f.0, v) ∷ fs) (f ∷ put k v fs))) [
      | Less ↦ λ e. ((e, below_all k f.0 fs e s.0), s)
      | Equal ↦ λ e. s
      | Greater ↦ λ e. (below_put f.0 k v fs (turned k f.0 e) s.0, put_ascending k v fs s.1)
    ] refl

-- ---- equal fields make equal records

-- what is below all keys is none of them
none_below : (k : List ℕ) (fs : List Field) → Below k fs → find_field k fs ≡ None
none_below k [] b = refl
none_below k (f ∷ fs) b = rw b.0 (none_below k fs b.1)

first_field : (f : Field) (fs : List Field) → find_field f.0 (f ∷ fs) ≡ Some f.1
first_field f fs = rw (tied_itself text_cmp-IsTotalOrder f.0) refl

text_cases : (a b : List ℕ) → (a ≡ b) ⊎ (a ≢ b)
text_cases a b =
    elim (text_cmp a b) as (λ o. text_cmp a b ≡ o → (a ≡ b) ⊎ (a ≢ b)) [
      | Less ↦ λ e. inr (λ same. apart Less e (λ l. cc) same)
      | Equal ↦ λ e. inl (text_cmp-IsAntisymmetric a b e)
      | Greater ↦ λ e. inr (λ same. apart Greater e (λ l. cc) same)
    ] refl
  where
    apart : (o : Ordering) → text_cmp a b ≡ o → (o ≡ Equal → ⊥) → a ≡ b → ⊥
    apart o e n same = n (sym e ∙ subst (λ x. text_cmp a x ≡ Equal) same (tied_itself text_cmp-IsTotalOrder a))

abbrev Alike : List Field → List Field → Type 0
Alike a b = (k : List ℕ) → find_field k a ≡ find_field k b

-- behind the first fields, of one key, the others are alike too
alike_behind : (k : List ℕ) (v w : PlainValue) (a b : List Field) → Below k a → Below k b → Alike ((k, v) ∷ a) ((k, w) ∷ b) → Alike a b
alike_behind k v w a b below above h q = elim (text_cases q k) [
  | inl e ↦ ap (λ x. find_field x a) e ∙ none_below k a below ∙ sym (none_below k b above) ∙ ap (λ x. find_field x b) (sym e)
  | inr n ↦ sym (passed k q n (text_cmp q k) refl v (find_field q a)) ∙ h q ∙ passed k q n (text_cmp q k) refl w (find_field q b)
]

-- a first key that is below all keys of the other record is no key of it
first_apart : (f : Field) (fs gs : List Field) → Below f.0 gs → Alike (f ∷ fs) gs → ⊥
first_apart f fs gs below h = let e : Some f.1 ≡ None = sym (first_field f fs) ∙ h f.0 ∙ none_below f.0 gs below in absurd (cc)

pub same_fields : (a b : List Field) → AreKeysAscending a → AreKeysAscending b → Alike a b → a ≡ b
unfolding IsStrictlySortedBy
same_fields [] [] s t h = refl
same_fields [] (g ∷ b) s t h = absurd (first_apart g b [] tt (λ k. sym (h k)))
same_fields (f ∷ a) [] s t h = absurd (first_apart f a [] tt h)
same_fields (f ∷ a) (g ∷ b) s t h =
    elim (text_cmp f.0 g.0) as (λ o. text_cmp f.0 g.0 ≡ o → f ∷ a ≡ g ∷ b) [
      | Less ↦ λ e. absurd (first_apart f a (g ∷ b) (e, below_all f.0 g.0 b e t.0) h)
      | Equal ↦ λ e. first_same (text_cmp-IsAntisymmetric f.0 g.0 e) (λ rest. same_fields a b s.1 t.1 rest)
      | Greater ↦ λ e. let lt = turned f.0 g.0 e in absurd (first_apart g b (f ∷ a) (lt, below_all g.0 f.0 a lt s.0) (λ k. sym (h k)))
    ] refl
  where
    first_same : f.0 ≡ g.0 → (Alike a b → a ≡ b) → f ∷ a ≡ g ∷ b
    first_same e rest_same =
        let found : Some f.1 ≡ Some g.1 = sym (first_field f a) ∙ h f.0 ∙ ap (λ k. find_field k (g ∷ b)) e ∙ first_field g b in
        let value : f.1 ≡ g.1 = cc in
        let below : Below f.0 b = subst (λ k. Below k b) (sym e) t.0 in
        let other : Alike ((f.0, f.1) ∷ a) ((f.0, g.1) ∷ b) = λ k. h k ∙ ap (λ l. find_field k ((l, g.1) ∷ b)) (sym e) in
        let rest : a ≡ b = rest_same (alike_behind f.0 f.1 g.1 a b s.0 below other) in
        λ i. (e i, value i) ∷ rest i

-- ---- the order in which fields are set

pub other_order : (k l : List ℕ) (v w : PlainValue) (fs : List Field) → AreKeysAscending fs → k ≢ l → put k v (put l w fs) ≡ put l w (put k v fs)
other_order k l v w fs s n =
    same_fields (put k v (put l w fs)) (put l w (put k v fs)) (put_ascending k v _ (put_ascending l w fs s)) (put_ascending l w _ (put_ascending k v fs s)) at
  where
    m : l ≡ k → ⊥
    m e = n (sym e)

    at : Alike (put k v (put l w fs)) (put l w (put k v fs))
    at q = elim (text_cases q k) [
      | inl e ↦ ap (λ x. find_field x (put k v (put l w fs))) e ∙ put_here k v (put l w fs) ∙ sym (put_there l k n w (put k v fs) ∙ put_here k v fs) ∙ ap (λ x. find_field x (put l w (put k v fs))) (sym e)
      | inr p ↦ elim (text_cases q l) [
        | inl e ↦ ap (λ x. find_field x (put k v (put l w fs))) e ∙ put_there k l m v (put l w fs) ∙ put_here l w fs ∙ sym (put_here l w (put k v fs)) ∙ ap (λ x. find_field x (put l w (put k v fs))) (sym e)
        | inr r ↦ put_there k q p v (put l w fs) ∙ put_there l q r w fs ∙ sym (put_there l q r w (put k v fs) ∙ put_there k q p v fs)
      ]
    ]

pub put_again : (k : List ℕ) (v w : PlainValue) (fs : List Field) → AreKeysAscending fs → put k v (put k w fs) ≡ put k v fs
put_again k v w fs s = same_fields (put k v (put k w fs)) (put k v fs) (put_ascending k v _ (put_ascending k w fs s)) (put_ascending k v fs s) at
  where
    at : Alike (put k v (put k w fs)) (put k v fs)
    at q = elim (text_cases q k) [
      | inl e ↦ ap (λ x. find_field x (put k v (put k w fs))) e ∙ put_here k v (put k w fs) ∙ sym (put_here k v fs) ∙ ap (λ x. find_field x (put k v fs)) (sym e)
      | inr n ↦ put_there k q n v (put k w fs) ∙ put_there k q n w fs ∙ sym (put_there k q n v fs)
    ]
