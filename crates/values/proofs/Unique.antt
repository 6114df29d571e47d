-- Two ascending lists with the same members are equal, so a set has one list.
use Rattle.std.proofs.Common.{◌≡◌, ◌↔◌, ℕ, zero, suc, ◌<◌, List, [], ◌∷◌, length, get_or, Ordering, Less, Equal, Greater, true, refl, sym, ap, ◌∙◌, arith, subst, ◌⊎◌, inl, inr}
use Rattle.std.specs.List.{AllByRecursion, Contains}
use Rattle.std.specs.List.Sorted.{IsStrictlySortedBy}
use Rattle.std.specs.Ordering.{match_ordering, ordering_reverse, is_eq, eq_by_cmp}
use Rattle.std.proofs.lemmas.Cmp.{tied_itself}
use Rattle.values.specs.Values.{PlainValue}
use Rattle.values.specs.ValueOrder.{value_cmp, value_cmp-IsTotalOrder, value_cmp-IsAntisymmetric}
use Rattle.values.specs.Sets.{IsSetOf, put_value, set_list}

abbrev pub In : PlainValue → List PlainValue → Type 0
In v [] = ⊥
In v (w ∷ ws) = (v ≡ w) ⊎ In v ws

pub In-from_Contains : (ws : List PlainValue) (v : PlainValue) (k : ℕ) → k < length ws → get_or ws k v ≡ v → In v ws
In-from_Contains [] v k h e = absurd (omega arith)
In-from_Contains (w ∷ ws) v zero h e = inl (sym e)
In-from_Contains (w ∷ ws) v (suc k) h e = inr (In-from_Contains ws v k (omega arith) e)

pub Contains-from_In : (ws : List PlainValue) (v : PlainValue) → In v ws → Contains ws v
Contains-from_In [] v h = absurd h
Contains-from_In (w ∷ ws) v h =
    elim h [ inl e ↦ (0, omega arith, sym e) | inr i ↦ (let r = Contains-from_In ws v i in (suc r.0, omega arith, r.2)) ]

below_In : (P : PlainValue → Type 0) (ws : List PlainValue) (v : PlainValue) → AllByRecursion P ws → In v ws → P v
below_In P [] v a h = absurd h
below_In P (w ∷ ws) v a h = elim h [ inl e ↦ subst P (sym e) a.0 | inr i ↦ below_In P ws v a.1 i ]

itself : (v : PlainValue) → value_cmp v v ≡ Equal
itself v = tied_itself value_cmp-IsTotalOrder v

not_below_itself : (v w : PlainValue) → value_cmp v w ≡ Less → v ≡ w → ⊥
not_below_itself v w l e = let t = itself v in let u : value_cmp v v ≡ Less = subst (λ x. value_cmp v x ≡ Less) (sym e) l in cc

both_below : (v w : PlainValue) → value_cmp v w ≡ Less → value_cmp w v ≡ Less → ⊥
both_below v w l m = let a = value_cmp-IsTotalOrder.antisymm v w in let b : ordering_reverse (value_cmp w v) ≡ Greater = ap ordering_reverse m in cc

Sub : List PlainValue → List PlainValue → Type 0
Sub xs ys = (v : PlainValue) → In v xs → In v ys

tail_sub : (x : PlainValue) (xs ys : List PlainValue) → AllByRecursion (λ y. value_cmp x y ≡ Less) xs → ((v : PlainValue) → In v xs → In v (x ∷ ys)) → (v : PlainValue) → In v xs → In v ys
tail_sub x xs ys a s v i =
    elim (s v i) [ inl e ↦ absurd (not_below_itself x v (below_In (λ y. value_cmp x y ≡ Less) xs v a i) (sym e)) | inr j ↦ j ]

heads : (x y : PlainValue) (xs ys : List PlainValue) → AllByRecursion (λ v. value_cmp x v ≡ Less) xs → AllByRecursion (λ v. value_cmp y v ≡ Less) ys → In x (y ∷ ys) → In y (x ∷ xs) → x ≡ y
heads x y xs ys a b i j =
    elim i [
      | inl e ↦ e
      | inr k ↦ elim j [
        | inl e ↦ sym e
        | inr l ↦ absurd (both_below x y (below_In (λ v. value_cmp x v ≡ Less) xs y a l) (below_In (λ v. value_cmp y v ≡ Less) ys x b k))
      ]
    ]

pub unique : (xs ys : List PlainValue) → IsStrictlySortedBy value_cmp xs → IsStrictlySortedBy value_cmp ys → ((v : PlainValue) → In v xs → In v ys) → ((v : PlainValue) → In v ys → In v xs) → xs ≡ ys
unfolding IsStrictlySortedBy
unique [] [] s t f g = refl
unique [] (y ∷ ys) s t f g = absurd (g y (inl refl))
unique (x ∷ xs) [] s t f g = absurd (f x (inl refl))
unique (x ∷ xs) (y ∷ ys) s t f g =
    let same : x ≡ y = heads x y xs ys s.0 t.0 (f x (inl refl)) (g y (inl refl)) in
    let f' : (v : PlainValue) → In v xs → In v (x ∷ ys) = λ v i. subst (λ w. In v (w ∷ ys)) (sym same) (f v (inr i)) in
    let g' : (v : PlainValue) → In v ys → In v (y ∷ xs) = λ v i. subst (λ w. In v (w ∷ xs)) same (g v (inr i)) in
    let rest : xs ≡ ys = unique xs ys s.1 t.1 (tail_sub x xs ys s.0 f') (tail_sub y ys xs t.0 g') in
    cc

-- ---- what `put_value` makes

put_at : (o : Ordering) (v w : PlainValue) (ws : List PlainValue) → List PlainValue
put_at o v w ws = match_ordering o (v ∷ w ∷ ws) (w ∷ ws) (w ∷ put_value v ws)

all_put : (P : PlainValue → Type 0) (v : PlainValue) (ws : List PlainValue) → P v → AllByRecursion P ws → AllByRecursion P (put_value v ws)
all_put P v [] p a = (p, a)
all_put P v (w ∷ ws) p a =
    elim (value_cmp v w) as (λ o. AllByRecursion P (match_ordering o (v ∷ w ∷ ws) (w ∷ ws) (w ∷ put_value v ws))) [ Less ↦ (p, a) | Equal ↦ a | Greater ↦ (a.0, all_put P v ws p a.1) ]

all_above : (v w : PlainValue) (ws : List PlainValue) → value_cmp v w ≡ Less → AllByRecursion (λ y. value_cmp w y ≡ Less) ws → AllByRecursion (λ y. value_cmp v y ≡ Less) ws
all_above v w [] l a = a
all_above v w (x ∷ ws) l a = (value_cmp-IsTotalOrder.trans v w x l a.0, all_above v w ws l a.1)

sorted_put : (v : PlainValue) (ws : List PlainValue) → IsStrictlySortedBy value_cmp ws → IsStrictlySortedBy value_cmp (put_value v ws)
unfolding IsStrictlySortedBy
sorted_put v [] s = (tt, tt)
sorted_put v (w ∷ ws) s =
    elim (value_cmp v w) as (λ o. value_cmp v w ≡ o → IsStrictlySortedBy value_cmp (match_ordering o (v ∷ w ∷ ws) (w ∷ ws) (w ∷ put_value v ws))) [
      | Less ↦ λ e. ((e, all_above v w ws e s.0), s)
      | Equal ↦ λ e. s
      | Greater ↦ λ e. (all_put (λ y. value_cmp w y ≡ Less) v ws (value_cmp-IsTotalOrder.antisymm w v ∙ ap ordering_reverse e) s.0, sorted_put v ws s.1)
    ] refl

pub sorted_set : (vs : List PlainValue) → IsStrictlySortedBy value_cmp (set_list vs)
unfolding IsStrictlySortedBy
sorted_set [] = tt
sorted_set (v ∷ vs) = sorted_put v (set_list vs) (sorted_set vs)

into_put : (v : PlainValue) (ws : List PlainValue) (x : PlainValue) → In x (v ∷ ws) → In x (put_value v ws)
into_put v [] x i = i
into_put v (w ∷ ws) x i =
    elim (value_cmp v w) as (λ o. value_cmp v w ≡ o → In x (match_ordering o (v ∷ w ∷ ws) (w ∷ ws) (w ∷ put_value v ws))) [
      | Less ↦ λ e. i
      | Equal ↦ λ e. elim i [ inl h ↦ inl (h ∙ value_cmp-IsAntisymmetric v w e) | inr j ↦ j ]
      | Greater ↦ λ e. elim i [
        | inl h ↦ inr (into_put v ws x (inl h))
        | inr j ↦ elim j [ inl h ↦ inl h | inr k ↦ inr (into_put v ws x (inr k)) ]
      ]
    ] refl

from_put : (v : PlainValue) (ws : List PlainValue) (x : PlainValue) → In x (put_value v ws) → In x (v ∷ ws)
from_put v [] x i = i
from_put v (w ∷ ws) x i =
    elim (value_cmp v w) as (λ o. In x (match_ordering o (v ∷ w ∷ ws) (w ∷ ws) (w ∷ put_value v ws)) → In x (v ∷ w ∷ ws)) [
      | Less ↦ λ j. j
      | Equal ↦ λ j. inr j
      | Greater ↦ λ j. elim j [ inl h ↦ inr (inl h) | inr k ↦ elim (from_put v ws x k) [ inl h ↦ inl h | inr l ↦ inr (inr l) ] ]
    ] i

pub into_set : (vs : List PlainValue) (x : PlainValue) → In x vs → In x (set_list vs)
into_set [] x i = i
into_set (v ∷ vs) x i = into_put v (set_list vs) x (elim i [ inl h ↦ inl h | inr j ↦ inr (into_set vs x j) ])

pub from_set : (vs : List PlainValue) (x : PlainValue) → In x (set_list vs) → In x vs
from_set [] x i = i
from_set (v ∷ vs) x i = elim (from_put v (set_list vs) x i) [ inl h ↦ inl h | inr j ↦ inr (from_set vs x j) ]

-- an ascending list with the members of vs is their set
pub set_is : (xs vs : List PlainValue) → IsStrictlySortedBy value_cmp xs → ((v : PlainValue) → Contains xs v → Contains vs v) → ((v : PlainValue) → Contains vs v → Contains xs v) → xs ≡ set_list vs
set_is xs vs s f g =
    unique xs (set_list vs) s (sorted_set vs)
    (λ v i. into_set vs v (let r = f v (Contains-from_In xs v i) in In-from_Contains vs v r.0 r.1 r.2))
    (λ v i. let r = g v (Contains-from_In vs v (from_set vs v i)) in In-from_Contains xs v r.0 r.1 r.2)

eq_of : (o : Ordering) → is_eq o ≡ true → o ≡ Equal
eq_of Less e = cc
eq_of Equal e = refl
eq_of Greater e = cc

pub same_from_eq : (x y : PlainValue) → eq_by_cmp value_cmp x y ≡ true → x ≡ y
same_from_eq x y e = value_cmp-IsAntisymmetric x y (eq_of (value_cmp x y) e)

-- two ascending lists with the same members are one
pub same_members : (xs ys : List PlainValue) → IsStrictlySortedBy value_cmp xs → IsStrictlySortedBy value_cmp ys → ((v : PlainValue) → Contains xs v ↔ Contains ys v) → xs ≡ ys
same_members xs ys s t f =
    unique xs ys s t
    (λ v i. let r = (f v).0 (Contains-from_In xs v i) in In-from_Contains ys v r.0 r.1 r.2)
    (λ v i. let r = (f v).1 (Contains-from_In ys v i) in In-from_Contains xs v r.0 r.1 r.2)

-- ---- a set holds what it was made of

pub set_of : (vs : List PlainValue) → IsSetOf vs (set_list vs)
set_of vs = record {
  ascending = sorted_set vs;
  members = λ v. (
    (λ h. Contains-from_In vs v (from_set vs v (In-from_Contains (set_list vs) v h.0 h.1 h.2))),
    (λ h. Contains-from_In (set_list vs) v (into_set vs v (In-from_Contains vs v h.0 h.1 h.2))),
  );
}

pub set_of_is : (vs s : List PlainValue) → IsSetOf vs s → s ≡ set_list vs
set_of_is vs s h = set_is s vs h.ascending (λ v. (h.members v).0) (λ v. (h.members v).1)
