-- A write at one slot of a table.
use Rattle.std.proofs.Common.{◌≡◌, ◌≢◌, ◌<◌, ◌≤◌, ◌+◌, add-one, map, ◌==◌, ◌⊎◌, ℕ, length, get_or, sym, ◌∙◌, subst, zero, suc, List, [], ◌∷◌, Some, true, false, refl, ap, inl, inr, arith}
use Rattle.std.proofs.lemmas.Bool.Decides.{nat_tests}
use Rattle.std.specs.Prelude.{slice_get, slice_set}
use Rattle.std.proofs.lemmas.List.Sums.{sum_by-cons}
use Rattle.std.proofs.lemmas.Option.{slice_get-get_or, slice_get_within}
use Rattle.std.specs.List.{sum_by}
use Rattle.connections.specs.Connections.{Change, ChangesAt, Connection, HasOne, HasRoom, IsChange}
use Rattle.connections.specs.Made.{IsNoneAt}

pub get_set_same : {X : Type 0} (xs : List X) (i : ℕ) (x y : X) → slice_get xs i ≡ Some x → slice_get (slice_set xs i y) i ≡ Some y
get_set_same [] i x y h = cc
get_set_same (a ∷ xs) zero x y h = refl
get_set_same (a ∷ xs) (suc i) x y h = get_set_same xs i x y h

pub get_set_other : {X : Type 0} (xs : List X) (i j : ℕ) (y : X) → i ≢ j → slice_get (slice_set xs i y) j ≡ slice_get xs j
get_set_other [] i j y differ = refl
get_set_other (a ∷ xs) zero zero y differ = absurd (differ refl)
get_set_other (a ∷ xs) zero (suc j) y differ = refl
get_set_other (a ∷ xs) (suc i) zero y differ = refl
get_set_other (a ∷ xs) (suc i) (suc j) y differ = get_set_other xs i j y (λ e. differ (ap suc e))

pub some_is : {X : Type 0} {x y : X} → Some x ≡ Some y → x ≡ y
some_is h = cc

pub eq_or_not : (m n : ℕ) → (m ≡ n) ⊎ (m ≢ n)
eq_or_not zero zero = inl refl
eq_or_not zero (suc n) = inr (λ h. omega arith)
eq_or_not (suc m) zero = inr (λ h. omega arith)
eq_or_not (suc m) (suc n) = elim (eq_or_not m n) [ inl h ↦ inl (ap suc h) | inr h ↦ inr (λ e. h (omega arith)) ]

pub eqb_same : {m n : ℕ} → m ≡ n → (m == n) ≡ true
eqb_same h = grind (arith, nat_tests)

pub eqb_differs : {m n : ℕ} → m ≢ n → (m == n) ≡ false
eqb_differs h = grind (arith, nat_tests)

-- a slot whose connection has not the property has none that has
pub none_at : (P : Connection → Type 0) (table : List Connection) (at : ℕ) (d : Connection) → at < length table
    → (P (get_or table at d) → ⊥) → IsNoneAt at P table
none_at P table at d less not c found h =
    not (subst P (some_is (sym found ∙ slice_get-get_or table at d less)) h)

-- a write of a changed connection
pub written : (at : ℕ) (change : Change) (table : List Connection) (d b : Connection) → at < length table
    → IsChange change (get_or table at d) b → HasRoom change (get_or table at d) table → ChangesAt at change table (slice_set table at b)
written at change table d b less changed room = record {
  before = get_or table at d;
  after = b;
  found = slice_get-get_or table at d less;
  changed = changed;
  room = room;
  is = refl;
}

-- a sum over a table after a write at one slot
pub sum_set : {X : Type 0} (f : X → ℕ) (xs : List X) (i : ℕ) (x y : X) → slice_get xs i ≡ Some x
    → sum_by f (slice_set xs i y) + f x ≡ sum_by f xs + f y
sum_set f [] i x y h = cc
sum_set f (a ∷ xs) zero x y h = omega (arith, sum_by-cons f y xs, sum_by-cons f a xs, ap f (some_is h))
sum_set f (a ∷ xs) (suc i) x y h = omega (arith, sum_by-cons f a (slice_set xs i y), sum_by-cons f a xs, sum_set f xs i x y h)

pub sum_map_le : {X : Type 0} (f : X → ℕ) (g : X → X) (xs : List X) → ((x : X) → f (g x) ≤ f x) → sum_by f (map g xs) ≤ sum_by f xs
sum_map_le f g [] less = omega arith
sum_map_le f g (x ∷ xs) less =
    omega (arith, sum_by-cons f (g x) (map g xs), sum_by-cons f x xs, less x, sum_map_le f g xs less)

pub get_map : {X : Type 0} (f : X → X) (xs : List X) (i : ℕ) (x : X) → slice_get xs i ≡ Some x → slice_get (map f xs) i ≡ Some (f x)
get_map f [] i x h = cc
get_map f (a ∷ xs) zero x h = ap (λ t. Some (f t)) (some_is h)
get_map f (a ∷ xs) (suc i) x h = get_map f xs i x h

pub get_unmap : {X : Type 0} (f : X → X) (xs : List X) (i : ℕ) (y : X) → slice_get (map f xs) i ≡ Some y
    → (x : X) × (slice_get xs i ≡ Some x) × (f x ≡ y)
get_unmap f [] i y h = cc
get_unmap f (a ∷ xs) zero y h = (a, refl, some_is h)
get_unmap f (a ∷ xs) (suc i) y h = get_unmap f xs i y h

-- the first `n` elements are mapped
abbrev pub mapped : {X : Type 0} → (X → X) → ℕ → List X → List X
mapped f zero xs = xs
mapped f (suc n) [] = []
mapped f (suc n) (x ∷ xs) = f x ∷ mapped f n xs

pub mapped_all : {X : Type 0} (f : X → X) (n : ℕ) (xs : List X) → length xs ≤ n → mapped f n xs ≡ map f xs
mapped_all f zero [] h = refl
mapped_all f zero (x ∷ xs) h = absurd (omega arith)
mapped_all f (suc n) [] h = refl
mapped_all f (suc n) (x ∷ xs) h = ap (λ t. f x ∷ t) (mapped_all f n xs (omega arith))

mapped_suc : {X : Type 0} (f : X → X) (n : ℕ) (xs : List X) (x : X) → slice_get (mapped f n xs) n ≡ Some x
    → slice_set (mapped f n xs) n (f x) ≡ mapped f (suc n) xs
mapped_suc f zero [] x h = cc
mapped_suc f zero (a ∷ xs) x h = ap (λ t. f t ∷ xs) (sym (some_is h))
mapped_suc f (suc n) [] x h = cc
mapped_suc f (suc n) (a ∷ xs) x h = ap (λ t. f a ∷ t) (mapped_suc f n xs x h)

-- one more element is mapped in its place
pub mapped_more : {X : Type 0} (f : X → X) (n : ℕ) (xs now : List X) (d y : X) → now ≡ mapped f n xs → n < length now
    → y ≡ f (get_or now n d) → slice_set now n y ≡ mapped f (n + 1) xs
mapped_more f n xs now d y is less same =
    ap (λ t. slice_set now n t) same
    ∙ ap (λ t. slice_set t n (f (get_or now n d))) is
    ∙ mapped_suc f n xs (get_or now n d) (ap (λ t. slice_get t n) (sym is) ∙ slice_get-get_or now n d less)
    ∙ ap (λ k. mapped f k xs) (sym (add-one n))

-- no slot below `i` has the property
abbrev pub HasNoneBelow : (Connection → Type 0) → List Connection → ℕ → Type 0
HasNoneBelow P table i = (k : ℕ) (c : Connection) → k < i → slice_get table k ≡ Some c → P c → ⊥

pub none_below : (P : Connection → Type 0) (table : List Connection) → HasNoneBelow P table 0
none_below P table k c less found h = omega arith

pub none_more : (P : Connection → Type 0) (table : List Connection) (i : ℕ) → HasNoneBelow P table i → IsNoneAt i P table
    → HasNoneBelow P table (i + 1)
none_more P table i below here k c less found h = elim (eq_or_not k i) [
  | inl same ↦ here c (ap (slice_get table) (sym same) ∙ found) h
  | inr differ ↦ below k c (omega arith) found h
]

pub none_in_all : (P : Connection → Type 0) (table : List Connection) (i : ℕ) → HasNoneBelow P table i → length table ≤ i
    → HasOne P table → ⊥
none_in_all P table i below whole one =
    let less = slice_get_within table one.0 one.1 one.2 in
    below one.0 one.1 (omega arith) one.2 one.3
