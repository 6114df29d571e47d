-- Two lists, compared up to a place.
use Rattle.std.proofs.Common.{◌≡◌, ◌≤◌, ◌<◌, ℕ, zero, suc, List, [], ◌∷◌, length, get_or, drop, map, Ordering, Less, Equal, Greater, true, false, refl, ap, arith}
use Rattle.std.specs.Ordering.{ordering_then, is_ne}
use Rattle.grammar_core.specs.declared.expr.Expr.{Expr}
use Rattle.grammar_core.specs.declared.expr.Named.{Named}
use Rattle.values.specs.Uids.{text_cmp}
use Rattle.type_capabilities.specs.Order.{expr_cmp, each_cmp, names_cmp}

pub then_ne : (o p : Ordering) → is_ne o ≡ true → ordering_then o p ≡ o
then_ne Less p e = refl
then_ne Equal p e = absurd (cc)
then_ne Greater p e = refl

pub then_eq : (o p : Ordering) → is_ne o ≡ false → ordering_then o p ≡ p
then_eq Less p e = absurd (cc)
then_eq Equal p e = refl
then_eq Greater p e = absurd (cc)

pub each_none : (fs : List (Expr → Ordering)) → each_cmp fs [] ≡ Equal
each_none [] = refl
each_none (f ∷ fs) = refl

-- F tells how items compare with expressions, and G which expressions the other items are
module _ {X Y : Type 0} (F : X → Expr → Ordering) (G : Y → Expr) where
  -- one more of both
  pub each_at : (xs : List X) (ys : List Y) (i : ℕ) (d : X) (e : Y) → i < length xs → i < length ys
      → each_cmp (map F (drop i xs)) (map G (drop i ys)) ≡ ordering_then (F (get_or xs i d) (G (get_or ys i e))) (each_cmp (map F (drop (suc i) xs)) (map G (drop (suc i) ys)))
  each_at [] ys i d e h k = absurd (omega (arith, h))
  each_at (x ∷ xs) [] i d e h k = absurd (omega (arith, k))
  each_at (x ∷ xs) (y ∷ ys) zero d e h k = refl
  each_at (x ∷ xs) (y ∷ ys) (suc i) d e h k = each_at xs ys i d e (omega (arith, h)) (omega (arith, k))

  -- no more of one
  pub each_past : (xs : List X) (ys : List Y) (i : ℕ) → length ys ≤ i → each_cmp (map F (drop i xs)) (map G (drop i ys)) ≡ Equal
  each_past [] ys zero h = refl
  each_past [] ys (suc i) h = refl
  each_past (x ∷ xs) [] zero h = refl
  each_past (x ∷ xs) [] (suc i) h = each_none (map F (drop i xs))
  each_past (x ∷ xs) (y ∷ ys) zero h = absurd (omega (arith, h))
  each_past (x ∷ xs) (y ∷ ys) (suc i) h = each_past xs ys i (omega (arith, h))

  pub each_over : (xs : List X) (ys : List Y) (i : ℕ) → length xs ≤ i → each_cmp (map F (drop i xs)) (map G (drop i ys)) ≡ Equal
  each_over [] ys zero h = refl
  each_over [] ys (suc i) h = refl
  each_over (x ∷ xs) ys zero h = absurd (omega (arith, h))
  each_over (x ∷ xs) [] (suc i) h = each_none (map F (drop i xs))
  each_over (x ∷ xs) (y ∷ ys) (suc i) h = each_over xs ys i (omega (arith, h))

pub itself : (xs : List Expr) → map (λ x. x) xs ≡ xs
itself [] = refl
itself (x ∷ xs) = ap (λ ys. x ∷ ys) (itself xs)

abbrev pub Field : Type 0
Field = Named Expr

pub names_at : (fs gs : List Field) (i : ℕ) (d e : Field) → i < length fs → i < length gs
    → names_cmp (drop i fs) (drop i gs) ≡ ordering_then (text_cmp (get_or fs i d).name (get_or gs i e).name) (names_cmp (drop (suc i) fs) (drop (suc i) gs))
names_at [] gs i d e h k = absurd (omega (arith, h))
names_at (f ∷ fs) [] i d e h k = absurd (omega (arith, k))
names_at (f ∷ fs) (g ∷ gs) zero d e h k = refl
names_at (f ∷ fs) (g ∷ gs) (suc i) d e h k = names_at fs gs i d e (omega (arith, h)) (omega (arith, k))

pub names_end : (fs gs : List Field) (i : ℕ) → length fs ≤ i → length fs ≡ length gs → names_cmp (drop i fs) (drop i gs) ≡ Equal
names_end [] [] zero h e = refl
names_end [] [] (suc i) h e = refl
names_end [] (g ∷ gs) i h e = absurd (omega (arith, e))
names_end (f ∷ fs) [] i h e = absurd (omega (arith, e))
names_end (f ∷ fs) (g ∷ gs) zero h e = absurd (omega (arith, h))
names_end (f ∷ fs) (g ∷ gs) (suc i) h e = names_end fs gs i (omega (arith, h)) (omega (arith, e))

-- of expressions

pub exprs_at : (xs ys : List Expr) (i : ℕ) (d e : Expr) → i < length xs → i < length ys
    → each_cmp (map expr_cmp (drop i xs)) (drop i ys) ≡ ordering_then (expr_cmp (get_or xs i d) (get_or ys i e)) (each_cmp (map expr_cmp (drop (suc i) xs)) (drop (suc i) ys))
exprs_at [] ys i d e h k = absurd (omega (arith, h))
exprs_at (x ∷ xs) [] i d e h k = absurd (omega (arith, k))
exprs_at (x ∷ xs) (y ∷ ys) zero d e h k = refl
exprs_at (x ∷ xs) (y ∷ ys) (suc i) d e h k = exprs_at xs ys i d e (omega (arith, h)) (omega (arith, k))

pub exprs_past : (xs ys : List Expr) (i : ℕ) → length ys ≤ i → each_cmp (map expr_cmp (drop i xs)) (drop i ys) ≡ Equal
exprs_past [] ys zero h = refl
exprs_past [] ys (suc i) h = refl
exprs_past (x ∷ xs) [] zero h = refl
exprs_past (x ∷ xs) [] (suc i) h = each_none (map expr_cmp (drop i xs))
exprs_past (x ∷ xs) (y ∷ ys) zero h = absurd (omega (arith, h))
exprs_past (x ∷ xs) (y ∷ ys) (suc i) h = exprs_past xs ys i (omega (arith, h))

pub exprs_over : (xs ys : List Expr) (i : ℕ) → length xs ≤ i → each_cmp (map expr_cmp (drop i xs)) (drop i ys) ≡ Equal
exprs_over [] ys zero h = refl
exprs_over [] ys (suc i) h = refl
exprs_over (x ∷ xs) ys zero h = absurd (omega (arith, h))
exprs_over (x ∷ xs) [] (suc i) h = each_none (map expr_cmp (drop i xs))
exprs_over (x ∷ xs) (y ∷ ys) (suc i) h = exprs_over xs ys i (omega (arith, h))

-- of fields

pub values_at : (xs ys : List Field) (i : ℕ) (d e : Field) → i < length xs → i < length ys
    → each_cmp (map (λ f. expr_cmp f.value) (drop i xs)) (map (λ f. f.value) (drop i ys))
    ≡ ordering_then (expr_cmp (get_or xs i d).value (get_or ys i e).value) (each_cmp (map (λ f. expr_cmp f.value) (drop (suc i) xs)) (map (λ f. f.value) (drop (suc i) ys)))
values_at xs ys i d e h k = each_at (λ (f : Field). expr_cmp f.value) (λ (f : Field). f.value) xs ys i d e h k

pub values_past : (xs ys : List Field) (i : ℕ) → length ys ≤ i
    → each_cmp (map (λ f. expr_cmp f.value) (drop i xs)) (map (λ f. f.value) (drop i ys)) ≡ Equal
values_past xs ys i h = each_past (λ (f : Field). expr_cmp f.value) (λ (f : Field). f.value) xs ys i h

pub values_over : (xs ys : List Field) (i : ℕ) → length xs ≤ i
    → each_cmp (map (λ f. expr_cmp f.value) (drop i xs)) (map (λ f. f.value) (drop i ys)) ≡ Equal
values_over xs ys i h = each_over (λ (f : Field). expr_cmp f.value) (λ (f : Field). f.value) xs ys i h
