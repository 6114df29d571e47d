-- Two lists of values, compared up to an index.
use Rattle.std.proofs.Common.{◌≡◌, ℕ, zero, suc, ◌<◌, List, [], ◌∷◌, length, get_or, drop, Ordering, Less, Equal, Greater, nat_cmp, true, false, refl, ◌∙◌, arith, min}
use Rattle.std.specs.Ordering.{ordering_then, is_ne}
use Rattle.std.proofs.lemmas.Bool.Decides.{nat_tests}
use Rattle.values.specs.Values.{PlainValue, values_of}
use Rattle.values.specs.ValueOrder.{value_cmp, values_cmp}

-- one more pair
pub values_cmp-at : (a b : List PlainValue) (i : ℕ) (d e : PlainValue) → i < length a → i < length b
    → values_cmp (values_of (drop i a)) (values_of (drop i b)) ≡ ordering_then (value_cmp (get_or a i d) (get_or b i e)) (values_cmp (values_of (drop (suc i) a)) (values_of (drop (suc i) b)))
values_cmp-at [] b i d e h k = absurd (omega arith)
values_cmp-at (x ∷ a) [] i d e h k = absurd (omega arith)
values_cmp-at (x ∷ a) (y ∷ b) zero d e h k = refl
values_cmp-at (x ∷ a) (y ∷ b) (suc i) d e h k = values_cmp-at a b i d e (omega arith) (omega arith)

-- no pair is left
pub values_cmp-end : (a b : List PlainValue) (i : ℕ) → i ≡ min (length a) (length b) → values_cmp (values_of (drop i a)) (values_of (drop i b)) ≡ nat_cmp (length a) (length b)
values_cmp-end [] [] zero h = refl
values_cmp-end [] (y ∷ b) zero h = grind (arith, nat_tests)
values_cmp-end (x ∷ a) [] zero h = grind (arith, nat_tests)
values_cmp-end (x ∷ a) (y ∷ b) zero h = absurd (omega arith)
values_cmp-end [] b (suc i) h = absurd (omega arith)
values_cmp-end (x ∷ a) [] (suc i) h = absurd (omega arith)
values_cmp-end (x ∷ a) (y ∷ b) (suc i) h = values_cmp-end a b i (omega arith) ∙ grind (arith, nat_tests)

pub then_ne : (o p : Ordering) → is_ne o ≡ true → ordering_then o p ≡ o
then_ne Less p e = refl
then_ne Equal p e = cc
then_ne Greater p e = refl

pub then_eq : (o p : Ordering) → is_ne o ≡ false → ordering_then o p ≡ p
then_eq Less p e = cc
then_eq Equal p e = refl
then_eq Greater p e = cc

pub then_then : (o p q : Ordering) → ordering_then o (ordering_then p q) ≡ ordering_then (ordering_then o p) q
then_then Less p q = refl
then_then Equal p q = refl
then_then Greater p q = refl
