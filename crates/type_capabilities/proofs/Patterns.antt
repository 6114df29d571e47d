-- Patterns, compared by the texts before their last wildcards and those behind them.
use Rattle.std.proofs.Common.{◌≡◌, ℕ, suc, List, [], ◌∷◌, ◌++◌, length, Ordering, Less, Equal, Greater, nat_cmp, refl, sym, ap, ◌∙◌, arith}
use Rattle.std.specs.Ordering.{ordering_then}
use Rattle.std.specs.Cmp.Lexicographic.{slice_cmp}
use Rattle.std.specs.FinMap.{nat_cmp-IsAntisymmetric}
use Rattle.std.proofs.lemmas.Bool.Decides.{nat_tests}
use Rattle.values.specs.Uids.{text_cmp}
use Rattle.type_capabilities.specs.Order.{pattern_cmp}

then_equal : (o : Ordering) → ordering_then o Equal ≡ o
then_equal Less = refl
then_equal Equal = refl
then_equal Greater = refl

then_assoc : (o p q : Ordering) → ordering_then (ordering_then o p) q ≡ ordering_then o (ordering_then p q)
then_assoc Less p q = refl
then_assoc Equal p q = refl
then_assoc Greater p q = refl

under : (o p q : Ordering) → (o ≡ Equal → p ≡ q) → ordering_then o p ≡ ordering_then o q
under Less p q h = refl
under Equal p q h = h refl
under Greater p q h = refl

one_longer : (b : List (List ℕ)) (l : List ℕ) → length (b ++ l ∷ []) ≡ suc (length b)
one_longer [] l = refl
one_longer (x ∷ b) l = ap suc (one_longer b l)

suc_cmp : (m n : ℕ) → nat_cmp (suc m) (suc n) ≡ nat_cmp m n
suc_cmp m n = grind (arith, nat_tests)

counts_are : (b c : List (List ℕ)) (l m : List ℕ)
    → nat_cmp (length (b ++ l ∷ [])) (length (c ++ m ∷ [])) ≡ nat_cmp (length b) (length c)
counts_are b c l m =
    ap (λ n. nat_cmp n (length (c ++ m ∷ []))) (one_longer b l)
    ∙ (ap (λ n. nat_cmp (suc (length b)) n) (one_longer c m) ∙ suc_cmp (length b) (length c))

texts_are : (b c : List (List ℕ)) (l m : List ℕ) → length b ≡ length c
    → slice_cmp text_cmp (b ++ l ∷ []) (c ++ m ∷ []) ≡ ordering_then (slice_cmp text_cmp b c) (text_cmp l m)
texts_are [] [] l m e = then_equal (text_cmp l m)
texts_are [] (y ∷ c) l m e = absurd (omega (arith, e))
texts_are (x ∷ b) [] l m e = absurd (omega (arith, e))
texts_are (x ∷ b) (y ∷ c) l m e =
    ap (ordering_then (text_cmp x y)) (texts_are b c l m (omega (arith, e)))
    ∙ sym (then_assoc (text_cmp x y) (slice_cmp text_cmp b c) (text_cmp l m))

-- by the number of the texts before the last, by these, and then by the last
pub pattern_is : (p q b c : List (List ℕ)) (l m : List ℕ) → b ++ l ∷ [] ≡ p → c ++ m ∷ [] ≡ q
    → ordering_then (ordering_then (nat_cmp (length b) (length c)) (slice_cmp text_cmp b c)) (text_cmp l m) ≡ pattern_cmp p q
pattern_is p q b c l m d e =
    let o = nat_cmp (length b) (length c) in
    let whole = slice_cmp text_cmp (b ++ l ∷ []) (c ++ m ∷ []) in
    then_assoc o (slice_cmp text_cmp b c) (text_cmp l m)
    ∙ (under o _ whole (λ h. sym (texts_are b c l m (nat_cmp-IsAntisymmetric (length b) (length c) h)))
    ∙ (ap (λ k. ordering_then k whole) (sym (counts_are b c l m))
    ∙ (ap (λ u. pattern_cmp u (c ++ m ∷ [])) d ∙ ap (λ v. pattern_cmp p v) e)))
