-- A search by halves: how what is sought compares with the members of a list in order.
use Rattle.std.proofs.Common.{◌≡◌, ◌∙◌, ◌⊎◌, inl, inr, ◌≤◌, arith, Bool, true, refl, sym}
use Rattle.std.specs.Ordering.{ordering_index, ordering_then, is_lt}
use Rattle.std.specs.Cmp.{IsTotalOrder, alike_right}
use Rattle.std.specs.declared.cmp.Ordering.{Ordering}
use Rattle.std.specs.declared.cmp.Ordering.TheVariants.{Less, Equal, Greater}

pub lt_only : (o : Ordering) → is_lt o ≡ true → o ≡ Less
lt_only Less h = refl
lt_only Equal h = absurd (cc)
lt_only Greater h = absurd (cc)

pub not_above : (o : Ordering) → ordering_index o ≤ 0 → is_lt o ≡ true
not_above Less h = refl
not_above Equal h = let no : ⊥ = omega (arith, h) in absurd no
not_above Greater h = let no : ⊥ = omega (arith, h) in absurd no

pub top_only : (o : Ordering) → 2 ≤ ordering_index o → o ≡ Greater
top_only Less h = let no : ⊥ = omega (arith, h) in absurd no
top_only Equal h = let no : ⊥ = omega (arith, h) in absurd no
top_only Greater h = refl

at_most : (o : Ordering) → ordering_index o ≤ 2
at_most Less = omega arith
at_most Equal = omega arith
at_most Greater = omega arith

-- what a greater one compares as is no less
pub rises : {K : Type 0} {R : K → K → Ordering} → IsTotalOrder R → (a b x : K) → R a b ≡ Less → (r : Ordering) → R b x ≡ r
    → ordering_index (R a x) ≤ ordering_index r
rises {R = R} total a b x lt Less e = rw (total.trans a b x lt e) (omega arith)
rises {R = R} total a b x lt Equal e = rw (sym (alike_right total b x a e) ∙ lt) (omega arith)
rises {R = R} total a b x lt Greater e = at_most (R a x)

pub less_then : (r s : Ordering) → ordering_then r s ≡ Less → (r ≡ Less) ⊎ (r ≡ Equal)
less_then Less s h = inl refl
less_then Equal s h = inr refl
less_then Greater s h = absurd (cc)
