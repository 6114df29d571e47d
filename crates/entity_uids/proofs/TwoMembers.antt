-- A list of two, by its first and its last element.
use Rattle.std.proofs.Common.{◌≡◌, ◌∙◌, ◌-◌, List, [], ◌∷◌, length, Some, ap, arith}
use Rattle.std.specs.Prelude.{slice_get}

pub two : {A : Type 0} (es : List A) (a b : A) → length es ≡ 2 → slice_get es 0 ≡ Some a → slice_get es (length es - 1) ≡ Some b → es ≡ a ∷ b ∷ []
two [] a b n first last = absurd (omega (arith, n))
two (x ∷ []) a b n first last = absurd (omega (arith, n))
two (x ∷ y ∷ []) a b n first last = let one : x ≡ a = cc in let other : y ≡ b = cc in ap (λ k. k ∷ y ∷ []) one ∙ ap (λ k. a ∷ k ∷ []) other
two (x ∷ y ∷ z ∷ es) a b n first last = absurd (omega (arith, n))
