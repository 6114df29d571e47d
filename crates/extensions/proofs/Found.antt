-- What is decided is told by a test, and what there is one of is found.
use Rattle.std.specs.Prelude.{◌≡◌, ◌↔◌, IsTrue, Some, refl}
use Rattle.std.proofs.Common.{inl, inr, ap, subst}
use Rattle.std.proofs.lemmas.Bool.{false≢true}
use Rattle.extensions.specs.Decided.{Decided, is_proved, witness}

pub told_iff : {P : Type 0} (d : Decided P) → IsTrue (is_proved d) ↔ P
told_iff (inl p) = ((λ t. p), (λ p. refl))
told_iff (inr n) = ((λ t. absurd (false≢true t)), (λ p. absurd (n p)))

-- what is found is the only one
pub found_iff : {A : Type 0} (P : A → Type 0) → ((x y : A) → P x → P y → x ≡ y) → (d : Decided ((a : A) × P a)) (a : A) → (witness d ≡ Some a) ↔ P a
found_iff P one (inl h) a = ((λ e. let same : h.0 ≡ a = cc in subst P same h.1), (λ p. ap (λ x. Some x) (one h.0 a h.1 p)))
found_iff P one (inr n) a = ((λ e. absurd (cc)), (λ p. absurd (n (a, p))))
