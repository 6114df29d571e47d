-- Defines the orders of strings and entity uids.
-- Rules of this product: strings by their bytes; uids by the bytes of the type's name, then of the id.
use Rattle.std.specs.Prelude.{◌≡◌, ◌↔◌, ℕ, List, IsTrue, refl}
use Rattle.std.specs.Ordering.{nat_cmp, ordering_then, is_eq}
use Rattle.std.specs.Cmp.{IsTotalOrder}
use Rattle.std.specs.Cmp.Lexicographic.{slice_cmp}
use Rattle.std.specs.declared.cmp.Ordering.{Ordering}
use Rattle.std.specs.declared.cmp.Ordering.TheVariants.{Less, Equal, Greater}
use Rattle.std.specs.FinMap.{IsAntisymmetric, nat_cmp-IsAntisymmetric, slice_cmp-IsAntisymmetric}
use Rattle.std.proofs.Common.{ap, sym, ◌∙◌}
use Rattle.std.proofs.lemmas.Cmp.{nat_list_cmp_total, then_total, on_total, tied_itself}
use Rattle.values.specs.declared.entity_uid.EntityUid.{EntityUid}

-- `text_cmp a b` compares two strings by their bytes.
abbrev pub text_cmp : List ℕ → List ℕ → Ordering
text_cmp = slice_cmp nat_cmp

-- `uid_cmp a b` compares two uids by the type's name, then by the id.
abbrev pub uid_cmp : EntityUid → EntityUid → Ordering
uid_cmp a b = ordering_then (text_cmp a.type_name b.type_name) (text_cmp a.id b.id)

-- Both orders are total, and only equal strings or uids compare as equal.

pub text_cmp-IsTotalOrder : IsTotalOrder text_cmp
text_cmp-IsTotalOrder = nat_list_cmp_total

pub text_cmp-IsAntisymmetric : IsAntisymmetric text_cmp
text_cmp-IsAntisymmetric = slice_cmp-IsAntisymmetric nat_cmp-IsAntisymmetric

pub uid_cmp-IsTotalOrder : IsTotalOrder uid_cmp
uid_cmp-IsTotalOrder = then_total (on_total (λ u. u.type_name) nat_list_cmp_total)
    (on_total (λ u. u.id) nat_list_cmp_total)

-- `both_equal`: if `ordering_then r s` is `Equal`, then so are `r` and `s`. (`ordering_then r s` is `s` if `r` is
-- `Equal`, else `r`.)
pub both_equal : (r s : Ordering) → ordering_then r s ≡ Equal → (r ≡ Equal) × (s ≡ Equal)
both_equal Less s h = absurd (cc)
both_equal Equal s h = (refl, h)
both_equal Greater s h = absurd (cc)

pub uid_cmp-IsAntisymmetric : IsAntisymmetric uid_cmp
uid_cmp-IsAntisymmetric a b h =
    let parts = both_equal (text_cmp a.type_name b.type_name) (text_cmp a.id b.id) h in
    let types = text_cmp-IsAntisymmetric a.type_name b.type_name parts.0 in
    let ids = text_cmp-IsAntisymmetric a.id b.id parts.1 in
    λ i. record { type_name = types i; id = ids i }

equal_from : (o : Ordering) → IsTrue (is_eq o) → o ≡ Equal
equal_from Less h = absurd (cc)
equal_from Equal h = refl
equal_from Greater h = absurd (cc)

-- In a total and antisymmetric order, values compare as equal if and only if they are equal.
pub equal-is : {K : Type 0} {R : K → K → Ordering} → IsTotalOrder R → IsAntisymmetric R → (a b : K)
    → IsTrue (is_eq (R a b)) ↔ (a ≡ b)
equal-is {R = R} total exact a b = (
  (λ h. exact a b (equal_from (R a b) h)),
  (λ e. ap is_eq (ap (R a) (sym e) ∙ tied_itself total a)),
)
