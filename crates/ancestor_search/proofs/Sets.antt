-- Sets of references, read by what they refer to.
use Rattle.std.proofs.Common.{◌≡◌, Bool, List, [], ◌∷◌, refl, ap, sym, ◌∙◌, ◌||◌}
use Rattle.std.specs.Prelude.{Contains, ◌↔◌, IsTrue}
use Rattle.std.specs.List.{list_any, AllByRecursion}
use Rattle.std.specs.List.Sorted.{IsStrictlySortedBy}
use Rattle.std.specs.Ordering.{is_eq}
use Rattle.std.specs.declared.cmp.Ordering.TheVariants.{Less}
use Rattle.std.specs.Cmp.{eq_by_cmp_equiv}
use Rattle.std.specs.Borrow.{Bor}
use Rattle.std.proofs.lemmas.Map.Views.{Contains-from_any, list_any-from_Contains, tells_apart}
use Rattle.values.specs.declared.entity_uid.EntityUid.{EntityUid}
use Rattle.values.specs.Names.{uid_cmp, uid_cmp-IsTotalOrder, uid_cmp-IsAntisymmetric}
use Rattle.ancestor_search.specs.Hierarchy.{referenced, IsAscending}

pub list_any-referenced : (test : EntityUid → Bool) (ks : List (Bor EntityUid)) → list_any (λ k. test k.now) ks ≡ list_any test (referenced ks)
list_any-referenced test [] = refl
list_any-referenced test (k ∷ ks) = ap (λ b. test k.now || b) (list_any-referenced test ks)

-- what a look-up by name says
pub found_iff : (ks : List (Bor EntityUid)) (a : EntityUid) (b : Bool) → b ≡ list_any (λ k. is_eq (uid_cmp a k.now)) ks → IsTrue b ↔ Contains (referenced ks) a
found_iff ks a b e =
    let any = e ∙ list_any-referenced (λ k. is_eq (uid_cmp a k)) ks in
    (λ t. Contains-from_any (tells_apart uid_cmp-IsAntisymmetric) a (referenced ks) (sym any ∙ t), λ h. any ∙ list_any-from_Contains (eq_by_cmp_equiv uid_cmp-IsTotalOrder) a (referenced ks) h)

below_all : (u : EntityUid) (ks : List (Bor EntityUid)) → AllByRecursion (λ (y : Bor EntityUid). uid_cmp u y.now ≡ Less) ks → AllByRecursion (λ y. uid_cmp u y ≡ Less) (referenced ks)
below_all u [] h = h
below_all u (k ∷ ks) h = (h.0, below_all u ks h.1)

pub ascending_names : (ks : List (Bor EntityUid)) → IsStrictlySortedBy (λ (x y : Bor EntityUid). uid_cmp x.now y.now) ks → IsAscending (referenced ks)
unfolding IsStrictlySortedBy
ascending_names [] h = h
ascending_names (k ∷ ks) h = (below_all k.now ks h.0, ascending_names ks h.1)
