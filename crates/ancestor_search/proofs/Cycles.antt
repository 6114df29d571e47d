-- What `==` answers: members of a list, and the edges after one change.
use Rattle.std.proofs.Common.{◌≡◌, Bool, cond, List, refl, ap, sym, subst, ◌∙◌}
use Rattle.std.specs.Prelude.{◌&&◌, Contains, IsTrue, ◌↔◌}
use Rattle.std.specs.List.{list_any}
use Rattle.std.specs.Ordering.{is_eq, nat_cmp, ordering_then}
use Rattle.std.specs.Cmp.Lexicographic.{slice_cmp}
use Rattle.std.specs.declared.cmp.Ordering.{Ordering}
use Rattle.std.specs.declared.cmp.Ordering.TheVariants.{Less, Equal, Greater}
use Rattle.values.specs.declared.entity_uid.EntityUid.{EntityUid}
use Rattle.values.specs.Names.{uid_cmp}
use Rattle.ancestor_search.specs.Hierarchy.{Parents, with_parents}
use Rattle.ancestor_search.specs.Deciding.{any_at, any_from, same_uid, same_self}

-- what `==` answers
abbrev pub uid_eq : EntityUid → EntityUid → Bool
uid_eq a b = is_eq (slice_cmp nat_cmp a.type_name b.type_name) && is_eq (slice_cmp nat_cmp a.id b.id)

then_ties : (o p : Ordering) → is_eq o && is_eq p ≡ is_eq (ordering_then o p)
then_ties Less p = refl
then_ties Equal p = refl
then_ties Greater p = refl

pub uid_ties : (a b : EntityUid) → uid_eq a b ≡ is_eq (uid_cmp a b)
uid_ties a b = then_ties _ _

-- the edges after one change, by what `==` answered
pub with_parents-eq : (p : Parents) (uid : EntityUid) (ps : List EntityUid) (q : EntityUid) (b r : Bool) → b ≡ uid_eq uid q → b ≡ r → with_parents p uid ps q ≡ cond r ps (p q)
with_parents-eq p uid ps q b r e f = ap (λ t. cond t ps (p q)) (sym (uid_ties uid q) ∙ sym e ∙ f)

-- what a slice's `contains` answers
pub has_iff : (xs : List EntityUid) (a : EntityUid) (b : Bool) → b ≡ list_any (λ y. uid_eq y a) xs → IsTrue b ↔ Contains xs a
has_iff xs a b e = (
  λ t. let (x, there, same) = any_at (λ y. uid_eq y a) xs (sym e ∙ t) in subst (λ z. Contains xs z) (same_uid x a (sym (uid_ties x a) ∙ same)) there,
  λ h. e ∙ any_from (λ y. uid_eq y a) xs a h (uid_ties a a ∙ same_self a),
)
