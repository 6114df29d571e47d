-- Entities taken in ascending order.
use Rattle.std.proofs.Common.{◌≡◌, List, [], ◌∷◌, ◌++◌, sym, subst, inl, inr}
use Rattle.std.specs.Prelude.{Contains, ◌↔◌, All}
use Rattle.std.specs.List.{AllByRecursion}
use Rattle.std.specs.List.Sorted.{IsStrictlySortedBy}
use Rattle.std.specs.declared.cmp.Ordering.{Ordering}
use Rattle.std.specs.declared.cmp.Ordering.TheVariants.{Less}
use Rattle.std.proofs.lemmas.List.Elements.{recursion_from_All, All-contains, All-contains_itself, All-weaker, Contains-append_left, Contains-push, Contains-push_cases}
use Rattle.std.proofs.lemmas.Map.Views.{All-before_last}
use Rattle.values.specs.declared.entity_uid.EntityUid.{EntityUid}
use Rattle.values.specs.Names.{uid_cmp}
use Rattle.ancestor_search.specs.Hierarchy.{IsAscending}

module _ {K : Type 0} (R : K → K → Ordering) where
  all_prefix : (P : K → Type 0) (t : List K) (e : K) → AllByRecursion P (t ++ e ∷ []) → AllByRecursion P t
  all_prefix P [] e h = tt
  all_prefix P (x ∷ xs) e h = (h.0, all_prefix P xs e h.1)

  all_push : (P : K → Type 0) (t : List K) (e : K) → AllByRecursion P t → P e → AllByRecursion P (t ++ e ∷ [])
  all_push P [] e h p = (p, tt)
  all_push P (x ∷ xs) e h p = (h.0, all_push P xs e h.1 p)

  pub sorted_prefix : (t : List K) (e : K) → IsStrictlySortedBy R (t ++ e ∷ []) → IsStrictlySortedBy R t
  unfolding IsStrictlySortedBy
  sorted_prefix [] e h = tt
  sorted_prefix (x ∷ xs) e h = (all_prefix (λ y. R x y ≡ Less) xs e h.0, sorted_prefix xs e h.1)

  pub sorted_push : (t : List K) (e : K) → IsStrictlySortedBy R t → AllByRecursion (λ q. R q e ≡ Less) t → IsStrictlySortedBy R (t ++ e ∷ [])
  unfolding IsStrictlySortedBy
  sorted_push [] e h b = (tt, tt)
  sorted_push (x ∷ xs) e h b = (all_push (λ y. R x y ≡ Less) xs e h.0 b.0, sorted_push xs e h.1 b.1)

-- found are those of xs at which P holds, in the order of xs
pub record Picked (P : EntityUid → Type 0) (xs found : List EntityUid) : Type 0 where
  pub same : (a : EntityUid) → Contains found a ↔ (Contains xs a × P a)
  pub ascending : IsAscending xs → IsAscending found

module _ (P : EntityUid → Type 0) (xs found : List EntityUid) (s : Picked P xs found) (k : EntityUid) where
  pub Picked-skip : (P k → ⊥) → Picked P (xs ++ k ∷ []) found
  Picked-skip none = record {
    same = λ a. (
      λ h. let t = (s.same a).0 h in (Contains-append_left xs _ a t.0, t.1),
      λ h. elim (Contains-push_cases xs k a h.0) [
        | inl t ↦ (s.same a).1 (t, h.1)
        | inr e ↦ absurd (none (subst (λ y. P y) (sym e) h.1))
      ],
    );
    ascending = λ h. s.ascending (sorted_prefix uid_cmp xs k h);
  }

  pub Picked-push : P k → Picked P (xs ++ k ∷ []) (found ++ k ∷ [])
  Picked-push on = record {
    same = λ a. (
      λ h. elim (Contains-push_cases found k a h) [
        | inl t ↦ let u = (s.same a).0 t in (Contains-append_left xs _ a u.0, u.1)
        | inr e ↦ subst (λ y. Contains (xs ++ k ∷ []) y × P y) e (Contains-push xs k, on)
      ],
      λ h. elim (Contains-push_cases xs k a h.0) [
        | inl t ↦ Contains-append_left found _ a ((s.same a).1 (t, h.1))
        | inr e ↦ subst (λ y. Contains (found ++ k ∷ []) y) e (Contains-push found k)
      ],
    );
    ascending = λ h.
        let below = All-before_last uid_cmp xs k h in
        let all : All (λ q. uid_cmp q k ≡ Less) found = All-weaker (Contains found) (λ q. uid_cmp q k ≡ Less) (λ q t. All-contains (λ y. uid_cmp y k ≡ Less) xs q below ((s.same q).0 t).0) found (All-contains_itself found) in
        sorted_push uid_cmp found k (s.ascending (sorted_prefix uid_cmp xs k h)) (recursion_from_All (λ q. uid_cmp q k ≡ Less) found all);
  }
