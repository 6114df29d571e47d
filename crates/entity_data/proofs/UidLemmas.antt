-- Uids of two lists, sorted and each once.
use Rattle.std.proofs.Common.{◌≡◌, ◌∙◌, ◌↔◌, List, [], ◌∷◌, ◌++◌, Bool, true, false, cond, Ordering, Less, Equal}
use Rattle.std.proofs.Common.{Greater, refl, sym, ap, subst, inl, inr}
use Rattle.std.specs.Prelude.{Contains, IsTrue, IfOk, Result, Ok, Err, ◌⊎◌, ◌&&◌}
use Rattle.std.specs.Borrow.{Bor}
use Rattle.std.specs.List.{AllByRecursion, dedup_from, dedup}
use Rattle.std.specs.List.Sorted.{IsStrictlySortedBy, IsPermutation}
use Rattle.std.specs.Ordering.{match_ordering, ordering_reverse, ordering_then, is_eq}
use Rattle.std.specs.Cmp.{IsEquivalence}
use Rattle.std.proofs.lemmas.List.Kept.{Contains-dedup, Contains-from_dedup}
use Rattle.std.proofs.lemmas.List.Sorted.{Contains-permutation, IsPermutation-sym, IsPermutation-map}
use Rattle.values.specs.declared.entity_uid.EntityUid.{EntityUid}
use Rattle.values.specs.Names.{text_cmp, uid_cmp, uid_cmp-IsTotalOrder}
use Rattle.evaluator.specs.ancestor_search.Hierarchy.{IsAscending, AscendingListsAreOne, referenced}
use Rattle.evaluator.specs.ancestor_search.Deciding.{Contains-here, Contains-there, Contains-cases}
use Rattle.entity_data.specs.UidSets.{put_uid, uid_set}
use Rattle.entity_data.specs.Entities.{Actions, AreActions, uids_with}
use Rattle.entity_data.specs.Listing.{set_has, in_first, in_second, in_either}

-- two facts of what a call gives
pub both_ok : {A B : Type 0} (r : Result A B) (F G : A → Type 0) → IfOk r F → IfOk r G → IfOk r (λ x. F x × G x)
both_ok (Ok x) F G f g = (f, g)
both_ok (Err e) F G f g = tt

-- ---- references, by what they refer to

all_names : (u : EntityUid) (xs : List (Bor EntityUid)) → AllByRecursion (λ (y : Bor EntityUid). uid_cmp u y.now ≡ Less) xs → AllByRecursion (λ w. uid_cmp u w ≡ Less) (referenced xs)
all_names u [] a = tt
all_names u (x ∷ xs) a = (a.0, all_names u xs a.1)

pub ascending_names : (xs : List (Bor EntityUid)) → IsStrictlySortedBy (λ (a b : Bor EntityUid). uid_cmp a.now b.now) xs → IsAscending (referenced xs)
unfolding IsStrictlySortedBy
ascending_names [] s = tt
ascending_names (x ∷ xs) s = (all_names x.now xs s.0, ascending_names xs s.1)

module _ (same : EntityUid → EntityUid → Bool) where
  names_from : (x : Bor EntityUid) (xs : List (Bor EntityUid)) → referenced (dedup_from (λ (a b : Bor EntityUid). same a.now b.now) x xs) ≡ dedup_from same x.now (referenced xs)
  names_from x [] = refl
  names_from x (y ∷ xs) =
      elim (same y.now x.now) as (λ b. referenced (cond b (dedup_from (λ (a b : Bor EntityUid). same a.now b.now) x xs) (x ∷ dedup_from (λ (a b : Bor EntityUid). same a.now b.now) y xs))
      ≡ cond b (dedup_from same x.now (referenced xs)) (x.now ∷ dedup_from same y.now (referenced xs))) [
        | true ↦ names_from x xs
        | false ↦ ap (λ us. x.now ∷ us) (names_from y xs)
      ]

  pub names_dedup : (xs : List (Bor EntityUid)) → referenced (dedup (λ (a b : Bor EntityUid). same a.now b.now) xs) ≡ dedup same (referenced xs)
  names_dedup [] = refl
  names_dedup (x ∷ xs) = names_from x xs

-- ---- sorted and each once, they have the same members

tie : (r s : Ordering) → (is_eq r && is_eq s) ≡ is_eq (ordering_then r s)
tie Less s = refl
tie Equal s = refl
tie Greater s = refl

pub ties : (a b : EntityUid) → (is_eq (text_cmp a.type_name b.type_name) && is_eq (text_cmp a.id b.id)) ≡ is_eq (uid_cmp a b)
ties a b = tie (text_cmp a.type_name b.type_name) (text_cmp a.id b.id)

-- two tests that hold together are one
pub one_test : (b c : Bool) → (IsTrue b → IsTrue c) → (IsTrue c → IsTrue b) → b ≡ c
one_test true true f g = refl
one_test true false f g = sym (f refl)
one_test false true f g = g refl
one_test false false f g = refl

module _ (same : EntityUid → EntityUid → Bool) (is : (a b : EntityUid) → IsTrue (same a b) ↔ (a ≡ b)) where
  pub is_equivalence : IsEquivalence same
  is_equivalence = record {
    refl = λ a. (is a a).1 refl;
    symm = λ a b. one_test (same a b) (same b a) (λ h. (is b a).1 (sym ((is a b).0 h))) (λ h. (is a b).1 (sym ((is b a).0 h)));
    congr = λ a b c h. ap (λ (x : EntityUid). same x c) ((is a b).0 h);
  }

  pub members_of : (xs ys zs : List (Bor EntityUid)) (some others : List EntityUid) → referenced xs ≡ some ++ others → IsPermutation xs ys
      → zs ≡ dedup (λ (a b : Bor EntityUid). same a.now b.now) ys → (u : EntityUid) → Contains (referenced zs) u ↔ Contains some u ⊎ Contains others u
  members_of xs ys zs some others pushed moved left u = (into, from)
    where
      whole : referenced zs ≡ dedup same (referenced ys)
      whole = ap (λ (vs : List (Bor EntityUid)). referenced vs) left ∙ names_dedup same ys

      moves : IsPermutation (referenced xs) (referenced ys)
      moves = IsPermutation-map (λ (b : Bor EntityUid). b.now) xs ys moved

      into : Contains (referenced zs) u → Contains some u ⊎ Contains others u
      into h = in_either some others u (subst (λ vs. Contains vs u) pushed
          (Contains-permutation (referenced ys) (referenced xs) u (IsPermutation-sym (referenced xs) (referenced ys) moves) (Contains-from_dedup same (referenced ys) u (subst (λ vs. Contains vs u) whole h))))

      given : Contains some u ⊎ Contains others u → Contains (some ++ others) u
      given (inl h) = in_first some others u h
      given (inr h) = in_second some others u h

      from : Contains some u ⊎ Contains others u → Contains (referenced zs) u
      from h = subst (λ vs. Contains vs u) (sym whole) (Contains-dedup is_equivalence (λ a b. (is a b).0) (referenced ys) u
          (Contains-permutation (referenced xs) (referenced ys) u moves (subst (λ vs. Contains vs u) (sym pushed) (given h))))

-- ---- a set of uids ascends, and has no others

pub all_put : (P : EntityUid → Type 0) (u : EntityUid) (vs : List EntityUid) → P u → AllByRecursion P vs → AllByRecursion P (put_uid u vs)
all_put P u [] p a = (p, a)
all_put P u (v ∷ vs) p a =
    elim (uid_cmp u v) as (λ o. AllByRecursion P (match_ordering o (u ∷ v ∷ vs) (v ∷ vs) (v ∷ put_uid u vs))) [ Less ↦ (p, a) | Equal ↦ a | Greater ↦ (a.0, all_put P u vs p a.1) ]

all_above : (u v : EntityUid) (vs : List EntityUid) → uid_cmp u v ≡ Less → AllByRecursion (λ w. uid_cmp v w ≡ Less) vs → AllByRecursion (λ w. uid_cmp u w ≡ Less) vs
all_above u v [] l a = a
all_above u v (w ∷ vs) l a = (uid_cmp-IsTotalOrder.trans u v w l a.0, all_above u v vs l a.1)

sorted_put : (u : EntityUid) (vs : List EntityUid) → IsAscending vs → IsAscending (put_uid u vs)
unfolding IsStrictlySortedBy
sorted_put u [] s = (tt, tt)
sorted_put u (v ∷ vs) s =
    elim (uid_cmp u v) as (λ o. uid_cmp u v ≡ o → IsStrictlySortedBy uid_cmp (match_ordering o (u ∷ v ∷ vs) (v ∷ vs) (v ∷ put_uid u vs))) [
      | Less ↦ λ e. ((e, all_above u v vs e s.0), s)
      | Equal ↦ λ e. s
      | Greater ↦ λ e. (all_put (λ w. uid_cmp v w ≡ Less) u vs (uid_cmp-IsTotalOrder.antisymm v u ∙ ap ordering_reverse e) s.0, sorted_put u vs s.1)
    ] refl

pub sorted_set : (us : List EntityUid) → IsAscending (uid_set us)
unfolding IsStrictlySortedBy
sorted_set [] = tt
sorted_set (u ∷ us) = sorted_put u (uid_set us) (sorted_set us)

from_put : (u : EntityUid) (vs : List EntityUid) (x : EntityUid) → Contains (put_uid u vs) x → Contains (u ∷ vs) x
from_put u [] x i = i
from_put u (v ∷ vs) x i =
    elim (uid_cmp u v) as (λ o. Contains (match_ordering o (u ∷ v ∷ vs) (v ∷ vs) (v ∷ put_uid u vs)) x → Contains (u ∷ v ∷ vs) x) [
      | Less ↦ λ j. j
      | Equal ↦ λ j. Contains-there u (v ∷ vs) x j
      | Greater ↦ λ j. elim (Contains-cases v (put_uid u vs) x j) [
        | inl e ↦ Contains-there u (v ∷ vs) x (subst (λ y. Contains (v ∷ vs) y) e (Contains-here v vs))
        | inr k ↦ elim (Contains-cases u vs x (from_put u vs x k)) [
          | inl e ↦ subst (λ y. Contains (u ∷ v ∷ vs) y) e (Contains-here u (v ∷ vs))
          | inr l ↦ Contains-there u (v ∷ vs) x (Contains-there v vs x l)
        ]
      ]
    ] i

pub set_from : (us : List EntityUid) (x : EntityUid) → Contains (uid_set us) x → Contains us x
set_from [] x i = i
set_from (u ∷ us) x i = elim (Contains-cases u (uid_set us) x (from_put u (uid_set us) x i)) [
  | inl e ↦ subst (λ y. Contains (u ∷ us) y) e (Contains-here u us)
  | inr t ↦ Contains-there u us x (set_from us x t)
]

pub same_members : (us : List EntityUid) (x : EntityUid) → Contains us x ↔ Contains (uid_set us) x
same_members us x = (set_has us x, set_from us x)

-- ---- the uids of entities and of actions are one list

pub one_list : (one : AscendingListsAreOne) (actions : Actions) (declared lent us all : List EntityUid) → AreActions actions declared → AreActions actions lent
    → IsAscending all → ((u : EntityUid) → Contains all u ↔ Contains us u ⊎ Contains lent u) → all ≡ uids_with declared us
one_list one actions declared lent us all are lends ascends members = one all (uid_set (declared ++ us)) ascends (sorted_set (declared ++ us)) (λ u. (into u, from u))
  where
    joined : (u : EntityUid) → Contains us u ⊎ Contains lent u → Contains (declared ++ us) u
    joined u (inl h) = in_second declared us u h
    joined u (inr h) = in_first declared us u ((are u).1 ((lends u).0 h))

    parted : (u : EntityUid) → Contains declared u ⊎ Contains us u → Contains us u ⊎ Contains lent u
    parted u (inl h) = inr ((lends u).1 ((are u).0 h))
    parted u (inr h) = inl h

    into : (u : EntityUid) → Contains all u → Contains (uid_set (declared ++ us)) u
    into u h = set_has (declared ++ us) u (joined u ((members u).0 h))

    from : (u : EntityUid) → Contains (uid_set (declared ++ us)) u → Contains all u
    from u h = (members u).1 (parted u (in_either declared us u (set_from (declared ++ us) u h)))
