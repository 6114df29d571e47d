-- Defines the proof that a test over listed uids decides the ancestor relation. The list has the uids of the stored
-- entities and of the declared actions, since only these can have parents.
use Rattle.std.proofs.Common.{◌≡◌, ◌↔◌, List, [], ◌∷◌, ◌++◌, Option, Some, None, Less, Equal, Greater, Bool, true}
use Rattle.std.proofs.Common.{false, cond, map, refl, sym, subst, inl, inr}
use Rattle.std.specs.Prelude.{Contains, IsSome, ◌⊎◌}
use Rattle.std.specs.Map.{lookup}
use Rattle.std.specs.BTreeMap.{is_at}
use Rattle.std.specs.Ordering.{match_ordering}
use Rattle.values.specs.declared.entity_uid.EntityUid.{EntityUid}
use Rattle.values.specs.Names.{uid_cmp, uid_cmp-IsAntisymmetric}
use Rattle.evaluator.specs.ancestor_search.Decided.{is_same, HaveAllParents, Decides, reaches}
use Rattle.evaluator.specs.ancestor_search.Deciding.{Contains-here, Contains-there, Contains-none, Contains-cases}
use Rattle.evaluator.specs.ancestor_search.Deciding.{same_uid}
use Rattle.evaluator.specs.ancestor_search.Deciding.{same_self, decided}
use Rattle.entity_data.specs.UidSets.{put_uid, uid_set}
use Rattle.entity_data.specs.declared.data.EntityData.{EntityData}
use Rattle.entity_data.specs.Entities.{EntityMap, AreListed, kept_parents, Actions, AreActions, action_or}
use Rattle.entity_data.specs.Entities.{with_actions, no_actions, uids_with}

-- ---- the keys of entries are those that have a value

module _ {X : Type 0} where
  -- `keys_in es` are the keys of the entries `es`.
  abbrev keys_in : List (EntityUid × X) → List EntityUid
  keys_in es = map (λ e. e.0) es

  -- `found_in es u` is the value of the key `u` in the entries `es`; `None` if `u` is not a key.
  abbrev found_in : List (EntityUid × X) → EntityUid → Option X
  found_in es u = lookup (is_at (uid_cmp u)) es

  -- `key_from`: a uid that has a value is a key. `key_is_found`: a key has a value. `found_at` and `there_at` are the
  -- induction steps of these two, for one more entry in front.
  found_at : (es : List (EntityUid × X)) (e : EntityUid × X) (u : EntityUid) (b : Bool) → is_at (uid_cmp u) e.0 ≡ b
      → (IsSome (found_in es u) → Contains (keys_in es) u)
      → IsSome (cond b (Some e.1) (found_in es u)) → Contains (e.0 ∷ keys_in es) u
  found_at es e u true same further h =
      subst (λ x. Contains (x ∷ keys_in es) u) (same_uid u e.0 same) (Contains-here u (keys_in es))
  found_at es e u false apart further h = Contains-there e.0 (keys_in es) u (further h)

  key_from : (es : List (EntityUid × X)) (u : EntityUid) → IsSome (found_in es u) → Contains (keys_in es) u
  key_from [] u h = cc h
  key_from (e ∷ es) u h = found_at es e u (is_at (uid_cmp u) e.0) refl (key_from es u) h

  there_at : (es : List (EntityUid × X)) (e : EntityUid × X) (u : EntityUid) (b : Bool) → is_at (uid_cmp u) e.0 ≡ b
      → (Contains (keys_in es) u → IsSome (found_in es u))
      → (e.0 ≡ u) ⊎ Contains (keys_in es) u → IsSome (cond b (Some e.1) (found_in es u))
  there_at es e u true same further h = refl
  there_at es e u false apart further (inl is) = let same =
      subst (λ x. is_same u x ≡ true) (sym is) (same_self u) in absurd (cc)
  there_at es e u false apart further (inr t) = further t

  key_is_found : (es : List (EntityUid × X)) (u : EntityUid) → Contains (keys_in es) u → IsSome (found_in es u)
  key_is_found [] u h = Contains-none u h
  key_is_found (e ∷ es) u h =
      there_at es e u (is_at (uid_cmp u) e.0) refl (key_is_found es u) (Contains-cases e.0 (keys_in es) u h)

  -- `keys_are_found`: a uid is a key of entries if and only if it has a value in them.
  pub keys_are_found : (es : List (EntityUid × X)) (u : EntityUid) → Contains (keys_in es) u ↔ IsSome (found_in es u)
  keys_are_found es u = (key_is_found es u, key_from es u)

-- ---- a set of uids has the uids that it was made of

-- `put_here` and `put_kept`: `put_uid u us` has `u` and each member of `us`.
put_here : (u : EntityUid) (us : List EntityUid) → Contains (put_uid u us) u
put_here u [] = Contains-here u []
put_here u (v ∷ vs) =
    elim (uid_cmp u v) as (λ o. uid_cmp u v ≡ o
    → Contains (match_ordering o (u ∷ v ∷ vs) (v ∷ vs) (v ∷ put_uid u vs)) u) [
      | Less ↦ λ e. Contains-here u (v ∷ vs)
      | Equal ↦ λ e. subst (λ x. Contains (v ∷ vs) x) (sym (uid_cmp-IsAntisymmetric u v e)) (Contains-here v vs)
      | Greater ↦ λ e. Contains-there v (put_uid u vs) u (put_here u vs)
    ] refl

put_kept : (u : EntityUid) (us : List EntityUid) (x : EntityUid) → Contains us x → Contains (put_uid u us) x
put_kept u [] x h = Contains-none x h
put_kept u (v ∷ vs) x h =
    elim (uid_cmp u v) as (λ o. Contains (match_ordering o (u ∷ v ∷ vs) (v ∷ vs) (v ∷ put_uid u vs)) x) [
      | Less ↦ Contains-there u (v ∷ vs) x h
      | Equal ↦ h
      | Greater ↦ elim (Contains-cases v vs x h) [
        | inl e ↦ subst (λ y. Contains (v ∷ put_uid u vs) y) e (Contains-here v (put_uid u vs))
        | inr t ↦ Contains-there v (put_uid u vs) x (put_kept u vs x t)
      ]
    ]

-- `set_has`: a set has each uid that it was made of.
pub set_has : (us : List EntityUid) (x : EntityUid) → Contains us x → Contains (uid_set us) x
set_has [] x h = h
set_has (u ∷ us) x h = elim (Contains-cases u us x h) [
  | inl e ↦ subst (λ y. Contains (put_uid u (uid_set us)) y) e (put_here u (uid_set us))
  | inr t ↦ put_kept u (uid_set us) x (set_has us x t)
]

-- ---- members of two lists
-- `in_first`, `in_second` and `in_either`: `xs ++ ys` has exactly the members of `xs` and of `ys`.

module _ {X : Type 0} where
  pub in_first : (xs ys : List X) (u : X) → Contains xs u → Contains (xs ++ ys) u
  in_first [] ys u h = Contains-none u h
  in_first (x ∷ xs) ys u h = elim (Contains-cases x xs u h) [
    | inl e ↦ subst (λ y. Contains (x ∷ xs ++ ys) y) e (Contains-here x (xs ++ ys))
    | inr t ↦ Contains-there x (xs ++ ys) u (in_first xs ys u t)
  ]

  pub in_second : (xs ys : List X) (u : X) → Contains ys u → Contains (xs ++ ys) u
  in_second [] ys u h = h
  in_second (x ∷ xs) ys u h = Contains-there x (xs ++ ys) u (in_second xs ys u h)

  pub in_either : (xs ys : List X) (u : X) → Contains (xs ++ ys) u → Contains xs u ⊎ Contains ys u
  in_either [] ys u h = inr h
  in_either (x ∷ xs) ys u h = elim (Contains-cases x (xs ++ ys) u h) [
    | inl e ↦ inl (subst (λ y. Contains (x ∷ xs) y) e (Contains-here x xs))
    | inr t ↦ elim (in_either xs ys u t) [ inl i ↦ inl (Contains-there x xs u i) | inr j ↦ inr j ]
  ]

-- ---- each entity with parents is listed

-- `kept_with_parents`: an entity with a parent is stored.
pub kept_with_parents : (o : Option EntityData) (a : EntityUid) → Contains (kept_parents o) a → IsSome o
kept_with_parents None a h = Contains-none a h
kept_with_parents (Some e) a h = refl

-- `action_or_kept`: a uid with a parent is that of an action or of a stored entity.
action_or_kept : (actions : Option (List EntityUid)) (o : Option EntityData) (a : EntityUid)
    → Contains (kept_parents (action_or actions o)) a → IsSome actions ⊎ IsSome o
action_or_kept None o a h = inr (kept_with_parents o a h)
action_or_kept (Some ps) o a h = inl refl

module _ (actions : Actions) (declared : List EntityUid) (are : AreActions actions declared) (entities : EntityMap)
    (us : List EntityUid) (listed : AreListed entities us) where
  -- `listed_with`: the uid of an action or of a stored entity is among `uids_with declared us`.
  listed_with : (u : EntityUid) → IsSome (actions u) ⊎ IsSome (entities u) → Contains (uids_with declared us) u
  listed_with u (inl h) = set_has (declared ++ us) u (in_first declared us u ((are u).1 h))
  listed_with u (inr h) = set_has (declared ++ us) u (in_second declared us u ((listed u).1 h))

  -- `all_listed`: each stored entity or action that has parents is among `uids_with declared us`.
  pub all_listed : HaveAllParents (λ u. kept_parents (with_actions actions entities u)) (uids_with declared us)
  all_listed b a h = listed_with b (action_or_kept (actions b) (entities b) a h)

  -- `all_decided`: the test `reaches` over `uids_with declared us` decides the ancestor relation.
  pub all_decided : Decides (λ u. kept_parents (with_actions actions entities u))
      (reaches (λ u. kept_parents (with_actions actions entities u)) (uids_with declared us))
  all_decided = decided (λ u. kept_parents (with_actions actions entities u)) (uids_with declared us) all_listed

-- ---- nothing is an action if none is declared

-- `none_is_an_action`: the list of the uids of `no_actions` is empty.
pub none_is_an_action : AreActions no_actions []
none_is_an_action u = ((λ h. Contains-none u h), (λ h. cc h))
