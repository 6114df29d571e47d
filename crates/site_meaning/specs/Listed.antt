-- Defines the proof that `uids_read es` (TextsRead.antt) lists exactly the uids for which the entries `es` have an
-- entity.
use Rattle.std.specs.Prelude.{◌≡◌, List, [], ◌∷◌, Contains, Option, Some, None, IsSome, is_some, Bool, true, false}
use Rattle.std.specs.Prelude.{cond, refl, option_and_then, option_map}
use Rattle.std.proofs.Common.{subst, sym, ◌∙◌, inl, inr}
use Rattle.std.specs.List.{filter}
use Rattle.std.specs.Map.{keys_of}
use Rattle.std.specs.Ordering.{is_eq}
use Rattle.values.specs.declared.entity_uid.EntityUid.{EntityUid}
use Rattle.values.specs.Names.{uid_cmp}
use Rattle.entity_hierarchy.specs.ancestor_search.Deciding.{Contains-here, Contains-there, Contains-cases}
use Rattle.entity_hierarchy.specs.ancestor_search.Deciding.{Contains-none}
use Rattle.entity_hierarchy.specs.ancestor_search.Deciding.{same_uid}
use Rattle.entity_hierarchy.specs.entity_data.declared.entity.Entity.{Entity}
use Rattle.entity_hierarchy.specs.entity_data.Entities.{AreListed}
use Rattle.stamped_store.specs.declared.entry.Entry.{Entry}
use Rattle.stamped_store.specs.JoinMaps.{value_at}
use Rattle.site_meaning.specs.StoreMeaning.{data_of, data_in}
use Rattle.site_meaning.specs.TextsRead.{entity_at, uids_read}

-- `out_of_filter`: each member of `filter p xs` is a member of `xs` and satisfies `p`.
out_of_filter : (p : EntityUid → Bool) (xs : List EntityUid) (u : EntityUid) → Contains (filter p xs) u
    → Contains xs u × (p u ≡ true)
out_of_filter p [] u h = Contains-none u h
out_of_filter p (x ∷ xs) u h =
    elim (p x) as (λ b. p x ≡ b → Contains (cond b (x ∷ filter p xs) (filter p xs)) u
    → Contains (x ∷ xs) u × (p u ≡ true)) [
      | true ↦ λ is m. elim (Contains-cases x (filter p xs) u m) [
        | inl e ↦ (subst (λ y. Contains (x ∷ xs) y) e (Contains-here x xs), subst (λ y. p y ≡ true) e is)
        | inr t ↦ let rest = out_of_filter p xs u t in (Contains-there x xs u rest.0, rest.1)
      ]
      | false ↦ λ is m. let rest = out_of_filter p xs u m in (Contains-there x xs u rest.0, rest.1)
    ] refl h

-- `into_filter`: each member of `xs` that satisfies `p` is a member of `filter p xs`.
into_filter : (p : EntityUid → Bool) (xs : List EntityUid) (u : EntityUid) → Contains xs u → p u ≡ true
    → Contains (filter p xs) u
into_filter p [] u h is = Contains-none u h
into_filter p (x ∷ xs) u h is = elim (Contains-cases x xs u h) [
  | inl e ↦ subst (λ b. Contains (cond b (x ∷ filter p xs) (filter p xs)) u) (sym (subst (λ y. p y ≡ true) (sym e) is))
      (subst (λ y. Contains (x ∷ filter p xs) y) e (Contains-here x (filter p xs)))
  | inr t ↦
      let rest : Contains (filter p xs) u = into_filter p xs u t is in
      elim (p x) as (λ b. Contains (cond b (x ∷ filter p xs) (filter p xs)) u) [
        | true ↦ Contains-there x (filter p xs) u rest
        | false ↦ rest
      ]
]

-- `key_at`: each uid at which the entries `es` have a value is one of their keys.
key_at : (es : List (EntityUid × Entry Entity)) (u : EntityUid) → IsSome (value_at uid_cmp es u)
    → Contains (keys_of es) u
key_at [] u h = cc h
key_at (e ∷ es) u h =
    elim (is_eq (uid_cmp u e.0)) as
    (λ b. is_eq (uid_cmp u e.0) ≡ b → IsSome (cond b (Some e.1) (value_at uid_cmp es u))
    → Contains (e.0 ∷ keys_of es) u) [
      | true ↦ λ same h. subst (λ x. Contains (e.0 ∷ keys_of es) x) (sym (same_uid u e.0 same))
          (Contains-here e.0 (keys_of es))
      | false ↦ λ apart h. Contains-there e.0 (keys_of es) u (key_at es u h)
    ] refl h

-- `some_before`: `o` has a value if `option_and_then f o` has one.
some_before : {A B : Type 0} (f : A → Option B) (o : Option A) → IsSome (option_and_then f o) → IsSome o
some_before f None h = h
some_before f (Some x) h = refl

-- `some_mapped`: `option_map f o` has a value if and only if `o` has one.
some_mapped : {A B : Type 0} (f : A → B) (o : Option A) → is_some (option_map f o) ≡ is_some o
some_mapped f None = refl
some_mapped f (Some x) = refl

-- `entities_listed es`: the uids with an entity among the entries `es` are exactly those in `uids_read es`.
pub entities_listed : (es : List (EntityUid × Entry Entity)) → AreListed (data_in (entity_at es)) (uids_read es)
entities_listed es u = (
  (λ m. some_mapped data_of (entity_at es u) ∙ (out_of_filter (λ uid. is_some (entity_at es uid)) (keys_of es) u m).1),
  (λ h.
      let there : is_some (entity_at es u) ≡ true = sym (some_mapped data_of (entity_at es u)) ∙ h in
      into_filter (λ uid. is_some (entity_at es uid)) (keys_of es) u
      (key_at es u (some_before _ (value_at uid_cmp es u) there)) there),
)
