-- Hierarchies of actions and of entity types.
use Rattle.std.proofs.Common.{◌≡◌, Bool, true, false, cond, ℕ, List, [], ◌∷◌, map, refl, ap, subst, inl, inr}
use Rattle.std.specs.Prelude.{Contains, ◌⊎◌}
use Rattle.std.specs.Ordering.{is_eq}
use Rattle.values.specs.declared.entity_uid.EntityUid.{EntityUid}
use Rattle.values.specs.Names.{uid_cmp}
use Rattle.ancestor_search.specs.Hierarchy.{Parents, Path, IsAncestor, no_parents, with_parents}
use Rattle.ancestor_search.specs.Deciding.{Contains-here, Contains-there, Contains-cases, Contains-none, same_uid}
use Rattle.schema_reading.specs.Qualifying.{ResolvedEntityType, ResolvedAction, ResolvedSchema}
use Rattle.schema_reading.specs.Laws.{IsEntityType, NamesItsEntityTypes}
use Rattle.schema.specs.Schemas.{type_uid, with_types, with_actions, type_parents}

-- ---- who has parents

declared_at : (e : ResolvedEntityType) (old : List EntityUid) (u a : EntityUid) (b : Bool) → is_eq (uid_cmp (type_uid e.name) u) ≡ b
    → Contains (cond b (map type_uid e.parents) old) a → (type_uid e.name ≡ u) ⊎ Contains old a
declared_at e old u a true same h = inl (same_uid (type_uid e.name) u same)
declared_at e old u a false apart h = inr h

pub has_parent : (parents : Parents) (es : List ResolvedEntityType) (u a : EntityUid) → Contains (with_types parents es u) a
    → ((e : ResolvedEntityType) × Contains es e × (type_uid e.name ≡ u)) ⊎ Contains (parents u) a
has_parent parents [] u a h = inr h
has_parent parents (e ∷ es) u a h = elim (has_parent (with_parents parents (type_uid e.name) (map type_uid e.parents)) es u a h) [
  | inl found ↦ inl (found.0, Contains-there e es found.0 found.1, found.2)
  | inr before ↦ elim (declared_at e (parents u) u a (is_eq (uid_cmp (type_uid e.name) u)) refl before) [
    | inl same ↦ inl (e, Contains-here e es, same)
    | inr older ↦ inr older
  ]
]

pub first_edge : (parents : Parents) (b : EntityUid) (through : List EntityUid) (a : EntityUid) → Path parents b through a → (c : EntityUid) × Contains (parents b) c
first_edge parents b [] a h = (a, h)
first_edge parents b (c ∷ cs) a h = (c, h.0)

-- what has something above it is declared
pub is_declared : (es : List ResolvedEntityType) (b a : EntityUid) → IsAncestor (with_types no_parents es) a b → (e : ResolvedEntityType) × Contains es e × (type_uid e.name ≡ b)
is_declared es b a h =
    let edge = first_edge (with_types no_parents es) b h.0 a h.1 in
    elim (has_parent no_parents es b edge.0 edge.1) [
      | inl found ↦ found
      | inr none ↦ Contains-none edge.0 none
    ]

-- an edge is one that is stated
edge_at : (e : ResolvedEntityType) (old : List EntityUid) (a : EntityUid) (b : Bool) → Contains (cond b (map type_uid e.parents) old) a → Contains (map type_uid e.parents) a ⊎ Contains old a
edge_at e old a true h = inl h
edge_at e old a false h = inr h

edge_from : (parents : Parents) (es : List ResolvedEntityType) (u a : EntityUid) → Contains (with_types parents es u) a → ((e : ResolvedEntityType) × Contains es e × Contains (map type_uid e.parents) a) ⊎ Contains (parents u) a
edge_from parents [] u a h = inr h
edge_from parents (e ∷ es) u a h = elim (edge_from (with_parents parents (type_uid e.name) (map type_uid e.parents)) es u a h) [
  | inl found ↦ inl (found.0, Contains-there e es found.0 found.1, found.2)
  | inr before ↦ elim (edge_at e (parents u) a (is_eq (uid_cmp (type_uid e.name) u)) before) [
    | inl here ↦ inl (e, Contains-here e es, here)
    | inr older ↦ inr older
  ]
]

pub type_edge : (es : List ResolvedEntityType) (u a : EntityUid) → Contains (with_types no_parents es u) a → (e : ResolvedEntityType) × Contains es e × Contains (map type_uid e.parents) a
type_edge es u a h = elim (edge_from no_parents es u a h) [
  | inl found ↦ found
  | inr none ↦ Contains-none a none
]

-- and so it is of actions
action_edge_at : (x : ResolvedAction) (old : List EntityUid) (a : EntityUid) (b : Bool) → Contains (cond b x.parents old) a → Contains x.parents a ⊎ Contains old a
action_edge_at x old a true h = inl h
action_edge_at x old a false h = inr h

action_edge_from : (parents : Parents) (xs : List ResolvedAction) (u a : EntityUid) → Contains (with_actions parents xs u) a → ((x : ResolvedAction) × Contains xs x × Contains x.parents a) ⊎ Contains (parents u) a
action_edge_from parents [] u a h = inr h
action_edge_from parents (x ∷ xs) u a h = elim (action_edge_from (with_parents parents x.uid x.parents) xs u a h) [
  | inl found ↦ inl (found.0, Contains-there x xs found.0 found.1, found.2)
  | inr before ↦ elim (action_edge_at x (parents u) a (is_eq (uid_cmp x.uid u)) before) [
    | inl here ↦ inl (x, Contains-here x xs, here)
    | inr older ↦ inr older
  ]
]

pub action_edge : (xs : List ResolvedAction) (u a : EntityUid) → Contains (with_actions no_parents xs u) a → (x : ResolvedAction) × Contains xs x × Contains x.parents a
action_edge xs u a h = elim (action_edge_from no_parents xs u a h) [
  | inl found ↦ found
  | inr none ↦ Contains-none a none
]

-- ---- which entity types are declared

pub contains_map : {A B : Type 0} (f : A → B) (xs : List A) (y : B) → Contains (map f xs) y → (x : A) × Contains xs x × (f x ≡ y)
contains_map f [] y h = Contains-none y h
contains_map f (x ∷ xs) y h = elim (Contains-cases (f x) (map f xs) y h) [
  | inl same ↦ (x, Contains-here x xs, same)
  | inr later ↦ let found = contains_map f xs y later in (found.0, Contains-there x xs found.0 found.1, found.2)
]

pub last_edge : (parents : Parents) (b : EntityUid) (through : List EntityUid) (a : EntityUid) → Path parents b through a → (u : EntityUid) × Contains (parents u) a
last_edge parents b [] a h = (b, h)
last_edge parents b (c ∷ cs) a h = last_edge parents c cs a h.1

module _ (s : ResolvedSchema) (own : NamesItsEntityTypes s) where
  parent_declared : (e : ResolvedEntityType) (above : List ℕ) → Contains s.entity_types e → (x : List ℕ) × Contains e.parents x × (type_uid x ≡ type_uid above) → IsEntityType s above
  parent_declared e above here (x, there, same) = subst (λ (q : List ℕ). IsEntityType s q) (ap (λ (u : EntityUid). u.type_name) same) (own.parents e here x there)

  pub above_declared : (child above : List ℕ) → IsAncestor (type_parents s) (type_uid above) (type_uid child) → IsEntityType s above
  above_declared child above h =
      let edge = last_edge (type_parents s) (type_uid child) h.0 (type_uid above) h.1 in
      let e = type_edge s.entity_types edge.0 (type_uid above) edge.1 in
      parent_declared e.0 above e.1 (contains_map type_uid e.0.parents (type_uid above) e.2)

pub below_declared : (s : ResolvedSchema) (child above : List ℕ) → IsAncestor (type_parents s) (type_uid above) (type_uid child) → IsEntityType s child
below_declared s child above h =
    let e = is_declared s.entity_types (type_uid child) (type_uid above) h in
    (e.0, e.1, ap (λ (u : EntityUid). u.type_name) e.2)
