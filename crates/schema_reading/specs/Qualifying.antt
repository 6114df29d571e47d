-- Defines a schema file with resolved names.
-- Source: Cedar reference guide, "Schema JSON format": action types, `memberOf`, `memberOfTypes`, `appliesTo`.
-- Rules of this product: an action of the empty namespace has the type `Action`, one of a namespace NS the type
-- `NS::Action`; a member of `memberOf` without a type means an action of the same namespace, and an unqualified type of
-- a member is resolved in the namespace that uses it, then in the empty one.
use Rattle.std.specs.Prelude.{ℕ, List, [], ◌∷◌, ◌++◌, map, Bool, Option, Some, None, Result, Ok}
use Rattle.std.specs.Ordering.{is_eq}
use Rattle.std.specs.List.{list_any}
use Rattle.std.specs.Str.{bytes_eq}
use Rattle.json_words.specs.ReadsAs.{◌>>=◌, or_fault}
use Rattle.json_words.specs.Each.{each}
use Rattle.values.specs.declared.entity_uid.EntityUid.{EntityUid}
use Rattle.values.specs.Names.{uid_cmp}
use Rattle.schema_types.specs.Raw.{Raw}
use Rattle.schema_types.specs.Qualified.{Qualified}
use Rattle.schema_types.specs.Expansions.{Declarations}
use Rattle.schema_types.specs.Names.{Scope, full_name, found, qualified_of}
use Rattle.schema_types.specs.Actions.{action_type, action_uid, declared_action, action_of_type}
use Rattle.schema_reading.specs.FileForm.{EntityTypeOf, AppliesToOf, ActionOf, NamespaceOf}
use Rattle.schema_reading.specs.declared.stated.StatedParent.{StatedParent}
use Rattle.schema_types.specs.declared.fault.SchemaFault.{SchemaFault}
use Rattle.schema_types.specs.declared.fault.SchemaFault.TheVariants.{UnknownName}

-- ---- declarations

-- `all_of f xs` is the concatenation of the lists `f x` for each `x` of `xs`, in order.
abbrev pub all_of : {A B : Type 0} → (A → List B) → List A → List B
all_of f [] = []
all_of f (x ∷ xs) = f x ++ all_of f xs

-- A `CommonOf` is a declared common type: its full name, the namespace that declares it, and its type as written.
pub record CommonOf : Type 0 where
  pub name : List ℕ
  pub own : Option (List ℕ)
  pub type : Raw

-- `common_in own c` is the common type `c` of the namespace `own`.
abbrev pub common_in : Option (List ℕ) → List ℕ × Raw → CommonOf
common_in own c = record { name = full_name own c.0; own = own; type = c.1 }

-- `commons_declared ns` are the common types that the namespaces `ns` declare.
abbrev pub commons_declared : List NamespaceOf → List CommonOf
commons_declared ns = all_of (λ n. map (λ c. common_in n.name c) n.commons) ns

-- `entity_types_declared ns` are the full names of the entity types that the namespaces `ns` declare.
abbrev pub entity_types_declared : List NamespaceOf → List (List ℕ)
entity_types_declared ns = all_of (λ n. map (λ e. full_name n.name e.name) n.entity_types) ns

-- `actions_declared ns` are the uids of the actions that the namespaces `ns` declare.
abbrev pub actions_declared : List NamespaceOf → List EntityUid
actions_declared ns = all_of (λ n. map (λ a. action_uid (action_type n.name) a.id) n.actions) ns

-- `scope_in ns` has two tests of a full name: whether it is that of a common type that the namespaces `ns` declare, and
-- whether it is that of an entity type that they declare.
abbrev pub scope_in : List NamespaceOf → Scope
scope_in ns = record {
  commons = λ q. list_any (λ c. bytes_eq c.name q) (commons_declared ns);
  entities = λ q. list_any (λ e. bytes_eq e q) (entity_types_declared ns);
}

-- `is_action_in ns u` tests whether the namespaces `ns` declare the action `u`.
abbrev pub is_action_in : List NamespaceOf → EntityUid → Bool
is_action_in ns u = list_any (λ a. is_eq (uid_cmp a u)) (actions_declared ns)

-- ---- resolved names

-- In the following definitions `s` tests which types the schema file declares (`scope_in`), `is_action` tests which
-- actions it declares (`is_action_in`), and `own` is the namespace that uses a name; `None` is the empty one.

-- A `ResolvedEntityType` is an entity type with its full name, and with the names in it resolved.
pub record ResolvedEntityType : Type 0 where
  pub name : List ℕ
  pub parents : List (List ℕ)
  pub shape : Option Qualified

-- A `ResolvedAppliesTo` is what an action applies to, with resolved names.
pub record ResolvedAppliesTo : Type 0 where
  pub principals : List (List ℕ)
  pub resources : List (List ℕ)
  pub context : Option Qualified

-- A `ResolvedAction` is an action with its uid, and with the names in it resolved.
pub record ResolvedAction : Type 0 where
  pub uid : EntityUid
  pub parents : List EntityUid
  pub applies_to : Option ResolvedAppliesTo

-- A `ResolvedSchema` has the declarations of a namespace, or of a whole file, with resolved names.
pub record ResolvedSchema : Type 0 where
  pub commons : Declarations
  pub entity_types : List ResolvedEntityType
  pub actions : List ResolvedAction

-- `entity_type_named s own w` is the full name of the entity type that `w` means in the namespace `own`, or
-- `UnknownName`.
abbrev pub entity_type_named : Scope → Option (List ℕ) → List ℕ → Result (List ℕ) SchemaFault
entity_type_named s own w = or_fault UnknownName (found s.entities own w)

-- `entity_types_named s own ws` are the full names of the entity types that the names `ws` mean in the namespace `own`,
-- or the first error.
unfoldable pub entity_types_named : Scope → Option (List ℕ) → List (List ℕ) → Result (List (List ℕ)) SchemaFault
entity_types_named s own ws = each (λ i w. entity_type_named s own w) 0 ws

-- `type_named s own o` is the type in `o`, written in the namespace `own`, with resolved names, or the first error;
-- `None` if `o` is `None`.
abbrev pub type_named : Scope → Option (List ℕ) → Option Raw → Result (Option Qualified) SchemaFault
type_named s own None = Ok None
type_named s own (Some r) = do
  t ← qualified_of s own r
  Ok (Some t)

-- `action_meant_at is_action own o id` is the declared action, if there is one, to which the id `id` and the type in
-- `o` refer in the namespace `own`. Without a type (`None`) it is an action of that namespace.
abbrev pub action_meant_at : (EntityUid → Bool) → Option (List ℕ) → Option (List ℕ) → List ℕ → Option EntityUid
action_meant_at is_action own None id = declared_action is_action (action_type own) id
action_meant_at is_action own (Some w) id = action_of_type is_action own w id

-- `action_meant is_action own p` is the declared action that the member `p` of `memberOf` means in the namespace `own`,
-- if there is one.
abbrev pub action_meant : (EntityUid → Bool) → Option (List ℕ) → StatedParent → Option EntityUid
action_meant is_action own p = action_meant_at is_action own p.type_name p.id

-- `parent_named is_action own p` is the declared action that the member `p` of `memberOf` means in the namespace `own`,
-- or `UnknownName`.
unfoldable pub parent_named : (EntityUid → Bool) → Option (List ℕ) → StatedParent → Result EntityUid SchemaFault
parent_named is_action own p = or_fault UnknownName (action_meant is_action own p)

-- `parents_named is_action own ps` are the actions that the members `ps` of `memberOf` mean in the namespace `own`, or
-- the first error.
unfoldable pub parents_named : (EntityUid → Bool) → Option (List ℕ) → List StatedParent
    → Result (List EntityUid) SchemaFault
parents_named is_action own ps = each (λ i p. parent_named is_action own p) 0 ps

-- `qualified_common s own c` is the common type `c` of the namespace `own` with resolved names, or the first error.
unfoldable pub qualified_common : Scope → Option (List ℕ) → List ℕ × Raw → Result (List ℕ × Qualified) SchemaFault
qualified_common s own c = do
  t ← qualified_of s own c.1
  Ok (full_name own c.0, t)

-- `qualified_entity_type s own e` is the entity type `e` of the namespace `own` with resolved names, or the first
-- error.
unfoldable pub qualified_entity_type : Scope → Option (List ℕ) → EntityTypeOf → Result ResolvedEntityType SchemaFault
qualified_entity_type s own e = do
  parents ← entity_types_named s own e.parents
  shape ← type_named s own e.shape
  Ok (record { name = full_name own e.name; parents = parents; shape = shape })

-- `qualified_use s own u` is `u`, what an action of the namespace `own` applies to, with resolved names, or the first
-- error.
unfoldable pub qualified_use : Scope → Option (List ℕ) → AppliesToOf → Result ResolvedAppliesTo SchemaFault
qualified_use s own u = do
  principals ← entity_types_named s own u.principals
  resources ← entity_types_named s own u.resources
  context ← type_named s own u.context
  Ok (record { principals = principals; resources = resources; context = context })

-- `applies_to_named s own o` is the value in `o`, what an action of the namespace `own` applies to, with resolved
-- names, or the first error; `None` if `o` is `None`: the action applies to nothing.
abbrev pub applies_to_named : Scope → Option (List ℕ) → Option AppliesToOf
    → Result (Option ResolvedAppliesTo) SchemaFault
applies_to_named s own None = Ok None
applies_to_named s own (Some u) = do
  applied ← qualified_use s own u
  Ok (Some applied)

-- `qualified_action s is_action own a` is the action `a` of the namespace `own` with resolved names, or the first
-- error.
unfoldable pub qualified_action : Scope → (EntityUid → Bool) → Option (List ℕ) → ActionOf
    → Result ResolvedAction SchemaFault
qualified_action s is_action own a = do
  parents ← parents_named is_action own a.parents
  applies_to ← applies_to_named s own a.applies_to
  Ok (record { uid = action_uid (action_type own) a.id; parents = parents; applies_to = applies_to })

-- `qualified_commons s own cs`, `qualified_entity_types s own es` and `qualified_actions s is_action own us` are the
-- common types `cs`, the entity types `es` and the actions `us` of the namespace `own` with resolved names, or the
-- first error.
unfoldable pub qualified_commons : Scope → Option (List ℕ) → List (List ℕ × Raw)
    → Result (List (List ℕ × Qualified)) SchemaFault
qualified_commons s own cs = each (λ i x. qualified_common s own x) 0 cs

unfoldable pub qualified_entity_types : Scope → Option (List ℕ) → List EntityTypeOf
    → Result (List ResolvedEntityType) SchemaFault
qualified_entity_types s own es = each (λ i x. qualified_entity_type s own x) 0 es

unfoldable pub qualified_actions : Scope → (EntityUid → Bool) → Option (List ℕ) → List ActionOf
    → Result (List ResolvedAction) SchemaFault
qualified_actions s is_action own us = each (λ i x. qualified_action s is_action own x) 0 us

-- `qualified_namespace s is_action n` is the namespace `n` with resolved names, or the first error: `UnknownName`.
unfoldable pub qualified_namespace : Scope → (EntityUid → Bool) → NamespaceOf → Result ResolvedSchema SchemaFault
qualified_namespace s is_action n = do
  commons ← qualified_commons s n.name n.commons
  entity_types ← qualified_entity_types s n.name n.entity_types
  actions ← qualified_actions s is_action n.name n.actions
  Ok (record { commons = commons; entity_types = entity_types; actions = actions })

-- `qualified_namespaces s is_action ns` are the namespaces `ns` with resolved names, or the first error.
unfoldable pub qualified_namespaces : Scope → (EntityUid → Bool) → List NamespaceOf
    → Result (List ResolvedSchema) SchemaFault
qualified_namespaces s is_action ns = each (λ i n. qualified_namespace s is_action n) 0 ns

-- `both a b` has the declarations of `a`, then those of `b`.
abbrev pub both : ResolvedSchema → ResolvedSchema → ResolvedSchema
both a b = record {
  commons = a.commons ++ b.commons;
  entity_types = a.entity_types ++ b.entity_types;
  actions = a.actions ++ b.actions;
}

-- `together parts` has the declarations of all `parts`, in order.
abbrev pub together : List ResolvedSchema → ResolvedSchema
together parts = record {
  commons = all_of (λ p. p.commons) parts;
  entity_types = all_of (λ p. p.entity_types) parts;
  actions = all_of (λ p. p.actions) parts;
}

-- `qualified ns` is the file of the namespaces `ns` with resolved names, or the first error.
unfoldable pub qualified : List NamespaceOf → Result ResolvedSchema SchemaFault
qualified ns = do
  parts ← qualified_namespaces (scope_in ns) (is_action_in ns) ns
  Ok (together parts)
