-- Defines the parts of a schema, with each map as the list of its entries, which ascend by key. Actions and entity
-- types are numbered, and the ancestors of each are given as spans of numbers.
use Rattle.std.specs.Prelude.{ℕ, List}
use Rattle.std.specs.BTreeMap.{BTreeMap}
use Rattle.schema.specs.declared.spans.NumberSpan.{NumberSpan}
use Rattle.values.specs.declared.entity_uid.EntityUid.{EntityUid}
use Rattle.schema.specs.declared.parts.Environment.{Environment}
use Rattle.schema.specs.declared.parts.EntityDecl.{EntityDecl}

-- `SchemaEntries` are the parts of a schema, with each map as the list of its entries.
pub record SchemaEntries : Type 0 where
  pub label : List ℕ
  pub environments : List Environment
  pub actions : List EntityUid
  -- the entity types by their names
  pub entity_types : List (List ℕ × EntityDecl)
  -- the parents of each action, as its `memberOf` lists them
  pub member_of : List (EntityUid × List EntityUid)
  -- the number of each action
  pub action_numbers : List (EntityUid × ℕ)
  -- at the index that is an action's number, the spans of the numbers of the action's ancestors
  pub action_ancestor_spans : List (List NumberSpan)
  -- the number of each entity type
  pub type_numbers : List (List ℕ × ℕ)
  -- at the index that is a type's number, the spans of the numbers of the type's ancestors
  pub type_ancestor_spans : List (List NumberSpan)

-- `kept label environments actions shapes member_of action_numbers action_spans type_numbers type_spans` collects these
-- parts of a schema, with each map as the list of its entries. `action_spans` and `type_spans` are the spans of
-- ancestors.
abbrev pub kept : List ℕ → List Environment → List EntityUid → BTreeMap (List ℕ) EntityDecl
    → BTreeMap EntityUid (List EntityUid) → BTreeMap EntityUid ℕ → List (List NumberSpan) → BTreeMap (List ℕ) ℕ
    → List (List NumberSpan) → SchemaEntries
kept label environments actions shapes member_of action_numbers action_spans type_numbers type_spans = record {
  label = label;
  environments = environments;
  actions = actions;
  entity_types = shapes.entries;
  member_of = member_of.entries;
  action_numbers = action_numbers.entries;
  action_ancestor_spans = action_spans;
  type_numbers = type_numbers.entries;
  type_ancestor_spans = type_spans;
}
