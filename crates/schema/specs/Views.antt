-- Defines the abstract schema as a function of its entries.
use Rattle.std.specs.Prelude.{List, ℕ, map, filter, Option, option_map}
use Rattle.std.specs.Map.{lookup}
use Rattle.std.specs.BTreeMap.{is_at}
use Rattle.schema.specs.declared.spans.NumberSpan.{NumberSpan}
use Rattle.values.specs.declared.entity_uid.EntityUid.{EntityUid}
use Rattle.values.specs.Names.{text_cmp}
use Rattle.schema_types.specs.Cedar.{Cedar}
use Rattle.schema_types.specs.CedarViews.{cedar_view}
use Rattle.schema.specs.declared.parts.Environment.{Environment}
use Rattle.schema.specs.declared.parts.EntityDecl.{EntityDecl}
pub use Rattle.schema.specs.LookUps.{parents_at, is_ancestor, action_has_ancestor}
use Rattle.schema.specs.SchemaEntries.{SchemaEntries}
use Rattle.schema.specs.Schemas.{EnvironmentOf, StatedSchema, IsSchemaOf}

-- `environment_view e` is the abstract value of the environment `e` of the code.
abbrev pub environment_view : Environment → EnvironmentOf
environment_view e = record { place = e.place; context = cedar_view e.context }

-- `shape_at types n` is the shape of the entity type `n` in `types`, if `types` has an entry for it.
abbrev pub shape_at : List (List ℕ × EntityDecl) → List ℕ → Option Cedar
shape_at types n = option_map (λ d. cedar_view d.shape) (lookup (is_at (text_cmp n)) types)

-- `ancestors_among actions numbers spans u` are those of `actions` that are ancestors of the action `u`, by `numbers`
-- and `spans` (`action_has_ancestor`).
abbrev pub ancestors_among : List EntityUid → List (EntityUid × ℕ) → List (List NumberSpan) → EntityUid → List EntityUid
ancestors_among actions numbers spans u = filter (λ above. action_has_ancestor numbers spans u above) actions

-- `schema_view k` is the abstract schema with the entries `k`.
abbrev pub schema_view : SchemaEntries → StatedSchema
schema_view k = record {
  label = k.label;
  environments = map environment_view k.environments;
  actions = k.actions;
  shape = shape_at k.entity_types;
  member_of = parents_at k.member_of;
  ancestors = λ u.
      option_map (λ parents. ancestors_among k.actions k.action_numbers k.action_ancestor_spans u)
      (parents_at k.member_of u);
  may_have_parent = is_ancestor k.type_numbers k.type_ancestor_spans;
}

-- `IsStated k` holds if some bytes describe the schema with the entries `k`.
abbrev pub IsStated : SchemaEntries → Type 0
IsStated k = (bytes : List ℕ) × IsSchemaOf bytes (schema_view k)
