-- Defines the context that JSON describes under a schema, or the first error.
-- Source: Cedar reference guide 4.0, "Entities and context: JSON format", context.
-- Rules of this product: the order of the errors.
use Rattle.std.specs.Prelude.{ℕ, List, [], ◌∷◌, Bool, ◌&&◌, is_some, Option, Some, None, Result, if◌then◌else◌}
use Rattle.std.specs.Str.{bytes_eq}
use Rattle.serde_json.specs.Data.{Data}
use Rattle.serde_json.specs.Find.{as_object}
use Rattle.json_words.specs.ReadsAs.{◌>>=◌, or_fault, demand}
use Rattle.values.specs.declared.entity_uid.EntityUid.{EntityUid}
use Rattle.values.specs.Fields.{Field}
use Rattle.entity_data.specs.ancestor_search.Decided.{is_same}
use Rattle.schema_types.specs.Cedar.{Cedar}
use Rattle.schema.specs.declared.parts.EnvironmentKey.{EnvironmentKey}
use Rattle.schema.specs.Schemas.{EnvironmentOf, StatedSchema}
use Rattle.entities.specs.Typing.{record_in}
use Rattle.entities.specs.declared.fault.EntityFault.{EntityFault}
use Rattle.entities.specs.declared.fault.EntityFault.TheVariants.{BadShape, NotApplicable}

-- `context_where passes es` is the type of the context in the first of the environments `es` with a place that `passes`
-- accepts; `None` if `passes` accepts none of their places. The place of an environment, an `EnvironmentKey`, is its
-- action, its principal type and its resource type. All environments of an action have the same type of context.
abbrev pub context_where : (EnvironmentKey → Bool) → List EnvironmentOf → Option Cedar
context_where passes [] = None
context_where passes (e ∷ es) = if passes e.place then Some e.context else context_where passes es

-- `is_of_action action place` tests whether `place` has the action `action`.
abbrev pub is_of_action : EntityUid → EnvironmentKey → Bool
is_of_action action place = is_same place.action action

-- `is_place action principal resource place` tests whether `place` has the action `action`, the principal type
-- `principal` and the resource type `resource`.
abbrev pub is_place : EntityUid → List ℕ → List ℕ → EnvironmentKey → Bool
is_place action principal resource place =
    is_same place.action action && (bytes_eq place.principal principal && bytes_eq place.resource resource)

-- `context_in s action d` is the context of `action` that `d` describes under the schema `s`, or the first error.
unfoldable pub context_in : StatedSchema → EntityUid → Data → Result (List Field) EntityFault
context_in s action d = do
  shape ← demand BadShape (is_some (as_object d))
  type ← or_fault NotApplicable (context_where (is_of_action action) s.environments)
  record_in type d
