-- Defines the entities that a JSON array describes.
-- Source: Cedar reference guide 4.0, "Entities and context: JSON format".
-- Rules of this product: entities are parsed in order, and the error of an entity itself comes before the error that
-- its uid occurs twice. The uids of an array are distinct. The error of a text that is not an array has no place.
use Rattle.std.specs.Prelude.{Bool, false, not, ℕ, List, take, Some, None, Result, Ok, Err}
use Rattle.std.specs.List.{list_any}
use Rattle.serde_json.specs.Data.{Data, Items}
use Rattle.serde_json.specs.Find.{as_array}
use Rattle.json_words.specs.Json.{json_of}
use Rattle.json_words.specs.Each.{each, list_of}
use Rattle.json_words.specs.ReadsAs.{◌>>=◌, or_fault, demand}
use Rattle.values.specs.declared.entity_uid.EntityUid.{EntityUid}
use Rattle.entity_data.specs.ancestor_search.Decided.{is_same}
use Rattle.entity_data.specs.declared.entity.Entity.{Entity}
use Rattle.answer_lines.specs.declared.refusal.Refusal.{Refusal}
use Rattle.answer_lines.specs.Refusals.{bad_shape, error_placed_at}
use Rattle.decision_texts.specs.Settings.{Reading}

-- `names uid r` tests whether `r` is an entity with the uid `uid`.
abbrev pub names : EntityUid → Result Entity Refusal → Bool
names uid (Ok e) = is_same e.uid uid
names uid (Err refusal) = false

-- `placed place r` is `r`, with its error reported at the index `place`.
abbrev pub placed : ℕ → Result Entity Refusal → Result Entity Refusal
placed place (Ok e) = Ok e
placed place (Err refusal) = Err (error_placed_at place refusal)

-- `entity_at r ds place d` is the entity that `d` describes in the setting `r`, or an error; `d` is the item of the
-- array `ds` at the index `place`. The error is that of `d` itself, else 30 (bad shape) if an earlier item describes an
-- entity with the same uid.
unfoldable pub entity_at : Reading → List Data → ℕ → Data → Result Entity Refusal
entity_at r ds place d = do
  entity ← placed place (r.entity d)
  first ← demand (bad_shape (Some place))
      (not (list_any (λ earlier. names entity.uid (r.entity earlier)) (take place ds)))
  Ok entity

-- `entities_in r ds` are the entities that the items `ds` of an array describe in the setting `r`, or the first error
-- with its index.
unfoldable pub entities_in : Reading → Items → Result (List Entity) Refusal
entities_in r ds = each (entity_at r (list_of ds)) 0 (list_of ds)

-- `entities_of r text` are the entities that the JSON array `text` describes in the setting `r`, or the first error.
unfoldable pub entities_of : Reading → List ℕ → Result (List Entity) Refusal
entities_of r text = do
  d ← or_fault (bad_shape None) (json_of text)
  ds ← or_fault (bad_shape None) (as_array d)
  entities_in r ds
