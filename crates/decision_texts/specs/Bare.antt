-- Defines which entity a JSON value describes without a schema.
-- Source: Cedar reference guide 4.0, "Entities and context: JSON format": uid, attrs, parents, tags; a uid is
-- {"type", "id"}, or this object under the key `__entity`.
-- Rules of this product: without a schema an entity is bare: it has no attributes and no tags. Absent `attrs`,
-- `parents` and `tags` are empty, and null does not count as absent. Other keys of an entity are ignored, but other
-- keys of a uid are rejected.
use Rattle.std.specs.Prelude.{◌&&◌, Bool, true, List, [], codes, Option, Some, None, Result, Ok}
use Rattle.serde_json.specs.Data.{Data, Items}
use Rattle.serde_json.specs.Find.{get, as_array}
use Rattle.json_words.specs.Keys.{has_only}
use Rattle.json_words.specs.Each.{each, list_of}
use Rattle.json_words.specs.ReadsAs.{◌>>=◌, or_fault, demand}
use Rattle.values.specs.declared.entity_uid.EntityUid.{EntityUid}
use Rattle.entity_data.specs.declared.entity.Entity.{Entity}
use Rattle.entity_data.specs.UidSets.{uid_set}
use Rattle.answer_lines.specs.entity_uids.Uids.{uid_in}
use Rattle.decision_texts.specs.declared.bare.ShapeFault.{ShapeFault}
use Rattle.decision_texts.specs.declared.bare.ShapeFault.TheVariants.{BadShape}

-- `stated_uid d` is the uid that `d` describes, or `BadShape` if it describes none.
abbrev pub stated_uid : Data → Result EntityUid ShapeFault
stated_uid d = or_fault BadShape (uid_in d)

-- `is_absent_or_empty o` tests whether the value `o` is absent (`None`), or an object without members.
abbrev pub is_absent_or_empty : Option Data → Bool
is_absent_or_empty None = true
is_absent_or_empty (Some d) = has_only [] d

-- `uids_of ds` are the uids that the items `ds` of an array describe, or `BadShape` if any item describes no uid.
unfoldable pub uids_of : Items → Result (List EntityUid) ShapeFault
uids_of ds = each (λ i d. stated_uid d) 0 (list_of ds)

-- `stated_parents o` are the parents that the value `o` of the key `parents` describes; `[]` if the key is absent, and
-- `BadShape` if `o` is not an array of uids.
abbrev pub stated_parents : Option Data → Result (List EntityUid) ShapeFault
stated_parents None = Ok []
stated_parents (Some d) = do
  ds ← or_fault BadShape (as_array d)
  uids_of ds

-- `bare_parents o` are the parents that `stated_parents o` describes, ascending and without duplicates; else its error.
unfoldable pub bare_parents : Option Data → Result (List EntityUid) ShapeFault
bare_parents o = do
  listed ← stated_parents o
  Ok (uid_set listed)

-- `is_bare d` tests whether the entity that `d` describes has no attributes and no tags.
abbrev pub is_bare : Data → Bool
is_bare d = is_absent_or_empty (get (codes "attrs") d) && is_absent_or_empty (get (codes "tags") d)

-- `entity_of d` is the entity that `d` describes, or `BadShape` if it describes none.
unfoldable pub entity_of : Data → Result Entity ShapeFault
entity_of d = do
  name ← or_fault BadShape (get (codes "uid") d)
  uid ← stated_uid name
  bare ← demand BadShape (is_bare d)
  parents ← bare_parents (get (codes "parents") d)
  Ok (record { uid = uid; attrs = []; parents = parents })
