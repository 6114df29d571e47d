-- Defines the form of an entity's JSON, whatever the entity's type.
-- Source: Cedar reference guide 4.0, "Entities and context: JSON format": uid, attrs, parents, tags; a uid is
-- {"type", "id"}, or this object under the key `__entity`.
-- Rules of this product: absent `attrs`, `parents` and `tags` are empty, and null does not count as absent; other keys
-- of an entity are ignored.
use Rattle.std.specs.Prelude.{Bool, true, List, [], ◌&&◌, codes, is_some, Option, Some, None, Result, Ok}
use Rattle.serde_json.specs.Data.{Data, Items, object, no_members}
use Rattle.serde_json.specs.Find.{get, as_array, as_object}
use Rattle.json_words.specs.Keys.{has_only}
use Rattle.json_words.specs.Each.{each, list_of}
use Rattle.json_words.specs.ReadsAs.{◌>>=◌, or_fault, demand}
use Rattle.values.specs.declared.entity_uid.EntityUid.{EntityUid}
use Rattle.entity_uids.specs.Uids.{uid_in}
use Rattle.entities.specs.declared.fault.EntityFault.{EntityFault}
use Rattle.entities.specs.declared.fault.EntityFault.TheVariants.{BadShape}
use Rattle.entities.specs.declared.stated.StatedEntity.{StatedEntity}

-- `is_absent_or_object o` tests whether the value `o` is absent (`None`), or an object.
abbrev pub is_absent_or_object : Option Data → Bool
is_absent_or_object None = true
is_absent_or_object (Some d) = is_some (as_object d)

-- `is_absent_or_empty o` tests whether the value `o` is absent (`None`), or an object without members.
abbrev pub is_absent_or_empty : Option Data → Bool
is_absent_or_empty None = true
is_absent_or_empty (Some d) = has_only [] d

-- `or_empty o` is the value `o`, or an object without members if it is absent.
abbrev pub or_empty : Option Data → Data
or_empty None = object no_members
or_empty (Some d) = d

-- `stated_uid d` is the uid that `d` describes, or `BadShape` if it describes none.
abbrev pub stated_uid : Data → Result EntityUid EntityFault
stated_uid d = or_fault BadShape (uid_in d)

-- `uids_of ds` are the uids that the items `ds` of an array describe, or `BadShape` if one of them describes none.
unfoldable pub uids_of : Items → Result (List EntityUid) EntityFault
uids_of ds = each (λ i d. stated_uid d) 0 (list_of ds)

-- `stated_parents o` are the parents that the value `o` of the key `parents` describes; `[]` if the key is absent, and
-- `BadShape` if `o` is not an array of uids.
abbrev pub stated_parents : Option Data → Result (List EntityUid) EntityFault
stated_parents None = Ok []
stated_parents (Some d) = do
  ds ← or_fault BadShape (as_array d)
  uids_of ds

-- `has_objects d` tests whether the attributes and the tags of `d`, if present, are objects.
abbrev pub has_objects : Data → Bool
has_objects d = is_absent_or_object (get (codes "attrs") d) && is_absent_or_object (get (codes "tags") d)

-- `stated_in d` are the uid and the parents that the JSON `d` of an entity describes, the parents in the order of their
-- array; `BadShape` if `d` does not have the form of an entity.
unfoldable pub stated_in : Data → Result StatedEntity EntityFault
stated_in d = do
  name ← or_fault BadShape (get (codes "uid") d)
  uid ← stated_uid name
  objects ← demand BadShape (has_objects d)
  parents ← stated_parents (get (codes "parents") d)
  Ok (record { uid = uid; parents = parents })
