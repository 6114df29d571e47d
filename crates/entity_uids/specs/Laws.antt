-- Defines the theorems that a JSON value names at most one entity, that `uid_in` finds it if the value is a uid, and
-- that the JSON written for an entity whose type is a Path names the entity.
use Rattle.std.specs.Prelude.{◌≡◌}
use Rattle.serde_json.specs.Data.{Data}
use Rattle.plain.specs.Words.{IsPath}
use Rattle.values.specs.declared.entity_uid.EntityUid.{EntityUid}
use Rattle.entity_uids.specs.Uids.{IsUid, NamesEntity, IsRead, uid_in, uid_json, entity_json}

-- `OneUid`: a JSON value names at most one entity as a uid (`IsUid`).
abbrev pub OneUid : Type 0
OneUid = (d : Data) (uid other : EntityUid) → IsUid d uid → IsUid d other → uid ≡ other

-- `OneName`: a JSON value names at most one entity where a string is allowed too (`NamesEntity`).
abbrev pub OneName : Type 0
OneName = (d : Data) (uid other : EntityUid) → NamesEntity d uid → NamesEntity d other → uid ≡ other

-- `UidsAreFound`: `uid_in` computes the entity that a JSON value names as a uid, if there is one.
abbrev pub UidsAreFound : Type 0
UidsAreFound = (d : Data) → IsRead (IsUid d) (uid_in d)

-- `ReadsBack uid` holds if both forms of JSON that are written for `uid` name it.
pub record ReadsBack (uid : EntityUid) : Type 0 where
  pub plain : IsUid (uid_json uid) uid
  pub under_entity : IsUid (entity_json uid) uid

-- `WrittenIsRead`: if the type of a uid is a Path, both forms of JSON that are written for the uid name it.
abbrev pub WrittenIsRead : Type 0
WrittenIsRead = (uid : EntityUid) → IsPath uid.type_name → ReadsBack uid
