-- Defines the canonical JSON and the canonical text of an entity.
-- Rules of this product: the text is compact, with ascending keys; the uid and the parents are {"id", "type"}; the
-- parents are in their order, which ascends in each entity; each attribute has its canonical JSON.
use Rattle.std.specs.Prelude.{ℕ, List, map, codes}
use Rattle.serde_json.specs.Data.{Data, object, array, no_members, member}
use Rattle.serde_json.specs.View.{items_of}
use Rattle.serde_json.specs.Written.{compact_text}
use Rattle.values.specs.Values.{fields_of}
use Rattle.entity_uids.specs.Uids.{uid_json}
use Rattle.entities.specs.CanonicalValues.{fields_json}
use Rattle.entity_data.specs.declared.entity.Entity.{Entity}

-- `canonical_json e` is the canonical JSON of the entity `e`.
abbrev pub canonical_json : Entity → Data
canonical_json e = object (member (codes "attrs") (object (fields_json (fields_of e.attrs)))
    (member (codes "parents") (array (items_of (map uid_json e.parents)))
    (member (codes "uid") (uid_json e.uid) no_members)))

-- `canonical_text e` is the compact text of the canonical JSON of `e`, such as
-- {"attrs":{"age":1},"parents":[{"id":"g","type":"Group"}],"uid":{"id":"alice","type":"User"}}
unfoldable pub canonical_text : Entity → List ℕ
canonical_text e = compact_text (canonical_json e)
