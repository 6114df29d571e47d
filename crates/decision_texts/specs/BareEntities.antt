-- Defines which JSON describes which entity without a schema, as a relation.
-- Source: Cedar reference guide 4.0, "Entities and context: JSON format": uid, attrs, parents, tags; a uid is
-- {"type", "id"}, or this object under the key `__entity`.
-- Rules of this product: without a schema an entity has neither attributes nor tags; absent `attrs`, `parents` and
-- `tags` are empty, and null is not absent; further keys of an entity are ignored.
use Rattle.std.specs.Prelude.{◌≡◌, ◌↔◌, ◌⊎◌, ℕ, List, [], Some, None, Contains, codes}
use Rattle.std.specs.List.{AllZip}
use Rattle.serde_json.specs.Data.{Data, Items, array, object, no_members}
use Rattle.serde_json.specs.Find.{get}
use Rattle.json_words.specs.Each.{list_of}
use Rattle.values.specs.declared.entity_uid.EntityUid.{EntityUid}
use Rattle.entity_data.specs.ancestor_search.Hierarchy.{IsAscending}
use Rattle.entity_data.specs.declared.entity.Entity.{Entity}
use Rattle.answer_lines.specs.entity_uids.Uids.{IsUid}

-- `IsEmptyAt key d` holds if `d` has nothing at `key`, or an object without members.
abbrev pub IsEmptyAt : List ℕ → Data → Type 0
IsEmptyAt key d = (get key d ≡ None) ⊎ (get key d ≡ Some (object no_members))

-- `ParentsAt d uids` holds if `d` has at the key `parents` an array whose items describe `uids`, index by index, or has
-- nothing there and `uids` is empty.
pub data ParentsAt (d : Data) : List EntityUid → Type 0 where
  parents_stand : (ds : Items) (uids : List EntityUid) → get (codes "parents") d ≡ Some (array ds)
      → AllZip IsUid (list_of ds) uids → ParentsAt d uids
  no_parents : get (codes "parents") d ≡ None → ParentsAt d []

-- `DescribesBareEntity d e` holds if `d` describes the entity `e`: the value of `d` at the key `uid` describes the uid
-- of `e`, `d` has neither attributes nor tags, and `e` has no attributes. The parents of `e` ascend, without
-- duplicates, and `d` lists the same parents, in any order and perhaps repeated.
pub record DescribesBareEntity (d : Data) (e : Entity) : Type 0 where
  pub listed : List EntityUid
  pub found : Data
  pub at_uid : get (codes "uid") d ≡ Some found
  pub named : IsUid found e.uid
  pub no_attributes : IsEmptyAt (codes "attrs") d
  pub no_tags : IsEmptyAt (codes "tags") d
  pub has_parents : ParentsAt d listed
  pub ascend : IsAscending e.parents
  pub same : (parent : EntityUid) → Contains e.parents parent ↔ Contains listed parent
  pub attributes_are_empty : e.attrs ≡ []
