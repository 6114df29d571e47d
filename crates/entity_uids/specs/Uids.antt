-- Defines the JSON that names an entity.
-- Source: Cedar reference guide 4.0, "Entities and context: JSON format": a uid is {"type", "id"}, or this object under
-- the key `__entity`.
-- Rules of this product: neither object has another key.
use Rattle.std.specs.Prelude.{◌≡◌, true, ℕ, List, [], ◌∷◌, Option, Some, None, MatchOption, if◌then◌else◌, codes}
use Rattle.serde_json.specs.Data.{Data, string, object, no_members, member}
use Rattle.serde_json.specs.Find.{get, as_str}
use Rattle.json_words.specs.Json.{text_at}
use Rattle.json_words.specs.Keys.{has_only}
use Rattle.plain.specs.Words.{IsPath}
use Rattle.values.specs.Paths.{is_path}
use Rattle.policy_grammar.specs.PolicyText.{IsUidText}
use Rattle.values.specs.declared.entity_uid.EntityUid.{EntityUid}

-- `IsPlainUid d uid` holds if `d` is the object {"type": T, "id": I}, where T is the type of `uid`, which is a Path of
-- the policy grammar, and I is the id of `uid`.
pub record IsPlainUid (d : Data) (uid : EntityUid) : Type 0 where
  pub alone : has_only (codes "type" ∷ codes "id" ∷ []) d ≡ true
  pub type_name : text_at (codes "type") d ≡ Some uid.type_name
  pub path : IsPath uid.type_name
  pub id : text_at (codes "id") d ≡ Some uid.id

-- `IsUnderEntity d inner uid` holds if the object `d` has no other key than `__entity`, and `IsPlainUid inner uid`
-- holds. `IsUid` passes the value of `d` at that key as `inner`.
pub record IsUnderEntity (d inner : Data) (uid : EntityUid) : Type 0 where
  pub alone : has_only (codes "__entity" ∷ []) d ≡ true
  pub is : IsPlainUid inner uid

-- `IsUid d uid` holds if `d` names `uid`, in one of these two forms.
abbrev pub IsUid : Data → EntityUid → Type 0
IsUid d uid = MatchOption (get (codes "__entity") d) (IsPlainUid d uid) (λ inner. IsUnderEntity d inner uid)

-- `NamesEntity d uid` holds if `d` names `uid` where a string is allowed too: `d` is a string such as `User::"alice"`,
-- in policy syntax, or `IsUid d uid`.
abbrev pub NamesEntity : Data → EntityUid → Type 0
NamesEntity d uid = MatchOption (as_str d) (IsUid d uid) (λ text. IsUidText text uid)

-- `IsRead Names read` holds if `read` is an entity for which `Names` holds, or `None` if there is no such entity.
abbrev pub IsRead : (EntityUid → Type 0) → Option EntityUid → Type 0
IsRead Names read = MatchOption read ((uid : EntityUid) → Names uid → ⊥) Names

-- ---- `IsPlainUid` and `IsUid` as functions, for contracts about JSON that contains uids

-- `uid_made_of name id` is the uid with the type `name` and the id `id`, if both are present and the type is a Path;
-- else `None`.
abbrev pub uid_made_of : Option (List ℕ) → Option (List ℕ) → Option EntityUid
uid_made_of None id = None
uid_made_of (Some name) None = None
uid_made_of (Some name) (Some id) = if is_path name then Some (record { type_name = name; id = id }) else None

-- `plain_uid_in d` is the uid for which `IsPlainUid d` holds, if there is one.
unfoldable pub plain_uid_in : Data → Option EntityUid
plain_uid_in d =
    if has_only (codes "type" ∷ codes "id" ∷ []) d then uid_made_of (text_at (codes "type") d) (text_at (codes "id") d)
    else None

-- `uid_under d inner` is the uid that `d` names, if it names one. `inner` is the value of `d` at the key `__entity`;
-- `None` if `d` does not have this key.
abbrev pub uid_under : Data → Option Data → Option EntityUid
uid_under d None = plain_uid_in d
uid_under d (Some inner) = if has_only (codes "__entity" ∷ []) d then plain_uid_in inner else None

-- `uid_in d` is the uid for which `IsUid d` holds, if there is one.
unfoldable pub uid_in : Data → Option EntityUid
uid_in d = uid_under d (get (codes "__entity") d)

-- `with_first o os` is the list `os` with the uid `o` in front, or `None` if `o` or `os` is `None`.
abbrev pub with_first : Option EntityUid → Option (List EntityUid) → Option (List EntityUid)
with_first (Some uid) (Some uids) = Some (uid ∷ uids)
with_first (Some uid) None = None
with_first None uids = None

-- `uids_in ds` are the entities that the values `ds` name, in order, or `None` if any value names no entity.
abbrev pub uids_in : List Data → Option (List EntityUid)
uids_in [] = Some []
uids_in (d ∷ ds) = with_first (uid_in d) (uids_in ds)

-- ---- writing

-- `uid_json uid` is the JSON that is written for `uid`, such as {"id":"alice","type":"User"}.
abbrev pub uid_json : EntityUid → Data
uid_json uid = object (member (codes "id") (string uid.id) (member (codes "type") (string uid.type_name) no_members))

-- `entity_json uid` is the JSON that is written for `uid` as an attribute's value, such as
-- {"__entity":{"id":"alice","type":"User"}}.
abbrev pub entity_json : EntityUid → Data
entity_json uid = object (member (codes "__entity") (uid_json uid) no_members)
