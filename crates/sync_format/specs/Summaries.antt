-- Defines summaries as messages, written and read.
-- Rules of this product: a summary is {"kind":"summary","schema":label,"stamps":[{"count":n,"name":N,"site":text},
-- ..],"version":2}, with {"entity":{"id":..,"type":..}} or {"policy":id} for N. Each key is required, and no others
-- are allowed; a number is an unsigned 64-bit integer; a site is its name; the names ascend strictly, policies first.
-- Version 1 is read and never written: there a site is a number from 1 to 65,535, which is parsed as the site whose
-- name is the number in five digits (00007 for 7).
use Rattle.std.specs.Prelude.{◌≡◌, true, Bool, ◌&&◌, ◌==◌, ◌≤◌, nat_le, ℕ, List, [], ◌∷◌, length, map, codes}
use Rattle.std.specs.Prelude.{option_and_then, Result, Ok, Err, if◌then◌else◌}
use Rattle.std.specs.List.{AllByRecursion}
use Rattle.std.specs.Ordering.{is_lt}
use Rattle.std.specs.Str.{bytes_eq, IsUtf8}
use Rattle.serde_json.specs.Data.{Data, number, unsigned, string, array, object, Items, no_members, member}
use Rattle.serde_json.specs.Find.{get, as_array, as_number, as_u64}
use Rattle.serde_json.specs.View.{items_of}
use Rattle.serde_json.specs.Written.{compact_text}
use Rattle.json_words.specs.Each.{each, list_of}
use Rattle.json_words.specs.ReadsAs.{◌>>=◌, or_fault, demand}
use Rattle.json_words.specs.Json.{json_of, text_at}
use Rattle.json_words.specs.Keys.{has_only}
use Rattle.plain.specs.Words.{IsPath}
use Rattle.values.specs.declared.name.Name.{Name}
use Rattle.values.specs.declared.name.Name.TheVariants.{Policy, Entity}
use Rattle.values.specs.Names.{name_cmp}
use Rattle.entity_uids.specs.Uids.{uid_in, uid_json}
use Rattle.stamped_store.specs.declared.entry.Stamp.{Stamp}
use Rattle.stamped_store.specs.Deltas.{Summary}
use Rattle.stamped_store.specs.SiteNames.{IsSiteName, is_site_name, five_digits}
use Rattle.sync_format.specs.declared.version.MessageVersion.{MessageVersion}
use Rattle.sync_format.specs.declared.version.MessageVersion.TheVariants.{One, Two}
use Rattle.sync_format.specs.declared.fault.MessageFault.{MessageFault}
use Rattle.sync_format.specs.declared.fault.MessageFault.TheVariants.{NotJson, BadShape, OtherSchema, Version}
use Rattle.sync_format.specs.declared.fault.MessageFault.TheVariants.{CountRange, BadEntry}

-- `ascend m` tests whether the names of `m` ascend strictly.
abbrev pub ascend : Summary → Bool
ascend [] = true
ascend (a ∷ []) = true
ascend (a ∷ b ∷ m) = is_lt (name_cmp a.0 b.0) && ascend (b ∷ m)

-- `IsName n` holds if the name `n` is in its range: a policy's id of 1 to 256 bytes, or an entity's uid whose type is a
-- Path.
abbrev pub IsName : Name → Type 0
IsName (Policy id) = (1 ≤ length id) × (length id ≤ 256)
IsName (Entity uid) = IsPath uid.type_name

-- `IsStamped u` holds if `u` is a name in its range with a stamp in its range: a count from 1 to 10^18 and a site name.
pub record IsStamped (u : Name × Stamp) : Type 0 where
  pub name : IsName u.0
  pub counted : 1 ≤ u.1.count
  pub bounded : u.1.count ≤ 1_000_000_000_000_000_000
  pub site : IsSiteName u.1.site

-- `AreStamped m` holds if each name and stamp of `m` is in its range.
abbrev pub AreStamped : Summary → Type 0
AreStamped m = AllByRecursion IsStamped m

-- `HasTexts n` holds if the strings of the name `n` are UTF-8, as all strings in the code are.
abbrev pub HasTexts : Name → Type 0
HasTexts (Policy id) = IsUtf8 id
HasTexts (Entity uid) = IsUtf8 uid.type_name × IsUtf8 uid.id

-- `HaveTexts m` holds if the strings of each name of `m` are UTF-8.
abbrev pub HaveTexts : Summary → Type 0
HaveTexts m = AllByRecursion (λ u. HasTexts u.0) m

-- `IsWritten m` holds if the summary `m` meets the conditions of the round trip: names and stamps in their ranges,
-- strings in UTF-8, names ascending.
pub record IsWritten (m : Summary) : Type 0 where
  pub stamped : AreStamped m
  pub texts : HaveTexts m
  pub ascending : ascend m ≡ true

-- ---- written

-- `name_json n` is the JSON of the name `n`.
abbrev pub name_json : Name → Data
name_json (Policy id) = object (member (codes "policy") (string id) no_members)
name_json (Entity uid) = object (member (codes "entity") (uid_json uid) no_members)

-- `stamp_json u` is the JSON of the name and stamp `u`.
abbrev pub stamp_json : Name × Stamp → Data
stamp_json u = object (member (codes "count") (number (unsigned u.1.count))
    (member (codes "name") (name_json u.0)
    (member (codes "site") (string u.1.site) no_members)))

-- `summary_json label m` is the JSON of the summary `m` under the schema with the label `label`.
abbrev pub summary_json : List ℕ → Summary → Data
summary_json label m = object (member (codes "kind") (string (codes "summary"))
    (member (codes "schema") (string label)
    (member (codes "stamps") (array (items_of (map stamp_json m)))
    (member (codes "version") (number (unsigned 2)) no_members))))

-- `summary_text label m` is the text of the summary `m` under the schema with the label `label`: compact, keys
-- ascending.
unfoldable pub summary_text : List ℕ → Summary → List ℕ
summary_text label m = compact_text (summary_json label m)

-- ---- read

-- A `StampAt Site` is a stamp whose site is a `Site`: a number in version 1, a name in version 2.
pub record StampAt (Site : Type 0) : Type 0 where
  pub count : ℕ
  pub site : Site

-- `number_at k d` is the unsigned 64-bit integer at the key `k` of `d`, or `BadShape`.
abbrev pub number_at : List ℕ → Data → Result ℕ MessageFault
number_at k d = do
  found ← or_fault BadShape (get k d)
  or_fault BadShape (option_and_then as_u64 (as_number found))

-- `policy_in d` is the name of a policy that the object `d` describes, or `BadShape`.
unfoldable pub policy_in : Data → Result Name MessageFault
policy_in d = do
  id ← or_fault BadShape (text_at (codes "policy") d)
  Ok (Policy id)

-- `entity_name_in d` is the name of an entity that the object `d` describes, or `BadShape`. Of the two spellings of a
-- uid only {"id":..,"type":..} is allowed.
unfoldable pub entity_name_in : Data → Result Name MessageFault
entity_name_in d = do
  alone ← demand BadShape (has_only (codes "entity" ∷ []) d)
  found ← or_fault BadShape (get (codes "entity") d)
  plain ← demand BadShape (has_only (codes "id" ∷ codes "type" ∷ []) found)
  uid ← or_fault BadShape (uid_in found)
  Ok (Entity uid)

-- `name_in d` is the name that the object `d` describes, or `BadShape`.
unfoldable pub name_in : Data → Result Name MessageFault
name_in d = if has_only (codes "policy" ∷ []) d then policy_in d else entity_name_in d

-- `version_in d` is the version of the message `d`, or its error.
unfoldable pub version_in : Data → Result MessageVersion MessageFault
version_in d = do
  version ← number_at (codes "version") d
  if version == 1 then Ok One else (if version == 2 then Ok Two else Err Version)

-- `numbered_in d` is the number of a site at the key `site` of `d`, or `BadShape`.
unfoldable pub numbered_in : Data → Result ℕ MessageFault
numbered_in d = do
  site ← number_at (codes "site") d
  numbered ← demand BadShape (nat_le 1 site && nat_le site 65535)
  Ok site

-- `named_in d` is the name of a site at the key `site` of `d`, or `BadShape`.
unfoldable pub named_in : Data → Result (List ℕ) MessageFault
named_in d = do
  site ← or_fault BadShape (text_at (codes "site") d)
  named ← demand BadShape (is_site_name site)
  Ok site

-- `raised_in d` are the five digits of the number of a site at the key `site` of `d`, or `BadShape`.
unfoldable pub raised_in : Data → Result (List ℕ) MessageFault
raised_in d = do
  site ← numbered_in d
  Ok (five_digits site)

-- `site_in version d` is the name of the site at the key `site` of `d` in the form of `version`, or `BadShape`.
abbrev pub site_in : MessageVersion → Data → Result (List ℕ) MessageFault
site_in One d = raised_in d
site_in Two d = named_in d

-- `stamped_by site_of d` is the name and stamp that the object `d` describes, or the error. `site_of` reads the site;
-- other keys are ignored.
unfoldable pub stamped_by : {Site : Type 0} → (Data → Result Site MessageFault) → Data
    → Result (Name × StampAt Site) MessageFault
stamped_by site_of d = do
  count ← number_at (codes "count") d
  site ← site_of d
  found ← or_fault BadShape (get (codes "name") d)
  name ← name_in found
  Ok (name, record { count = count; site = site })

-- `stamped_in version d` is the name and stamp that the object `d` describes in the form of `version`, or the error;
-- other keys are ignored.
unfoldable pub stamped_in : MessageVersion → Data → Result (Name × Stamp) MessageFault
stamped_in version d = do
  u ← stamped_by (site_in version) d
  Ok (u.0, record { count = u.1.count; site = u.1.site })

-- `stamp_in version d` is the name and stamp that the object `d` describes in the form of `version`, or the error;
-- other keys are an error.
unfoldable pub stamp_in : MessageVersion → Data → Result (Name × Stamp) MessageFault
stamp_in version d = do
  shape ← demand BadShape (has_only (codes "count" ∷ codes "name" ∷ codes "site" ∷ []) d)
  stamped_in version d

-- `stamps_of version ds` is the list of the names and stamps that the objects `ds` describe in the form of `version`,
-- or the first error.
unfoldable pub stamps_of : MessageVersion → Items → Result Summary MessageFault
stamps_of version ds = each (λ i d. stamp_in version d) 0 (list_of ds)

-- `stamps_in version d` is the list of the names and stamps of the summary `d` in the form of `version`, or the first
-- error; names that do not ascend strictly are an error.
unfoldable pub stamps_in : MessageVersion → Data → Result Summary MessageFault
stamps_in version d = do
  found ← or_fault BadShape (get (codes "stamps") d)
  ds ← or_fault BadShape (as_array found)
  stamps ← stamps_of version ds
  ascending ← demand BadShape (ascend stamps)
  Ok stamps

-- `is_name_in_range n` tests whether the parsed name `n` is in its range: a policy's id has 1 to 256 bytes. An entity's
-- uid is in its range, since the type of a parsed uid is a Path.
abbrev pub is_name_in_range : Name → Bool
is_name_in_range (Policy id) = nat_le 1 (length id) && nat_le (length id) 256
is_name_in_range (Entity uid) = true

-- `bad_id` is the code of the error of an id of 0 or over 256 bytes.
abbrev pub bad_id : ℕ
bad_id = 19

-- `checked_stamp place u` is the name and stamp `u`, at the index `place`, if the count and a policy's id are in their
-- ranges; else the error of the count, else that of the id.
unfoldable pub checked_stamp : ℕ → Name × Stamp → Result (Name × Stamp) MessageFault
checked_stamp place u = do
  counted ← demand (CountRange place) (nat_le 1 u.1.count && nat_le u.1.count 1_000_000_000_000_000_000)
  named ← demand (BadEntry place bad_id) (is_name_in_range u.0)
  Ok u

-- `summary_in label d` is the summary that `d` describes under the schema with the label `label`, or the first error.
-- The version is checked before the rest of the shape, the whole shape before the label, and the label before the
-- ranges.
unfoldable pub summary_in : List ℕ → Data → Result Summary MessageFault
summary_in label d = do
  version ← version_in d
  shape ← demand BadShape (has_only (codes "kind" ∷ codes "schema" ∷ codes "stamps" ∷ codes "version" ∷ []) d)
  kind ← or_fault BadShape (text_at (codes "kind") d)
  summary ← demand BadShape (bytes_eq kind (codes "summary"))
  schema ← or_fault BadShape (text_at (codes "schema") d)
  stamps ← stamps_in version d
  same ← demand OtherSchema (bytes_eq schema label)
  each checked_stamp 0 stamps

-- `summary_stated label bytes` is the summary that `bytes` describe under the schema with the label `label`, or the
-- first error.
unfoldable pub summary_stated : List ℕ → List ℕ → Result Summary MessageFault
summary_stated label bytes = do
  d ← or_fault NotJson (json_of bytes)
  summary_in label d
