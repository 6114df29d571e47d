-- Defines states and deltas as messages, written and read.
-- Rules of this product: the form is {"entries":[{"body":text or null,"count":n,"name":N,"site":text},
-- ..],"kind":K,"schema":label,"version":2}, with "state" or "delta" for K, and {"entity":{"id":..,"type":..}} or
-- {"policy":id} for N. Each key is required, no others are allowed, and the `body` of a tombstone is null. Messages
-- are written compact, keys ascending, entries by name. A JSON text of this form with the schema's label is parsed as
-- a message if counts are unsigned 64-bit integers, sites are site names, types are Paths, and the message passes the
-- checks of Updates.antt. Entries may be in any order; two may have the same name. Version 1, where a site is a
-- number, is read and never written.
use Rattle.std.specs.Prelude.{◌||◌, Bool, ℕ, List, [], ◌∷◌, map, codes, is_some, Option, Some, None}
use Rattle.std.specs.Prelude.{Result, Ok, if◌then◌else◌}
use Rattle.std.specs.Str.{bytes_eq}
use Rattle.serde_json.specs.Data.{Data, null, number, unsigned, string, array, object, Items, no_members, member}
use Rattle.serde_json.specs.Find.{get, as_null, as_str, as_array}
use Rattle.serde_json.specs.View.{items_of}
use Rattle.serde_json.specs.Written.{compact_text}
use Rattle.json_words.specs.Each.{each, list_of}
use Rattle.json_words.specs.ReadsAs.{◌>>=◌, or_fault, demand}
use Rattle.json_words.specs.Json.{json_of, text_at}
use Rattle.json_words.specs.Keys.{has_only}
use Rattle.values.specs.declared.name.Name.{Name}
use Rattle.stamped_store.specs.Store.{Store, Update, updates, issued}
use Rattle.sync_format.specs.declared.fault.MessageFault.{MessageFault}
use Rattle.sync_format.specs.declared.fault.MessageFault.TheVariants.{NotJson, BadShape, OtherSchema}
use Rattle.sync_format.specs.declared.version.MessageVersion.{MessageVersion}
use Rattle.sync_format.specs.Summaries.{name_json, version_in, stamped_in}

-- ---- written

-- `body_json body` is the JSON of `body`: a string, or null for a tombstone.
abbrev pub body_json : Option (List ℕ) → Data
body_json None = null
body_json (Some text) = string text

-- `entry_json u` is the JSON of the update `u`.
abbrev pub entry_json : Update → Data
entry_json u = object (member (codes "body") (body_json u.1.body)
    (member (codes "count") (number (unsigned u.1.count))
    (member (codes "name") (name_json u.0)
    (member (codes "site") (string u.1.site) no_members))))

-- `message_json kind label us` is the JSON of the updates `us` as a message of the kind `kind` for the schema with the
-- label `label`.
abbrev pub message_json : List ℕ → List ℕ → List Update → Data
message_json kind label us = object (member (codes "entries") (array (items_of (map entry_json us)))
    (member (codes "kind") (string kind)
    (member (codes "schema") (string label)
    (member (codes "version") (number (unsigned 2)) no_members))))

-- `state_json label s` is the JSON of the store `s` as a state for the schema with the label `label`: the updates of
-- `s` in the order of the names.
abbrev pub state_json : List ℕ → Store → Data
state_json label s = message_json (codes "state") label (updates s)

-- `delta_json label s` is the JSON of `s`, a part of a store, as a delta for the schema with the label `label`.
abbrev pub delta_json : List ℕ → Store → Data
delta_json label s = message_json (codes "delta") label (updates s)

-- `state_text label s` is the text of `state_json label s`: compact, keys ascending.
unfoldable pub state_text : List ℕ → Store → List ℕ
state_text label s = compact_text (state_json label s)

-- `delta_text label s` is the text of `delta_json label s`: compact, keys ascending.
unfoldable pub delta_text : List ℕ → Store → List ℕ
delta_text label s = compact_text (delta_json label s)

-- `updates_json label us` is the JSON of the updates `us`, in their order and with repeats, as a delta for the schema
-- with the label `label`. That of a store's updates is the store's as a delta.
abbrev pub updates_json : List ℕ → List Update → Data
updates_json label us = message_json (codes "delta") label us

-- `updates_text label us` is the text of `updates_json label us`: compact, keys ascending.
unfoldable pub updates_text : List ℕ → List Update → List ℕ
updates_text label us = compact_text (updates_json label us)

-- ---- read

-- `text_in d` is the body with the text of the string `d`, or `BadShape` if `d` is not a string.
unfoldable pub text_in : Data → Result (Option (List ℕ)) MessageFault
text_in d = do
  text ← or_fault BadShape (as_str d)
  Ok (Some text)

-- `body_in d` is the body that `d` describes: the text of a string, or `None` for null (a tombstone); else `BadShape`.
unfoldable pub body_in : Data → Result (Option (List ℕ)) MessageFault
body_in d = if is_some (as_null d) then Ok None else text_in d

-- `entry_by stamped_of entry_of d` is the update that the object `d` describes, or the error of `d`. `stamped_of` reads
-- the name and the stamp, and `entry_of` makes the entry from the stamp and the body, whose text is not parsed.
unfoldable pub entry_by : {S E : Type 0} → (Data → Result (Name × S) MessageFault) → (S → Option (List ℕ) → E) → Data
    → Result (Name × E) MessageFault
entry_by stamped_of entry_of d = do
  shape ← demand BadShape (has_only (codes "body" ∷ codes "count" ∷ codes "name" ∷ codes "site" ∷ []) d)
  found ← or_fault BadShape (get (codes "body") d)
  body ← body_in found
  u ← stamped_of d
  Ok (u.0, entry_of u.1 body)

-- `entry_in version d` is the update that the object `d` describes in the form of `version`, or the error of `d`.
unfoldable pub entry_in : MessageVersion → Data → Result Update MessageFault
entry_in version d = entry_by (stamped_in version) issued d

-- `entries_of update_of ds` is the list of the updates that the objects `ds` describe, each read by `update_of`, or the
-- first error.
unfoldable pub entries_of : {U : Type 0} → (Data → Result U MessageFault) → Items → Result (List U) MessageFault
entries_of update_of ds = each (λ i d. update_of d) 0 (list_of ds)

-- `entries_by update_of d` is the list of the updates of the message `d`, each read by `update_of`, or the first error.
unfoldable pub entries_by : {U : Type 0} → (Data → Result U MessageFault) → Data → Result (List U) MessageFault
entries_by update_of d = do
  found ← or_fault BadShape (get (codes "entries") d)
  ds ← or_fault BadShape (as_array found)
  entries_of update_of ds

-- `entries_in version d` is the list of the updates of the message `d` in the form of `version`, or the first error.
unfoldable pub entries_in : MessageVersion → Data → Result (List Update) MessageFault
entries_in version d = entries_by (entry_in version) d

-- `is_kind kind` tests whether `kind` is the kind of a state or of a delta.
abbrev pub is_kind : List ℕ → Bool
is_kind kind = bytes_eq kind (codes "state") || bytes_eq kind (codes "delta")

-- `updates_by entries label d` is the list of the updates of the message `d`, as `entries` reads them, for the schema
-- with the label `label`, or the first error. The whole shape, all entries included, is checked before the label.
unfoldable pub updates_by : {U : Type 0} → (Data → Result (List U) MessageFault) → List ℕ → Data
    → Result (List U) MessageFault
updates_by entries label d = do
  shape ← demand BadShape (has_only (codes "entries" ∷ codes "kind" ∷ codes "schema" ∷ codes "version" ∷ []) d)
  kind ← or_fault BadShape (text_at (codes "kind") d)
  updating ← demand BadShape (is_kind kind)
  schema ← or_fault BadShape (text_at (codes "schema") d)
  us ← entries d
  same ← demand OtherSchema (bytes_eq schema label)
  Ok us

-- `updates_in label d` is the list of the updates of the message `d` for the schema with the label `label`, or the
-- first error. The version is checked before the rest of the shape.
unfoldable pub updates_in : List ℕ → Data → Result (List Update) MessageFault
updates_in label d = do
  version ← version_in d
  updates_by (entries_in version) label d

-- `updates_stated label bytes` is the list of the updates that `bytes` describe for the schema with the label `label`,
-- in order, or the first error of JSON, version, shape or label. Updates.antt also checks the ranges of counts, the
-- ids of policies, and the bodies.
unfoldable pub updates_stated : List ℕ → List ℕ → Result (List Update) MessageFault
updates_stated label bytes = do
  d ← or_fault NotJson (json_of bytes)
  updates_in label d
