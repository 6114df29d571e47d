-- Defines states and deltas of version 1, whose sites are numbers.
-- Rules of this product: such a message differs from one of version 2 in its `version`, 1, and in each `site`, a
-- number from 1 to 65,535. It is parsed as its updates with each site's number replaced by its five digits. It is
-- never written.
use Rattle.std.specs.Prelude.{◌≡◌, ℕ, List, map, codes, Option, Some, Result, Ok}
use Rattle.serde_json.specs.Data.{Data, number, unsigned, string, array, object, no_members, member}
use Rattle.serde_json.specs.View.{items_of}
use Rattle.json_words.specs.Json.{json_of}
use Rattle.stamped_store.specs.EntryOrder.{EntryAt}
use Rattle.stamped_store.specs.Raised.{NumberedUpdate}
use Rattle.sync_format.specs.declared.fault.MessageFault.{MessageFault}
use Rattle.sync_format.specs.Summaries.{StampAt, name_json, number_at, numbered_in, stamped_by}
use Rattle.sync_format.specs.Messages.{body_json, entry_by, entries_by, updates_by}

-- ---- the JSON

-- `numbered_entry_json n` is the JSON of the update `n` in version 1.
abbrev pub numbered_entry_json : NumberedUpdate → Data
numbered_entry_json n = object (member (codes "body") (body_json n.1.body)
    (member (codes "count") (number (unsigned n.1.count))
    (member (codes "name") (name_json n.0)
    (member (codes "site") (number (unsigned n.1.site)) no_members))))

-- `numbered_message_json kind label ns` is the JSON of the updates `ns` as a message of version 1 and of the kind
-- `kind`, for the schema with the label `label`.
abbrev pub numbered_message_json : List ℕ → List ℕ → List NumberedUpdate → Data
numbered_message_json kind label ns = object (member (codes "entries") (array (items_of (map numbered_entry_json ns)))
    (member (codes "kind") (string kind)
    (member (codes "schema") (string label)
    (member (codes "version") (number (unsigned 1)) no_members))))

-- ---- read, in any spelling

-- `numbered_entry s body` is the entry with the stamp `s` and the body `body`.
abbrev pub numbered_entry : StampAt ℕ → Option (List ℕ) → EntryAt ℕ
numbered_entry s body = record { count = s.count; site = s.site; body = body }

-- `numbered_entry_in d` is the update that the object `d` describes in version 1, or its error.
unfoldable pub numbered_entry_in : Data → Result NumberedUpdate MessageFault
numbered_entry_in d = entry_by (stamped_by numbered_in) numbered_entry d

-- `numbered_entries_in d` is the list of the updates of the message `d` of version 1, or the first error.
unfoldable pub numbered_entries_in : Data → Result (List NumberedUpdate) MessageFault
numbered_entries_in d = entries_by numbered_entry_in d

-- `IsVersion1Message label bytes ns` holds if `bytes` are a message of version 1 for the schema with the label `label`,
-- with the updates `ns`, in this order.
pub record IsVersion1Message (label bytes : List ℕ) (ns : List NumberedUpdate) : Type 0 where
  pub value : Data
  pub json : json_of bytes ≡ Some value
  pub version : number_at (codes "version") value ≡ Ok 1
  pub stated : updates_by numbered_entries_in label value ≡ Ok ns
