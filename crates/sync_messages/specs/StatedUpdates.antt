-- Defines the updates that bytes describe as a state or delta, and the error of other bytes.
-- Source: docs/formats.md, "Messages between sites".
-- Rules of this product: a message and each of its entries have exactly the keys below; a body is null or a text. The
-- keys of parsed JSON ascend, whatever their order in the bytes (theorem `json_keys_ascend`).
use Rattle.std.specs.Prelude.{◌≡◌, ◌⊎◌, ℕ, List, codes}
use Rattle.std.specs.List.{AllZip}
use Rattle.serde_json.specs.Data.{Data, number, unsigned, string, array, object, Items, no_members, member}
use Rattle.json_words.specs.Each.{list_of}
use Rattle.stamped_store.specs.Store.{Update}
use Rattle.sync_format.specs.declared.version.MessageVersion.{MessageVersion}
use Rattle.sync_format.specs.declared.fault.MessageFault.{MessageFault}
use Rattle.sync_format.specs.Messages.{body_json}
use Rattle.sync_messages.specs.MessageForms.{DescribesName, DescribesSite, number_of, DescribesForm, RefusesForm}

-- `DescribesEntry version d u` holds if `d` is {"body":null or a text,"count":n,"name":N,"site":S} in the form of
-- `version` for the update `u`: n is the count, N describes the name, and S the site.
pub record DescribesEntry (version : MessageVersion) (d : Data) (u : Update) : Type 0 where
  pub name : Data
  pub site : Data
  pub is : d ≡ object (member (codes "body") (body_json u.1.body)
      (member (codes "count") (number (unsigned u.1.count))
      (member (codes "name") name
      (member (codes "site") site no_members))))
  pub states_name : DescribesName name u.0
  pub states_site : DescribesSite version site u.1.site

-- `IsUpdates d schema us` holds if `d` is {"entries":[..],"kind":"state" or "delta","schema":schema,"version":2 or 1},
-- with one entry for each of the updates `us`, in their order.
pub record IsUpdates (d : Data) (schema : List ℕ) (us : List Update) : Type 0 where
  pub version : MessageVersion
  pub kind : List ℕ
  pub entries : Items
  pub is : d ≡ object (member (codes "entries") (array entries)
      (member (codes "kind") (string kind)
      (member (codes "schema") (string schema)
      (member (codes "version") (number (unsigned (number_of version))) no_members))))
  pub is_kind : (kind ≡ codes "state") ⊎ (kind ≡ codes "delta")
  pub state : AllZip (DescribesEntry version) (list_of entries) us

-- `DescribesUpdates label bytes us` holds if `bytes` have the form of a state or delta for the schema with the label
-- `label`, with the updates `us`. The counts and the ids of policies may be out of their ranges, and the texts need not
-- be valid.
abbrev pub DescribesUpdates : List ℕ → List ℕ → List Update → Type 0
DescribesUpdates label bytes us = DescribesForm IsUpdates label bytes us

-- `RefusesUpdates label bytes fault` holds if `bytes` do not have the form of a state or delta for the schema with the
-- label `label`, and `fault` is the first error.
abbrev pub RefusesUpdates : List ℕ → List ℕ → MessageFault → Type 0
RefusesUpdates label bytes fault = RefusesForm IsUpdates label bytes fault
