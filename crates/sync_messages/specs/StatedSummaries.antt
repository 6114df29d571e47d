-- Defines the summary that bytes describe, and the error of other bytes.
-- Source: docs/formats.md, "Messages between sites".
-- Rules of this product: a summary and each of its stamps have exactly the keys below, in any order (those of parsed
-- JSON ascend, by the theorem `json_keys_ascend`); names ascend strictly. A summary of this form with the schema's
-- label is rejected for the first stamp whose count or name is out of its range. The error is that of the count, else
-- that of the name.
use Rattle.std.specs.Prelude.{◌≡◌, ◌≤◌, ℕ, suc, List, ◌∷◌, ⊤, length, map, codes}
use Rattle.std.specs.List.{AllZip, AllByRecursion}
use Rattle.std.specs.List.Sorted.{IsStrictlySortedBy}
use Rattle.serde_json.specs.Data.{Data, number, unsigned, string, array, object, Items, no_members, member}
use Rattle.json_words.specs.Each.{list_of}
use Rattle.values.specs.declared.name.Name.{Name}
use Rattle.values.specs.declared.name.Name.TheVariants.{Policy, Entity}
use Rattle.values.specs.Names.{name_cmp}
use Rattle.stamped_store.specs.declared.entry.Stamp.{Stamp}
use Rattle.stamped_store.specs.Deltas.{Summary}
use Rattle.sync_format.specs.declared.version.MessageVersion.{MessageVersion}
use Rattle.sync_format.specs.declared.fault.MessageFault.{MessageFault}
use Rattle.sync_format.specs.declared.fault.MessageFault.TheVariants.{CountRange, BadEntry}
use Rattle.sync_messages.specs.MessageForms.{DescribesName, DescribesSite, number_of, DescribesForm, RefusesForm}

-- ---- the form

-- `DescribesStamp version d u` holds if `d` is {"count":n,"name":N,"site":S} in the form of `version` for `u`, a name
-- with its stamp: n is the count, N describes the name, and S the site.
pub record DescribesStamp (version : MessageVersion) (d : Data) (u : Name × Stamp) : Type 0 where
  pub name : Data
  pub site : Data
  pub is : d ≡ object (member (codes "count") (number (unsigned u.1.count))
      (member (codes "name") name
      (member (codes "site") site no_members)))
  pub states_name : DescribesName name u.0
  pub states_site : DescribesSite version site u.1.site

-- `names_of m` are the names of the summary `m`.
abbrev pub names_of : Summary → List Name
names_of m = map (λ u. u.0) m

-- `IsSummary d schema m` holds if `d` is {"kind":"summary","schema":schema,"stamps":[..],"version":2 or 1}, with one
-- stamp for each name of `m`, in their order, and the names ascend strictly.
pub record IsSummary (d : Data) (schema : List ℕ) (m : Summary) : Type 0 where
  pub version : MessageVersion
  pub stamps : Items
  pub is : d ≡ object (member (codes "kind") (string (codes "summary"))
      (member (codes "schema") (string schema)
      (member (codes "stamps") (array stamps)
      (member (codes "version") (number (unsigned (number_of version))) no_members))))
  pub state : AllZip (DescribesStamp version) (list_of stamps) m
  pub ascend : IsStrictlySortedBy name_cmp (names_of m)

-- ---- the ranges

-- `CountFits n` holds if the count `n` is from 1 to 10^18.
abbrev pub CountFits : ℕ → Type 0
CountFits n = (1 ≤ n) × (n ≤ 1_000_000_000_000_000_000)

-- `IdFits name` holds if `name` is that of an entity, or of a policy whose id has 1 to 256 bytes.
abbrev pub IdFits : Name → Type 0
IdFits (Policy id) = (1 ≤ length id) × (length id ≤ 256)
IdFits (Entity uid) = ⊤

-- `Fits u` holds if `u`, a name with its stamp, has a count and a name in their ranges.
pub record Fits (u : Name × Stamp) : Type 0 where
  pub count : CountFits u.1.count
  pub id : IdFits u.0

-- `RefusesRanges place u fault` holds if the count or the name of `u` is out of its range, and `fault` is the error of
-- `u` at the index `place`. It is the error of the count, else that of the name, with the inner code 19 (bad id).
pub data RefusesRanges (place : ℕ) (u : Name × Stamp) : MessageFault → Type 0 where
  bad_count : (CountFits u.1.count → ⊥) → RefusesRanges place u (CountRange place)
  bad_id : CountFits u.1.count → (IdFits u.0 → ⊥) → RefusesRanges place u (BadEntry place 19)

-- `RefusesStamps place m fault` holds if `fault` is the first error of the stamps `m`, the first of which has the index
-- `place`.
pub data RefusesStamps : ℕ → Summary → MessageFault → Type 0 where
  bad_stamp : (place : ℕ) (u : Name × Stamp) (m : Summary) (fault : MessageFault) → RefusesRanges place u fault
      → RefusesStamps place (u ∷ m) fault
  later_stamp : (place : ℕ) (u : Name × Stamp) (m : Summary) (fault : MessageFault) → Fits u
      → RefusesStamps (suc place) m fault → RefusesStamps place (u ∷ m) fault

-- ---- bytes

-- `DescribesSummary label bytes m` holds if `bytes` are the summary `m` for the schema with the label `label`, and each
-- count and name of `m` is in its range.
pub record DescribesSummary (label bytes : List ℕ) (m : Summary) : Type 0 where
  pub states : DescribesForm IsSummary label bytes m
  pub fit : AllByRecursion Fits m

-- `RefusesSummary label bytes fault` holds if `bytes` are not a summary for the schema with the label `label`, and
-- `fault` is the first error: of the form, of the label, and then of a stamp.
pub data RefusesSummary (label bytes : List ℕ) : MessageFault → Type 0 where
  no_summary : (fault : MessageFault) → RefusesForm IsSummary label bytes fault → RefusesSummary label bytes fault
  bad_stamps : (m : Summary) (fault : MessageFault) → DescribesForm IsSummary label bytes m → RefusesStamps 0 m fault
      → RefusesSummary label bytes fault
