-- Defines the parts of messages as JSON, and the error of bytes that do not have the form of a message.
-- Source: docs/formats.md, "Messages between sites".
-- Rules of this product: in version 2 a site is given by its name, in version 1 by a number from 1 to 65,535, whose
-- five digits are the site's name. The errors are, in order: not JSON, the version, the rest of the form, the label of
-- another schema.
use Rattle.std.specs.Prelude.{◌≡◌, ℕ, List, Some, None, codes}
use Rattle.serde_json.specs.Data.{Data, number, unsigned, string}
use Rattle.serde_json.specs.Find.{get}
use Rattle.json_words.specs.Json.{json_of}
use Rattle.plain.specs.Words.{IsPath}
use Rattle.values.specs.declared.name.Name.{Name}
use Rattle.values.specs.declared.name.Name.TheVariants.{Policy, Entity}
use Rattle.stamped_store.specs.Raised.{IsSiteNumber}
use Rattle.stamped_store.specs.SiteNames.{IsSiteName, five_digits}
use Rattle.sync_format.specs.declared.version.MessageVersion.{MessageVersion}
use Rattle.sync_format.specs.declared.version.MessageVersion.TheVariants.{One, Two}
use Rattle.sync_format.specs.declared.fault.MessageFault.{MessageFault}
use Rattle.sync_format.specs.declared.fault.MessageFault.TheVariants.{NotJson, BadShape, OtherSchema, Version}
use Rattle.sync_format.specs.Summaries.{name_json}

-- ---- parts

-- `DescribesName d name` holds if `d` is the JSON of `name`: {"policy":id}, or {"entity":{"id":..,"type":..}} with a
-- type that is a path, such as `Photos::Album`.
abbrev pub DescribesName : Data → Name → Type 0
DescribesName d (Policy id) = d ≡ name_json (Policy id)
DescribesName d (Entity uid) = (d ≡ name_json (Entity uid)) × IsPath uid.type_name

-- `DescribesSite version d site` holds if `d` is the JSON of the site with the name `site` in messages of `version`: in
-- version 1 a number, in version 2 a string.
pub data DescribesSite : MessageVersion → Data → List ℕ → Type 0 where
  by_number : (n : ℕ) → IsSiteNumber n → DescribesSite One (number (unsigned n)) (five_digits n)
  by_name : (site : List ℕ) → IsSiteName site → DescribesSite Two (string site) site

-- ---- versions

-- `HasVersion d n` holds if `d` is an object with the number `n` under the key `version`. (In parsed JSON, `n` is an
-- integer in unsigned 64 bits.)
abbrev pub HasVersion : Data → ℕ → Type 0
HasVersion d n = get (codes "version") d ≡ Some (number (unsigned n))

-- `number_of version` is the number of `version` in a message.
abbrev pub number_of : MessageVersion → ℕ
number_of One = 1
number_of Two = 2

-- ---- bytes

-- `DescribesForm Form label bytes content` holds if `bytes` are a message in the form `Form` for the schema with the
-- label `label`, with the content `content`. `Form d schema content` holds if the JSON `d` is a message for the schema
-- with the label `schema`, with the content `content`.
pub record DescribesForm {A : Type 0} (Form : Data → List ℕ → A → Type 0) (label bytes : List ℕ) (content : A) : Type 0
  where
    pub value : Data
    pub json : json_of bytes ≡ Some value
    pub form : Form value label content

-- `RefusesForm Form label bytes fault` holds if `bytes` are not a message in the form `Form` for the schema with the
-- label `label`, and `fault` is the first error. The errors are, in order: not JSON; no `version` that is an integer in
-- unsigned 64 bits; a version other than 1 and 2; another form, whatever the label and the content; another label.
pub data RefusesForm {A : Type 0} (Form : Data → List ℕ → A → Type 0) (label bytes : List ℕ) : MessageFault → Type 0
  where
    not_json : json_of bytes ≡ None → RefusesForm Form label bytes NotJson
    no_version : (d : Data) → json_of bytes ≡ Some d → ((n : ℕ) → HasVersion d n → ⊥)
        → RefusesForm Form label bytes BadShape
    other_version : (d : Data) (n : ℕ) → json_of bytes ≡ Some d → HasVersion d n → (n ≡ 1 → ⊥) → (n ≡ 2 → ⊥)
        → RefusesForm Form label bytes Version
    other_form : (d : Data) (version : MessageVersion) → json_of bytes ≡ Some d → HasVersion d (number_of version)
        → ((schema : List ℕ) (content : A) → Form d schema content → ⊥) → RefusesForm Form label bytes BadShape
    other_schema : (d : Data) (schema : List ℕ) (content : A) → json_of bytes ≡ Some d → Form d schema content
        → (schema ≡ label → ⊥) → RefusesForm Form label bytes OtherSchema
