-- Defines the canonical JSON of a value: entities under `__entity`, extensions under `__extn` with the canonical
-- argument, sets ascending.
-- Rules of this product: the canonical JSON.
use Rattle.std.specs.Prelude.{ℕ, List, codes}
use Rattle.serde_json.specs.Data.{Data, Items, no_items, item, Members, no_members, member}
use Rattle.serde_json.specs.Data as json
use Rattle.serde_json.specs.Find.{of_integer}
use Rattle.values.specs.extensions.DecimalText.{decimal_text}
use Rattle.values.specs.extensions.NetworkText.{network_text}
use Rattle.entity_uids.specs.Uids.{entity_json}
use Rattle.values.specs.Values.{PlainValue, boolean, long, text, entity, set, record_of, decimal, ipaddr}
use Rattle.values.specs.Values.{PlainValues, no_values, value, PlainFields, no_fields, field}

-- `only k d` is an object with the single key `k`, whose value is `d`.
abbrev pub only : List ℕ → Data → Data
only k d = json.object (member k d no_members)

-- `call_json name argument` is {"__extn":{"arg":argument,"fn":name}}.
abbrev pub call_json : List ℕ → List ℕ → Data
call_json name argument = only (codes "__extn")
    (json.object (member (codes "arg") (json.string argument) (member (codes "fn") (json.string name) no_members)))

-- `value_json v` is the canonical JSON of the value `v`; `values_json vs` are the items of the array for a set with the
-- members `vs`, and `fields_json fs` are the members of the object for a record with the fields `fs`.
abbrev mutual
  pub value_json : PlainValue → Data
  value_json (boolean b) = json.boolean b
  value_json (long z) = json.number (of_integer z)
  value_json (text s) = json.string s
  value_json (entity u) = entity_json u
  value_json (set vs) = json.array (values_json vs)
  value_json (record_of fs) = json.object (fields_json fs)
  value_json (decimal z) = call_json (codes "decimal") (decimal_text z)
  value_json (ipaddr n) = call_json (codes "ip") (network_text n)

  pub values_json : PlainValues → Items
  values_json no_values = no_items
  values_json (value v vs) = item (value_json v) (values_json vs)

  pub fields_json : PlainFields → Members
  fields_json no_fields = no_members
  fields_json (field k v fs) = member k (value_json v) (fields_json fs)
