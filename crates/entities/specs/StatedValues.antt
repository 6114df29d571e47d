-- Defines which JSON describes which value of a type, and the error of an object that describes no record of a type.
-- Source: Cedar reference guide 4.0, "Entities and context: JSON format".
-- Rules of this product: an extension value is `{"__extn":{"fn":F,"arg":A}}`, `{"fn":F,"arg":A}` or the string A
-- alone; an object that represents an entity or an extension value has no other keys; null describes no value.
use Rattle.std.specs.Prelude.{◌≡◌, ℕ, ℤ, List, [], ◌∷◌, Bool, true, Some, None, FitsSigned, codes}
use Rattle.std.specs.Int.{w64}
use Rattle.serde_json.specs.Data.{Num, Data, Items, no_items, item, Members, no_members, member}
use Rattle.serde_json.specs.Data as json
use Rattle.serde_json.specs.Find.{get, as_integer}
use Rattle.json_words.specs.Keys.{has_only}
use Rattle.json_words.specs.Json.{text_at}
use Rattle.values.specs.Values as value
use Rattle.values.specs.Values.{PlainValue, values_of, fields_of}
use Rattle.values.specs.Fields.{Field}
use Rattle.values.specs.Sets.{IsSetOf}
use Rattle.values.specs.declared.entity_uid.EntityUid.{EntityUid}
use Rattle.values.specs.extensions.Network.{Network}
use Rattle.values.specs.extensions.DecimalText.{IsDecimalText}
use Rattle.values.specs.extensions.NetworkText.{IsNetworkText}
use Rattle.entity_uids.specs.Uids.{IsUid}
use Rattle.entities.specs.declared.fault.EntityFault.{EntityFault}
use Rattle.entities.specs.declared.fault.EntityFault.TheVariants.{WrongType, Undeclared, Missing}
use Rattle.schema_types.specs.Cedar as type
use Rattle.schema_types.specs.Cedar.{Cedar, CedarFields}

-- ---- declarations of a record type

-- `Declares fields key t` holds if the first of `fields` with the key `key` has the type `t`. (In a schema the keys of
-- a record type are distinct.)
pub data Declares : CedarFields → List ℕ → Cedar → Type 0 where
  first_declared : (key : List ℕ) (t : Cedar) (required : Bool) (more : CedarFields)
      → Declares (type.field key t required more) key t
  later_declared : (other : List ℕ) (u : Cedar) (required : Bool) (more : CedarFields) (key : List ℕ) (t : Cedar)
      → (other ≡ key → ⊥) → Declares more key t → Declares (type.field other u required more) key t

-- `Requires fields key` holds if one of `fields` has the key `key` and is required.
pub data Requires : CedarFields → List ℕ → Type 0 where
  first_required : (key : List ℕ) (t : Cedar) (more : CedarFields) → Requires (type.field key t true more) key
  later_required : (other : List ℕ) (u : Cedar) (required : Bool) (more : CedarFields) (key : List ℕ)
      → Requires more key → Requires (type.field other u required more) key

-- `HasKey members key` holds if one of the members `members` of an object has the key `key`.
pub data HasKey : Members → List ℕ → Type 0 where
  first_key : (key : List ℕ) (d : Data) (more : Members) → HasKey (member key d more) key
  later_key : (other : List ℕ) (d : Data) (more : Members) (key : List ℕ) → HasKey more key
      → HasKey (member other d more) key

-- `HasRequired fields members` holds if `members` has each required key of `fields`.
abbrev pub HasRequired : CedarFields → Members → Type 0
HasRequired fields members = (key : List ℕ) → Requires fields key → HasKey members key

-- ---- calls of extension functions

-- `IsCall name d argument` holds if `d` is `{"fn": name, "arg": argument}`.
pub record IsCall (name : List ℕ) (d : Data) (argument : List ℕ) : Type 0 where
  pub alone : has_only (codes "fn" ∷ codes "arg" ∷ []) d ≡ true
  pub called : text_at (codes "fn") d ≡ Some name
  pub given : text_at (codes "arg") d ≡ Some argument

-- `IsArgument name d argument` holds if `d` is the string `argument`, a call of `name` with the argument `argument`, or
-- an object whose only key `__extn` has such a call.
pub data IsArgument (name : List ℕ) : Data → List ℕ → Type 0 where
  bare_text : (argument : List ℕ) → IsArgument name (json.string argument) argument
  call : (d : Data) (argument : List ℕ) → get (codes "__extn") d ≡ None → IsCall name d argument
      → IsArgument name d argument
  call_under : (d inner : Data) (argument : List ℕ) → get (codes "__extn") d ≡ Some inner
      → has_only (codes "__extn" ∷ []) d ≡ true → IsCall name inner argument → IsArgument name d argument

-- ---- values

mutual
  -- `Reads t d v` holds if the JSON `d` describes the value `v` of the type `t`, by one case for each type.
  pub data Reads : Cedar → Data → PlainValue → Type 0 where
    boolean : (b : Bool) → Reads type.boolean (json.boolean b) (value.boolean b)
    long : (n : Num) (z : ℤ) → as_integer n ≡ Some z → FitsSigned w64 z
        → Reads type.long (json.number n) (value.long z)
    text : (s : List ℕ) → Reads type.text (json.string s) (value.text s)
    set : (t : Cedar) (ds : Items) (stated members : List PlainValue) → ReadItems t ds stated → IsSetOf stated members
        → Reads (type.set t) (json.array ds) (value.set (values_of members))
    record_of : (fields : CedarFields) (ms : Members) (stated : List Field) → ReadMembers fields ms stated
        → HasRequired fields ms → Reads (type.record_of fields) (json.object ms) (value.record_of (fields_of stated))
    entity : (name : List ℕ) (d : Data) (uid : EntityUid) → IsUid d uid → uid.type_name ≡ name
        → Reads (type.entity name) d (value.entity uid)
    decimal : (d : Data) (argument : List ℕ) (z : ℤ) → IsArgument (codes "decimal") d argument
        → IsDecimalText argument z → Reads type.decimal d (value.decimal z)
    ipaddr : (d : Data) (argument : List ℕ) (n : Network) → IsArgument (codes "ip") d argument
        → IsNetworkText argument n → Reads type.ipaddr d (value.ipaddr n)

  -- `ReadItems t ds vs` holds if the items `ds` of an array describe the values `vs` of the type `t`, index by index.
  pub data ReadItems : Cedar → Items → List PlainValue → Type 0 where
    empty_array : (t : Cedar) → ReadItems t no_items []
    next_item : (t : Cedar) (d : Data) (ds : Items) (v : PlainValue) (vs : List PlainValue) → Reads t d v
        → ReadItems t ds vs → ReadItems t (item d ds) (v ∷ vs)

  -- `ReadMembers fields ms stated` holds if each key of `ms` is declared in `fields` and has a value of its type, and
  -- `stated` lists these keys and values in order.
  pub data ReadMembers : CedarFields → Members → List Field → Type 0 where
    empty_object : (fields : CedarFields) → ReadMembers fields no_members []
    next_member : (fields : CedarFields) (key : List ℕ) (d : Data) (ms : Members) (t : Cedar) (v : PlainValue)
        (stated : List Field) → Declares fields key t → Reads t d v → ReadMembers fields ms stated
        → ReadMembers fields (member key d ms) ((key, v) ∷ stated)

-- ---- objects that are not a record of a type

-- `FaultyMember fields ms fault` holds if `fault` is the error of the first faulty member of `ms`: its key is not
-- declared in `fields`, or its JSON describes no value of the type declared for it. (In parsed JSON, members ascend by
-- key.)
pub data FaultyMember (fields : CedarFields) : Members → EntityFault → Type 0 where
  undeclared : (key : List ℕ) (d : Data) (ms : Members) → ((t : Cedar) → Declares fields key t → ⊥)
      → FaultyMember fields (member key d ms) Undeclared
  wrong_type : (key : List ℕ) (d : Data) (ms : Members) (t : Cedar) → Declares fields key t
      → ((v : PlainValue) → Reads t d v → ⊥) → FaultyMember fields (member key d ms) WrongType
  later_fault : (key : List ℕ) (d : Data) (ms : Members) (fault : EntityFault) (t : Cedar) (v : PlainValue)
      → Declares fields key t → Reads t d v → FaultyMember fields ms fault
      → FaultyMember fields (member key d ms) fault

-- `LacksRequired fields ms` holds if `ms` lacks some required key of `fields`.
abbrev pub LacksRequired : CedarFields → Members → Type 0
LacksRequired fields ms = (key : List ℕ) × Requires fields key × (HasKey ms key → ⊥)

-- `RefusesRecord t ms fault` holds if the object with the members `ms` describes no record of the type `t`, with the
-- error `fault`: an error of a member comes before a missing key. A type that is not a record type has no records.
pub data RefusesRecord : Cedar → Members → EntityFault → Type 0 where
  no_record : (t : Cedar) (ms : Members) → ((fields : CedarFields) → t ≡ type.record_of fields → ⊥)
      → RefusesRecord t ms WrongType
  faulty : (fields : CedarFields) (ms : Members) (fault : EntityFault) → FaultyMember fields ms fault
      → RefusesRecord (type.record_of fields) ms fault
  missing : (fields : CedarFields) (ms : Members) (stated : List Field) → ReadMembers fields ms stated
      → LacksRequired fields ms → RefusesRecord (type.record_of fields) ms Missing
