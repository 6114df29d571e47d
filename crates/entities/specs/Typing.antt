-- Defines how JSON is parsed as a value of a declared type.
-- Source: Cedar reference guide 4.0, "Entities and context: JSON format".
-- Rules of this product: an extension is `{"__extn":{"fn","arg"}}`, `{"fn","arg"}` or the argument alone; an entity
-- is `{"type","id"}` or this object under the key `__entity`; neither has other keys.
use Rattle.std.specs.Prelude.{ℕ, ℤ, pos, negsuc, ◌^◌, nat_lt, List, [], ◌∷◌, Bool, true, not, ◌&&◌, ◌||◌}
use Rattle.std.specs.Prelude.{Option, Some, None, is_some, Result, Ok, Err, codes}
use Rattle.std.specs.Str.{bytes_eq}
use Rattle.serde_json.specs.Data.{Data, Items, no_items, item, Members, no_members, member}
use Rattle.serde_json.specs.Data as json
use Rattle.serde_json.specs.Find.{get, as_i64, as_bool, as_number, as_str, as_object}
use Rattle.json_words.specs.ReadsAs.{◌>>=◌, or_fault, demand}
use Rattle.json_words.specs.Keys.{has_only}
use Rattle.json_words.specs.Json.{text_at}
use Rattle.values.specs.Values.{PlainValue, boolean, long, text, entity, set, record_of, decimal, ipaddr}
use Rattle.values.specs.Values.{values_of, fields_of}
use Rattle.values.specs.Sets.{set_list}
use Rattle.entities.specs.declared.fault.EntityFault.{EntityFault}
use Rattle.entities.specs.declared.fault.EntityFault.TheVariants.{WrongType, Undeclared, Missing}
use Rattle.entity_uids.specs.Uids.{uid_in}
use Rattle.values.specs.extensions.TextsDecided.{decimal_of, network_of}
use Rattle.schema_types.specs.Cedar as cedar
use Rattle.schema_types.specs.Cedar.{Cedar, CedarFields, no_fields, field}
use Rattle.entities.specs.Parts.{element_of, fields_in, declared_at}

-- `under_key k d o` is `d` if `o` is `None`. Else it is the value in `o` if `k` is the only key of `d`, and `WrongType`
-- if not. Here `o` is the value that `d` has at `k`, if any.
abbrev pub under_key : List ℕ → Data → Option Data → Result Data EntityFault
under_key k d None = Ok d
under_key k d (Some inner) = do
  alone ← demand WrongType (has_only (k ∷ []) d)
  Ok inner

-- `plain_call name d` is the string A if `d` is {"fn":`name`,"arg":A} without other keys, else `WrongType`.
unfoldable pub plain_call : List ℕ → Data → Result (List ℕ) EntityFault
plain_call name d = do
  shape ← demand WrongType (has_only (codes "fn" ∷ codes "arg" ∷ []) d)
  given ← or_fault WrongType (text_at (codes "fn") d)
  argument ← or_fault WrongType (text_at (codes "arg") d)
  same ← demand WrongType (bytes_eq given name)
  Ok argument

-- `call_in name d` is the argument of the call if `d` is a call of `name`, or has such a call under its only key
-- `__extn`; else `WrongType`.
unfoldable pub call_in : List ℕ → Data → Result (List ℕ) EntityFault
call_in name d = do
  inner ← under_key (codes "__extn") d (get (codes "__extn") d)
  plain_call name inner

-- `argument_or_call name d o` is the string in `o` or, if `o` is `None`, the argument of the call of `name` that `d`
-- describes; else `WrongType`.
abbrev pub argument_or_call : List ℕ → Data → Option (List ℕ) → Result (List ℕ) EntityFault
argument_or_call name d (Some s) = Ok s
argument_or_call name d None = call_in name d

-- `argument_in name d` is the argument of the extension function `name` that `d` describes: the string `d`, or the
-- argument of a call of `name`; else `WrongType`.
unfoldable pub argument_in : List ℕ → Data → Result (List ℕ) EntityFault
argument_in name d = argument_or_call name d (as_str d)

-- `boolean_in d`, `long_in d`, `text_in d`, `entity_in name d`, `decimal_in d` and `ipaddr_in d` are the boolean, the
-- Long, the string, the entity of the type `name`, the decimal and the address that `d` describes, or `WrongType`.
unfoldable pub boolean_in : Data → Result PlainValue EntityFault
boolean_in d = do
  b ← or_fault WrongType (as_bool d)
  Ok (boolean b)

-- `is_long z` tests whether `z` is a signed 64-bit integer.
abbrev pub is_long : ℤ → Bool
is_long (pos n) = nat_lt n (2 ^ 63)
is_long (negsuc n) = nat_lt n (2 ^ 63)

-- `long_of z` is the Long `z`, or `WrongType` if `z` is not a signed 64-bit integer. (For parsed bytes, `as_i64` gives
-- only such integers.)
abbrev pub long_of : ℤ → Result PlainValue EntityFault
long_of z = do
  small ← demand WrongType (is_long z)
  Ok (long z)

unfoldable pub long_in : Data → Result PlainValue EntityFault
long_in d = do
  n ← or_fault WrongType (as_number d)
  z ← or_fault WrongType (as_i64 n)
  long_of z

unfoldable pub text_in : Data → Result PlainValue EntityFault
text_in d = do
  s ← or_fault WrongType (as_str d)
  Ok (text s)

unfoldable pub entity_in : List ℕ → Data → Result PlainValue EntityFault
entity_in name d = do
  u ← or_fault WrongType (uid_in d)
  same ← demand WrongType (bytes_eq u.type_name name)
  Ok (entity u)

unfoldable pub decimal_in : Data → Result PlainValue EntityFault
decimal_in d = do
  s ← argument_in (codes "decimal") d
  z ← or_fault WrongType (decimal_of s)
  Ok (decimal z)

unfoldable pub ipaddr_in : Data → Result PlainValue EntityFault
ipaddr_in d = do
  s ← argument_in (codes "ip") d
  n ← or_fault WrongType (network_of s)
  Ok (ipaddr n)

-- `leaf t d` is the value of the type `t` that `d` describes, if `t` is neither a set nor a record type; else
-- `WrongType`.
abbrev pub leaf : Cedar → Data → Result PlainValue EntityFault
leaf cedar.boolean d = boolean_in d
leaf cedar.long d = long_in d
leaf cedar.text d = text_in d
leaf (cedar.entity name) d = entity_in name d
leaf (cedar.set t) d = Err WrongType
leaf (cedar.record_of fs) d = Err WrongType
leaf cedar.decimal d = decimal_in d
leaf cedar.ipaddr d = ipaddr_in d

-- `all_there fs d` tests whether `d` has each required field of `fs`.
abbrev pub all_there : CedarFields → Data → Bool
all_there no_fields d = true
all_there (field k t r fs) d = (not r || is_some (get k d)) && all_there fs d

-- `with_or o f b` is `f` of the value of `o`, or `b` if `o` is `None`.
abbrev pub with_or : {A B : Type 0} → Option A → (A → B) → B → B
with_or (Some a) f b = f a
with_or None f b = b

-- `inside r` is `r`, with `WrongType` for any error: a value with an error inside it is a value of the wrong type.
abbrev pub inside : {A : Type 0} → Result A EntityFault → Result A EntityFault
inside (Ok x) = Ok x
inside (Err f) = Err WrongType

-- `typed_value t d` is the value of the type `t` that `d` describes, or `WrongType`. `typed_items t ds` are the values
-- of the type `t` that the items `ds` of an array describe, or `WrongType`. `typed_members fs ms` are the fields that
-- the members `ms` of an object describe by the fields `fs` of a record type, or the first error.
unfoldable mutual
  pub typed_value : Cedar → Data → Result PlainValue EntityFault
  typed_value t json.null = leaf t json.null
  typed_value t (json.boolean b) = leaf t (json.boolean b)
  typed_value t (json.number n) = leaf t (json.number n)
  typed_value t (json.string s) = leaf t (json.string s)
  typed_value t (json.array ds) = do
    e ← or_fault WrongType (element_of t)
    vs ← typed_items e ds
    Ok (set (values_of (set_list vs)))
  typed_value t (json.object ms) = with_or (fields_in t)
      (λ fs. inside (typed_members fs ms) >>= λ vs. demand WrongType (all_there fs (json.object ms)) >>= λ there.
      Ok (record_of (fields_of vs)))
      (leaf t (json.object ms))

  pub typed_items : Cedar → Items → Result (List PlainValue) EntityFault
  typed_items t no_items = Ok []
  typed_items t (item d ds) = do
    v ← typed_value t d
    vs ← typed_items t ds
    Ok (v ∷ vs)

  pub typed_members : CedarFields → Members → Result (List (List ℕ × PlainValue)) EntityFault
  typed_members fs no_members = Ok []
  typed_members fs (member k d ms) = do
    t ← or_fault Undeclared (declared_at k fs)
    v ← typed_value t d
    vs ← typed_members fs ms
    Ok ((k, v) ∷ vs)

-- `record_in t d` are the fields of the record of the type `t` that `d` describes, or the first error: `WrongType` if
-- `t` is not a record type or `d` not an object; then that of the first member that is not declared or not of its
-- declared type; then `Missing` if a required field is absent. (In parsed JSON, members ascend by key.)
unfoldable pub record_in : Cedar → Data → Result (List (List ℕ × PlainValue)) EntityFault
record_in t d = do
  fs ← or_fault WrongType (fields_in t)
  ms ← or_fault WrongType (as_object d)
  vs ← typed_members fs ms
  there ← demand Missing (all_there fs d)
  Ok vs
