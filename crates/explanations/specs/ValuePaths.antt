-- Defines the path to the part of a JSON value that is at fault under a type.
-- Source: Cedar reference guide 4.0, "Entities and context: JSON format"; items are counted from 0, as in RFC 6901.
-- Rules of this product: the parts of an array under a set type are its items, in order; those of an object under a
-- record type are its members, ascending by key, and then the required keys that are absent, in the order of the type.
-- No other value has parts. Each step of the path leads to the first rejected part of the value that is reached; the
-- path ends at a value that is rejected and has no rejected part, or at the key of the first required part that is
-- absent.
use Rattle.std.specs.Prelude.{◌≡◌, ℕ, ◌+◌, List, [], ◌∷◌, Bool, true, false, not, ◌&&◌, ◌||◌}
use Rattle.std.specs.Prelude.{is_some, Some, None, Ok, Err}
use Rattle.serde_json.specs.Data.{Data, Items, item, Members, member, array, object}
use Rattle.serde_json.specs.Find.{get, as_array, as_object}
use Rattle.values.specs.Values.{PlainValue}
use Rattle.values.specs.Fields.{Field}
use Rattle.schema_types.specs.Cedar as type
use Rattle.schema_types.specs.Cedar.{Cedar, CedarFields}
use Rattle.entities.specs.declared.fault.EntityFault.{EntityFault}
use Rattle.entities.specs.Parts.{element_of, fields_in, declared_at}
use Rattle.entities.specs.Typing.{typed_value, typed_members}
use Rattle.explanations.specs.Steps.{Step, Key, Index}

-- `is_set t d` tests whether `t` is a set type and `d` an array; `is_record t d` tests whether `t` is a record type and
-- `d` an object. Other values have no parts.
abbrev pub is_set : Cedar → Data → Bool
is_set t d = is_some (as_array d) && is_some (element_of t)

abbrev pub is_record : Cedar → Data → Bool
is_record t d = is_some (as_object d) && is_some (fields_in t)

-- `FirstAbsent fs d key` holds if `key` is the first key of the fields `fs` that is required and absent from the object
-- `d`.
pub data FirstAbsent : CedarFields → Data → List ℕ → Type 0 where
  first_absent : (key : List ℕ) (t : Cedar) (fs : CedarFields) (d : Data) → get key d ≡ None
      → FirstAbsent (type.field key t true fs) d key
  later_absent : (other : List ℕ) (t : Cedar) (required : Bool) (fs : CedarFields) (d : Data) (key : List ℕ)
      → (not required || is_some (get other d)) ≡ true → FirstAbsent fs d key
      → FirstAbsent (type.field other t required fs) d key

mutual
  -- `FaultAt t d path` holds if `d` describes no value of the type `t`, and `path` leads from `d` to the part at fault.
  pub data FaultAt : Cedar → Data → List Step → Type 0 where
    whole : (t : Cedar) (d : Data) (f : EntityFault) → (is_set t d || is_record t d) ≡ false
        → typed_value t d ≡ Err f → FaultAt t d []
    in_set : (t : Cedar) (ds : Items) (path : List Step) → ItemFaultAt t 0 ds path
        → FaultAt (type.set t) (array ds) path
    in_record : (fs : CedarFields) (ms : Members) (path : List Step) → MemberFaultAt fs ms path
        → FaultAt (type.record_of fs) (object ms) path
    lacks_key : (fs : CedarFields) (ms : Members) (read : List Field) (key : List ℕ) → typed_members fs ms ≡ Ok read
        → FirstAbsent fs (object ms) key → FaultAt (type.record_of fs) (object ms) (Key key ∷ [])

  -- `ItemFaultAt t i ds path` holds if `path` leads from an array with the items `ds`, counted from `i`, to the part at
  -- fault of the first item that describes no value of the type `t`.
  pub data ItemFaultAt : Cedar → ℕ → Items → List Step → Type 0 where
    this_item : (t : Cedar) (i : ℕ) (d : Data) (ds : Items) (path : List Step) → FaultAt t d path
        → ItemFaultAt t i (item d ds) (Index i ∷ path)
    later_item : (t : Cedar) (i : ℕ) (d : Data) (ds : Items) (v : PlainValue) (path : List Step)
        → typed_value t d ≡ Ok v → ItemFaultAt t (i + 1) ds path → ItemFaultAt t i (item d ds) path

  -- `MemberFaultAt fs ms path` holds if `path` leads from an object with the members `ms` to the part at fault of the
  -- first member whose key is not declared in `fs`, or whose value is not of the type declared for it.
  pub data MemberFaultAt : CedarFields → Members → List Step → Type 0 where
    undeclared : (fs : CedarFields) (key : List ℕ) (d : Data) (ms : Members) → declared_at key fs ≡ None
        → MemberFaultAt fs (member key d ms) (Key key ∷ [])
    this_member : (fs : CedarFields) (key : List ℕ) (d : Data) (ms : Members) (t : Cedar) (path : List Step)
        → declared_at key fs ≡ Some t → FaultAt t d path → MemberFaultAt fs (member key d ms) (Key key ∷ path)
    later_member : (fs : CedarFields) (key : List ℕ) (d : Data) (ms : Members) (t : Cedar) (v : PlainValue)
        (path : List Step) → declared_at key fs ≡ Some t → typed_value t d ≡ Ok v → MemberFaultAt fs ms path
        → MemberFaultAt fs (member key d ms) path

-- `RecordFaultAt t d path` holds if `path` leads from `d`, parsed as attributes or as a context by the type `t`, to the
-- part at fault. If `d` is not an object, or `t` is not a record type, `d` is at fault as a whole.
pub data RecordFaultAt : Cedar → Data → List Step → Type 0 where
  no_record : (t : Cedar) (d : Data) → is_record t d ≡ false → RecordFaultAt t d []
  within_record : (t : Cedar) (d : Data) (path : List Step) → is_record t d ≡ true → FaultAt t d path
      → RecordFaultAt t d path
