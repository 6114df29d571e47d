-- Defines the theorems that parsing agrees with the relations on JSON: each relation holds of the result of parsing,
-- and of no other result.
use Rattle.std.specs.Prelude.{◌≡◌, ◌↔◌, List, Ok, Err}
use Rattle.serde_json.specs.Data.{Data, Members, object}
use Rattle.values.specs.Values.{PlainValue, record_of, fields_of}
use Rattle.values.specs.Fields.{Field}
use Rattle.schema_types.specs.Cedar.{Cedar}
use Rattle.entities.specs.declared.fault.EntityFault.{EntityFault}
use Rattle.entities.specs.declared.fault.EntityFault.TheVariants.{WrongType}
use Rattle.entities.specs.Typing.{typed_value, record_in}
use Rattle.schema.specs.Schemas.{StatedSchema}
use Rattle.entities.specs.Entities.{entity_stated_in}
use Rattle.entities.specs.Contexts.{context_in}
use Rattle.entities.specs.Requests.{ParsesRequest, RequestRefused}
use Rattle.values.specs.declared.entity_uid.EntityUid.{EntityUid}
use Rattle.values.specs.declared.request.Request.{Request}
use Rattle.entities.specs.StatedValues.{Reads, RefusesRecord}
use Rattle.entities.specs.StatedEntities.{DescribesEntity, RefusesEntity}
use Rattle.entities.specs.StatedRequests.{DescribesContext, RefusesContext, DescribesRequest, RefusesRequest}
use Rattle.schema.specs.Agreement.{Gives, HasOneOutcome}

-- ---- values

-- `ValuesAreRead`: `typed_value` gives the value `v` for `d` by the type `t` if and only if `d` describes `v`.
abbrev pub ValuesAreRead : Type 0
ValuesAreRead = (t : Cedar) (d : Data) (v : PlainValue) → (typed_value t d ≡ Ok v) ↔ Reads t d v

-- `OneValue`: JSON describes at most one value of a type.
abbrev pub OneValue : Type 0
OneValue = (t : Cedar) (d : Data) (v w : PlainValue) → Reads t d v → Reads t d w → v ≡ w

-- `OtherJsonIsOfWrongType`: `typed_value` gives `WrongType` if and only if `d` describes no value of the type `t`.
abbrev pub OtherJsonIsOfWrongType : Type 0
OtherJsonIsOfWrongType = (t : Cedar) (d : Data)
    → (typed_value t d ≡ Err WrongType) ↔ ((v : PlainValue) → Reads t d v → ⊥)

-- ---- records

-- `RecordsAreRead`: `record_in` gives the fields `fs` for an object if and only if the object describes the record of
-- these fields.
abbrev pub RecordsAreRead : Type 0
RecordsAreRead = (t : Cedar) (ms : Members) (fs : List Field)
    → (record_in t (object ms) ≡ Ok fs) ↔ Reads t (object ms) (record_of (fields_of fs))

-- `RecordsAreRefused`: `record_in` gives the error `fault` for an object if and only if `fault` is the first error of
-- the object as a record of the type `t`.
abbrev pub RecordsAreRefused : Type 0
RecordsAreRefused = (t : Cedar) (ms : Members) (fault : EntityFault)
    → (record_in t (object ms) ≡ Err fault) ↔ RefusesRecord t ms fault

-- ---- entities

-- `EntitiesAreRead`: `entity_stated_in` gives the entity that `d` describes under the schema `s`, or the error if it
-- describes none.
abbrev pub EntitiesAreRead : Type 0
EntitiesAreRead = (s : StatedSchema) (d : Data) → Gives (entity_stated_in s d) (DescribesEntity s d) (RefusesEntity s d)

-- `EntitiesHaveOneOutcome`: JSON describes exactly one entity, or is rejected with exactly one error, and never both.
abbrev pub EntitiesHaveOneOutcome : Type 0
EntitiesHaveOneOutcome = (s : StatedSchema) (d : Data) → HasOneOutcome (DescribesEntity s d) (RefusesEntity s d)

-- ---- contexts and requests

-- `ContextsAreRead`: `context_in` gives the context of `action` that `d` describes under the schema `s`, or the error
-- if it describes none.
abbrev pub ContextsAreRead : Type 0
ContextsAreRead = (s : StatedSchema) (action : EntityUid) (d : Data)
    → Gives (context_in s action d) (DescribesContext s action d) (RefusesContext s action d)

-- `ContextsHaveOneOutcome`: JSON describes exactly one context of an action, or is rejected with exactly one error, and
-- never both.
abbrev pub ContextsHaveOneOutcome : Type 0
ContextsHaveOneOutcome = (s : StatedSchema) (action : EntityUid) (d : Data)
    → HasOneOutcome (DescribesContext s action d) (RefusesContext s action d)

-- `RequestIsRead s d` holds if parsing gives exactly the request that `d` describes under the schema `s`, or the error
-- if `d` describes none.
pub record RequestIsRead (s : StatedSchema) (d : Data) : Type 0 where
  pub states : (q : Request) → ParsesRequest s d q ↔ DescribesRequest s d q
  pub refuses : (f : EntityFault) → RequestRefused s d f ↔ RefusesRequest s d f

-- `RequestsAreRead`: under each schema, parsing gives the request that JSON describes, or the error if JSON describes
-- none.
abbrev pub RequestsAreRead : Type 0
RequestsAreRead = (s : StatedSchema) (d : Data) → RequestIsRead s d

-- `RequestsHaveOneOutcome`: JSON describes exactly one request, or is rejected with exactly one error, and never both.
abbrev pub RequestsHaveOneOutcome : Type 0
RequestsHaveOneOutcome = (s : StatedSchema) (d : Data) → HasOneOutcome (DescribesRequest s d) (RefusesRequest s d)
