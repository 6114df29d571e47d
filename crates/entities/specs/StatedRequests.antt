-- Defines which JSON describes which context and which request, and the error of all other JSON.
-- Source: Cedar reference guide 4.0, "Authorization request".
-- Rules of this product: principal, action and resource are each a uid in the form that entities use, or a string as in
-- a policy; an absent context is empty, and null does not count as absent; other keys are ignored; the order of the
-- errors.
use Rattle.std.specs.Prelude.{◌≡◌, List, ◌∷◌, codes}
use Rattle.serde_json.specs.Data.{Data, Members, object}
use Rattle.values.specs.Fields.{Field}
use Rattle.values.specs.Values.{record_of, fields_of}
use Rattle.values.specs.declared.entity_uid.EntityUid.{EntityUid}
use Rattle.values.specs.declared.request.Request.{Request}
use Rattle.entities.specs.declared.fault.EntityFault.{EntityFault}
use Rattle.schema_types.specs.Cedar.{Cedar}
use Rattle.schema.specs.declared.parts.EnvironmentKey.{EnvironmentKey}
use Rattle.schema.specs.Schemas.{EnvironmentOf, StatedSchema}
use Rattle.entities.specs.declared.fault.EntityFault.TheVariants.{BadShape, NotApplicable}
use Rattle.entities.specs.declared.requests.Asked.{Asked}
use Rattle.entities.specs.Requests.{NamesAt, asked_by}
use Rattle.entities.specs.StatedValues.{Reads, RefusesRecord}
use Rattle.entities.specs.StatedEntities.{ObjectAt}

-- ---- the context of an action

-- `IsOfAction action place` holds if `place` has the action `action`. The place of an environment, an `EnvironmentKey`,
-- is its action, its principal type and its resource type.
abbrev pub IsOfAction : EntityUid → EnvironmentKey → Type 0
IsOfAction action place = place.action ≡ action

-- `AppliesTo asked place` holds if `place` has the action of `asked`, and the types of the principal and the resource
-- of `asked`.
pub record AppliesTo (asked : Asked) (place : EnvironmentKey) : Type 0 where
  pub same_action : place.action ≡ asked.action
  pub same_principal : place.principal ≡ asked.principal.type_name
  pub same_resource : place.resource ≡ asked.resource.type_name

-- `HasContext IsPlace environments t` holds if `t` is the type of the context in the first of `environments` for whose
-- place `IsPlace` holds. (All environments of an action have the same type of context.)
pub data HasContext (IsPlace : EnvironmentKey → Type 0) : List EnvironmentOf → Cedar → Type 0 where
  first_place : (e : EnvironmentOf) (more : List EnvironmentOf) → IsPlace e.place
      → HasContext IsPlace (e ∷ more) e.context
  later_place : (e : EnvironmentOf) (more : List EnvironmentOf) (t : Cedar) → (IsPlace e.place → ⊥)
      → HasContext IsPlace more t → HasContext IsPlace (e ∷ more) t

-- `ReadsContext IsPlace s ms fields` holds if the object with the members `ms` describes the context `fields` by the
-- type of the context in the first environment of the schema `s` for whose place `IsPlace` holds.
pub record ReadsContext (IsPlace : EnvironmentKey → Type 0) (s : StatedSchema) (ms : Members) (fields : List Field)
    : Type 0 where
  pub shape : Cedar
  pub applies : HasContext IsPlace s.environments shape
  pub reads : Reads shape (object ms) (record_of (fields_of fields))

-- `FailsContext IsPlace s ms fault` holds if the object with the members `ms` does not describe a context, and `fault`
-- is the first error: no environment of the schema `s` has a place for which `IsPlace` holds, or the object is not a
-- record of the context's type.
pub data FailsContext (IsPlace : EnvironmentKey → Type 0) (s : StatedSchema) (ms : Members) : EntityFault → Type 0 where
  not_applicable : ((t : Cedar) → HasContext IsPlace s.environments t → ⊥) → FailsContext IsPlace s ms NotApplicable
  bad_fields : (t : Cedar) (fault : EntityFault) → HasContext IsPlace s.environments t → RefusesRecord t ms fault
      → FailsContext IsPlace s ms fault

-- `DescribesContext s action d fields` holds if `d` is an object that describes the context `fields` of `action` under
-- the schema `s`.
pub record DescribesContext (s : StatedSchema) (action : EntityUid) (d : Data) (fields : List Field) : Type 0 where
  pub members : Members
  pub is_object : d ≡ object members
  pub reads : ReadsContext (IsOfAction action) s members fields

-- `RefusesContext s action d fault` holds if `d` describes no context of `action` under the schema `s`, and `fault` is
-- the first error.
pub data RefusesContext (s : StatedSchema) (action : EntityUid) (d : Data) : EntityFault → Type 0 where
  other_json : ((ms : Members) → d ≡ object ms → ⊥) → RefusesContext s action d BadShape
  bad_context : (ms : Members) (fault : EntityFault) → d ≡ object ms → FailsContext (IsOfAction action) s ms fault
      → RefusesContext s action d fault

-- ---- requests

-- `HasRequestForm d asked ms` holds if `d` has the form of a request: it names the principal, the action and the
-- resource of `asked`, and its context is an object with the members `ms`, or is absent and `ms` is empty.
pub record HasRequestForm (d : Data) (asked : Asked) (ms : Members) : Type 0 where
  pub principal : NamesAt (codes "principal") d asked.principal
  pub action : NamesAt (codes "action") d asked.action
  pub resource : NamesAt (codes "resource") d asked.resource
  pub has_context : ObjectAt (codes "context") d ms

-- `DescribesRequest s d q` holds if `d` describes the request `q` under the schema `s`: the action applies to the types
-- of principal and resource, and the context is the record that `d` describes by the context's type.
pub record DescribesRequest (s : StatedSchema) (d : Data) (q : Request) : Type 0 where
  pub members : Members
  pub asks : HasRequestForm d (asked_by q) members
  pub reads : ReadsContext (AppliesTo (asked_by q)) s members q.context

-- `RefusesRequest s d fault` holds if `d` describes no request under the schema `s`, and `fault` is the first error:
-- `BadShape` for the form, else `NotApplicable` for the action, else the error of the context.
pub data RefusesRequest (s : StatedSchema) (d : Data) : EntityFault → Type 0 where
  no_request : ((asked : Asked) (ms : Members) → HasRequestForm d asked ms → ⊥) → RefusesRequest s d BadShape
  bad_request : (asked : Asked) (ms : Members) (fault : EntityFault) → HasRequestForm d asked ms
      → FailsContext (AppliesTo asked) s ms fault → RefusesRequest s d fault
