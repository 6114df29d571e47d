-- Defines the theorems that values, entities and requests parsed under a schema have the types that the schema
-- declares.
-- Source: cedar-spec, cedar-lean/Cedar/Validation/RequestEntityValidator.lean (`instanceOfType`,
-- `instanceOfEntitySchema`, `instanceOfRequestType`).
use Rattle.std.specs.Prelude.{◌≡◌, List, Contains, Ok}
use Rattle.serde_json.specs.Data.{Data}
use Rattle.values.specs.declared.request.Request.{Request}
use Rattle.values.specs.Fields.{Field}
use Rattle.values.specs.Values.{PlainValue, record_of, fields_of}
use Rattle.site_meaning.specs.schema_types.Cedar.{Cedar}
use Rattle.site_store.specs.schema.Schemas.{EnvironmentOf, StatedSchema}
use Rattle.entities.specs.Typing.{typed_value, record_in}
use Rattle.site_store.specs.entity_data.declared.entity.Entity.{Entity}
use Rattle.entities.specs.Entities.{entity_stated_in}
use Rattle.entities.specs.Requests.{ParsesRequest}
use Rattle.sync_messages.specs.typing.Types.{record_type}
use Rattle.sync_messages.specs.typing.Environment.{Environment}
use Rattle.sync_messages.specs.typing.Membership.{Of}
use Rattle.sync_messages.specs.type_checker.FromSchemas.{static, field_types_in, attributes_of, typing_environment_of}

-- `ValuesAreOfTheirTypes`: a value that is parsed from JSON by a declared type is of that type.
abbrev pub ValuesAreOfTheirTypes : Type 0
ValuesAreOfTheirTypes = (t : Cedar) (d : Data) (v : PlainValue) → typed_value t d ≡ Ok v → Of v (static t)

-- `RecordsAreOfTheirTypes`: the fields of a record that is parsed from JSON are of the record's type: each required one
-- is present, and only declared ones are.
abbrev pub RecordsAreOfTheirTypes : Type 0
RecordsAreOfTheirTypes = (t : Cedar) (d : Data) (fs : List Field) → record_in t d ≡ Ok fs
    → Of (record_of (fields_of fs)) (record_type (field_types_in t))

-- `EntitiesAreOfTheirTypes`: the attributes of an entity that is parsed from JSON are of the record type that its
-- entity type declares.
abbrev pub EntitiesAreOfTheirTypes : Type 0
EntitiesAreOfTheirTypes = (s : StatedSchema) (d : Data) (e : Entity) → entity_stated_in s d ≡ Ok e
    → Of (record_of (fields_of e.attrs)) (record_type (attributes_of s e.uid.type_name))

-- `IsOfKind env q` holds if the request `q` is of the environment `env`: it has the action of `env`, and its principal,
-- resource and context are of the types of `env`.
pub record IsOfKind (env : Environment) (q : Request) : Type 0 where
  pub principal : q.principal.type_name ≡ env.principal
  pub action : q.action ≡ env.action
  pub resource : q.resource.type_name ≡ env.resource
  pub context : Of (record_of (fields_of q.context)) (record_type env.context)

-- `RequestsAreOfAnEnvironment`: a request that JSON describes under a schema is of one of the schema's environments.
abbrev pub RequestsAreOfAnEnvironment : Type 0
RequestsAreOfAnEnvironment = (s : StatedSchema) (d : Data) (q : Request) → ParsesRequest s d q
    → (e : EnvironmentOf) × Contains s.environments e × IsOfKind (typing_environment_of s e) q
