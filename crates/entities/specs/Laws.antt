-- Defines the theorems about entities and requests under a schema.
use Rattle.std.specs.Prelude.{◌≡◌, ◌↔◌, ◌⊎◌, ◌≤◌, ℕ, List, Contains, IsTrue, Ok}
use Rattle.serde_json.specs.Data.{Data, depth}
use Rattle.serde_json.specs.Read.{max_depth}
use Rattle.values.specs.declared.entity_uid.EntityUid.{EntityUid}
use Rattle.values.specs.declared.request.Request.{Request}
use Rattle.entity_data.specs.ancestor_search.Hierarchy.{IsAscending}
use Rattle.schema.specs.Schemas.{StatedSchema}
use Rattle.schema.specs.WellFormed.{IsActionType, IsWellFormed}
use Rattle.entities.specs.declared.fault.EntityFault.{EntityFault}
use Rattle.entity_data.specs.declared.entity.Entity.{Entity}
use Rattle.entities.specs.Entities.{is_action_type, entity_stated_in}
use Rattle.entities.specs.Requests.{ParsesRequest, RequestRefused}
use Rattle.entities.specs.Canonical.{canonical_json}
use Rattle.entity_data.specs.UidSets.{uid_set}

-- ---- action types

-- `ActionTypeTestIsExact`: `is_action_type` accepts exactly the types of actions, in any namespace, also the empty one.
abbrev pub ActionTypeTestIsExact : Type 0
ActionTypeTestIsExact = (name : List ℕ) → IsTrue (is_action_type name) ↔ IsActionType name

-- ---- entities

-- `CanonicalEntityIsRead`: the round trip of a parsed entity: its canonical JSON is parsed as the same entity, under
-- the same schema.
abbrev pub CanonicalEntityIsRead : Type 0
CanonicalEntityIsRead = (s : StatedSchema) (d : Data) (e : Entity) → entity_stated_in s d ≡ Ok e
    → entity_stated_in s (canonical_json e) ≡ Ok e

-- `CanonicalEntityNests`: under a well-formed schema, the canonical JSON of a parsed entity is within the limit of
-- nesting, since no shape is too large.
abbrev pub CanonicalEntityNests : Type 0
CanonicalEntityNests = (s : StatedSchema) (d : Data) (e : Entity) → IsWellFormed s → entity_stated_in s d ≡ Ok e
    → depth (canonical_json e) ≤ max_depth

-- `CanonicalIsOne`: two entities parsed under one schema are equal if their canonical JSON is equal.
abbrev pub CanonicalIsOne : Type 0
CanonicalIsOne = (s : StatedSchema) (d other : Data) (e f : Entity) → entity_stated_in s d ≡ Ok e
    → entity_stated_in s other ≡ Ok f
    → canonical_json e ≡ canonical_json f → e ≡ f

-- `SetsHoldTheirMembers`: the list `uid_set us` ascends strictly, and has exactly the uids of `us`.
abbrev pub SetsHoldTheirMembers : Type 0
SetsHoldTheirMembers = (us : List EntityUid) → IsAscending (uid_set us)
    × ((u : EntityUid) → Contains us u ↔ Contains (uid_set us) u)

-- ---- requests

-- `OneRequest`: a JSON value describes at most one request.
abbrev pub OneRequest : Type 0
OneRequest = (s : StatedSchema) (d : Data) (q other : Request) → ParsesRequest s d q → ParsesRequest s d other
    → q ≡ other

-- `NotBoth`: a JSON value that describes a request is not rejected.
abbrev pub NotBoth : Type 0
NotBoth = (s : StatedSchema) (d : Data) (q : Request) (f : EntityFault) → ParsesRequest s d q → RequestRefused s d f
    → ⊥

-- `OneRefusal`: a JSON value is rejected with at most one error.
abbrev pub OneRefusal : Type 0
OneRefusal = (s : StatedSchema) (d : Data) (f g : EntityFault) → RequestRefused s d f → RequestRefused s d g → f ≡ g

-- `RequestOrRefusal`: each JSON value describes a request, or is rejected.
abbrev pub RequestOrRefusal : Type 0
RequestOrRefusal = (s : StatedSchema) (d : Data) → ((q : Request) × ParsesRequest s d q)
    ⊎ ((f : EntityFault) × RequestRefused s d f)
