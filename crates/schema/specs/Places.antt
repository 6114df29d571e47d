-- Defines the places of environments, the order of places, and the environment at a place.
-- Source: Cedar reference guide 4.0, "Schema JSON format", `appliesTo`.
-- Rules of this product: the order of places.
use Rattle.std.specs.Prelude.{ℕ, List}
use Rattle.std.specs.Ordering.{ordering_then}
use Rattle.std.specs.declared.cmp.Ordering.{Ordering}
use Rattle.values.specs.declared.entity_uid.EntityUid.{EntityUid}
use Rattle.values.specs.Names.{uid_cmp, text_cmp}
use Rattle.schema_types.specs.declared.cedar.CedarType.{CedarType}
use Rattle.schema.specs.declared.parts.Environment.{Environment}
use Rattle.schema.specs.declared.parts.EnvironmentKey.{EnvironmentKey}

-- A place is an action with the types of principal and resource. `place_cmp p q` compares the places `p` and `q` by
-- action, then by principal type, then by resource type.
abbrev pub place_cmp : EnvironmentKey → EnvironmentKey → Ordering
place_cmp p q =
    ordering_then (uid_cmp p.action q.action)
    (ordering_then (text_cmp p.principal q.principal) (text_cmp p.resource q.resource))

-- `place_of action principal resource` is the place of the action `action` with the types `principal` and `resource`.
abbrev pub place_of : EntityUid → List ℕ → List ℕ → EnvironmentKey
place_of action principal resource = record { action = action; principal = principal; resource = resource }

-- `environment_of e` is the environment at the place `e.0`, with the context type `e.1`.
abbrev pub environment_of : EnvironmentKey × CedarType → Environment
environment_of e = record { place = e.0; context = e.1 }
