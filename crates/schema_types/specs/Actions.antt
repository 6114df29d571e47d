-- Defines the action to which a schema refers by a type and an id.
-- Source: Cedar reference guide, "Schema JSON format": action types, `memberOf`.
-- Rules of this product: an action of the empty namespace has the type `Action`, one of a namespace NS the type
-- `NS::Action`; an unqualified type is resolved in the namespace that uses it, then in the empty one.
use Rattle.std.specs.Prelude.{ℕ, List, Bool, codes, Option, Some, None, if◌then◌else◌}
use Rattle.values.specs.declared.entity_uid.EntityUid.{EntityUid}
use Rattle.schema_types.specs.Names.{full_name, is_qualified}

-- `action_type own` is the type of the actions of the namespace `own`; `None` is the empty namespace.
abbrev pub action_type : Option (List ℕ) → List ℕ
action_type own = full_name own (codes "Action")

-- `action_uid type_name id` is the uid of the action with the type `type_name` and the id `id`.
abbrev pub action_uid : List ℕ → List ℕ → EntityUid
action_uid type_name id = record { type_name = type_name; id = id }

-- `declared_action is_action t id` is the action of the type `t` and the id `id`, if it is declared; `is_action` tests
-- for declared actions.
abbrev pub declared_action : (EntityUid → Bool) → List ℕ → List ℕ → Option EntityUid
declared_action is_action t id = if is_action (action_uid t id) then Some (action_uid t id) else None

-- `first_of o later` is `o`, or `later` if `o` is `None`.
abbrev pub first_of : {A : Type 0} → Option A → Option A → Option A
first_of (Some x) later = Some x
first_of None later = later

-- `action_of_type is_action own w id` is the declared action to which the type `w`, written in the namespace `own`, and
-- the id `id` refer, if there is one. An unqualified type is resolved in `own`, then in the empty namespace.
-- `is_action` tests for declared actions.
unfoldable pub action_of_type : (EntityUid → Bool) → Option (List ℕ) → List ℕ → List ℕ → Option EntityUid
action_of_type is_action own w id =
    if is_qualified w then declared_action is_action w id
    else first_of (declared_action is_action (full_name own w) id) (declared_action is_action w id)
