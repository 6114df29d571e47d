-- Defines the entity data of a decision: the stored entities, and the declared actions.
-- Source: Cedar reference guide 4.0, "Entities and context" and "Schema JSON format", `actions` and `memberOf`;
-- cedar-spec, cedar-lean/Cedar/Spec/Entities.lean (`EntityData`, and `Entities` as a map from uids to these).
-- Rules of this product: an action has no attributes, and the uid of a declared action always denotes that action,
-- whatever else is stored under it.
use Rattle.std.specs.Prelude.{◌↔◌, List, [], ◌++◌, Contains, Option, Some, None, IsSome}
use Rattle.values.specs.declared.entity_uid.EntityUid.{EntityUid}
use Rattle.values.specs.Fields.{Field}
use Rattle.evaluator.specs.Operators.{Entities, entities_with}
use Rattle.entity_data.specs.UidSets.{uid_set}
use Rattle.entity_data.specs.declared.data.EntityData.{EntityData}

-- An `EntityMap` gives the data of each stored uid, and `None` for any other uid.
abbrev pub EntityMap : Type 0
EntityMap = EntityUid → Option EntityData

-- `attributes_of o` are the attributes of the entity data `o`; `None` if `o` is `None`.
abbrev pub attributes_of : Option EntityData → Option (List Field)
attributes_of None = None
attributes_of (Some e) = Some e.attrs

-- `kept_parents o` are the parents of the entity data `o`; `[]` if `o` is `None`.
abbrev pub kept_parents : Option EntityData → List EntityUid
kept_parents None = []
kept_parents (Some e) = e.parents

-- `entity_data_in entities` is the entity data that evaluation uses: the attributes and the parents of each uid of the
-- map `entities`.
abbrev pub entity_data_in : EntityMap → Entities
entity_data_in entities = entities_with (λ u. attributes_of (entities u)) (λ u. kept_parents (entities u))

-- `AreListed entities us` holds if `us` are exactly the uids that have data in `entities`.
abbrev pub AreListed : EntityMap → List EntityUid → Type 0
AreListed entities us = (u : EntityUid) → Contains us u ↔ IsSome (entities u)

-- ---- actions

-- `Actions` give the parents of each declared action, and `None` for any other uid.
abbrev pub Actions : Type 0
Actions = EntityUid → Option (List EntityUid)

-- `no_actions` declares no action.
abbrev pub no_actions : Actions
no_actions u = None

-- `AreActions actions us` holds if `us` are exactly the uids of the declared actions `actions`.
abbrev pub AreActions : Actions → List EntityUid → Type 0
AreActions actions us = (u : EntityUid) → Contains us u ↔ IsSome (actions u)

-- `action_or parents other` is the data of an action with the parents in `parents` and without attributes. If `parents`
-- is `None`, as for a uid that no declared action has, it is the data `other` of the stored entity, which may also be
-- `None`.
abbrev pub action_or : Option (List EntityUid) → Option EntityData → Option EntityData
action_or (Some parents) other = Some (record { attrs = []; parents = parents })
action_or None other = other

-- `with_actions actions entities` are the stored entities `entities` and the declared actions `actions`; an action
-- takes precedence over an entity that is stored under its uid.
abbrev pub with_actions : Actions → EntityMap → EntityMap
with_actions actions entities u = action_or (actions u) (entities u)

-- `uids_with actions us` are the uids `actions` of actions and the uids `us` of entities in one list, ascending and
-- without duplicates.
abbrev pub uids_with : List EntityUid → List EntityUid → List EntityUid
uids_with actions us = uid_set (actions ++ us)
