-- Defines the entity data of a decision under a schema: the stored entities, and the schema's actions.
-- Source: Cedar reference guide 4.0, "Schema JSON format", `actions` and `memberOf`.
use Rattle.std.specs.Prelude.{List, map}
use Rattle.values.specs.declared.entity_uid.EntityUid.{EntityUid}
use Rattle.entities.specs.schema.SchemaEntries.{SchemaEntries}
use Rattle.entities.specs.schema.Views.{parents_at}
use Rattle.entities.specs.entity_data.Entities.{EntityMap, Actions, AreActions, with_actions}
use Rattle.entities.specs.entity_data.Listing.{keys_are_found}

-- `actions_under schema` are the actions of `schema`, with the parents that their `memberOf` lists. For a parsed
-- schema, edges from each action to all its ancestors would give the same ancestor relation and the same answers, by a
-- theorem of this crate (Laws.antt).
abbrev pub actions_under : SchemaEntries → Actions
actions_under schema u = parents_at schema.member_of u

-- `entities_under schema entities` are the stored entities `entities` and the actions of `schema`; an action takes
-- precedence over an entity that is stored under its uid.
abbrev pub entities_under : SchemaEntries → EntityMap → EntityMap
entities_under schema entities = with_actions (actions_under schema) entities

-- `action_uids schema` are the uids of the actions of `schema`.
abbrev pub action_uids : SchemaEntries → List EntityUid
action_uids schema = map (λ e. e.0) schema.member_of

-- `actions_are_listed`: `action_uids schema` are exactly the uids of the actions of `schema`.
pub actions_are_listed : (schema : SchemaEntries) → AreActions (actions_under schema) (action_uids schema)
actions_are_listed schema = keys_are_found schema.member_of
