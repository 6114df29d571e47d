-- Defines the abstract view of a schema file with resolved names, without the layout of the code's types.
use Rattle.std.specs.Prelude.{map, option_map}
use Rattle.schema_types.specs.QualifiedViews.{qualified_view, resolved_common_view}
use Rattle.schema_reading.specs.Qualifying.{ResolvedEntityType, ResolvedAppliesTo, ResolvedAction, ResolvedSchema}
use Rattle.schema_reading.specs.declared.qualifying.ResolvedEntityType as entity_type
use Rattle.schema_reading.specs.declared.qualifying.ResolvedAppliesTo as use_code
use Rattle.schema_reading.specs.declared.qualifying.ResolvedAction as action
use Rattle.schema_reading.specs.declared.qualifying.ResolvedFile as namespace

-- `resolved_entity_type_view e` is the abstract value of the entity type `e` of the code.
abbrev pub resolved_entity_type_view : entity_type.ResolvedEntityType → ResolvedEntityType
resolved_entity_type_view e = record { name = e.name; parents = e.parents; shape = option_map qualified_view e.shape }

-- `resolved_applies_to_view u` is the abstract value of `u`, what an action of the code applies to.
abbrev pub resolved_applies_to_view : use_code.ResolvedAppliesTo → ResolvedAppliesTo
resolved_applies_to_view u =
    record { principals = u.principals; resources = u.resources; context = option_map qualified_view u.context }

-- `resolved_action_view a` is the abstract value of the action `a` of the code.
abbrev pub resolved_action_view : action.ResolvedAction → ResolvedAction
resolved_action_view a = record
    { uid = a.uid; parents = a.parents; applies_to = option_map resolved_applies_to_view a.applies_to }

-- `resolved_view n` is the abstract value of the declarations `n` of the code.
abbrev pub resolved_view : namespace.ResolvedFile → ResolvedSchema
resolved_view n = record {
  commons = map resolved_common_view n.commons;
  entity_types = map resolved_entity_type_view n.entity_types;
  actions = map resolved_action_view n.actions;
}
