-- Defines the abstract view of the parts of a schema file, without the layout of the code's types.
use Rattle.std.specs.Prelude.{ℕ, List, map, option_map}
use Rattle.schema_types.specs.Raw.{Raw}
use Rattle.schema_types.specs.Views.{raw_view}
use Rattle.schema_reading.specs.FileForm.{EntityTypeOf, AppliesToOf, ActionOf, NamespaceOf}
use Rattle.schema_reading.specs.declared.stated.StatedCommon.{StatedCommon}
use Rattle.schema_reading.specs.declared.stated.StatedEntityType.{StatedEntityType}
use Rattle.schema_reading.specs.declared.stated.StatedAppliesTo.{StatedAppliesTo}
use Rattle.schema_reading.specs.declared.stated.StatedAction.{StatedAction}
use Rattle.schema_reading.specs.declared.stated.StatedNamespace.{StatedNamespace}

-- `common_view c` is the common type `c` of the code: its name and its type.
abbrev pub common_view : StatedCommon → List ℕ × Raw
common_view c = (c.name, raw_view c.ty)

-- `entity_type_view e` is the abstract value of the entity type `e` of the code.
abbrev pub entity_type_view : StatedEntityType → EntityTypeOf
entity_type_view e = record { name = e.name; parents = e.parents; shape = option_map raw_view e.shape }

-- `applies_to_view u` is the abstract value of `u`, what an action of the code applies to.
abbrev pub applies_to_view : StatedAppliesTo → AppliesToOf
applies_to_view u = record
    { principals = u.principals; resources = u.resources; context = option_map raw_view u.context }

-- `action_view a` is the abstract value of the action `a` of the code.
abbrev pub action_view : StatedAction → ActionOf
action_view a = record { id = a.id; parents = a.parents; applies_to = option_map applies_to_view a.applies_to }

-- `namespace_view n` is the abstract value of the namespace `n` of the code.
abbrev pub namespace_view : StatedNamespace → NamespaceOf
namespace_view n = record {
  name = n.name;
  commons = map common_view n.commons;
  entity_types = map entity_type_view n.entity_types;
  actions = map action_view n.actions;
}
