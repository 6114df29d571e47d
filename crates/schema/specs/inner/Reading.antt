-- Defines the intermediate results of parsing a schema.
use Rattle.std.specs.Prelude.{◌≡◌, map}
use Rattle.std.specs.BTreeMap.{keys, get}
use Rattle.std.specs.BTreeMap as tree
use Rattle.values.specs.Names.{uid_cmp}
use Rattle.ancestor_search.specs.Hierarchy.{Parents, IsAscending}
use Rattle.schema_types.specs.Qualified.{Qualified}
use Rattle.schema_types.specs.Expansions.{Declarations}
use Rattle.schema_types.specs.Mentions.{IsClosed}
use Rattle.schema_types.specs.Outcome.{TypeRefused}
use Rattle.schema_types.specs.declared.fault.SchemaFault.{SchemaFault}
use Rattle.schema_types.specs.declared.fault.SchemaFault.TheVariants.{ActionCycle}
use Rattle.schema_reading.specs.Qualifying.{ResolvedSchema}
use Rattle.schema_reading.specs.Laws.{IsShapeOrContext}
use Rattle.schema.specs.Places.{environment_of}
use Rattle.schema.specs.declared.reading.Types.{Types}
use Rattle.schema.specs.declared.reading.Hierarchies.{Hierarchies}
use Rattle.schema.specs.Schemas.{action_parents, type_parents, SomeActionIsOnCycle, place_cmp}
use Rattle.schema.specs.inner.Making.{AreShapes, ArePlaces, Places, AreMembers}
use Rattle.schema.specs.inner.Numbering.{NumbersAll, AreAncestors, AreNumbers}

-- `AreEdges s parents` holds if `parents` are the edges between the actions of `s`, and no action is its own ancestor.
pub record AreEdges (s : ResolvedSchema) (parents : Parents) : Type 0 where
  pub are : parents ≡ action_parents s
  pub no_cycle : SomeActionIsOnCycle s → ⊥

-- `EdgesRefused s f` holds if some action of `s` is its own ancestor, and `f` is `ActionCycle`.
abbrev pub EdgesRefused : ResolvedSchema → SchemaFault → Type 0
EdgesRefused s f = (f ≡ ActionCycle) × SomeActionIsOnCycle s

-- `AreTypesOf commons s t` holds if `t` has exactly the shapes and the environments of the file `s`, expanded by the
-- common types `commons`.
pub record AreTypesOf (commons : Declarations) (s : ResolvedSchema) (t : Types) : Type 0 where
  pub shapes : AreShapes commons s.entity_types t.shapes
  pub places : Places
  pub are : ArePlaces commons s.actions places
  pub environments : t.environments ≡ map environment_of places.entries
  pub ordered : tree.IsOrdered place_cmp places

-- `TypesRefused commons s f` holds if `f` is the error of some shape or context of `s`: its expansion by the common
-- types `commons` is too large.
abbrev pub TypesRefused : Declarations → ResolvedSchema → SchemaFault → Type 0
TypesRefused commons s f = (r : Qualified) × IsShapeOrContext s r × TypeRefused commons r f

-- `AreTypesClosed commons s` holds if `commons` declare each common type that is named in a shape or a context of `s`.
abbrev pub AreTypesClosed : Declarations → ResolvedSchema → Type 0
AreTypesClosed commons s = (r : Qualified) → IsShapeOrContext s r → IsClosed commons r

-- `AreHierarchiesOf s h` holds if `h` has the actions of `s` with their parents, and the numbered ancestors of actions
-- and of types.
pub record AreHierarchiesOf (s : ResolvedSchema) (h : Hierarchies) : Type 0 where
  pub members : AreMembers (action_parents s) s.actions h.members
  pub actions : h.actions ≡ keys h.members
  pub ascending : IsAscending (keys h.members)
  pub above : AreAncestors (action_parents s) (get uid_cmp h.above.numbers) h.above.spans
  pub numbered : NumbersAll h.actions (get uid_cmp h.above.numbers)
  pub types : AreNumbers (type_parents s) s.entity_types h.types
