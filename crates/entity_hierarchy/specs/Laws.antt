-- Defines the theorems about actions. An action's parents are those that its `memberOf` lists. If all its ancestors
-- were its parents, the ancestor relation, the outcome of each expression and each answer would be the same, since no
-- cycle contains an action. An entity that is put would be cyclic in the same cases.
use Rattle.std.specs.Prelude.{◌≡◌, ◌↔◌, ℕ, List, Option, None, Ok, option_map}
use Rattle.serde_json.specs.Data.{Data}
use Rattle.values.specs.declared.entity_uid.EntityUid.{EntityUid}
use Rattle.values.specs.Fields.{Field}
use Rattle.authoriser.specs.ancestor_search.Hierarchy.{Parents, IsOnCycle, with_parents}
use Rattle.authoriser.specs.ancestor_search.LeastCycle.{HasNoCycle}
use Rattle.authoriser.specs.evaluator.Operators.{Entities, entities_with}
use Rattle.entities.specs.schema_reading.Qualifying.{ResolvedSchema}
use Rattle.entities.specs.schema.Schemas.{StatedSchema, IsSchemaOf, action_parents}
use Rattle.entities.specs.entity_data.declared.entity.Entity.{Entity}
use Rattle.entities.specs.Entities.{entity_stated_in}
use Rattle.entities.specs.entity_data.Entities.{EntityMap, Actions, with_actions, entity_data_in}
use Rattle.entity_hierarchy.specs.Alike.{LeadAlike, HaveSameCycles, GiveAlike, AnswerAlike}

-- `ReachDecides`: whatever the edges are, each expression has the same outcome if the ancestor relation is the same.
-- Each answer is the same if the cycles are the same too, since a denial may name the edges of a cycle. If no entity is
-- cyclic, the cycles are the same.
abbrev pub ReachDecides : Type 0
ReachDecides = (stored : EntityUid → Option (List Field)) (parents others : Parents) → LeadAlike parents others
    → GiveAlike (entities_with stored parents) (entities_with stored others)
    × (HaveSameCycles parents others → AnswerAlike (entities_with stored parents) (entities_with stored others))
    × (HasNoCycle parents → HaveSameCycles parents others)

-- `by_member_of s v` are the actions of the schema `v`, each with the parents that its `memberOf` lists in the
-- declarations `s` of that schema.
abbrev pub by_member_of : ResolvedSchema → StatedSchema → Actions
by_member_of s v u = option_map (λ above. action_parents s u) (v.ancestors u)

-- `stated_world s v entities` is the entity data of the stored entities `entities` and the actions `by_member_of s v`.
-- `closed_world v entities` is the entity data of `entities` and the actions of the schema `v`, each with all its
-- ancestors as its parents.
abbrev pub stated_world : ResolvedSchema → StatedSchema → EntityMap → Entities
stated_world s v entities = entity_data_in (with_actions (by_member_of s v) entities)

abbrev pub closed_world : StatedSchema → EntityMap → Entities
closed_world v entities = entity_data_in (with_actions v.ancestors entities)

-- `MemberOfIsKept`: the parents of an action in the entity data under a schema are those that its `memberOf` lists.
abbrev pub MemberOfIsKept : Type 0
MemberOfIsKept = (bytes : List ℕ) (v : StatedSchema) (stated : IsSchemaOf bytes v) (entities : EntityMap)
    → entity_data_in (with_actions v.member_of entities) ≡ stated_world stated.named v entities

-- `MemberOfLeadsAlike`: `stated_world` and `closed_world` have the same ancestor relation.
abbrev pub MemberOfLeadsAlike : Type 0
MemberOfLeadsAlike = (bytes : List ℕ) (v : StatedSchema) (stated : IsSchemaOf bytes v) (entities : EntityMap)
    → LeadAlike (stated_world stated.named v entities).parents (closed_world v entities).parents

-- `MemberOfGivesAlike` and `MemberOfAnswersAlike`: over `stated_world` and `closed_world`, each expression has the same
-- outcome, and each request the same answer.
abbrev pub MemberOfGivesAlike : Type 0
MemberOfGivesAlike = (bytes : List ℕ) (v : StatedSchema) (stated : IsSchemaOf bytes v) (entities : EntityMap)
    → GiveAlike (stated_world stated.named v entities) (closed_world v entities)

abbrev pub MemberOfAnswersAlike : Type 0
MemberOfAnswersAlike = (bytes : List ℕ) (v : StatedSchema) (stated : IsSchemaOf bytes v) (entities : EntityMap)
    → AnswerAlike (stated_world stated.named v entities) (closed_world v entities)

-- `MemberOfPutsAlike`: if the parents of an entity are replaced, the entity is cyclic in both `stated_world` and
-- `closed_world`, or in neither.
abbrev pub MemberOfPutsAlike : Type 0
MemberOfPutsAlike = (bytes : List ℕ) (v : StatedSchema) (stated : IsSchemaOf bytes v) (entities : EntityMap)
    (u : EntityUid) (parents : List EntityUid)
    → IsOnCycle (with_parents (stated_world stated.named v entities).parents u parents) u
    ↔ IsOnCycle (with_parents (closed_world v entities).parents u parents) u

-- `NoEntityIsAnAction`: no entity that is parsed under a schema is an action of that schema, so stored entities and
-- actions are disjoint.
abbrev pub NoEntityIsAnAction : Type 0
NoEntityIsAnAction = (bytes : List ℕ) (v : StatedSchema) → IsSchemaOf bytes v → (d : Data) (e : Entity)
    → entity_stated_in v d ≡ Ok e → v.ancestors e.uid ≡ None
