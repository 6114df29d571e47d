-- Defines answers and cycles over a store in which each action has only the parents that its `memberOf` names in the
-- schema's bytes. A theorem of this crate, `stored_actions_answer_alike`, shows that they are the answers and cycles of
-- StoreMeaning.antt, which takes the parents from the field `member_of` of the described schema.
-- Source: Cedar reference guide 4.0, "Schema JSON format", `actions` and `memberOf`.
use Rattle.std.specs.Prelude.{◌↔◌, ℕ, List, Option}
use Rattle.values.specs.declared.entity_uid.EntityUid.{EntityUid}
use Rattle.values.specs.declared.request.Request.{Request}
use Rattle.entity_hierarchy.specs.policy_grammar.declared.policy.Policy.{Policy}
use Rattle.entity_hierarchy.specs.ancestor_search.Hierarchy.{Parents, IsOnCycle, with_parents}
use Rattle.entity_hierarchy.specs.evaluator.Operators.{Entities}
use Rattle.entity_hierarchy.specs.authoriser.declared.answer.Answer.{Answer}
use Rattle.entity_hierarchy.specs.authoriser.Answers.{NamedPolicy, IsAnswer}
use Rattle.entity_hierarchy.specs.schema.Schemas.{StatedSchema, IsSchemaOf}
use Rattle.entity_hierarchy.specs.entity_data.declared.entity.Entity.{Entity}
use Rattle.entity_hierarchy.specs.Laws.{stated_world}
use Rattle.stamped_store.specs.Store.{Store}
use Rattle.site_meaning.specs.StoreMeaning.{ArePolicies, AreEntities, data_in, IsAnswerOver, MakesCycle, MakesNoCycle}

-- ---- the meaning of a store, under a schema that bytes describe

-- `stated` shows that `bytes` describe `schema`. `Policies` and `Entities` relate a name and a text to what the text is
-- parsed as.
module _ {bytes : List ℕ} {schema : StatedSchema} (stated : IsSchemaOf bytes schema) where
  -- `stated_world_under entities` is the entity data for evaluation: the attributes and parents of `entities`, and the
  -- parents that the `memberOf` of each action of the schema names.
  abbrev pub stated_world_under : (EntityUid → Option Entity) → Entities
  stated_world_under entities = stated_world stated.named schema (data_in entities)

  -- `stated_parents_with entities e` is the parent relation of `stated_world_under entities` after the entity `e` is
  -- put: the uid of `e` then has the parents of `e`.
  abbrev pub stated_parents_with : (EntityUid → Option Entity) → Entity → Parents
  stated_parents_with entities e = with_parents (stated_world_under entities).parents e.uid e.parents

  -- `IsAnswerByMemberOf Policies Entities s q a` holds if `a` is an answer to the request `q` over the store `s`, where
  -- each action has the parents that its `memberOf` names.
  pub record IsAnswerByMemberOf (Policies : List ℕ → List ℕ → Policy → Type 0)
      (Entities : EntityUid → List ℕ → Entity → Type 0) (s : Store) (q : Request) (a : Answer) : Type 0 where
    pub policies : List NamedPolicy
    pub are_policies : ArePolicies Policies s policies
    pub entities : EntityUid → Option Entity
    pub are_entities : AreEntities Entities s entities
    pub is_answer : IsAnswer (stated_world_under entities) q policies a

  -- `MakesCycleByMemberOf Entities s e` holds if the entity `e` is cyclic once it is put into the store `s`, where each
  -- action has the parents that its `memberOf` names.
  pub record MakesCycleByMemberOf (Entities : EntityUid → List ℕ → Entity → Type 0) (s : Store) (e : Entity) : Type 0
    where
      pub entities : EntityUid → Option Entity
      pub are_entities : AreEntities Entities s entities
      pub cycle : IsOnCycle (stated_parents_with entities e) e.uid

  -- `MakesNoCycleByMemberOf Entities s e` holds if the entity `e` is not cyclic once it is put into the store `s`,
  -- where each action has the parents that its `memberOf` names.
  pub record MakesNoCycleByMemberOf (Entities : EntityUid → List ℕ → Entity → Type 0) (s : Store) (e : Entity) : Type 0
    where
      pub entities : EntityUid → Option Entity
      pub are_entities : AreEntities Entities s entities
      pub none : IsOnCycle (stated_parents_with entities e) e.uid → ⊥

-- ---- theorems, for any `Policies` and `Entities`: relations between a name, a text and what the text is parsed as

-- `StoredActionsAnswerAlike Policies Entities`: the answers over a store are the answers over the same store where each
-- action has only the parents that its `memberOf` names.
abbrev pub StoredActionsAnswerAlike : (List ℕ → List ℕ → Policy → Type 0) → (EntityUid → List ℕ → Entity → Type 0)
    → Type 0
StoredActionsAnswerAlike Policies Entities =
    (bytes : List ℕ) (schema : StatedSchema) (stated : IsSchemaOf bytes schema) (s : Store) (q : Request) (a : Answer)
    → IsAnswerOver Policies Entities schema s q a ↔ IsAnswerByMemberOf stated Policies Entities s q a

-- `StoredActionsCycleAlike Entities`: an entity that is put becomes cyclic (`MakesCycle`) if and only if it becomes
-- cyclic where each action has only the parents that its `memberOf` names.
abbrev pub StoredActionsCycleAlike : (EntityUid → List ℕ → Entity → Type 0) → Type 0
StoredActionsCycleAlike Entities =
    (bytes : List ℕ) (schema : StatedSchema) (stated : IsSchemaOf bytes schema) (s : Store) (e : Entity)
    → MakesCycle Entities schema s e ↔ MakesCycleByMemberOf stated Entities s e

-- `StoredActionsAllowAlike Entities`: an entity that is put stays acyclic (`MakesNoCycle`) if and only if it stays
-- acyclic where each action has only the parents that its `memberOf` names.
abbrev pub StoredActionsAllowAlike : (EntityUid → List ℕ → Entity → Type 0) → Type 0
StoredActionsAllowAlike Entities =
    (bytes : List ℕ) (schema : StatedSchema) (stated : IsSchemaOf bytes schema) (s : Store) (e : Entity)
    → MakesNoCycle Entities schema s e ↔ MakesNoCycleByMemberOf stated Entities s e
