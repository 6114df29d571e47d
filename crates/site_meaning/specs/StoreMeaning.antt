-- Defines the meaning of a store: its policies, its entities, and the answers over them.
-- Rules of this product: the policies and entities are those whose entry has a text, each parsed from that text. A
-- deleted name has no policy and no entity. The schema's actions are added to the entities. These definitions have a
-- parameter `Reads` (or `Policies` and `Entities`): the relation between a name, a text and a value that the text may
-- be parsed as.
use Rattle.std.specs.Prelude.{◌≡◌, ℕ, List, Option, Some, None, option_map}
use Rattle.std.specs.List.{AllZip}
use Rattle.values.specs.declared.entity_uid.EntityUid.{EntityUid}
use Rattle.values.specs.declared.request.Request.{Request}
use Rattle.entity_hierarchy.specs.policy_grammar.declared.policy.Policy.{Policy}
use Rattle.entity_hierarchy.specs.ancestor_search.Hierarchy.{Parents, IsOnCycle, with_parents}
use Rattle.entity_hierarchy.specs.evaluator.Operators.{Entities}
use Rattle.entity_hierarchy.specs.authoriser.declared.answer.Answer.{Answer}
use Rattle.entity_hierarchy.specs.authoriser.Answers.{NamedPolicy, IsAnswer}
use Rattle.entity_hierarchy.specs.schema.Schemas.{StatedSchema}
use Rattle.entity_hierarchy.specs.entity_data.declared.entity.Entity.{Entity}
use Rattle.entity_hierarchy.specs.entity_data.declared.data.EntityData.{EntityData}
use Rattle.entity_hierarchy.specs.entity_data.Entities.{EntityMap, with_actions, entity_data_in}
use Rattle.stamped_store.specs.Store.{Store, entity_name}
use Rattle.stamped_store.specs.Contents.{text_under, policies_of}

-- `HaveOneReading Reads` holds if a text has at most one value by `Reads` under each name.
abbrev pub HaveOneReading : {N X : Type 0} → (N → List ℕ → X → Type 0) → Type 0
HaveOneReading {N} {X} Reads = (name : N) (text : List ℕ) (x y : X) → Reads name text x → Reads name text y → x ≡ y

-- `ArePolicies Reads s ps` holds if `ps` are the policies of the store `s`, ascending by id. Each id that has a text in
-- `s` has one policy, which is a value of that text by `Reads`; no other id has a policy.
abbrev pub ArePolicies : (List ℕ → List ℕ → Policy → Type 0) → Store → List NamedPolicy → Type 0
ArePolicies Reads s ps = AllZip (λ t p. (p.id ≡ t.0) × Reads t.0 t.1 p.policy) (policies_of s) ps

-- `IsReadFrom Reads text e` holds if `text` and `e` are both absent, or `e` is a value of `text` by `Reads`.
abbrev pub IsReadFrom : (List ℕ → Entity → Type 0) → Option (List ℕ) → Option Entity → Type 0
IsReadFrom Reads None None = Unit {0}
IsReadFrom Reads None (Some e) = ⊥
IsReadFrom Reads (Some text) None = ⊥
IsReadFrom Reads (Some text) (Some e) = Reads text e

-- `AreEntities Reads s entities` holds if `entities` are the entities of the store `s`. At each uid with a text,
-- `entities` has a value of that text by `Reads`, and at any other uid nothing.
abbrev pub AreEntities : (EntityUid → List ℕ → Entity → Type 0) → Store → (EntityUid → Option Entity) → Type 0
AreEntities Reads s entities =
    (uid : EntityUid) → IsReadFrom (Reads uid) (text_under s (entity_name uid)) (entities uid)

-- `data_of e` has the attributes and parents of the entity `e`.
abbrev pub data_of : Entity → EntityData
data_of e = record { attrs = e.attrs; parents = e.parents }

-- `data_in entities` is the map from uids to the attributes and parents of `entities`.
abbrev pub data_in : (EntityUid → Option Entity) → EntityMap
data_in entities uid = option_map data_of (entities uid)

-- `entity_data_under schema entities` is the entity data for evaluation: the attributes and parents of `entities`, and
-- for each action of `schema` the parents that the action's `memberOf` names (ByMemberOf.antt). An action takes
-- precedence over an entity with its uid. A theorem of `entity_hierarchy` shows that answers and cycles stay the same
-- if each action has all of its ancestors as parents.
abbrev pub entity_data_under : StatedSchema → (EntityUid → Option Entity) → Entities
entity_data_under schema entities = entity_data_in (with_actions schema.member_of (data_in entities))

-- `IsAnswerOver Policies Entities schema s q a` holds if `a` is an answer to the request `q` over the policies and
-- entities of the store `s` and the actions of `schema`.
pub record IsAnswerOver (Policies : List ℕ → List ℕ → Policy → Type 0) (Entities : EntityUid → List ℕ → Entity → Type 0)
    (schema : StatedSchema) (s : Store) (q : Request) (a : Answer) : Type 0 where
  pub policies : List NamedPolicy
  pub are_policies : ArePolicies Policies s policies
  pub entities : EntityUid → Option Entity
  pub are_entities : AreEntities Entities s entities
  pub is_answer : IsAnswer (entity_data_under schema entities) q policies a

-- `parents_with schema entities e` is the parent relation of `entities` and the actions of `schema` after the entity
-- `e` is put: the uid of `e` then has the parents of `e`.
abbrev pub parents_with : StatedSchema → (EntityUid → Option Entity) → Entity → Parents
parents_with schema entities e = with_parents (entity_data_under schema entities).parents e.uid e.parents

-- `MakesCycle Entities schema s e` holds if the entity `e` is cyclic once it is put into the store `s`. The cycle is
-- over the entities of the store (by the relation `Entities`) and the actions of `schema`.
pub record MakesCycle (Entities : EntityUid → List ℕ → Entity → Type 0) (schema : StatedSchema) (s : Store)
    (e : Entity) : Type 0 where
  pub entities : EntityUid → Option Entity
  pub are_entities : AreEntities Entities s entities
  pub cycle : IsOnCycle (parents_with schema entities e) e.uid

-- `MakesNoCycle Entities schema s e` holds if the entity `e` is not cyclic once it is put into the store `s`. Cycles
-- are over the entities of the store (by the relation `Entities`) and the actions of `schema`.
pub record MakesNoCycle (Entities : EntityUid → List ℕ → Entity → Type 0) (schema : StatedSchema) (s : Store)
    (e : Entity) : Type 0 where
  pub entities : EntityUid → Option Entity
  pub are_entities : AreEntities Entities s entities
  pub none : IsOnCycle (parents_with schema entities e) e.uid → ⊥
