-- Over a store, under a schema that bytes state, each request has one answer.
use Rattle.std.specs.Prelude.{◌≡◌, ◌↔◌, ℕ, List, [], ◌∷◌, ◌++◌, map, Contains, Option, Some, None, refl, option_map}
use Rattle.std.proofs.Common.{sym, ◌∙◌, subst, ⊎_elim}
use Rattle.std.proofs.lemmas.List.Elements.{Contains-append_left, Contains-append_right}
use Rattle.plain.proofs.Members.{Contains-here, Contains-there, Contains-cases, Contains-none}
use Rattle.values.specs.declared.entity_uid.EntityUid.{EntityUid}
use Rattle.values.specs.declared.request.Request.{Request}
use Rattle.entity_hierarchy.specs.policy_grammar.declared.policy.Policy.{Policy}
use Rattle.entity_hierarchy.specs.ancestor_search.Decided.{HaveAllParents}
use Rattle.entity_hierarchy.specs.authoriser.declared.answer.Answer.{Answer}
use Rattle.entity_hierarchy.specs.authoriser.Answers.{NamedPolicy, IsAnswer}
use Rattle.entity_hierarchy.specs.authoriser.Laws.{HasOneAnswer, OneAnswerInFiniteHierarchies}
use Rattle.entity_hierarchy.specs.schema.Schemas.{StatedSchema, IsSchemaOf}
use Rattle.entity_hierarchy.specs.entity_data.declared.entity.Entity.{Entity}
use Rattle.entity_hierarchy.specs.entity_data.declared.data.EntityData.{EntityData}
use Rattle.entity_hierarchy.specs.entity_data.Entities.{kept_parents, action_or}
use Rattle.stamped_store.specs.Store.{Store, entity_name}
use Rattle.stamped_store.specs.Contents.{text_under, entities_of}
use Rattle.site_meaning.specs.StoreMeaning.{ArePolicies, IsReadFrom, AreEntities, HaveOneReading, data_of, entity_data_under}
use Rattle.site_meaning.specs.StoreMeaning.{IsAnswerOver}
use Rattle.site_meaning.proofs.PolicyLemmas.{one_policies}
use Rattle.site_meaning.proofs.EntityLemmas.{one_entities}

abbrev EntitiesStand : Type 0
EntitiesStand = (s : Store) (uid : EntityUid) (text : List ℕ) → Contains (entities_of s) (uid, text) ↔ (text_under s (entity_name uid) ≡ Some text)

firsts : List (EntityUid × List ℕ) → List EntityUid
firsts ts = map (λ (t : EntityUid × List ℕ). t.0) ts

first_in : (ts : List (EntityUid × List ℕ)) (t : EntityUid × List ℕ) → Contains ts t → Contains (firsts ts) t.0
unfolding firsts
first_in [] t m = Contains-none t m
first_in (u ∷ ts) t m = ⊎_elim
    (λ same. subst (λ (x : EntityUid × List ℕ). Contains (firsts (u ∷ ts)) x.0) same (Contains-here u.0 (firsts ts)))
    (λ later. Contains-there u.0 (firsts ts) t.0 (first_in ts t later))
    (Contains-cases u ts t m)

-- a uid with an entity has a text
text_of : (Reads : List ℕ → Entity → Type 0) (b : Option (List ℕ)) (o : Option Entity) (a : EntityUid) → IsReadFrom Reads b o
    → Contains (kept_parents (option_map data_of o)) a → (text : List ℕ) × (b ≡ Some text)
text_of Reads None None a h m = Contains-none a m
text_of Reads None (Some e) a h m = absurd h
text_of Reads (Some text) o a h m = (text, refl)

-- a uid with parents is an action, or an entity with a text
parent_of : (actions : Option (List EntityUid)) (o : Option EntityData) (a : EntityUid) {G : Type 0} → Contains (kept_parents (action_or actions o)) a
    → ((us : List EntityUid) → actions ≡ Some us → G) → (Contains (kept_parents o) a → G) → G
parent_of None o a h f g = g h
parent_of (Some us) o a h f g = f us refl

module _ (Entities : EntityUid → List ℕ → Entity → Type 0) (schema : StatedSchema) (bytes : List ℕ) (is_schema : IsSchemaOf bytes schema) (stand : EntitiesStand) where
  with_parents_of : Store → List EntityUid
  with_parents_of s = firsts (entities_of s) ++ schema.actions

  all_parents : (s : Store) (es : EntityUid → Option Entity) → AreEntities Entities s es
      → HaveAllParents (entity_data_under schema es).parents (with_parents_of s)
  unfolding with_parents_of
  all_parents s es are b a h = parent_of (schema.member_of b) (option_map data_of (es b)) a h
      (λ us is. Contains-append_right (firsts (entities_of s)) schema.actions b
      ((is_schema.answers.actions b).1 (is_schema.answers.member_of b us is).0))
      (λ m.
      let found = text_of (Entities b) (text_under s (entity_name b)) (es b) a (are b) m in
      Contains-append_left (firsts (entities_of s)) schema.actions b (first_in (entities_of s) (b, found.0) ((stand s b found.0).1 found.1)))

  module _ (Policies : List ℕ → List ℕ → Policy → Type 0) (finite : OneAnswerInFiniteHierarchies) where
    answer_in : (s : Store) (es : EntityUid → Option Entity) → AreEntities Entities s es → HasOneAnswer (entity_data_under schema es)
    answer_in s es are = finite (entity_data_under schema es) (with_parents_of s) (all_parents s es are)

    pub some_answer : (s : Store) (ps : List NamedPolicy) (es : EntityUid → Option Entity) (q : Request) → ArePolicies Policies s ps
        → AreEntities Entities s es → (a : Answer) × IsAnswerOver Policies Entities schema s q a
    some_answer s ps es q are_policies are_entities =
        let found = answer_in s es are_entities q ps in
        (found.0, record { policies = ps; are_policies = are_policies; entities = es; are_entities = are_entities; is_answer = found.1 })

    pub one_answer : HaveOneReading Policies → HaveOneReading Entities → (s : Store) (q : Request) (a b : Answer)
        → IsAnswerOver Policies Entities schema s q a → IsAnswerOver Policies Entities schema s q b → a ≡ b
    one_answer one_policy one_entity s q a b h k =
        let policies : k.policies ≡ h.policies = one_policies Policies one_policy s k.policies h.policies k.are_policies h.are_policies in
        let entities : k.entities ≡ h.entities = one_entities Entities one_entity s k.entities h.entities k.are_entities h.are_entities in
        let same : IsAnswer (entity_data_under schema h.entities) q h.policies b =
        subst (λ (es : EntityUid → Option Entity). IsAnswer (entity_data_under schema es) q h.policies b) entities
        (subst (λ (ps : List NamedPolicy). IsAnswer (entity_data_under schema k.entities) q ps b) policies k.is_answer) in
        let found = answer_in s h.entities h.are_entities q h.policies in
        found.2 a h.is_answer ∙ sym (found.2 b same)
