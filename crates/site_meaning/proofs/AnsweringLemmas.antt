-- An answer over the parsed texts is an answer over the store.
use Rattle.std.specs.Prelude.{◌≡◌, ◌↔◌, ℕ, List, Bool, true, false, IsTrue, Result, Ok, Err, IfOk}
use Rattle.std.proofs.Common.{◌∙◌, sym}
use Rattle.values.specs.declared.entity_uid.EntityUid.{EntityUid}
use Rattle.values.specs.declared.request.Request.{Request}
use Rattle.entity_hierarchy.specs.policy_grammar.declared.policy.Policy.{Policy}
use Rattle.entity_hierarchy.specs.ancestor_search.Hierarchy.{IsOnCycle}
use Rattle.entity_hierarchy.specs.authoriser.declared.answer.Answer.{Answer}
use Rattle.entity_hierarchy.specs.authoriser.Answers.{IsAnswer}
use Rattle.entity_hierarchy.specs.schema.Schemas.{StatedSchema}
use Rattle.entity_hierarchy.specs.entity_data.declared.entity.Entity.{Entity}
use Rattle.stamped_store.specs.Store.{StoreEntries, updates, abstract_store, abstract_updates}
use Rattle.stamped_store.specs.Reading.{AreEntriesRead}
use Rattle.site_meaning.specs.StoreMeaning.{entity_data_under, parents_with, IsAnswerOver, MakesCycle, MakesNoCycle}
use Rattle.site_meaning.specs.TextsRead.{policies_read, entity_at}
use Rattle.site_meaning.proofs.PolicyLemmas.{policies_are}
use Rattle.site_meaning.proofs.EntityLemmas.{entities_are}

module _ {R E : Type 0} (Policies : R → List ℕ → List ℕ → Policy → Type 0) (Entities : R → EntityUid → List ℕ → Entity → Type 0)
    (schema : StatedSchema) (k : StoreEntries Policy Entity) (in_order : updates (abstract_store k) ≡ abstract_updates k) where
  pub answer_said : (q : Request) (result : Result Answer E)
      → IfOk result (IsAnswer (entity_data_under schema (entity_at k.entities)) q (policies_read k.policies))
      → IfOk result (λ a. (r : R) → AreEntriesRead (Policies r) (Entities r) k
      → IsAnswerOver (Policies r) (Entities r) schema (abstract_store k) q a)
  answer_said q (Ok a) is = λ r h. record {
    policies = policies_read k.policies;
    are_policies = policies_are (Policies r) k h.policies in_order;
    entities = entity_at k.entities;
    are_entities = entities_are (Entities r) k h.entities in_order;
    is_answer = is;
  }
  answer_said q (Err e) is = tt

  pub cycle_said : (e : Entity) (result : Result Bool E)
      → IfOk result (λ yes. IsTrue yes ↔ IsOnCycle (parents_with schema (entity_at k.entities) e) e.uid)
      → IfOk result (λ yes. yes ≡ true → (r : R) → AreEntriesRead (Policies r) (Entities r) k
      → MakesCycle (Entities r) schema (abstract_store k) e)
  cycle_said e (Ok t) is = λ yes r h. record {
    entities = entity_at k.entities;
    are_entities = entities_are (Entities r) k h.entities in_order;
    cycle = is.0 yes;
  }
  cycle_said e (Err f) is = tt

  pub no_cycle_said : (e : Entity) (result : Result Bool E)
      → IfOk result (λ yes. IsTrue yes ↔ IsOnCycle (parents_with schema (entity_at k.entities) e) e.uid)
      → IfOk result (λ yes. yes ≡ false → (r : R) → AreEntriesRead (Policies r) (Entities r) k
      → MakesNoCycle (Entities r) schema (abstract_store k) e)
  no_cycle_said e (Ok t) is = λ turned r h. record {
    entities = entity_at k.entities;
    are_entities = entities_are (Entities r) k h.entities in_order;
    none = λ cycle. let both : true ≡ false = sym (is.1 cycle) ∙ turned in absurd (cc);
  }
  no_cycle_said e (Err f) is = tt
