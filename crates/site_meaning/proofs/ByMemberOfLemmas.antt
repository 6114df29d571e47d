-- The answers over a store, and the cycles that a put makes, are those by `memberOf`.
use Rattle.std.proofs.Common.{sym, subst}
use Rattle.std.specs.Prelude.{ℕ, List}
use Rattle.values.specs.declared.entity_uid.EntityUid.{EntityUid}
use Rattle.entity_hierarchy.specs.policy_grammar.declared.policy.Policy.{Policy}
use Rattle.entity_hierarchy.specs.ancestor_search.Hierarchy.{IsOnCycle, with_parents}
use Rattle.entity_hierarchy.specs.evaluator.Operators.{Entities}
use Rattle.entity_hierarchy.specs.authoriser.Answers.{IsAnswer}
use Rattle.entity_hierarchy.specs.entity_data.declared.entity.Entity.{Entity}
use Rattle.entity_hierarchy.specs.Laws.{MemberOfIsKept}
use Rattle.site_meaning.specs.StoreMeaning.{data_in}
use Rattle.site_meaning.specs.ByMemberOf.{StoredActionsAnswerAlike, StoredActionsCycleAlike, StoredActionsAllowAlike}

module _ (Policies : List ℕ → List ℕ → Policy → Type 0) (Texts : EntityUid → List ℕ → Entity → Type 0) where
  pub answers_alike : MemberOfIsKept → StoredActionsAnswerAlike Policies Texts
  answers_alike law bytes schema stated s q a = (
    (λ x. record {
      policies = x.policies;
      are_policies = x.are_policies;
      entities = x.entities;
      are_entities = x.are_entities;
      is_answer = subst (λ (W : Entities). IsAnswer W q x.policies a) (law bytes schema stated (data_in x.entities)) x.is_answer;
    }),
    (λ x. record {
      policies = x.policies;
      are_policies = x.are_policies;
      entities = x.entities;
      are_entities = x.are_entities;
      is_answer = subst (λ (W : Entities). IsAnswer W q x.policies a) (sym (law bytes schema stated (data_in x.entities))) x.is_answer;
    }),
  )

  pub cycles_alike : MemberOfIsKept → StoredActionsCycleAlike Texts
  cycles_alike law bytes schema stated s e = (
    (λ x. record {
      entities = x.entities;
      are_entities = x.are_entities;
      cycle = subst (λ (W : Entities). IsOnCycle (with_parents W.parents e.uid e.parents) e.uid) (law bytes schema stated (data_in x.entities)) x.cycle;
    }),
    (λ x. record {
      entities = x.entities;
      are_entities = x.are_entities;
      cycle = subst (λ (W : Entities). IsOnCycle (with_parents W.parents e.uid e.parents) e.uid) (sym (law bytes schema stated (data_in x.entities))) x.cycle;
    }),
  )

  pub none_alike : MemberOfIsKept → StoredActionsAllowAlike Texts
  none_alike law bytes schema stated s e = (
    (λ x. record {
      entities = x.entities;
      are_entities = x.are_entities;
      none = λ on. x.none (subst (λ (W : Entities). IsOnCycle (with_parents W.parents e.uid e.parents) e.uid) (sym (law bytes schema stated (data_in x.entities))) on);
    }),
    (λ x. record {
      entities = x.entities;
      are_entities = x.are_entities;
      none = λ on. x.none (subst (λ (W : Entities). IsOnCycle (with_parents W.parents e.uid e.parents) e.uid) (law bytes schema stated (data_in x.entities)) on);
    }),
  )
