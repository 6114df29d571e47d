-- The answer over candidates is the answer over all, which are candidates themselves.
use Rattle.std.specs.Prelude.{◌≡◌, Bool, List, Result, Ok, Err, IfOk}
use Rattle.std.proofs.Common.{refl, sym, subst}
use Rattle.values.specs.declared.entity_uid.EntityUid.{EntityUid}
use Rattle.values.specs.declared.request.Request.{Request}
use Rattle.ancestor_closure.specs.ancestor_search.Decided.{Decides}
use Rattle.ancestor_closure.specs.ancestor_search.Hierarchy.{Parents}
use Rattle.scope_index.specs.policy_grammar.declared.policy.Policy.{Policy}
use Rattle.site_meaning.specs.evaluator.Operators.{Entities}
use Rattle.site_meaning.specs.authoriser.declared.answer.Answer.{Answer}
use Rattle.site_meaning.specs.authoriser.Answers.{NamedPolicy, IsAnswer}
use Rattle.site_meaning.specs.entity_data.declared.entity.Entity.{Entity}
use Rattle.stamped_store.specs.Store.{StoreEntries, updates, abstract_store, abstract_updates}
use Rattle.site_meaning.specs.TextsRead.{policies_read}
use Rattle.site_meaning.proofs.PolicyLemmas.{kept_ascend}
use Rattle.site_store.specs.Candidates.{AreCandidates, Ascend, CandidatesSuffice}

-- all policies are candidates
pub all_are_candidates : (parents : Parents) (q : Request) (ps qs : List NamedPolicy) → qs ≡ ps → AreCandidates parents q ps qs
all_are_candidates parents q ps qs same =
    subst (λ (xs : List NamedPolicy). AreCandidates parents q ps xs) (sym same)
    (record { among = λ p has. has; all = λ p has applies. has })

pub over_candidates : {E : Type 0} (result : Result Answer E) (W : Entities) (ancestor_test : EntityUid → EntityUid → Bool) → Decides W.parents ancestor_test
    → CandidatesSuffice → (q : Request) (k : StoreEntries Policy Entity) (ps : List NamedPolicy)
    → updates (abstract_store k) ≡ abstract_updates k → AreCandidates W.parents q (policies_read k.policies) ps → Ascend ps
    → IfOk result (IsAnswer W q ps) → IfOk result (IsAnswer W q (policies_read k.policies))
over_candidates (Ok a) W ancestor_test decides suffice q k ps in_order among rise h =
    (suffice W ancestor_test decides q (policies_read k.policies) ps a (kept_ascend k (policies_read k.policies) in_order refl) rise among).1 h
over_candidates (Err e) W ancestor_test decides suffice q k ps in_order among rise h = tt
