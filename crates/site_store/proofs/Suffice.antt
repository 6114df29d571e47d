-- A policy whose scope is not true has no effect, so it may be left out.
use Rattle.std.proofs.Common.{◌≡◌, ◌∙◌, sym, true, false}
use Rattle.std.specs.Prelude.{Ok, Err}
use Rattle.values.specs.declared.request.Request.{Request}
use Rattle.values.specs.Values.{boolean}
use Rattle.scope_index.specs.policy_grammar.PolicyExpression.{expression_of}
use Rattle.site_meaning.specs.evaluator.Operators.{Entities}
use Rattle.site_meaning.specs.evaluator.Evaluation.{EvaluatesTo}
use Rattle.site_meaning.specs.evaluator.Laws.{HaveOneOutcome, HasOneOutcome}
use Rattle.scope_index.specs.Scopes.{IsScopeTrue}
use Rattle.site_meaning.specs.authoriser.Answers.{NamedPolicy, IsAnswer, fault_of}
use Rattle.site_meaning.specs.authoriser.Laws.{IsIdle, LeavingOutChangesNothing}
use Rattle.site_meaning.specs.authoriser.Parts.{OtherScopesGiveFalse}
use Rattle.site_store.specs.Candidates.{CandidatesSuffice}
use Rattle.site_store.proofs.Skipping.{skipping}

idle_of : (W : Entities) (q : Request) (p : NamedPolicy) → HasOneOutcome W q (expression_of p.policy)
    → EvaluatesTo W q (expression_of p.policy) (Ok (boolean false)) → IsIdle W q p
idle_of W q p one given = record {
  satisfied = λ s. let both : Ok (boolean true) ≡ Ok (boolean false) = one.2 (Ok (boolean true)) s ∙ sym (one.2 (Ok (boolean false)) given) in absurd (cc (both));
  erring = λ error e. let both : Err (fault_of error) ≡ Ok (boolean false) = one.2 (Err (fault_of error)) e ∙ sym (one.2 (Ok (boolean false)) given) in absurd (cc (both));
}

pub candidates_suffice : HaveOneOutcome → LeavingOutChangesNothing → OtherScopesGiveFalse → CandidatesSuffice
candidates_suffice one left_out gives_false W ancestor_test D q ps qs a h k c =
    skipping (λ (p : NamedPolicy). p.id) (λ xs. IsAnswer W q xs a) (λ (p : NamedPolicy). IsScopeTrue W.parents p.policy.scope q)
    (λ xs kept none. left_out W ancestor_test D q xs kept a (λ p i f.
    idle_of W q p (one W ancestor_test D q (expression_of p.policy)) (gives_false W ancestor_test D q p.policy (λ t. none p i f t))))
    ps qs h k c.among c.all
