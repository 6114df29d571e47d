-- What texts come to, from what was read of each.
use Rattle.std.proofs.Common.{◌≡◌, ℕ, List, map, string_bytes, String, Global, Result, Ok, Err, sym, subst}
use Rattle.std.specs.Prelude.{⊤, IfOk, IfErr, MatchResult}
use Rattle.values.specs.declared.request.Request.{Request}
use Rattle.answer_lines.specs.policy_grammar.declared.policy.Policy.{Policy}
use Rattle.entity_data.specs.evaluator.Operators.{Entities}
use Rattle.answer_lines.specs.authoriser.declared.answer.Answer.{Answer}
use Rattle.answer_lines.specs.authoriser.Answers.{NamedPolicy, IsAnswer}
use Rattle.entity_data.specs.EntityStores.{Entries}
use Rattle.answer_lines.specs.declared.refusal.Refusal.{Refusal}
use Rattle.plain.specs.AllocationErrors.{OrNoMemory}
use Rattle.answer_lines.specs.Refusals.{no_memory}
use Rattle.decision_texts.specs.Settings.{Reading}
use Rattle.decision_texts.specs.EntityArrays.{entities_of}
use Rattle.decision_texts.specs.Requests.{IsRequestRefused}
use Rattle.decision_texts.specs.Decisions.{ArePoliciesOf, AreAdmitted, AreNotAdmitted, rejected, IsInOrder, IsAnswerTo}
use Rattle.decision_texts.specs.Decisions.{IsRequestAnswered, AreInputsRejected, by_request, IsDecisionRefused}
use Rattle.decision_texts.specs.Decisions.{by_inputs}
use Rattle.decision_texts.specs.inner.Stores.{Keeps, entity_data_stored, IsLineTo}
use Rattle.decision_texts.proofs.StoreLemmas.{held_world}

-- what is tried is in order
pub in_order_answered : {E : Type 0} (policies tried ordered : List NamedPolicy) (W : Entities) (q : Request) (result : Result Answer E) → tried ≡ ordered
    → IsInOrder policies ordered → IfOk result (IsAnswer W q tried) → IfOk result (IsAnswerTo policies W q)
in_order_answered policies tried ordered W q (Ok a) same order is =
    record { ordered = ordered; order = order; is = subst (λ (ps : List NamedPolicy). IsAnswer W q ps a) same is }
in_order_answered policies tried ordered W q (Err e) same order is = tt

-- what goes on where it was admitted, and what is refused else
module _ {X : Type 0} (kept : X) (judged : Result ⊤ Refusal) (result : Result X Refusal)
    (goes_on : MatchResult judged (λ u. result ≡ Ok kept) (λ refusal. result ≡ Err refusal)) where
  pub kept_on : (Q : Type 0) (P : X → Type 0) → (Q → P kept) → IfOk judged (λ u. Q) → IfOk result P
  kept_on Q P f is = elim judged as (λ r. MatchResult r (λ u. result ≡ Ok kept) (λ refusal. result ≡ Err refusal) → IfOk r (λ u. Q) → IfOk result P) [
    | Ok u ↦ λ e q. subst (λ (r : Result X Refusal). IfOk r P) (sym e) (f q)
    | Err refusal ↦ λ e q. subst (λ (r : Result X Refusal). IfOk r P) (sym e) tt
  ] goes_on is

  pub refused_on : (Q P : Refusal → Type 0) → ((refusal : Refusal) → Q refusal → P refusal) → IfErr judged Q → IfErr result P
  refused_on Q P f is = elim judged as (λ r. MatchResult r (λ u. result ≡ Ok kept) (λ refusal. result ≡ Err refusal) → IfErr r Q → IfErr result P) [
    | Ok u ↦ λ e q. subst (λ (r : Result X Refusal). IfErr r P) (sym e) tt
    | Err refusal ↦ λ e q. subst (λ (r : Result X Refusal). IfErr r P) (sym e) (f refusal q)
  ] goes_on is

module _ (r : Reading) where
  pub answered : (policies : List NamedPolicy) (entities request line : List ℕ) (store : Entries) → Keeps (entities_of r entities) store
      → IsLineTo r policies (entity_data_stored r store) request line → IsRequestAnswered r policies entities request line
  answered policies entities request line store kept to = record {
    stored = kept.entities;
    array = kept.are;
    asked = to.asked;
    request_stated = to.request_stated;
    answer = to.told.answer;
    answers = subst (λ (W : Entities). IsAnswerTo policies W to.asked to.told.answer) (held_world r store kept.entities kept.held) to.told.answers;
    line_is = to.told.line_is;
  }

  pub unanswered : (entities request : List ℕ) (store : Entries) (refusal : Refusal) → Keeps (entities_of r entities) store
      → OrNoMemory no_memory (IsRequestRefused r request) refusal → OrNoMemory no_memory (AreInputsRejected r entities request) refusal
  unanswered entities request store refusal kept is_fault other = by_request kept.entities kept.are (is_fault other)

  -- the file of policies, as it was read and as it was judged
  module _ (bytes : List ℕ) (read judged : List (String Global × Policy)) (same : judged ≡ read)
      (file : ArePoliciesOf bytes (map (λ p. string_bytes p.0) read) (map (λ p. p.1) read)) where
    pub admitted : r.admits (map (λ p. p.1) judged) → AreAdmitted r bytes (map (λ p. string_bytes p.0) read) (map (λ p. p.1) read)
    admitted all = record { file = file; admitted = subst (λ (ps : List (String Global × Policy)). r.admits (map (λ p. p.1) ps)) same all }

    pub not_admitted : (refusal : Refusal) → OrNoMemory no_memory (r.rejects (map (λ p. p.1) judged)) refusal → OrNoMemory no_memory (AreNotAdmitted r bytes) refusal
    not_admitted refusal is_fault other =
        rejected _ _ file (subst (λ (ps : List (String Global × Policy)). r.rejects (map (λ p. p.1) ps) refusal) same (is_fault other))

  pub no_question : (policies entities request : List ℕ) (names : List (List ℕ)) (cores : List Policy) (refusal : Refusal) → AreAdmitted r policies names cores
      → OrNoMemory no_memory (AreInputsRejected r entities request) refusal → OrNoMemory no_memory (IsDecisionRefused r policies entities request) refusal
  no_question policies entities request names cores refusal admitted is_fault other = by_inputs names cores admitted (is_fault other)
