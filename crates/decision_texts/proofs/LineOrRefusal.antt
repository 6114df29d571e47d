-- Three texts have a line or a refusal.
use Rattle.std.proofs.Common.{◌≡◌, ◌⊎◌, ℕ, List, Option, Some, None, Result, Ok, Err, MatchOption, inl, inr, refl}
use Rattle.serde_json.specs.Data.{Data}
use Rattle.json_words.specs.Json.{json_of}
use Rattle.values.specs.declared.request.Request.{Request}
use Rattle.answer_lines.specs.policy_grammar.declared.policy.Policy.{Policy}
use Rattle.answer_lines.specs.declared.refusal.Refusal.{Refusal}
use Rattle.answer_lines.specs.Refusals.{bad_shape}
use Rattle.answer_lines.specs.Lines.{answer_line}
use Rattle.entity_data.specs.declared.entity.Entity.{Entity}
use Rattle.decision_texts.specs.Settings.{Reading}
use Rattle.decision_texts.specs.EntityArrays.{entities_of}
use Rattle.decision_texts.specs.Requests.{IsRequestText}
use Rattle.decision_texts.specs.Decisions.{ArePoliciesOf, AreAdmitted, unread, rejected, named_policies, entity_data_with}
use Rattle.decision_texts.specs.Decisions.{IsRequestAnswered, AreInputsRejected, by_entities, by_request, IsDecided}
use Rattle.decision_texts.specs.Decisions.{IsDecisionRefused, by_policies, by_inputs}
use Rattle.decision_texts.specs.Outcomes.{LineOrRefusal}
use Rattle.decision_texts.proofs.NameLemmas.{some_order}
use Rattle.decision_texts.proofs.OutcomeLemmas.{TextLaws, IsDefinite}
use Rattle.decision_texts.proofs.PolicyTexts.{PoliciesOrNone, policies_or_none}
use Rattle.decision_texts.proofs.StoreLemmas.{with_parents, all_parents}

module _ (laws : TextLaws) (r : Reading) (definite : IsDefinite r) (policies entities request : List ℕ) where
  abbrev Outcome : Type 0
  Outcome = ((line : List ℕ) × IsDecided r policies entities request line) ⊎ ((refusal : Refusal) × IsDecisionRefused r policies entities request refusal)

  abbrev RequestOrNone : Option Data → Type 0
  RequestOrNone json = ((q : Request) × MatchOption json ⊥ (λ d. r.states d q))
      ⊎ ((refusal : Refusal) × MatchOption json (refusal ≡ bad_shape None) (λ d. r.faults d refusal))

  request_or_none : (json : Option Data) → RequestOrNone json
  request_or_none None = inr (bad_shape None, refl)
  request_or_none (Some d) = definite.asked d

  module _ (names : List (List ℕ)) (cores : List Policy) (admitted : AreAdmitted r policies names cores) where
    answered : (stored : List Entity) → entities_of r entities ≡ Ok stored → (asked : Request) → IsRequestText r request asked → Outcome
    answered stored array asked request_stated =
        let order = some_order (named_policies names cores) in
        let answer = laws.answers (entity_data_with r.actions stored) (with_parents definite.declared stored)
        (all_parents r.actions definite.declared definite.lists stored) asked order.0 in
        let told : IsRequestAnswered r (named_policies names cores) entities request (answer_line answer.0) = record {
          stored = stored;
          array = array;
          asked = asked;
          request_stated = request_stated;
          answer = answer.0;
          answers = record { ordered = order.0; order = order.1; is = answer.1 };
          line_is = refl;
        } in
        inl (answer_line answer.0, record { names = names; cores = cores; admitted = admitted; answered = told })

    unanswered : (refusal : Refusal) → AreInputsRejected r entities request refusal → Outcome
    unanswered refusal none = inr (refusal, by_inputs names cores admitted none)

    by_asked : (stored : List Entity) → entities_of r entities ≡ Ok stored → RequestOrNone (json_of request) → Outcome
    by_asked stored array (inl asked) = answered stored array asked.0 asked.1
    by_asked stored array (inr none) = unanswered none.0 (by_request stored array none.1)

    by_array : (read : Result (List Entity) Refusal) → entities_of r entities ≡ read → Outcome
    by_array (Ok stored) array = by_asked stored array (request_or_none (json_of request))
    by_array (Err refusal) none = unanswered refusal (by_entities none)

  by_judged : (names : List (List ℕ)) (cores : List Policy) → ArePoliciesOf policies names cores
      → r.admits cores ⊎ ((refusal : Refusal) × r.rejects cores refusal) → Outcome
  by_judged names cores file (inl all) = by_array names cores (record { file = file; admitted = all }) (entities_of r entities) refl
  by_judged names cores file (inr none) = inr (none.0, by_policies (rejected names cores file none.1))

  by_file : PoliciesOrNone policies → Outcome
  by_file (inl file) = by_judged file.0.0 file.0.1 file.1 (definite.judged file.0.1)
  by_file (inr none) = inr (none.0, by_policies (unread none.1))

pub line_or_refusal : TextLaws → (r : Reading) → IsDefinite r → LineOrRefusal r
line_or_refusal laws r definite policies entities request = by_file laws r definite policies entities request (policies_or_none laws.files policies)
