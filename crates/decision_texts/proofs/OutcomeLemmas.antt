-- Three texts have one outcome.
use Rattle.std.proofs.Common.{◌≡◌, ◌∙◌, ◌⊎◌, ℕ, List, Option, Some, None, Result, Ok, Err, MatchOption, sym, ap, subst}
use Rattle.std.specs.Prelude.{Contains}
use Rattle.serde_json.specs.Data.{Data}
use Rattle.json_words.specs.Json.{json_of}
use Rattle.values.specs.declared.entity_uid.EntityUid.{EntityUid}
use Rattle.values.specs.declared.request.Request.{Request}
use Rattle.answer_lines.specs.policy_grammar.declared.policy.Policy.{Policy}
use Rattle.answer_lines.specs.policy_grammar.PolicyText.{IsFileRefused}
use Rattle.answer_lines.specs.policy_grammar.Unique.{HasOneReading, IsFileOf, EachIsNamed, NamesDiffer}
use Rattle.answer_lines.specs.authoriser.declared.answer.Answer.{Answer}
use Rattle.answer_lines.specs.authoriser.Answers.{NamedPolicy, IsAnswer}
use Rattle.answer_lines.specs.authoriser.Laws.{OneAnswerInFiniteHierarchies, ListsAscend}
use Rattle.answer_lines.specs.declared.refusal.Refusal.{Refusal}
use Rattle.answer_lines.specs.Refusals.{bad_shape}
use Rattle.answer_lines.specs.Lines.{answer_line}
use Rattle.entity_data.specs.declared.entity.Entity.{Entity}
use Rattle.decision_texts.specs.Settings.{Reading}
use Rattle.decision_texts.specs.EntityArrays.{entities_of}
use Rattle.decision_texts.specs.Decisions.{ArePoliciesOf, ArePoliciesRefused, AreAdmitted, AreNotAdmitted, unread, rejected}
use Rattle.decision_texts.specs.Decisions.{refusal_by, named_policies, entity_data_with, IsAnswerTo, IsRequestAnswered}
use Rattle.decision_texts.specs.Decisions.{AreInputsRejected, by_entities, by_request, by_policies, by_inputs}
use Rattle.decision_texts.specs.Outcomes.{OneLine, NotBoth, OneRefusal, ListsOfLinesAscend}
use Rattle.decision_texts.proofs.PolicyTexts.{file_or_fault, fault_same}
use Rattle.decision_texts.proofs.StoreLemmas.{with_parents, all_parents}
use Rattle.decision_texts.proofs.NameLemmas.{HaveOwnNames, own_names, one_order, ids_ascend}

-- the laws of what the texts are made of, whatever they are read under
pub record TextLaws : Type 0 where
  pub each : EachIsNamed
  pub differ : NamesDiffer
  pub files : HasOneReading IsFileOf IsFileRefused
  pub answers : OneAnswerInFiniteHierarchies

-- that a setting's reading leaves nothing open
pub record IsDefinite (r : Reading) : Type 0 where
  pub judged : (ps : List Policy) → r.admits ps ⊎ ((refusal : Refusal) × r.rejects ps refusal)
  pub one_rejection : (ps : List Policy) (refusal other : Refusal) → r.rejects ps refusal → r.rejects ps other → refusal ≡ other
  pub not_rejected : (ps : List Policy) (refusal : Refusal) → r.admits ps → r.rejects ps refusal → ⊥
  pub asked : (d : Data) → ((q : Request) × r.states d q) ⊎ ((refusal : Refusal) × r.faults d refusal)
  pub one_request : (d : Data) (q other : Request) → r.states d q → r.states d other → q ≡ other
  pub one_fault : (d : Data) (refusal other : Refusal) → r.faults d refusal → r.faults d other → refusal ≡ other
  pub no_fault : (d : Data) (q : Request) (refusal : Refusal) → r.states d q → r.faults d refusal → ⊥
  pub declared : List EntityUid
  pub lists : (u : EntityUid) (parents : List EntityUid) → r.actions u ≡ Some parents → Contains declared u

ok_same : {A E : Type 0} (r : Result A E) (x y : A) → r ≡ Ok x → r ≡ Ok y → x ≡ y
ok_same r x y h g = cc

err_same : {A E : Type 0} (r : Result A E) (x y : E) → r ≡ Err x → r ≡ Err y → x ≡ y
err_same r x y h g = cc

ok_or_err : {A E : Type 0} (r : Result A E) (x : A) (y : E) → r ≡ Ok x → r ≡ Err y → ⊥
ok_or_err r x y h g = cc

module _ (laws : TextLaws) (r : Reading) (definite : IsDefinite r) where
  -- ---- the file of policies

  read_or_refused : (bytes : List ℕ) (names : List (List ℕ)) (cores : List Policy) (refusal : Refusal) → ArePoliciesOf bytes names cores
      → ArePoliciesRefused bytes refusal → ⊥
  read_or_refused bytes names cores refusal are refused = file_or_fault laws.files bytes names cores refused.fault are refused.is_fault

  one_file : (bytes : List ℕ) (names others : List (List ℕ)) (cores also : List Policy) → ArePoliciesOf bytes names cores → ArePoliciesOf bytes others also
      → ◌≡◌ {A = List (List ℕ) × List Policy} (names, cores) (others, also)
  one_file bytes names others cores also a b = laws.files.one_value bytes (names, cores) (others, also) a.file b.file

  admitted_or_not : (bytes : List ℕ) (names : List (List ℕ)) (cores : List Policy) (refusal : Refusal) → AreAdmitted r bytes names cores
      → AreNotAdmitted r bytes refusal → ⊥
  admitted_or_not bytes names cores refusal a (unread none) = read_or_refused bytes names cores refusal a.file none
  admitted_or_not bytes names cores refusal a (rejected others also file none) =
      definite.not_rejected also refusal
      (subst (λ (f : List (List ℕ) × List Policy). r.admits f.1) (one_file bytes names others cores also a.file file) a.admitted) none

  one_not_admitted : (bytes : List ℕ) (refusal other : Refusal) → AreNotAdmitted r bytes refusal → AreNotAdmitted r bytes other → refusal ≡ other
  one_not_admitted bytes refusal other (unread a) (unread b) =
      a.is ∙ ap refusal_by (fault_same laws.files bytes a.fault b.fault a.is_fault b.is_fault) ∙ sym b.is
  one_not_admitted bytes refusal other (unread a) (rejected names cores file none) = absurd (read_or_refused bytes names cores refusal file a)
  one_not_admitted bytes refusal other (rejected names cores file none) (unread b) = absurd (read_or_refused bytes names cores other file b)
  one_not_admitted bytes refusal other (rejected names cores file none) (rejected others also its its_none) =
      definite.one_rejection also refusal other
      (subst (λ (f : List (List ℕ) × List Policy). r.rejects f.1 refusal) (one_file bytes names others cores also file its) none) its_none

  -- ---- the request

  asked_same : (json : Option Data) (q p : Request) → MatchOption json ⊥ (λ d. r.states d q) → MatchOption json ⊥ (λ d. r.states d p) → q ≡ p
  asked_same None q p a b = absurd a
  asked_same (Some d) q p a b = definite.one_request d q p a b

  stated_or_fault : (json : Option Data) (q : Request) (refusal : Refusal) → MatchOption json ⊥ (λ d. r.states d q)
      → MatchOption json (refusal ≡ bad_shape None) (λ d. r.faults d refusal) → ⊥
  stated_or_fault None q refusal a b = absurd a
  stated_or_fault (Some d) q refusal a b = definite.no_fault d q refusal a b

  fault_of_request : (json : Option Data) (refusal other : Refusal) → MatchOption json (refusal ≡ bad_shape None) (λ d. r.faults d refusal)
      → MatchOption json (other ≡ bad_shape None) (λ d. r.faults d other) → refusal ≡ other
  fault_of_request None refusal other a b = a ∙ sym b
  fault_of_request (Some d) refusal other a b = definite.one_fault d refusal other a b

  -- ---- answers

  answer_same : (policies : List NamedPolicy) (stored : List Entity) (asked : Request) (a b : Answer) → HaveOwnNames policies
      → IsAnswerTo policies (entity_data_with r.actions stored) asked a → IsAnswerTo policies (entity_data_with r.actions stored) asked b → a ≡ b
  answer_same policies stored asked a b own x y =
      let W = entity_data_with r.actions stored in
      let order : x.ordered ≡ y.ordered = one_order policies x.ordered y.ordered own x.order y.order in
      let one = laws.answers W (with_parents definite.declared stored) (all_parents r.actions definite.declared definite.lists stored) asked y.ordered in
      one.2 a (subst (λ ps. IsAnswer W asked ps a) order x.is) ∙ sym (one.2 b y.is)

  line_same : (policies : List NamedPolicy) (entities request line other : List ℕ) → HaveOwnNames policies
      → IsRequestAnswered r policies entities request line → IsRequestAnswered r policies entities request other → line ≡ other
  line_same policies entities request line other own x y =
      let stored = ok_same (entities_of r entities) x.stored y.stored x.array y.array in
      let asked = asked_same (json_of request) x.asked y.asked x.request_stated y.request_stated in
      let moved = subst (λ (es : List Entity). IsAnswerTo policies (entity_data_with r.actions es) y.asked x.answer) stored
      (subst (λ (q : Request). IsAnswerTo policies (entity_data_with r.actions x.stored) q x.answer) asked x.answers) in
      x.line_is ∙ ap answer_line (answer_same policies y.stored y.asked x.answer y.answer own moved y.answers) ∙ sym y.line_is

  answered_or_not : (policies : List NamedPolicy) (entities request line : List ℕ) (refusal : Refusal)
      → IsRequestAnswered r policies entities request line → AreInputsRejected r entities request refusal → ⊥
  answered_or_not policies entities request line refusal x (by_entities none) = ok_or_err (entities_of r entities) x.stored refusal x.array none
  answered_or_not policies entities request line refusal x (by_request stored array none) = stated_or_fault (json_of request) x.asked refusal x.request_stated none

  one_unanswered : (entities request : List ℕ) (refusal other : Refusal)
      → AreInputsRejected r entities request refusal → AreInputsRejected r entities request other → refusal ≡ other
  one_unanswered entities request refusal other (by_entities a) (by_entities b) = err_same (entities_of r entities) refusal other a b
  one_unanswered entities request refusal other (by_entities a) (by_request stored array b) = absurd (ok_or_err (entities_of r entities) stored refusal array a)
  one_unanswered entities request refusal other (by_request stored array a) (by_entities b) = absurd (ok_or_err (entities_of r entities) stored other array b)
  one_unanswered entities request refusal other (by_request stored array a) (by_request kept its b) = fault_of_request (json_of request) refusal other a b

  -- ---- outcomes

  pub one_line : OneLine r
  one_line policies entities request line other x y =
      let file = one_file policies x.names y.names x.cores y.cores x.admitted.file y.admitted.file in
      let moved = subst (λ (f : List (List ℕ) × List Policy). IsRequestAnswered r (named_policies f.0 f.1) entities request line) file x.answered in
      let own = own_names laws.each laws.differ policies y.names y.cores y.admitted.file.file in
      line_same (named_policies y.names y.cores) entities request line other own moved y.answered

  pub not_both : NotBoth r
  not_both policies entities request line refusal x (by_policies none) = admitted_or_not policies x.names x.cores refusal x.admitted none
  not_both policies entities request line refusal x (by_inputs names cores admitted none) =
      answered_or_not (named_policies x.names x.cores) entities request line refusal x.answered none

  pub one_refusal : OneRefusal r
  one_refusal policies entities request refusal other (by_policies a) (by_policies b) = one_not_admitted policies refusal other a b
  one_refusal policies entities request refusal other (by_policies a) (by_inputs names cores admitted b) =
      absurd (admitted_or_not policies names cores refusal admitted a)
  one_refusal policies entities request refusal other (by_inputs names cores admitted a) (by_policies b) =
      absurd (admitted_or_not policies names cores other admitted b)
  one_refusal policies entities request refusal other (by_inputs names cores admitted a) (by_inputs others also its b) =
      one_unanswered entities request refusal other a b

pub lines_ascend : TextLaws → ListsAscend → (r : Reading) → ListsOfLinesAscend r
lines_ascend laws law r policies entities request line x =
    let told = x.answered in
    let named = named_policies x.names x.cores in
    law (entity_data_with r.actions told.stored) told.asked told.answers.ordered told.answer
    (ids_ascend named told.answers.ordered (own_names laws.each laws.differ policies x.names x.cores x.admitted.file.file) told.answers.order)
    told.answers.is
