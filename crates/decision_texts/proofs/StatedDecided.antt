-- Three texts have the outcome that relations state.
use Rattle.std.proofs.Common.{◌≡◌, ◌∙◌, ℕ, true, false, List, [], ◌∷◌, Option, Some, None, MatchOption, refl, sym, ap, subst, inl, inr}
use Rattle.std.specs.Prelude.{◌⊎◌, ◌↔◌, Contains}
use Rattle.std.proofs.lemmas.Bool.{cases_Bool}
use Rattle.plain.proofs.Members.{Contains-here, Contains-there, Contains-cases, Contains-none}
use Rattle.serde_json.specs.Data.{Data}
use Rattle.json_words.specs.Json.{json_of}
use Rattle.values.specs.declared.entity_uid.EntityUid.{EntityUid}
use Rattle.values.specs.declared.request.Request.{Request}
use Rattle.entity_data.specs.ancestor_search.Decided.{is_same}
use Rattle.entity_data.specs.evaluator.Operators.{Entities}
use Rattle.entity_data.specs.declared.entity.Entity.{Entity}
use Rattle.entity_data.specs.Entities.{Actions}
use Rattle.entity_data.specs.EntityStores.{data_of}
use Rattle.answer_lines.specs.policy_grammar.declared.policy.Policy.{Policy}
use Rattle.answer_lines.specs.authoriser.Answers.{IsAnswer}
use Rattle.answer_lines.specs.declared.refusal.Refusal.{Refusal}
use Rattle.answer_lines.specs.Refusals.{bad_shape}
use Rattle.decision_texts.specs.Settings.{Reading}
use Rattle.decision_texts.specs.Requests.{IsRequestText, IsRequestRefused}
use Rattle.decision_texts.specs.Decisions.{stated, entity_data_with, IsDecided, IsDecisionRefused, AreNotAdmitted, AreInputsRejected}
use Rattle.decision_texts.specs.Decisions as given
use Rattle.decision_texts.specs.StatedDecisions.{StatedSetting, error_at, HasUid, HaveOwnUids, DescribesEntities, IsDataOf}
use Rattle.decision_texts.specs.StatedDecisions.{DescribesRequestText, RejectsRequestText, DescribesDecision, RejectsDecision}
use Rattle.decision_texts.specs.StatedDecisions as says
use Rattle.decision_texts.specs.DecisionLaws.{IsAsStated}
use Rattle.decision_texts.proofs.StatedArrays.{ReadsEntities, text_read, text_refused, read_text, refused_text, same_is, is_the_same, own_one}

-- ---- the first entity of a uid

abbrev Found : List Entity → EntityUid → Type 0
Found es u = ((e : Entity) × Contains es e × (e.uid ≡ u) × (stated es u ≡ Some (data_of e))) ⊎ ((¬ HasUid es u) × (stated es u ≡ None))

found_here : (e : Entity) (es : List Entity) (u : EntityUid) → is_same e.uid u ≡ true → Found (e ∷ es) u
found_here e es u same = inl (e, Contains-here e es, same_is e.uid u same, rw same refl)

none_of : (e : Entity) (es : List Entity) (u : EntityUid) → is_same e.uid u ≡ false → ¬ HasUid es u → ¬ HasUid (e ∷ es) u
none_of e es u other none has = elim (Contains-cases e es has.0 has.1) [
  | inl here ↦ let same : is_same e.uid u ≡ true = is_the_same e.uid u (ap (λ (y : Entity). y.uid) here ∙ has.2) in absurd (cc)
  | inr later ↦ none (has.0, later, has.2)
]

found_later : (e : Entity) (es : List Entity) (u : EntityUid) → is_same e.uid u ≡ false → Found es u → Found (e ∷ es) u
found_later e es u other (inl h) = inl (h.0, Contains-there e es h.0 h.1, h.2, rw other h.3)
found_later e es u other (inr h) = inr (none_of e es u other h.0, rw other h.1)

found : (es : List Entity) (u : EntityUid) → Found es u
found [] u = inr (λ has. Contains-none has.0 has.1, refl)
found (e ∷ es) u = elim (cases_Bool (is_same e.uid u)) [
  | inl same ↦ found_here e es u same
  | inr other ↦ found_later e es u other (found es u)
]

-- ---- entity data

module _ (actions : Actions) (es : List Entity) where
  abbrev Read : Entities
  Read = entity_data_with actions es

  abbrev Same : Entities → EntityUid → Type 0
  Same W u = (W.stored u ≡ Read.stored u) × (W.parents u ≡ Read.parents u)

  action_same : (W : Entities) (u : EntityUid) (parents : List EntityUid) → IsDataOf actions es W → actions u ≡ Some parents → Same W u
  action_same W u parents h is = let own = h.of_actions u parents is in rw is own

  entity_same : (W : Entities) (u : EntityUid) (e : Entity) → IsDataOf actions es W → actions u ≡ None → Contains es e → e.uid ≡ u → stated es u ≡ Some (data_of e) → Same W u
  entity_same W u e h none at same is =
      let own = h.of_entities e at (ap actions same ∙ none) in
      let moved : (W.stored u ≡ Some e.attrs) × (W.parents u ≡ e.parents) = subst (λ (v : EntityUid). (W.stored v ≡ Some e.attrs) × (W.parents v ≡ e.parents)) same own in
      rw (none, is) moved

  other_same : (W : Entities) (u : EntityUid) → IsDataOf actions es W → actions u ≡ None → ¬ HasUid es u → stated es u ≡ None → Same W u
  other_same W u h none apart is = let own = h.of_others u none apart in rw (none, is) own

  by_found : (W : Entities) (u : EntityUid) → IsDataOf actions es W → actions u ≡ None → Found es u → Same W u
  by_found W u h none (inl e) = entity_same W u e.0 h none e.1 e.2 e.3
  by_found W u h none (inr e) = other_same W u h none e.0 e.1

  by_action : (W : Entities) (u : EntityUid) → IsDataOf actions es W → (o : Option (List EntityUid)) → actions u ≡ o → Same W u
  by_action W u h (Some parents) is = action_same W u parents h is
  by_action W u h None none = by_found W u h none (found es u)

  -- relations leave one choice of data
  data_same : (W : Entities) → IsDataOf actions es W → W ≡ Read
  data_same W h = λ i. record {
    stored = λ u. (by_action W u h (actions u) refl).0 i;
    parents = λ u. (by_action W u h (actions u) refl).1 i;
  }

  -- and the data that is read is that

  read_action : (u : EntityUid) (parents : List EntityUid) → actions u ≡ Some parents → (Read.stored u ≡ Some []) × (Read.parents u ≡ parents)
  read_action u parents is = rw is (refl, refl)

  read_entity : (e x : Entity) → actions e.uid ≡ None → x ≡ e → stated es e.uid ≡ Some (data_of x) → (Read.stored e.uid ≡ Some e.attrs) × (Read.parents e.uid ≡ e.parents)
  read_entity e x none same is =
      let attributes : Some x.attrs ≡ Some e.attrs = ap (λ (y : Entity). Some y.attrs) same in
      let parents : x.parents ≡ e.parents = ap (λ (y : Entity). y.parents) same in
      rw (none, is) (attributes, parents)

  entity_by : (e : Entity) → HaveOwnUids es → Contains es e → actions e.uid ≡ None → Found es e.uid → (Read.stored e.uid ≡ Some e.attrs) × (Read.parents e.uid ≡ e.parents)
  entity_by e own at none (inl x) = read_entity e x.0 none (own_one es x.0 e own x.1 at x.2) x.3
  entity_by e own at none (inr x) = absurd (x.0 (e, at, refl))

  read_other : (u : EntityUid) → actions u ≡ None → stated es u ≡ None → (Read.stored u ≡ None) × (Read.parents u ≡ [])
  read_other u none is = rw (none, is) (refl, refl)

  other_by : (u : EntityUid) → actions u ≡ None → ¬ HasUid es u → Found es u → (Read.stored u ≡ None) × (Read.parents u ≡ [])
  other_by u none apart (inl x) = absurd (apart (x.0, x.1, x.2))
  other_by u none apart (inr x) = read_other u none x.1

  data_read : HaveOwnUids es → IsDataOf actions es Read
  data_read own = record {
    of_actions = read_action;
    of_entities = λ e at none. entity_by e own at none (found es e.uid);
    of_others = λ u none apart. other_by u none apart (found es u);
  }

-- ---- the texts

-- the reading of a setting agrees with its relations
pub record Agrees (r : Reading) (s : StatedSetting) : Type 0 where
  pub admits : (policies : List Policy) → r.admits policies ↔ s.admits policies
  pub rejects : (policies : List Policy) (refusal : Refusal) → r.rejects policies refusal ↔ s.rejects policies refusal
  pub entities : ReadsEntities r s
  pub states : (d : Data) (q : Request) → r.states d q ↔ s.describes_request d q
  pub faults : (d : Data) (refusal : Refusal) → r.faults d refusal ↔ ((code : ℕ) × s.rejects_request d code × (refusal ≡ error_at None code))
  pub actions : r.actions ≡ s.actions

module _ (r : Reading) (s : StatedSetting) (agrees : Agrees r s) where
  -- ---- the request

  asked_by : (text : List ℕ) (q : Request) (o : Option Data) → json_of text ≡ o → MatchOption o ⊥ (λ d. r.states d q) → DescribesRequestText s text q
  asked_by text q None is h = absurd h
  asked_by text q (Some d) is h = record { value = d; json = is; described = (agrees.states d q).0 h }

  asked : (text : List ℕ) (q : Request) → IsRequestText r text q → DescribesRequestText s text q
  asked text q h = asked_by text q (json_of text) refl h

  states_request : (text : List ℕ) (q : Request) → DescribesRequestText s text q → IsRequestText r text q
  states_request text q h = subst (λ (o : Option Data). MatchOption o ⊥ (λ d. r.states d q)) (sym h.json) ((agrees.states h.value q).1 h.described)

  unasked_by : (text : List ℕ) (refusal : Refusal) (o : Option Data) → json_of text ≡ o → MatchOption o (refusal ≡ bad_shape None) (λ d. r.faults d refusal) → RejectsRequestText s text refusal
  unasked_by text refusal None is h = subst (RejectsRequestText s text) (sym h) (says.not_json is)
  unasked_by text refusal (Some d) is h =
      let fault = (agrees.faults d refusal).0 h in
      subst (RejectsRequestText s text) (sym fault.2) (says.no_request d fault.0 is fault.1)

  unasked : (text : List ℕ) (refusal : Refusal) → IsRequestRefused r text refusal → RejectsRequestText s text refusal
  unasked text refusal h = unasked_by text refusal (json_of text) refl h

  refuses_request : (text : List ℕ) (refusal : Refusal) → RejectsRequestText s text refusal → IsRequestRefused r text refusal
  refuses_request text refusal (says.not_json none) =
      subst (λ (o : Option Data). MatchOption o (bad_shape None ≡ bad_shape None) (λ d. r.faults d (bad_shape None))) (sym none) refl
  refuses_request text refusal (says.no_request d code is bad) =
      subst (λ (o : Option Data). MatchOption o (error_at None code ≡ bad_shape None) (λ d. r.faults d (error_at None code))) (sym is)
      ((agrees.faults d (error_at None code)).1 (code, bad, refl))

  module _ (policies entities request : List ℕ) where
    -- ---- lines

    line_stated : (line : List ℕ) → IsDecided r policies entities request line → DescribesDecision s policies entities request line
    line_stated line h =
        let told = h.answered in
        let array = read_text r s agrees.entities entities told.stored told.array in
        record {
          names = h.names;
          cores = h.cores;
          file = h.admitted.file;
          admitted = (agrees.admits h.cores).0 h.admitted.admitted;
          stored = told.stored;
          array_is = array;
          asked = told.asked;
          request_is = asked request told.asked told.request_stated;
          known = entity_data_with s.actions told.stored;
          data_is = data_read s.actions told.stored array.own_uids;
          ordered = told.answers.ordered;
          order = told.answers.order;
          answer = told.answer;
          answer_is = subst (λ (actions : Actions). IsAnswer (entity_data_with actions told.stored) told.asked told.answers.ordered told.answer) agrees.actions told.answers.is;
          line_is = told.line_is;
        }

    stated_line : (line : List ℕ) → DescribesDecision s policies entities request line → IsDecided r policies entities request line
    stated_line line h =
        let over : h.known ≡ entity_data_with r.actions h.stored =
        data_same s.actions h.stored h.known h.data_is ∙ ap (λ (actions : Actions). entity_data_with actions h.stored) (sym agrees.actions) in
        record {
          names = h.names;
          cores = h.cores;
          admitted = record { file = h.file; admitted = (agrees.admits h.cores).1 h.admitted };
          answered = record {
            stored = h.stored;
            array = text_read r s agrees.entities entities h.stored h.array_is;
            asked = h.asked;
            request_stated = states_request request h.asked h.request_is;
            answer = h.answer;
            answers = record {
              ordered = h.ordered;
              order = h.order;
              is = subst (λ (W : Entities). IsAnswer W h.asked h.ordered h.answer) over h.answer_is;
            };
            line_is = h.line_is;
          };
        }

    -- ---- errors

    policies_refused : (refusal : Refusal) → AreNotAdmitted r policies refusal → RejectsDecision s policies entities request refusal
    policies_refused refusal (given.unread bad) = says.bad_file bad
    policies_refused refusal (given.rejected names cores file bad) = says.bad_policies names cores file ((agrees.rejects cores refusal).0 bad)

    inputs_refused : (names : List (List ℕ)) (cores : List Policy) (refusal : Refusal) → given.AreAdmitted r policies names cores → AreInputsRejected r entities request refusal
        → RejectsDecision s policies entities request refusal
    inputs_refused names cores refusal admitted (given.by_entities bad) =
        says.bad_entities names cores admitted.file ((agrees.admits cores).0 admitted.admitted) (refused_text r s agrees.entities entities refusal bad)
    inputs_refused names cores refusal admitted (given.by_request stored array bad) =
        says.bad_request names cores stored admitted.file ((agrees.admits cores).0 admitted.admitted) (read_text r s agrees.entities entities stored array)
        (unasked request refusal bad)

    refusal_stated : (refusal : Refusal) → IsDecisionRefused r policies entities request refusal → RejectsDecision s policies entities request refusal
    refusal_stated refusal (given.by_policies bad) = policies_refused refusal bad
    refusal_stated refusal (given.by_inputs names cores admitted bad) = inputs_refused names cores refusal admitted bad

    admitted_by : (names : List (List ℕ)) (cores : List Policy) → given.ArePoliciesOf policies names cores → s.admits cores → given.AreAdmitted r policies names cores
    admitted_by names cores file all = record { file = file; admitted = (agrees.admits cores).1 all }

    stated_refusal : (refusal : Refusal) → RejectsDecision s policies entities request refusal → IsDecisionRefused r policies entities request refusal
    stated_refusal refusal (says.bad_file bad) = given.by_policies (given.unread bad)
    stated_refusal refusal (says.bad_policies names cores file bad) =
        given.by_policies (given.rejected names cores file ((agrees.rejects cores refusal).1 bad))
    stated_refusal refusal (says.bad_entities names cores file all bad) =
        given.by_inputs names cores (admitted_by names cores file all) (given.by_entities (text_refused r s agrees.entities entities refusal bad))
    stated_refusal refusal (says.bad_request names cores stored file all array bad) =
        given.by_inputs names cores (admitted_by names cores file all)
        (given.by_request stored (text_read r s agrees.entities entities stored array) (refuses_request request refusal bad))

    pub as_stated : IsAsStated r s policies entities request
    as_stated = record {
      lines = λ line. (line_stated line, stated_line line);
      refusals = λ refusal. (refusal_stated refusal, stated_refusal refusal);
    }
