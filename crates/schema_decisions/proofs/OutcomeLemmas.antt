-- Four texts have one outcome.
use Rattle.std.proofs.Common.{◌∙◌, ◌⊎◌, ℕ, List, inl, inr, refl, sym, ap, subst}
use Rattle.decision_texts.specs.authoriser.Answers.{IsAnswer}
use Rattle.decision_texts.specs.authoriser.Laws.{ListsAscend}
use Rattle.entity_hierarchy.specs.evaluator.Operators.{Entities}
use Rattle.entity_hierarchy.specs.schema.Schemas.{StatedSchema, IsSchemaOf}
use Rattle.entity_hierarchy.specs.schema.Outcomes as schemas
use Rattle.entity_hierarchy.specs.Laws.{MemberOfIsKept}
use Rattle.decision_texts.specs.answer_lines.declared.refusal.Refusal.{Refusal}
use Rattle.decision_texts.specs.Decisions as under
use Rattle.decision_texts.proofs.LineOrRefusal as either
use Rattle.decision_texts.proofs.OutcomeLemmas as texts
use Rattle.decision_texts.proofs.OutcomeLemmas.{TextLaws}
use Rattle.schema_decisions.specs.CheckRefusals.{schema_refusal}
use Rattle.schema_decisions.specs.UnderSchema.{reading_under}
use Rattle.schema_decisions.specs.Decisions.{IsDecided, IsSchemaDecisionRefused, by_schema, under_schema}
use Rattle.schema_decisions.specs.Outcomes.{OneLine, NotBoth, OneRefusal, LineOrRefusal, ListsOfLinesAscend}
use Rattle.schema_decisions.specs.Outcomes.{MemberOfDecidesAlike}
use Rattle.schema_decisions.proofs.UnderSchemaLemmas as settings

-- theorems about the parts of the texts
pub record Laws : Type 0 where
  pub some_schema : schemas.SomeOutcome
  pub one_schema : schemas.OneSchema
  pub no_schema : schemas.NotBoth
  pub schema_refusals : schemas.OneRefusal
  pub text_laws : TextLaws
  pub setting_laws : settings.Laws

module _ (laws : Laws) where
  pub one_line : OneLine
  one_line schema policies entities request line other x y =
      let same = laws.one_schema schema x.stated y.stated x.states y.states in
      texts.one_line laws.text_laws (reading_under y.stated) (settings.definite laws.setting_laws y.stated schema y.states) policies entities request line other
      (subst (λ (s : StatedSchema). under.IsDecided (reading_under s) policies entities request line) same x.decided) y.decided

  pub not_both : NotBoth
  not_both schema policies entities request line refusal x (by_schema none) = laws.no_schema schema x.stated none.fault x.states none.is_fault
  not_both schema policies entities request line refusal x (under_schema s states none) =
      let same = laws.one_schema schema x.stated s x.states states in
      texts.not_both laws.text_laws (reading_under s) (settings.definite laws.setting_laws s schema states) policies entities request line refusal
      (subst (λ (v : StatedSchema). under.IsDecided (reading_under v) policies entities request line) same x.decided) none

  pub one_refusal : OneRefusal
  one_refusal schema policies entities request refusal other (by_schema a) (by_schema b) =
      a.is ∙ ap schema_refusal (laws.schema_refusals schema a.fault b.fault a.is_fault b.is_fault) ∙ sym b.is
  one_refusal schema policies entities request refusal other (by_schema a) (under_schema s states b) = absurd (laws.no_schema schema s a.fault states a.is_fault)
  one_refusal schema policies entities request refusal other (under_schema s states a) (by_schema b) = absurd (laws.no_schema schema s b.fault states b.is_fault)
  one_refusal schema policies entities request refusal other (under_schema s states a) (under_schema v stated b) =
      let same = laws.one_schema schema s v states stated in
      texts.one_refusal laws.text_laws (reading_under v) (settings.definite laws.setting_laws v schema stated) policies entities request refusal other
      (subst (λ (w : StatedSchema). under.IsDecisionRefused (reading_under w) policies entities request refusal) same a) b

  abbrev Outcome : List ℕ → List ℕ → List ℕ → List ℕ → Type 0
  Outcome schema policies entities request = ((line : List ℕ) × IsDecided schema policies entities request line)
      ⊎ ((refusal : Refusal) × IsSchemaDecisionRefused schema policies entities request refusal)

  joined : (schema : List ℕ) (s : StatedSchema) → IsSchemaOf schema s → (policies entities request : List ℕ)
      → ((line : List ℕ) × under.IsDecided (reading_under s) policies entities request line)
      ⊎ ((refusal : Refusal) × under.IsDecisionRefused (reading_under s) policies entities request refusal)
      → Outcome schema policies entities request
  joined schema s states policies entities request (inl report) = inl (report.0, record { stated = s; states = states; decided = report.1 })
  joined schema s states policies entities request (inr none) = inr (none.0, under_schema s states none.1)

  outcome : (schema policies entities request : List ℕ) → schemas.SchemaOrRefusal schema → Outcome schema policies entities request
  outcome schema policies entities request (schemas.states s states) =
      joined schema s states policies entities request
      (either.line_or_refusal laws.text_laws (reading_under s) (settings.definite laws.setting_laws s schema states) policies entities request)
  outcome schema policies entities request (schemas.refused f is_fault) = inr (schema_refusal f, by_schema (record { fault = f; is_fault = is_fault; is = refl }))

  pub line_or_refusal : LineOrRefusal
  line_or_refusal schema policies entities request = outcome schema policies entities request (laws.some_schema schema)

  pub lines_ascend : ListsAscend → ListsOfLinesAscend
  lines_ascend law schema policies entities request line x =
      texts.lines_ascend laws.text_laws law (reading_under x.stated) policies entities request line x.decided

pub alike : MemberOfIsKept → MemberOfDecidesAlike
alike law schema policies entities request line x =
    let report = x.decided.answered in
    record {
      ordered = report.answers.ordered;
      order = report.answers.order;
      is = subst (λ (W : Entities). IsAnswer W report.asked report.answers.ordered report.answer) (law schema x.stated x.states (under.stated report.stored)) report.answers.is;
    }
