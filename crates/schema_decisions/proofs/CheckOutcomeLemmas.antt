-- The texts of a schema and of policies have one outcome.
use Rattle.std.proofs.Common.{◌≡◌, ◌∙◌, ℕ, Bool, List, [], ◌∷◌, map, inl, inr, refl, sym, ap, subst}
use Rattle.std.specs.List.{AllZip, list_any, join_with_byte}
use Rattle.decision_texts.specs.policy_grammar.declared.policy.Policy.{Policy}
use Rattle.decision_texts.specs.policy_grammar.PolicyText.{IsFileRefused}
use Rattle.decision_texts.specs.policy_grammar.Unique.{HasOneReading, IsFileOf}
use Rattle.decision_texts.specs.authoriser.Answers.{NamedPolicy}
use Rattle.entity_hierarchy.specs.schema.Schemas.{StatedSchema, IsSchemaOf}
use Rattle.entity_hierarchy.specs.schema.Outcomes as schemas
use Rattle.decision_texts.specs.answer_lines.declared.refusal.Refusal.{Refusal}
use Rattle.decision_texts.specs.Decisions.{refusal_by, named_policies}
use Rattle.decision_texts.proofs.PolicyTexts.{PoliciesOrNone, policies_or_none, file_or_fault, fault_same}
use Rattle.validator.specs.Outcomes.{PoliciesHaveOneOutcome}
use Rattle.schema_decisions.specs.CheckRefusals.{schema_refusal}
use Rattle.schema_decisions.specs.Lines.{verdict_line, is_refusal}
use Rattle.schema_decisions.specs.Checks.{line_end, PolicyReport, IsReportOf, AreReportsOf, AreReportsOnFile, IsChecked}
use Rattle.schema_decisions.specs.Checks.{AreChecksRefused}
use Rattle.schema_decisions.specs.CheckOutcomes.{CheckOutcome, checked, refused, IsOutcomeOfTexts, TextsHaveOneOutcome}

-- theorems about the parts of the texts
pub record Laws : Type 0 where
  pub schema_some : schemas.SomeOutcome
  pub schema_one : schemas.OneSchema
  pub schema_not_both : schemas.NotBoth
  pub schema_one_refusal : schemas.OneRefusal
  pub files : HasOneReading IsFileOf IsFileRefused
  pub verdicts : PoliciesHaveOneOutcome

-- ---- what policies came to

told_same : Laws → (s : StatedSchema) (p : NamedPolicy) (t u : PolicyReport) → IsReportOf s p t → IsReportOf s p u → t ≡ u
told_same laws s p t u a b =
    let one = laws.verdicts s p.policy in
    let id : t.id ≡ u.id = a.0 ∙ sym b.0 in
    let outcome : t.outcome ≡ u.outcome = one.2 t.outcome a.1 ∙ sym (one.2 u.outcome b.1) in
    λ i. record { id = id i; outcome = outcome i }

all_told_same : Laws → (s : StatedSchema) (ps : List NamedPolicy) (ts us : List PolicyReport) → AllZip (IsReportOf s) ps ts → AllZip (IsReportOf s) ps us → ts ≡ us
all_told_same laws s [] [] [] a b = refl
all_told_same laws s [] [] (u ∷ us) a b = absurd b
all_told_same laws s [] (t ∷ ts) us a b = absurd a
all_told_same laws s (p ∷ ps) [] us a b = absurd a
all_told_same laws s (p ∷ ps) (t ∷ ts) [] a b = absurd b
all_told_same laws s (p ∷ ps) (t ∷ ts) (u ∷ us) a b =
    let head = told_same laws s p t u a.0 b.0 in
    let tail = all_told_same laws s ps ts us a.1 b.1 in
    λ i. head i ∷ tail i

all_told : Laws → (s : StatedSchema) (ps : List NamedPolicy) → (ts : List PolicyReport) × AllZip (IsReportOf s) ps ts
all_told laws s [] = ([], tt)
all_told laws s (p ∷ ps) =
    let one = laws.verdicts s p.policy in
    let rest = all_told laws s ps in
    (record { id = p.id; outcome = one.0 } ∷ rest.0, ((refl, one.1), rest.1))

abbrev text_of : List PolicyReport → List ℕ
text_of ts = join_with_byte line_end (map (λ t. verdict_line t.id t.outcome) ts)

abbrev some_refused_of : List PolicyReport → Bool
some_refused_of ts = list_any (λ t. is_refusal t.outcome) ts

are_told_same : Laws → (s : StatedSchema) (ps : List NamedPolicy) (text other : List ℕ) (some_refused some_other : Bool) → AreReportsOf s ps text some_refused
    → AreReportsOf s ps other some_other → checked text some_refused ≡ checked other some_other
are_told_same laws s ps text other some_refused some_other a b =
    let report = all_told_same laws s ps a.report b.report a.each b.each in
    let texts : text ≡ other = a.text_is ∙ ap text_of report ∙ sym b.text_is in
    let flags : some_refused ≡ some_other = a.some_refused_is ∙ ap some_refused_of report ∙ sym b.some_refused_is in
    λ i. checked (texts i) (flags i)

file_told_same : Laws → (s : StatedSchema) (policies text other : List ℕ) (some_refused some_other : Bool) → AreReportsOnFile s policies text some_refused
    → AreReportsOnFile s policies other some_other → checked text some_refused ≡ checked other some_other
file_told_same laws s policies text other some_refused some_other a b =
    let file = laws.files.one_value policies (a.names, a.cores) (b.names, b.cores) a.file.file b.file.file in
    are_told_same laws s (named_policies b.names b.cores) text other some_refused some_other
    (subst (λ (f : List (List ℕ) × List Policy). AreReportsOf s (named_policies f.0 f.1) text some_refused) file a.has_reports) b.has_reports

-- ---- two things that texts come to

module _ (laws : Laws) (schema policies : List ℕ) where
  checked_same : (text other : List ℕ) (some_refused some_other : Bool) → IsChecked schema policies text some_refused
      → IsChecked schema policies other some_other → checked text some_refused ≡ checked other some_other
  checked_same text other some_refused some_other a b =
      let stated = laws.schema_one schema a.stated b.stated a.schema_is b.schema_is in
      file_told_same laws b.stated policies text other some_refused some_other
      (subst (λ (s : StatedSchema). AreReportsOnFile s policies text some_refused) stated a.has_file_reports) b.has_file_reports

  not_both : (text : List ℕ) (some_refused : Bool) (refusal : Refusal) → IsChecked schema policies text some_refused → AreChecksRefused schema policies refusal → ⊥
  not_both text some_refused refusal a (inl none) = laws.schema_not_both schema a.stated none.fault a.schema_is none.is_fault
  not_both text some_refused refusal a (inr none) =
      file_or_fault laws.files policies a.has_file_reports.names a.has_file_reports.cores none.refused.fault a.has_file_reports.file none.refused.is_fault

  refused_same : (refusal other : Refusal) → AreChecksRefused schema policies refusal → AreChecksRefused schema policies other → refusal ≡ other
  refused_same refusal other (inl a) (inl b) = a.is ∙ ap schema_refusal (laws.schema_one_refusal schema a.fault b.fault a.is_fault b.is_fault) ∙ sym b.is
  refused_same refusal other (inl a) (inr b) = absurd (laws.schema_not_both schema b.stated a.fault b.schema_is a.is_fault)
  refused_same refusal other (inr a) (inl b) = absurd (laws.schema_not_both schema a.stated b.fault a.schema_is b.is_fault)
  refused_same refusal other (inr a) (inr b) =
      a.refused.is ∙ ap refusal_by (fault_same laws.files policies a.refused.fault b.refused.fault a.refused.is_fault b.refused.is_fault) ∙ sym b.refused.is

  one_come : (come other : CheckOutcome) → IsOutcomeOfTexts schema policies come → IsOutcomeOfTexts schema policies other → come ≡ other
  one_come (checked text some_refused) (checked other some_other) a b = checked_same text other some_refused some_other a b
  one_come (checked text some_refused) (refused other) a b = absurd (not_both text some_refused other a b)
  one_come (refused refusal) (checked other some_other) a b = absurd (not_both other some_other refusal b a)
  one_come (refused refusal) (refused other) a b = ap refused (refused_same refusal other a b)

  -- ---- the texts come to something

  abbrev SomeCome : Type 0
  SomeCome = (come : CheckOutcome) × IsOutcomeOfTexts schema policies come

  by_policies : (s : StatedSchema) → IsSchemaOf schema s → PoliciesOrNone policies → SomeCome
  by_policies s is (inl file) =
      let ts = all_told laws s (named_policies file.0.0 file.0.1) in (
        checked (text_of ts.0) (some_refused_of ts.0),
        record {
          stated = s;
          schema_is = is;
          has_file_reports = record {
            names = file.0.0;
            cores = file.0.1;
            file = file.1;
            has_reports = record { report = ts.0; each = ts.1; text_is = refl; some_refused_is = refl };
          };
        },
      )
  by_policies s is (inr none) = (refused none.0, inr (record { stated = s; schema_is = is; refused = none.1 }))

  by_schema : schemas.SchemaOrRefusal schema → SomeCome
  by_schema (schemas.states s is) = by_policies s is (policies_or_none laws.files policies)
  by_schema (schemas.refused f is_fault) = (refused (schema_refusal f), inl (record { fault = f; is_fault = is_fault; is = refl }))

  come_of : SomeCome
  come_of = by_schema (laws.schema_some schema)

pub one_outcome : Laws → TextsHaveOneOutcome
one_outcome laws schema policies =
    let some = come_of laws schema policies in (some.0, some.1, λ other is_fault. one_come laws schema policies other some.0 is_fault some.1)
