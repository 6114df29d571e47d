-- Defines the outcome of checking policies under a schema: a line for each policy, or the first error of the texts of
-- schema and policies.
-- Rules of this product: the schema is checked before the policies; a policy that does not pass validation is not an
-- error of the texts, but is reported in its line.
use Rattle.std.specs.Prelude.{◌≡◌, ◌⊎◌, ℕ, Bool, List, map}
use Prim.Native.Char.{code}
use Rattle.std.specs.List.{AllZip, list_any, join_with_byte}
use Rattle.decision_texts.specs.policy_grammar.declared.policy.Policy.{Policy}
use Rattle.decision_texts.specs.authoriser.Answers.{NamedPolicy}
use Rattle.validator.specs.schema_types.declared.fault.SchemaFault.{SchemaFault}
use Rattle.entity_hierarchy.specs.schema.Schemas.{StatedSchema, IsSchemaOf, RefusedFor}
use Rattle.decision_texts.specs.answer_lines.declared.refusal.Refusal.{Refusal}
use Rattle.decision_texts.specs.Decisions.{ArePoliciesOf, ArePoliciesRefused, named_policies}
use Rattle.validator.specs.Outcomes.{CheckResult, IsCheckResult}
use Rattle.schema_decisions.specs.CheckRefusals.{schema_refusal}
use Rattle.schema_decisions.specs.Lines.{verdict_line, is_refusal}

-- `line_end` is a line feed.
abbrev pub line_end : ℕ
line_end = code "\n"

-- ---- policies under a schema

-- A `PolicyReport` is the id of a policy and the outcome of its validation.
pub record PolicyReport : Type 0 where
  pub id : List ℕ
  pub outcome : CheckResult

-- `IsReportOf s policy report` holds if `report` has the id of `policy` and an outcome of validating `policy` under the
-- schema `s`.
abbrev pub IsReportOf : StatedSchema → NamedPolicy → PolicyReport → Type 0
IsReportOf s policy report = (report.id ≡ policy.id) × IsCheckResult s policy.policy report.outcome

-- `AreReportsOf s policies text some_refused` holds if `text` has a line for the outcome of each of `policies` under
-- the schema `s`, and `some_refused` is whether any of the policies is rejected. The lines are in the order of
-- `policies`, with a line feed between each two.
pub record AreReportsOf (s : StatedSchema) (policies : List NamedPolicy) (text : List ℕ)
    (some_refused : Bool) : Type 0 where
  pub report : List PolicyReport
  pub each : AllZip (IsReportOf s) policies report
  pub text_is : text ≡ join_with_byte line_end (map (λ t. verdict_line t.id t.outcome) report)
  pub some_refused_is : some_refused ≡ list_any (λ t. is_refusal t.outcome) report

-- `AreReportsOnFile s policies text some_refused` holds if `policies` is a file of policies, `text` has their lines
-- under the schema `s`, and `some_refused` is whether any of the policies is rejected.
pub record AreReportsOnFile (s : StatedSchema) (policies text : List ℕ) (some_refused : Bool) : Type 0 where
  pub names : List (List ℕ)
  pub cores : List Policy
  pub file : ArePoliciesOf policies names cores
  pub has_reports : AreReportsOf s (named_policies names cores) text some_refused

-- ---- the two texts

-- `IsChecked schema policies text some_refused` holds if `schema` is a schema and `policies` a file of policies, `text`
-- has the lines of the policies, and `some_refused` is whether any of the policies is rejected.
pub record IsChecked (schema policies text : List ℕ) (some_refused : Bool) : Type 0 where
  pub stated : StatedSchema
  pub schema_is : IsSchemaOf schema stated
  pub has_file_reports : AreReportsOnFile stated policies text some_refused

-- `IsSchemaRefused schema refusal` holds if the bytes `schema` do not describe a schema, and `refusal` is their error.
pub record IsSchemaRefused (schema : List ℕ) (refusal : Refusal) : Type 0 where
  pub fault : SchemaFault
  pub is_fault : RefusedFor schema fault
  pub is : refusal ≡ schema_refusal fault

-- `AreNextRefused schema policies refusal` holds if the bytes `schema` describe a schema, and `refusal` is the error of
-- the text `policies`.
pub record AreNextRefused (schema policies : List ℕ) (refusal : Refusal) : Type 0 where
  pub stated : StatedSchema
  pub schema_is : IsSchemaOf schema stated
  pub refused : ArePoliciesRefused policies refusal

-- `AreChecksRefused schema policies refusal` holds if `refusal` is the error of `schema` or, if `schema` describes a
-- schema, the error of `policies`.
abbrev pub AreChecksRefused : List ℕ → List ℕ → Refusal → Type 0
AreChecksRefused schema policies refusal = IsSchemaRefused schema refusal ⊎ AreNextRefused schema policies refusal
