use Rattle.std.proofs.Common.{Result, drop}
use Rattle.std.specs.Prelude.{⊤}
use Rattle.entity_hierarchy.specs.schema.Views.{schema_view}
use Rattle.decision_texts.specs.answer_lines.declared.refusal.Refusal.{Refusal}
use Rattle.schema_decisions.proofs.CheckLemmas.{cores, AreChecked}
use Rattle.schema_decisions.proofs.policies.check_each.Given as goal

-- the result of checking the remaining policies is that of checking all
abbrev pub invariant-loop-place : goal.invariant-loop-place
invariant-loop-place l =
    (r : Result ⊤ Refusal) → AreChecked (schema_view l.schema) l.place (cores (drop l.place l.policies)) r
    → AreChecked (schema_view l.schema) 0 (cores l.policies) r
