use Rattle.std.proofs.lemmas.Result.{IfOk-weaker, IfErr-weaker, MatchResult-from_both, err_from_is_err_and}
use Rattle.entity_hierarchy.specs.schema.Views.{schema_view}
use Rattle.schema_decisions.specs.Decisions.{under_schema}
use Rattle.schema_decisions.specs.StatedDecisions.{bad_schema}
use Rattle.schema_decisions.proofs.deciding.decide_under.Goals as goal

pub returns-in_err-schema-clause-stated : goal.returns-in_err-schema-clause-stated
returns-in_err-schema-clause-stated c =
    let p = err_from_is_err_and c.from_residual.result c.from_residual.ensures.1 in
    rw (p.1, p.2) (λ other. bad_schema (c.in_err-schema.ensures.refused other))

pub returns-clause-decided : goal.returns-clause-decided
returns-clause-decided c = IfOk-weaker c.decide_under_setting.result _ _
    (λ line under. record { stated = schema_view c.in_ok-schema.schema; states = c.in_ok-schema.ensures.read; decided = under })
    c.decide_under_setting.ensures.decided

pub returns-clause-refused : goal.returns-clause-refused
returns-clause-refused c = IfErr-weaker c.decide_under_setting.result _ _
    (λ refusal is_fault other. under_schema (schema_view c.in_ok-schema.schema) c.in_ok-schema.ensures.read (is_fault other))
    c.decide_under_setting.ensures.refused

pub returns-clause-stated : goal.returns-clause-stated
returns-clause-stated c =
    let law = c.decisions_are_as_stated.ensures c.args.schema.now c.args.policies.now c.args.entities.now c.args.request.now in
    MatchResult-from_both c.decide_under_setting.result _ _
    (IfOk-weaker c.decide_under_setting.result _ _ (λ line told. (law.lines line.items).0 told) (returns-clause-decided c))
    (IfErr-weaker c.decide_under_setting.result _ _ (λ refusal told other. (law.refusals refusal).0 (told other)) (returns-clause-refused c))
