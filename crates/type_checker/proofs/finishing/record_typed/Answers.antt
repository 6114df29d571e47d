use Rattle.std.proofs.Common.{map, ap, ◌∙◌}
use Rattle.grammar_core.specs.declared.expr.Expr.TheVariants as form
use Rattle.typing.specs.Typing as typing
use Rattle.typing.specs.Faults as faults
use Rattle.type_checker.specs.Views.{static_view}
use Rattle.type_checker.proofs.Carrying.{each_so, each_faulty, plain_judged}
use Rattle.type_checker.proofs.finishing.record_typed.Goals as goal

pub returns-in-Err : goal.returns-in-Err
returns-in-Err c = λ env K after h n.
    let fs = c.args.fields.now in
    faults.fault_in_operand (faults.of_record fs) (each_faulty env K after (map (λ f. f.value) fs) c.in-Err.is h n)

pub returns-in-Ok-record_literal_type : goal.returns-in-Ok-record_literal_type
returns-in-Ok-record_literal_type c = λ env K after h.
    let fs = c.args.fields.now in
    let t = each_so env K after (map (λ f. f.value) fs) c.in-Ok.is h in
    plain_judged env K after (form.Record fs) c.plain.result (ap static_view c.plain.ensures.kind ∙ c.in-Ok-record_literal_type.ensures)
    c.plain.ensures.gains t.0 (typing.types_record fs t.1)
