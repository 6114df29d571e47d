use Rattle.std.proofs.Common.{◌∙◌}
use Rattle.grammar_core.specs.declared.expr.Expr.TheVariants as form
use Rattle.fault_places.proofs.Reading.{read_cause, nothing_read, no_cause}
use Rattle.fault_places.proofs.causes.typing_cause.Goals as goal

pub returns-in-Field : goal.returns-in-Field
returns-in-Field c = c.as_str.ensures ∙ read_cause c.args.fault c.args.form.now _ _ c.in-AttributeMayBeMissing.is c.in-Field.is (form.outs-Field _ _)

pub returns-in_default-form : goal.returns-in_default-form
returns-in_default-form c = nothing_read c.args.fault c.args.form.now c.in-AttributeMayBeMissing.is c.in_default-form.not-Field

pub returns-in_default : goal.returns-in_default
returns-in_default c = no_cause c.args.fault c.args.form.now c.in_default.not-AttributeMayBeMissing
