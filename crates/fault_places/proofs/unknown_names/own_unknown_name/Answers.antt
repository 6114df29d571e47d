use Rattle.type_checker.specs.schema.Views.{schema_view}
use Rattle.fault_places.proofs.UnknownNames.{no_name}
use Rattle.fault_places.proofs.unknown_names.own_unknown_name.Goals as goal

pub returns-in_default : goal.returns-in_default
returns-in_default c = no_name (schema_view c.args.schema.now) c.args.expr.now c.in_default.not-Literal c.in_default.not-Unary
