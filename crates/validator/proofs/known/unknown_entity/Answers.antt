use Rattle.std.proofs.Common.{sym, subst}
use Rattle.type_checker.specs.schema.Views.{schema_view}
use Rattle.validator.specs.Names.{entity}
use Rattle.validator.proofs.KnownLemmas.{ReportsName, name_tells}
use Rattle.validator.proofs.known.unknown_entity.Goals as goal

pub returns-in-Ok : goal.returns-in-Ok
returns-in-Ok c =
    let s = schema_view c.args.schema.now in
    let n = entity c.args.uid.now in
    subst (ReportsName s n) (sym c.in-Ok.ensures) (name_tells s n)

pub returns-in-Err : goal.returns-in-Err
returns-in-Err c =
    let s = schema_view c.args.schema.now in
    let n = entity c.args.uid.now in
    subst (ReportsName s n) (sym c.in-Err.ensures) (name_tells s n)
