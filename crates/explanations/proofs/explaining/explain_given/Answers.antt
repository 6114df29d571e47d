use Rattle.std.proofs.Common.{None, Some, ap, option_map, string_bytes}
use Rattle.schema_decisions.specs.schema.Views.{schema_view}
use Rattle.explanations.specs.Files.{file_of, files_of}
use Rattle.explanations.proofs.Appending.{on_ok}
use Rattle.explanations.proofs.Joining.{given_as, under_schema, schema_rejected}
use Rattle.explanations.proofs.explaining.explain_given.Goals as goal

pub returns-in_default : goal.returns-in_default
returns-in_default c =
    on_ok c.explain_others.result c.explain_others.ensures (given_as (files_of c.args.given.now) None (string_bytes c.args.out.now) (string_bytes c.explain_others.new.out) (ap (option_map file_of) c.in_default.is))

pub returns-in-Ok : goal.returns-in-Ok
returns-in-Ok c =
    let given = files_of c.args.given.now in
    let source = file_of c.in-Some.source in
    let old = string_bytes c.args.out.now in
    let new = string_bytes c.explain_others-explained.new.out in
    on_ok c.explain_others-explained.result c.explain_others-explained.ensures (λ a. given_as given (Some source) old new (ap (option_map file_of) c.in-Some.is)
    (under_schema given old source (schema_view c.in-Ok.schema) new c.in-Ok.ensures.read a))

pub returns-in-Err : goal.returns-in-Err
returns-in-Err c =
    let given = files_of c.args.given.now in
    let source = file_of c.in-Some.source in
    let old = string_bytes c.args.out.now in
    let new = string_bytes c.push_refusal.new.out in
    on_ok c.push_refusal.result c.push_refusal.ensures (λ told. given_as given (Some source) old new (ap (option_map file_of) c.in-Some.is)
    (schema_rejected given old source c.in-Err.refusal new (c.in-Err.ensures.refused told.0) told.1))
