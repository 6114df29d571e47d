use Rattle.std.proofs.Common.{string_bytes, ◌∙◌, ◌++◌, ap}
use Rattle.type_checker.specs.schema.Views.{schema_view}
use Rattle.fault_places.proofs.Appending.{nothing_more}
use Rattle.fault_places.proofs.Reading.{no_name_detail}
use Rattle.fault_places.proofs.details.push_name_detail.Goals as goal

pub returns-in_default : goal.returns-in_default
returns-in_default c =
    let old = string_bytes c.args.out.now in
    nothing_more old ∙ ap (λ l. old ++ l) (no_name_detail (schema_view c.args.schema.now) c.args.fault c.in_default.not-UnknownAction)
