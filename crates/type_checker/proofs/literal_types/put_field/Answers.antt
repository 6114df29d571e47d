use Rattle.std.proofs.Common.{◌∙◌, ap}
use Rattle.type_checker.specs.inner.Parts.{map_fields}
use Rattle.type_checker.proofs.RecordFields.{insertion}
use Rattle.type_checker.proofs.literal_types.put_field.Goals as goal

pub returns : goal.returns
returns c =
    ap map_fields c.in_ok-insert.ensures.entries ∙ insertion c.args.map.entries c.args.key c.args.ty
