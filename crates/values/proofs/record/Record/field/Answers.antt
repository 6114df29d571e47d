use Rattle.std.proofs.Common.{◌∙◌, ap}
use Rattle.values.specs.Fields.{find_field}
use Rattle.values.proofs.Records.{looked_up, lent}
use Rattle.values.proofs.record.Record.field.Goals as goal

pub returns : goal.returns
returns c =
    lent c.get.result ∙ (c.get.ensures.value ∙ (looked_up c.args.key.now c.self.inside.fields.entries ∙ ap (find_field c.args.key.now) c.self.view_is))
