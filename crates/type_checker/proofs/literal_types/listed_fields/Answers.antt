use Rattle.type_checker.proofs.RecordFields.{all_done}
use Rattle.type_checker.proofs.literal_types.listed_fields.Goals as goal

pub returns : goal.returns
returns c =
    all_done c.args.map.entries c.loop-key.fields.items c.loop-key.key-iterator c.in-None.ensures.steps.0
    c.loop-key.invariant
