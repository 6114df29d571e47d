use Rattle.entities.proofs.ValueLeaves.{decimal_parsed}
use Rattle.entities.proofs.value_reading.parse_decimal.Goals as goal

pub returns : goal.returns
returns c = decimal_parsed c.args.text.now _ c.parse.ensures.some c.parse.ensures.none
