use Rattle.entities.proofs.ValueLeaves.{network_parsed}
use Rattle.entities.proofs.value_reading.parse_network.Goals as goal

pub returns : goal.returns
returns c = network_parsed c.args.text.now _ c.parse.ensures.some c.parse.ensures.none
