use Rattle.connections.proofs.LossLemmas.{lost_replies_end}
use Rattle.connections.proofs.laws.lost_replies_end.Goals as goal

pub returns : goal.returns
returns c = lost_replies_end
