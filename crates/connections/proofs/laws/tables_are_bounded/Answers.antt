use Rattle.connections.proofs.BoundLemmas.{tables_are_bounded}
use Rattle.connections.proofs.laws.tables_are_bounded.Goals as goal

pub returns : goal.returns
returns c = tables_are_bounded
