use Rattle.connections.proofs.ReadyLemmas.{tables_are_ready}
use Rattle.connections.proofs.laws.tables_are_ready.Goals as goal

pub returns : goal.returns
returns g c = tables_are_ready g.S.Service.is_unfinished
