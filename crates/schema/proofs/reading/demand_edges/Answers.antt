use Rattle.std.proofs.Common.{rules}
use Rattle.schema.proofs.reading.demand_edges.Goals as goal

pub returns : goal.returns
returns c = search rules
