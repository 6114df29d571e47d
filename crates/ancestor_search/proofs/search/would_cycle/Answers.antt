use Rattle.std.proofs.Common.{rules}
use Rattle.ancestor_search.proofs.search.would_cycle.Goals as goal

pub returns : goal.returns
returns g c = search rules
