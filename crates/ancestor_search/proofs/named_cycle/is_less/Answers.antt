use Rattle.std.proofs.Common.{rules}
use Rattle.ancestor_search.proofs.named_cycle.is_less.Goals as goal

pub returns-in-Some : goal.returns-in-Some
returns-in-Some c = search rules
