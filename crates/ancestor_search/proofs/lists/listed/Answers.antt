use Rattle.std.proofs.Common.{rules}
use Rattle.ancestor_search.proofs.Sets.{ascending_names}
use Rattle.ancestor_search.proofs.lists.listed.Goals as goal

pub returns-clause-ascending : goal.returns-clause-ascending
returns-clause-ascending c = ascending_names _ c.len-ascending.ensures.ordered

pub returns-clause-same : goal.returns-clause-same
returns-clause-same c = search rules
