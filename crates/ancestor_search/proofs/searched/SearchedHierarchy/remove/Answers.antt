use Rattle.std.proofs.Common.{rules}
use Rattle.ancestor_search.proofs.searched.SearchedHierarchy.remove.Goals as goal

pub returns-clause-ok : goal.returns-clause-ok
returns-clause-ok c = search rules
