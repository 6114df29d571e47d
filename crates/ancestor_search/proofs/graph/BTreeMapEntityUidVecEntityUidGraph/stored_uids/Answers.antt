use Rattle.std.proofs.Common.{rules}
use Rattle.ancestor_search.proofs.graph.BTreeMapEntityUidVecEntityUidGraph.stored_uids.Goals as goal

pub returns-clause-all : goal.returns-clause-all
returns-clause-all c = search rules
