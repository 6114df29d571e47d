use Rattle.ancestor_search.proofs.Stored.{parents_of-insert}
use Rattle.ancestor_search.proofs.searched.SearchedHierarchy.set_parents.Goals as goal

pub returns-clause-ok : goal.returns-clause-ok
returns-clause-ok c = parents_of-insert c.args.self.now.edges c.insert.new.self c.args.uid c.args.parents c.in_ok-insert.ensures.updates.0
