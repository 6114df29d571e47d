use Rattle.ancestor_search.proofs.Cycles.{has_iff}
use Rattle.ancestor_search.proofs.search.has.Goals as goal

pub returns : goal.returns
returns c = has_iff c.args.entities.now c.args.uid.now c.contains.result c.contains.ensures.value
