use Rattle.ancestor_closure.proofs.Pairs.{kept_of_none}
use Rattle.ancestor_closure.proofs.ancestor_cache.AncestorCache.new.Goals as goal

pub returns : goal.returns
returns c = kept_of_none c.new.result c.new-2.result.keys c.new.ensures.empty c.new-2.ensures.empty
