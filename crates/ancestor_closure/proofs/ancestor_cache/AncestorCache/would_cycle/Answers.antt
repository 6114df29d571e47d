use Rattle.ancestor_closure.proofs.ancestor_cache.AncestorCache.would_cycle.Goals as goal

pub returns : goal.returns
returns c = λ before kept. c.leads_back.ensures before kept.above
