use Rattle.std.proofs.Common.{ap}
use Rattle.scope_index.specs.Keys.{lent}
use Rattle.scope_index.proofs.Offering.{offered_in_all}
use Rattle.scope_index.proofs.candidates.unsorted_candidates.Goals as goal

pub returns : goal.returns
returns g c =
    offered_in_all (g.A.Ancestry.parents c.args.ancestry.now) c.args.request.now c.args.buckets.now
    (lent c.new-found.result.items) (lent c.add_always.new.found.items) (lent c.add_by_entities.new.found.items)
    (ap lent c.new-found.ensures.items) c.in_ok-add_always.ensures c.in_ok-add_by_entities.ensures
