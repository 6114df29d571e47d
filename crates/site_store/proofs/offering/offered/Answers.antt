use Rattle.site_store.proofs.Read.{offered_are, offered_ascend}
use Rattle.site_store.proofs.offering.offered.Goals as goal

pub returns-clause-candidates : goal.returns-clause-candidates
returns-clause-candidates g c =
    offered_are c.args.store.now.policies c.args.index.now (g.A.Ancestry.parents c.args.ancestry.now) c.args.request.now
    c.candidates.result c.policies-policies.ensures.ordered c.requires c.candidates.ensures.exact c.candidates.ensures.complete

pub returns-clause-ascending : goal.returns-clause-ascending
returns-clause-ascending g c = offered_ascend c.candidates.result c.candidates.ensures.ascending
