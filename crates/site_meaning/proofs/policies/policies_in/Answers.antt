use Rattle.site_meaning.proofs.PolicyLemmas.{result_ascends}
use Rattle.site_meaning.proofs.policies.policies_in.Goals as goal

pub returns-clause-ascending : goal.returns-clause-ascending
returns-clause-ascending c =
    result_ascends c.args.store.now c.read_policies.ensures.in_order c.read_policies.result c.read_policies.ensures.read
