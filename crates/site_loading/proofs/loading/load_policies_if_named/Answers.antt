use Rattle.site_loading.proofs.loading.load_policies_if_named.Goals as goal

pub returns-in-Some-clause-refused : goal.returns-in-Some-clause-refused
returns-in-Some-clause-refused c = rw c.in-Some.is c.load_policies.ensures.refused
