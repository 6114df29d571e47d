use Rattle.authoriser.proofs.Judging.{placed_alone}
use Rattle.authoriser.proofs.request_entities.look_up.Goals as goal

pub returns-in-None-clause-ancestors : goal.returns-in-None-clause-ancestors
returns-in-None-clause-ancestors g c = placed_alone (g.L.Ancestry.parents c.args.store.now) c.args.uid c.new.result c.new.ensures.items c.in-None.ensures.alone
