use Rattle.program.proofs.ServeLemmas.{closes, closes_none}
use Rattle.program.proofs.serving.close_log.Goals as goal

pub returns-in-Some : goal.returns-in-Some
returns-in-Some g c = closes g.H.Host.does _ _ c.args.log c.in-Some.log c.in-Some.is c.close_log.ensures

pub returns-in-None : goal.returns-in-None
returns-in-None g c = closes_none g.H.Host.does _ c.args.log c.in-None.is
