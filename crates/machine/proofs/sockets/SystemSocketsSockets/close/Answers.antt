use Rattle.std.proofs.Common.{refl}
use Rattle.machine.proofs.StreamLemmas.{emptied}
use Rattle.machine.proofs.sockets.SystemSocketsSockets.close.Goals as goal

pub returns-in_default-take : goal.returns-in_default-take
returns-in_default-take g c = (emptied c.args.self.now.peers.items c.args.at _ c.take.ensures, refl, refl)

pub returns-in-Broken : goal.returns-in-Broken
returns-in-Broken g c = (emptied c.args.self.now.peers.items c.args.at _ c.take.ensures, refl, refl)

pub returns-in_default-why : goal.returns-in_default-why
returns-in_default-why g c = (emptied c.args.self.now.peers.items c.args.at _ c.take.ensures, refl, refl)
