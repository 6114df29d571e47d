use Rattle.std.proofs.Common.{◌<◌, ℕ, refl, subst}
use Rattle.machine.proofs.StreamLemmas.{put_at}
use Rattle.machine.proofs.sockets.SystemSocketsSockets.accept.Goals as goal

pub returns-in-Ok-Some : goal.returns-in-Ok-Some
returns-in-Ok-Some g c = (
  put_at c.args.self.now.peers.items c.args.at c.put.new.self _
      (subst (λ (n : ℕ). c.args.at < n) c.args.self.now.peers.ok.0 (c.in-Some.ensures.variant.0 refl)) c.put.ensures,
  refl,
  refl,
)
