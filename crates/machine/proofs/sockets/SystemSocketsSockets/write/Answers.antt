use Rattle.std.proofs.Common.{◌≡◌, ◌<◌, ℕ, refl, subst, sym, string_bytes}
use Rattle.std.specs.Vec.{with_item}
use Rattle.machine.specs.Changes.{IsDone, IsWarned, failing_line}
use Rattle.machine.specs.Streams.{streams}
use Rattle.machine.proofs.StreamLemmas.{writes}
use Rattle.machine.proofs.sockets.SystemSocketsSockets.write.Goals as goal

pub returns-in-Some : goal.returns-in-Some
returns-in-Some g c =
    let old = c.args.self.now in
    writes g.R.Stream.Write.contents old
    (record { watch = old.watch; peers = with_item old.peers c.args.at c.write.new.self; address = old.address; faults = old.faults })
    (λ old act new. IsDone g.R.Stream.Read.remaining g.R.Stream.Write.contents act (streams old.peers.items) (streams new.peers.items)
    × IsWarned g.E.Write.contents (failing_line (string_bytes old.address)) act old.faults new.faults × (new.address ≡ old.address))
    old.peers.items c.args.at c.in-Some.peer.now c.write.new.self c.write.result c.args.bytes.now
    (subst (λ (n : ℕ). c.args.at < n) old.peers.ok.0 (c.in-Some.ensures.variant.0 refl))
    (sym c.in-Some.ensures.item.1) c.write.ensures
    (λ bytes h. (h, refl, refl)) (λ h. (h, refl, refl)) (λ h. (h, refl, refl))
