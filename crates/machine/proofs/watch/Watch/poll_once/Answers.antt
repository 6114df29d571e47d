use Rattle.std.proofs.Common.{◌∙◌}
use Rattle.machine.proofs.StreamLemmas.{same_streams}
use Rattle.machine.proofs.watch.Watch.poll_once.Goals as goal

pub loop-event-preserved-then-at-peers : goal.loop-event-preserved-then-at-peers
loop-event-preserved-then-at-peers g c =
    same_streams c.loop-event.peers c.token-at.result.0 c.note.new.self c.index-peers-at.result c.if-at-peers.true c.note.ensures
    ∙ c.loop-event.invariant
