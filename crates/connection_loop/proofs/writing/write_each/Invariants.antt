use Rattle.connection_loop.specs.Phases.{AtEach, Moves}
use Rattle.connection_loop.specs.Turns.{IsSentAt}
use Rattle.connection_loop.proofs.writing.write_each.Given as goal

abbrev pub invariant-loop-at : goal.invariant-loop-at
invariant-loop-at g l =
    Moves g.N.Sockets.does (AtEach (IsSentAt) l.at) l.fn.course l.fn.slots l.fn.sockets l.course l.slots l.sockets
