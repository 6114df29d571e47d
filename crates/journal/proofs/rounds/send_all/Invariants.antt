use Rattle.std.proofs.Common.{List, take, true}
use Rattle.journal.specs.Events.{Event, Runs}
use Rattle.journal.specs.Exchanges.{replies_in}
use Rattle.journal.specs.Rounds.{AreReplies}
use Rattle.journal.proofs.rounds.send_all.Given as goal

abbrev pub invariant-loop-exchange : goal.invariant-loop-exchange
invariant-loop-exchange g l =
    (events : List Event) × Runs g.M.Device.does l.fn.machine events l.machine
    × AreReplies (replies_in (take l.exchange-index l.round)) events true
