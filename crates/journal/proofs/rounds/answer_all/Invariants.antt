use Rattle.std.proofs.Common.{◌≡◌, ◌++◌, List, take}
use Rattle.journal.specs.Exchanges.{replies_in, requests_in}
use Rattle.journal.specs.Steps.{Chain, Done, replies_of, requests_of, updates_of}
use Rattle.journal.proofs.rounds.answer_all.Given as goal

abbrev pub invariant-loop-exchange : goal.invariant-loop-exchange
invariant-loop-exchange g l = record {
  setting : g.R.Replica.setting l.replica ≡ g.R.Replica.setting l.fn.replica;
  asked : requests_in l.round ≡ requests_in l.fn.round;
  answered : (done : List Done) × (requests_of done ≡ requests_in (take l.exchange-index l.round))
      × (replies_of done ≡ replies_in (take l.exchange-index l.round))
      × Chain (g.R.Answering.steps (g.R.Replica.setting l.fn.replica)) done (g.R.Replica.store l.fn.replica) (g.R.Replica.store l.replica)
      × (g.R.Replica.unrecorded l.replica ≡ g.R.Replica.unrecorded l.fn.replica ++ updates_of done);
}
