use Rattle.stamped_store.specs.Store.{abstract_store}
use Rattle.program_exchanges.proofs.pulling.take_reply.Goals as goal

pub returns-clause-pulled : goal.returns-clause-pulled
returns-clause-pulled c = record {
  store = abstract_store c.in_ok-store.field-0.store;
  joins = c.in_ok-store.ensures.joined;
  state_is = c.in_ok-state.ensures.text;
  reads_back = c.in_ok-state.ensures.reads_back (c.in_ok-store.ensures.sendable c.requires);
}
