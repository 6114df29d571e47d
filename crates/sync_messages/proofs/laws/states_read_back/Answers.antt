use Rattle.sync_format.specs.Messages.{state_text, delta_text}
use Rattle.sync_messages.proofs.ReadBackLemmas.{described}
use Rattle.sync_messages.proofs.laws.states_read_back.Goals as goal

pub returns-clause-states : goal.returns-clause-states
returns-clause-states c s m label strings h =
    let bytes = state_text s.label m in
    described c.entity_texts_are_read_as_stated.ensures s bytes m (c.messages_are_read_as_stated.ensures.read s bytes)
    (c.messages_are_read_as_stated.ensures.one s bytes) (c.messages_read_back.ensures.state_texts s.label m label h.in_range strings) h

pub returns-clause-deltas : goal.returns-clause-deltas
returns-clause-deltas c s m label strings h =
    let bytes = delta_text s.label m in
    described c.entity_texts_are_read_as_stated.ensures s bytes m (c.messages_are_read_as_stated.ensures.read s bytes)
    (c.messages_are_read_as_stated.ensures.one s bytes) (c.messages_read_back.ensures.delta_texts s.label m label h.in_range strings) h
