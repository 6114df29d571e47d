use Rattle.std.proofs.Common.{refl}
use Rattle.std.specs.Prelude.{codes}
use Rattle.stamped_store.specs.Store.{updates}
use Rattle.sync_format.specs.Messages.{delta_text, updates_text}
use Rattle.sync_format.proofs.ReadBack.{state_back, delta_back}
use Rattle.sync_format.proofs.Written.{message_again, store_one}
use Rattle.sync_format.proofs.laws.messages_read_back.Goals as goal

pub returns-clause-states : goal.returns-clause-states
returns-clause-states c = λ label s h. message_again c.stamps_read_back.ensures.names c.site_names_are_recognized.ensures.tested (codes "state") label (updates s) refl h

pub returns-clause-deltas : goal.returns-clause-deltas
returns-clause-deltas c = λ label s h. message_again c.stamps_read_back.ensures.names c.site_names_are_recognized.ensures.tested (codes "delta") label (updates s) refl h

pub returns-clause-one_state : goal.returns-clause-one_state
returns-clause-one_state c = store_one (codes "state")

pub returns-clause-one_delta : goal.returns-clause-one_delta
returns-clause-one_delta c = store_one (codes "delta")

pub returns-clause-state_texts : goal.returns-clause-state_texts
returns-clause-state_texts c = state_back (record {
  names = c.stamps_read_back.ensures.names;
  tested = c.site_names_are_recognized.ensures.tested;
  sites = c.site_names_are_recognized.ensures.texts;
  texts = c.compact_texts_read_back.ensures.back;
})

pub returns-clause-delta_texts : goal.returns-clause-delta_texts
returns-clause-delta_texts c = delta_back (record {
  names = c.stamps_read_back.ensures.names;
  tested = c.site_names_are_recognized.ensures.tested;
  sites = c.site_names_are_recognized.ensures.texts;
  texts = c.compact_texts_read_back.ensures.back;
})

pub returns-clause-lists : goal.returns-clause-lists
returns-clause-lists c = λ label us h. message_again c.stamps_read_back.ensures.names c.site_names_are_recognized.ensures.tested (codes "delta") label us refl h

pub returns-clause-stores : goal.returns-clause-stores
unfolding updates_text delta_text
returns-clause-stores c = λ label s. refl
