use Rattle.sync_messages.proofs.MessagesRead.{message_read, message_outcome}
use Rattle.sync_messages.proofs.as_stated.messages_are_read_as_stated.Goals as goal

pub returns-clause-read : goal.returns-clause-read
returns-clause-read c = message_read (record {
  facts = record {
    uids = c.names_read_back.ensures.found;
    names = c.stamps_read_back.ensures.names;
    tested = c.site_names_are_recognized.ensures.tested;
    digits = c.site_names_are_recognized.ensures.digits;
  };
  ascends = c.json_keys_ascend.ensures;
  entities = c.entities_are_read_as_stated.ensures.read;
  policy_texts = c.stored_texts_have_one_reading.ensures.policies;
  entity_texts = c.stored_texts_have_one_reading.ensures.entities;
  passes = c.stamps_read_back.ensures.checked_stamp;
  sound = c.stamps_read_back.ensures.sound;
})

pub returns-clause-one : goal.returns-clause-one
returns-clause-one c = message_outcome (record {
  facts = record {
    uids = c.names_read_back.ensures.found;
    names = c.stamps_read_back.ensures.names;
    tested = c.site_names_are_recognized.ensures.tested;
    digits = c.site_names_are_recognized.ensures.digits;
  };
  ascends = c.json_keys_ascend.ensures;
  entities = c.entities_are_read_as_stated.ensures.read;
  policy_texts = c.stored_texts_have_one_reading.ensures.policies;
  entity_texts = c.stored_texts_have_one_reading.ensures.entities;
  passes = c.stamps_read_back.ensures.checked_stamp;
  sound = c.stamps_read_back.ensures.sound;
})
