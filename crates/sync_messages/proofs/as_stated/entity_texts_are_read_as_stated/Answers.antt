use Rattle.sync_messages.proofs.TextsRead.{text_given}
use Rattle.sync_messages.proofs.as_stated.entity_texts_are_read_as_stated.Goals as goal

pub returns : goal.returns
returns c = text_given c.entities_are_read_as_stated.ensures.read
