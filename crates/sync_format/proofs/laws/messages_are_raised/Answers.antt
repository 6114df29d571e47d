use Rattle.sync_format.proofs.Raised.{message_raised, message_numbered, message_numbers}
use Rattle.sync_format.proofs.Written.{numbered_message_again}
use Rattle.sync_format.proofs.laws.messages_are_raised.Goals as goal

pub returns-clause-raised : goal.returns-clause-raised
returns-clause-raised c = message_raised

pub returns-clause-numbers : goal.returns-clause-numbers
returns-clause-numbers c = message_numbers

pub returns-clause-all : goal.returns-clause-all
returns-clause-all c = message_numbered

pub returns-clause-back : goal.returns-clause-back
returns-clause-back c = numbered_message_again c.stamps_read_back.ensures.names
