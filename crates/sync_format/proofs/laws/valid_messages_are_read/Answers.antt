use Rattle.sync_format.proofs.Outcomes.{valid_read, message_valid}
use Rattle.sync_format.proofs.laws.valid_messages_are_read.Goals as goal

pub returns-clause-read : goal.returns-clause-read
returns-clause-read g c = λ b. valid_read (g.B.Readings.reads_policy b) (g.B.Readings.reads_entity b)

pub returns-clause-valid : goal.returns-clause-valid
returns-clause-valid g c = λ b. message_valid (g.B.Readings.reads_policy b) (g.B.Readings.reads_entity b)
