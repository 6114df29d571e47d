use Rattle.sync_format.proofs.Outcomes.{one_message, one_refusal, never_both, some_outcome, never_other}
use Rattle.sync_format.proofs.laws.messages_have_one_outcome.Goals as goal

pub returns-clause-updates : goal.returns-clause-updates
returns-clause-updates g c b one = one_message (g.B.Readings.reads_policy b) (g.B.Readings.reads_entity b) (g.B.Bodies.refuses_policy b) (g.B.Bodies.refuses_entity b) one.policies one.entities

pub returns-clause-fault : goal.returns-clause-fault
returns-clause-fault g c b one = one_refusal (g.B.Readings.reads_policy b) (g.B.Readings.reads_entity b) (g.B.Bodies.refuses_policy b) (g.B.Bodies.refuses_entity b) one.policies one.entities c.stamps_read_back.ensures.checked_stamp

pub returns-clause-apart : goal.returns-clause-apart
returns-clause-apart g c b one = never_both (g.B.Readings.reads_policy b) (g.B.Readings.reads_entity b) (g.B.Bodies.refuses_policy b) (g.B.Bodies.refuses_entity b) one.policies one.entities c.stamps_read_back.ensures.checked_stamp

pub returns-clause-some : goal.returns-clause-some
returns-clause-some g c b one policies entities = some_outcome (g.B.Readings.reads_policy b) (g.B.Readings.reads_entity b) (g.B.Bodies.refuses_policy b) (g.B.Bodies.refuses_entity b) one.policies one.entities policies entities c.stamps_read_back.ensures.sound

pub returns-clause-named : goal.returns-clause-named
returns-clause-named g c b named = never_other (g.B.Bodies.refuses_policy b) (g.B.Bodies.refuses_entity b) named
