use Rattle.std.proofs.Common.{map}
use Rattle.std.proofs.lemmas.Result.{IfOk-weaker, IfErr-weaker}
use Rattle.sync_format.specs.inner.Reading.{stated_update}
use Rattle.sync_format.specs.Updates.{plain_updates}
use Rattle.sync_format.proofs.Raised.{read_raised}
use Rattle.sync_format.proofs.Taking.{is_message, refused}
use Rattle.sync_format.proofs.reading.read_message_by.Goals as goal

pub returns-clause-read : goal.returns-clause-read
returns-clause-read g c =
    IfOk-weaker c.read_all.result _ _ (λ us taken. is_message (g.B.Readings.reads_policy c.args.bodies.now) (g.B.Readings.reads_entity c.args.bodies.now) c.stamps_read_back.ensures.sound
    c.args.label.now c.args.bytes.now (map stated_update c.in_ok-entries.entries.items) us.items c.in_ok-entries.ensures taken) c.read_all.ensures.read

pub returns-clause-refused : goal.returns-clause-refused
returns-clause-refused g c =
    IfErr-weaker c.read_all.result _ _ (λ why stops. refused (g.B.Readings.reads_policy c.args.bodies.now) (g.B.Readings.reads_entity c.args.bodies.now) (g.B.Bodies.refuses_policy c.args.bodies.now)
    (g.B.Bodies.refuses_entity c.args.bodies.now) c.stamps_read_back.ensures.sound c.args.label.now c.args.bytes.now (map stated_update c.in_ok-entries.entries.items) c.in_ok-entries.ensures why stops)
    c.read_all.ensures.refused

pub returns-clause-raised : goal.returns-clause-raised
returns-clause-raised g c =
    IfOk-weaker c.read_all.result _ _ (λ us message ns is. read_raised c.args.label.now c.args.bytes.now (plain_updates us.items) ns message.stated
    (c.messages_are_raised.ensures.raised c.args.label.now c.args.bytes.now ns is))
    (returns-clause-read g c)
