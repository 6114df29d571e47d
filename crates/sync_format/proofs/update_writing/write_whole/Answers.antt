use Rattle.std.proofs.lemmas.Result.{on_ok_weaker}
use Rattle.std.specs.Prelude.{codes}
use Rattle.sync_format.specs.Updates.{plain_updates}
use Rattle.entity_uids.proofs.Appending.{wrote}
use Rattle.sync_format.proofs.Entries.{message_written}
use Rattle.sync_format.proofs.update_writing.write_whole.Goals as goal

pub returns : goal.returns
returns g c = on_ok_weaker c.end_message.result (λ e.
    message_written (codes "delta") c.args.label.now (plain_updates c.args.updates.now) (wrote c.in_ok-begin_object.ensures) (wrote c.in_ok-key.ensures)
    c.in_ok-write_array.ensures e.kind_is e.label_is e.version_is e.closed) c.end_message.ensures
