use Rattle.stamped_store.specs.Deltas.{delta}
use Rattle.stamped_store.specs.Store.{abstract_store, updates}
use Rattle.std.proofs.lemmas.Result.{on_ok_weaker}
use Rattle.entity_uids.proofs.Appending.{wrote}
use Rattle.sync_format.proofs.Entries.{message_written}
use Rattle.sync_format.proofs.writing.write_whole.Goals as goal

pub returns : goal.returns
returns g c = on_ok_weaker c.end_message.result (λ e.
    message_written c.args.kind.now c.args.label.now (updates (delta (abstract_store c.args.store.now) c.args.known.now)) (wrote c.in_ok-begin_object.ensures) (wrote c.in_ok-key.ensures)
    c.in_ok-write_entries.ensures e.kind_is e.label_is e.version_is e.closed) c.end_message.ensures
