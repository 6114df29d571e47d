use Rattle.std.proofs.Common.{◌∙◌}
use Rattle.stamped_store.specs.Deltas.{delta}
use Rattle.stamped_store.specs.Store.{abstract_store, updates}
use Rattle.entity_uids.proofs.Appending.{text_written, json_written}
use Rattle.sync_format.proofs.Written.{depth_message}
use Rattle.sync_format.proofs.writing.write_message.Goals as goal

pub returns-clause-text : goal.returns-clause-text
returns-clause-text g c = text_written c.into_inner.result.items (c.new-out.ensures.before ∙ c.new.ensures.items) c.new-out.ensures.tokens c.in_ok-write_whole.ensures c.into_inner.ensures.items

pub returns-clause-json : goal.returns-clause-json
returns-clause-json g c =
    json_written c.into_inner.result.items (c.new-out.ensures.before ∙ c.new.ensures.items) c.new-out.ensures.tokens c.in_ok-write_whole.ensures c.into_inner.ensures.items
    c.into_inner.ensures.reads_back c.into_inner.ensures.utf8 (depth_message c.args.kind.now c.args.label.now (updates (delta (abstract_store c.args.store.now) c.args.known.now)))
