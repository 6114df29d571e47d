use Rattle.std.proofs.Common.{◌≡◌, ◌∙◌, Some}
use Rattle.std.specs.Prelude.{codes}
use Rattle.json_words.specs.Json.{json_of}
use Rattle.entity_uids.proofs.Appending.{text_written, json_written}
use Rattle.sync_format.specs.Messages.{updates_json, updates_text}
use Rattle.sync_format.specs.Updates.{plain_updates}
use Rattle.sync_format.proofs.Written.{depth_message, stated_back}
use Rattle.sync_format.proofs.update_writing.write_updates.Goals as goal

pub returns-clause-text : goal.returns-clause-text
unfolding updates_text
returns-clause-text g c = text_written c.into_inner.result.items (c.new-out.ensures.before ∙ c.new.ensures.items) c.new-out.ensures.tokens c.in_ok-write_whole.ensures c.into_inner.ensures.items

pub returns-clause-json : goal.returns-clause-json
returns-clause-json g c =
    json_written c.into_inner.result.items (c.new-out.ensures.before ∙ c.new.ensures.items) c.new-out.ensures.tokens c.in_ok-write_whole.ensures c.into_inner.ensures.items
    c.into_inner.ensures.reads_back c.into_inner.ensures.utf8 (depth_message (codes "delta") c.args.label.now (plain_updates c.args.updates.now))

pub returns-clause-reads_back : goal.returns-clause-reads_back
returns-clause-reads_back g c range =
    let label = c.args.label.now in
    let us = plain_updates c.args.updates.now in
    stated_back c.into_inner.result.items label us (updates_json label us) (returns-clause-json g c) (c.messages_read_back.ensures.lists label us range)
