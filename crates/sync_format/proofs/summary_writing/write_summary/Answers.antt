use Rattle.std.proofs.Common.{◌≡◌, ◌∙◌, Some, refl}
use Rattle.json_words.specs.Json.{json_of}
use Rattle.stamped_store.specs.Deltas.{summary_of}
use Rattle.stamped_store.specs.Store.{abstract_store}
use Rattle.sync_format.specs.Summaries.{summary_json, summary_text}
use Rattle.entity_uids.proofs.Appending.{text_written, json_written}
use Rattle.sync_format.proofs.RoundTrip.{depth_summary, stated_back}
use Rattle.sync_format.proofs.summary_writing.write_summary.Goals as goal

pub returns-clause-text : goal.returns-clause-text
unfolding summary_text
returns-clause-text g c = text_written c.into_inner.result.items (c.new-out.ensures.before ∙ c.new.ensures.items) c.new-out.ensures.tokens c.in_ok-write_whole.ensures c.into_inner.ensures.items

pub returns-clause-reads_back : goal.returns-clause-reads_back
returns-clause-reads_back g c sound =
    let label = c.args.label.now in
    let m = summary_of (abstract_store c.args.store.now) in
    let is : json_of c.into_inner.result.items ≡ Some (summary_json label m) =
    json_written c.into_inner.result.items (c.new-out.ensures.before ∙ c.new.ensures.items) c.new-out.ensures.tokens c.in_ok-write_whole.ensures c.into_inner.ensures.items c.into_inner.ensures.reads_back c.into_inner.ensures.utf8 (depth_summary label m) in
    stated_back label c.into_inner.result.items m (summary_json label m) refl (λ _. is)
    (c.summaries_read_back.ensures.back label m sound (c.summaries_read_back.ensures.ascending (abstract_store c.args.store.now)))
