use Rattle.std.proofs.Common.{◌∙◌, ap, Some}
use Rattle.std.proofs.lemmas.Result.{IfOk-weaker}
use Rattle.serde_json.specs.Written.{compact_text}
use Rattle.stamped_store.specs.Deltas.{Summary, delta}
use Rattle.stamped_store.specs.Store.{abstract_store, updates}
use Rattle.sync_format.specs.Messages.{delta_json, delta_text}
use Rattle.sync_format.proofs.Written.{stated_back}
use Rattle.sync_format.proofs.writing.write_delta.Goals as goal

pub returns-clause-text : goal.returns-clause-text
unfolding delta_text
returns-clause-text g c =
    IfOk-weaker c.write_message.result _ _ (λ b text. text ∙ ap (λ (m : Summary). compact_text (delta_json c.args.label.now (delta (abstract_store c.args.store.now) m))) c.stamps.ensures.all) c.write_message.ensures.text

pub returns-clause-json : goal.returns-clause-json
returns-clause-json g c =
    IfOk-weaker c.write_message.result _ _ (λ b json. json ∙ ap (λ (m : Summary). Some (delta_json c.args.label.now (delta (abstract_store c.args.store.now) m))) c.stamps.ensures.all) c.write_message.ensures.json

pub returns-clause-reads_back : goal.returns-clause-reads_back
returns-clause-reads_back g c =
    let s = delta (abstract_store c.args.store.now) c.args.since.now in
    IfOk-weaker c.write_message.result _ _ (λ b json range. stated_back b.items c.args.label.now (updates s) (delta_json c.args.label.now s)
    (json ∙ ap (λ (m : Summary). Some (delta_json c.args.label.now (delta (abstract_store c.args.store.now) m))) c.stamps.ensures.all)
    (c.messages_read_back.ensures.deltas c.args.label.now s range)) c.write_message.ensures.json
