use Rattle.std.proofs.Common.{◌∙◌, ap, Some}
use Rattle.std.proofs.lemmas.Result.{IfOk-weaker}
use Rattle.serde_json.specs.Data.{Data}
use Rattle.serde_json.specs.Written.{compact_text}
use Rattle.stamped_store.specs.Store.{abstract_store, updates}
use Rattle.sync_format.specs.Messages.{state_json, state_text}
use Rattle.sync_format.proofs.News.{whole_json}
use Rattle.sync_format.proofs.Written.{stated_back}
use Rattle.sync_format.proofs.writing.write_state.Goals as goal

pub returns-clause-text : goal.returns-clause-text
unfolding state_text
returns-clause-text g c =
    IfOk-weaker c.write_message.result _ _ (λ b text. text ∙ ap compact_text (whole_json c.args.label.now (abstract_store c.args.store.now))) c.write_message.ensures.text

pub returns-clause-json : goal.returns-clause-json
returns-clause-json g c =
    IfOk-weaker c.write_message.result _ _ (λ b json. json ∙ ap (λ (d : Data). Some d) (whole_json c.args.label.now (abstract_store c.args.store.now))) c.write_message.ensures.json

pub returns-clause-reads_back : goal.returns-clause-reads_back
returns-clause-reads_back g c =
    let s = abstract_store c.args.store.now in
    IfOk-weaker c.write_message.result _ _ (λ b json range. stated_back b.items c.args.label.now (updates s) (state_json c.args.label.now s)
    (json ∙ ap (λ (d : Data). Some d) (whole_json c.args.label.now s)) (c.messages_read_back.ensures.states c.args.label.now s range)) c.write_message.ensures.json
