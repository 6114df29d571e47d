use Rattle.std.proofs.Common.{refl}
use Rattle.std.proofs.lemmas.Result.{IfOk-weaker}
use Rattle.sync_messages.specs.schema.Views.{schema_view}
use Rattle.stamped_store.specs.Store.{abstract_store}
use Rattle.program_exchanges.proofs.MessageLemmas.{texts_of, read_back}
use Rattle.program_exchanges.proofs.joining.state_of.Goals as goal

pub returns-clause-reads_back : goal.returns-clause-reads_back
returns-clause-reads_back c =
    let k = c.args.schema.now in
    IfOk-weaker c.write_state.result _ _
    (λ b. read_back k (schema_view k).label b.items (abstract_store c.args.store.now) refl (c.valid_messages_are_read.ensures.read (texts_of k)))
    c.write_state.ensures.reads_back
