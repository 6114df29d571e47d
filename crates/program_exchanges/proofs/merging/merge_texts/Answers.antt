use Rattle.std.proofs.lemmas.Result.{IfOk-weaker}
use Rattle.sync_messages.specs.schema.Views.{schema_view}
use Rattle.program_exchanges.proofs.merging.merge_texts.Goals as goal

pub returns-clause-merged : goal.returns-clause-merged
returns-clause-merged c =
    IfOk-weaker c.merge_under.result _ _
    (λ b h. (
      record {
        stated = schema_view c.in_ok-schema.schema;
        schema_is = c.in_ok-schema.ensures.read;
        store = h.store;
        both = h.both;
        text_is = h.text_is;
      },
      h.reads_back,
    ))
    c.merge_under.ensures.merged
