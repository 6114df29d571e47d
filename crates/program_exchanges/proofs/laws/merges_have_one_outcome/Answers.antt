use Rattle.sync_messages.specs.schema.SchemaEntries.{SchemaEntries}
use Rattle.sync_messages.specs.schema.Views.{schema_view}
use Rattle.sync_messages.specs.declared.texts.SchemaTexts.{SchemaTexts}
use Rattle.program_exchanges.proofs.OutcomeLemmas.{Laws, stated, unstated, texts_are_one}
use Rattle.program_exchanges.proofs.laws.merges_have_one_outcome.Goals as goal

-- the texts of a schema, as what says what texts are read as
abbrev texts_of : SchemaEntries → SchemaTexts
texts_of schema = record { schema = record { ref_ptr = (0, 0); now = schema } }

pub returns-clause-stated : goal.returns-clause-stated
returns-clause-stated c bytes f g schema is =
    let s = schema_view schema in
    let one = texts_are_one s c.stored_texts_have_one_reading.ensures.policies c.stored_texts_have_one_reading.ensures.entities in
    let held : Laws s = record {
      fault = c.messages_have_one_outcome.ensures.fault (texts_of schema) one s.label;
      apart = c.messages_have_one_outcome.ensures.apart (texts_of schema) one s.label;
      some = c.messages_have_one_outcome.ensures.some (texts_of schema) one (λ id text. (c.stored_texts_have_one_reading.ensures.policies s text).1) (λ uid text. (c.stored_texts_have_one_reading.ensures.entities s uid text).1) s.label;
    } in
    stated c.bytes_have_one_outcome.ensures.one_schema c.bytes_have_one_outcome.ensures.not_both c.bytes_have_one_outcome.ensures.one_refusal
    bytes f g s is held

pub returns-clause-unstated : goal.returns-clause-unstated
returns-clause-unstated c bytes f g fault is_fault =
    unstated c.bytes_have_one_outcome.ensures.one_schema c.bytes_have_one_outcome.ensures.not_both c.bytes_have_one_outcome.ensures.one_refusal
    bytes f g fault is_fault
