-- The parser of a schema's texts.
use Rattle.site_store.specs.schema.SchemaEntries.{SchemaEntries}
use Rattle.sync_messages.specs.declared.texts.SchemaTexts.{SchemaTexts}

abbrev pub texts_of : SchemaEntries → SchemaTexts
texts_of schema = record { schema = record { ref_ptr = (0, 0); now = schema } }
