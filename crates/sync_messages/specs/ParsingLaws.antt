-- Defines the theorems that parsing a message gives what its bytes describe, or the error with which they are rejected,
-- and that bytes have exactly one outcome.
use Rattle.std.specs.Prelude.{◌≡◌, ◌↔◌, ◌⊎◌, ℕ, List, Some, Ok, codes}
use Rattle.serde_json.specs.Data.{Data}
use Rattle.json_words.specs.Json.{json_of}
use Rattle.values.specs.declared.entity_uid.EntityUid.{EntityUid}
use Rattle.stamped_store.specs.Store.{Update as PlainUpdate}
use Rattle.stamped_store.specs.Deltas.{Summary}
use Rattle.sync_format.specs.policy_grammar.declared.policy.Policy.{Policy}
use Rattle.sync_format.specs.declared.fault.MessageFault.{MessageFault}
use Rattle.sync_format.specs.declared.update.Update.{Update}
use Rattle.sync_format.specs.Messages.{updates_stated, message_json}
use Rattle.sync_format.specs.Summaries.{summary_stated, summary_json}
use Rattle.validator.specs.schema.Schemas.{StatedSchema}
use Rattle.validator.specs.entity_data.declared.entity.Entity.{Entity}
use Rattle.sync_messages.specs.Texts.{entity_of_text}
use Rattle.sync_messages.specs.Messages.{IsMessageOf, IsMessageFaultOf}
use Rattle.validator.specs.schema.Agreement.{Gives, HasOneOutcome}
use Rattle.sync_messages.specs.MessageForms.{HasVersion}
use Rattle.sync_messages.specs.StatedUpdates.{DescribesUpdates, RefusesUpdates}
use Rattle.sync_messages.specs.StatedSummaries.{DescribesSummary, RefusesSummary}
use Rattle.sync_messages.specs.StatedTexts.{DescribesText, RefusesText}
use Rattle.sync_messages.specs.StatedMessages.{DescribesMessage, RefusesMessage}

-- ---- states and deltas, before their texts are parsed

-- `UpdatesAreRead`: the parsing function `updates_stated label bytes` (of `sync_format`) gives the updates that
-- `bytes` describe for the schema with the label `label`, or the error with which `bytes` are rejected.
abbrev pub UpdatesAreRead : Type 0
UpdatesAreRead = (label bytes : List ℕ)
    → Gives (updates_stated label bytes) (DescribesUpdates label bytes) (RefusesUpdates label bytes)

-- `UpdatesHaveOneOutcome`: bytes describe exactly one list of updates, or are rejected with exactly one error, and
-- never both.
abbrev pub UpdatesHaveOneOutcome : Type 0
UpdatesHaveOneOutcome = (label bytes : List ℕ)
    → HasOneOutcome (DescribesUpdates label bytes) (RefusesUpdates label bytes)

-- `UpdatesAreWritten`: if bytes of version 2 are parsed as updates, the JSON of the bytes has exactly the keys and
-- values with which a state or a delta of these updates is written.
abbrev pub UpdatesAreWritten : Type 0
UpdatesAreWritten = (label bytes : List ℕ) (d : Data) (us : List PlainUpdate) → json_of bytes ≡ Some d → HasVersion d 2
    → updates_stated label bytes ≡ Ok us
    → (d ≡ message_json (codes "state") label us) ⊎ (d ≡ message_json (codes "delta") label us)

-- ---- summaries

-- `SummariesAreRead`: the parsing function `summary_stated label bytes` (of `sync_format`) gives the summary that
-- `bytes` describe for the schema with the label `label`, or the error with which `bytes` are rejected.
abbrev pub SummariesAreRead : Type 0
SummariesAreRead = (label bytes : List ℕ)
    → Gives (summary_stated label bytes) (DescribesSummary label bytes) (RefusesSummary label bytes)

-- `SummariesHaveOneOutcome`: bytes describe exactly one summary, or are rejected with exactly one error, and never
-- both.
abbrev pub SummariesHaveOneOutcome : Type 0
SummariesHaveOneOutcome = (label bytes : List ℕ)
    → HasOneOutcome (DescribesSummary label bytes) (RefusesSummary label bytes)

-- `SummariesAreWritten`: if bytes of version 2 are parsed as a summary, the JSON of the bytes has exactly the keys and
-- values with which this summary is written.
abbrev pub SummariesAreWritten : Type 0
SummariesAreWritten = (label bytes : List ℕ) (d : Data) (m : Summary) → json_of bytes ≡ Some d → HasVersion d 2
    → summary_stated label bytes ≡ Ok m → d ≡ summary_json label m

-- ---- texts of entities

-- `TextsAreRead`: the parsing function `entity_of_text s uid text` (Texts.antt) gives the entity that has the uid `uid`
-- and the canonical text `text` under the schema `s`, or the error of `text`.
abbrev pub TextsAreRead : Type 0
TextsAreRead = (s : StatedSchema) (uid : EntityUid) (text : List ℕ)
    → Gives (entity_of_text s uid text) (DescribesText s uid text) (RefusesText s uid text)

-- ---- messages of a schema

-- `MessageIsRead s bytes` holds if, for `bytes` under the schema `s`, `IsMessageOf` and `DescribesMessage` hold of the
-- same updates, and `IsMessageFaultOf` and `RefusesMessage` of the same errors.
pub record MessageIsRead (s : StatedSchema) (bytes : List ℕ) : Type 0 where
  pub states : (us : List (Update Policy Entity)) → IsMessageOf s bytes us ↔ DescribesMessage s bytes us
  pub refuses : (f : MessageFault) → IsMessageFaultOf s bytes f ↔ RefusesMessage s bytes f

-- `MessagesAreRead`: `MessageIsRead` holds for each schema and all bytes.
abbrev pub MessagesAreRead : Type 0
MessagesAreRead = (s : StatedSchema) (bytes : List ℕ) → MessageIsRead s bytes

-- `MessagesHaveOneOutcome`: under each schema, bytes describe exactly one list of updates with their texts parsed, or
-- are rejected with exactly one error, and never both.
abbrev pub MessagesHaveOneOutcome : Type 0
MessagesHaveOneOutcome = (s : StatedSchema) (bytes : List ℕ)
    → HasOneOutcome (DescribesMessage s bytes) (RefusesMessage s bytes)
