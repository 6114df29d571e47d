-- Defines what JSON, texts and messages mean at the sites of a schema. The steps of a site have these relations as a
-- parameter, so that their rules are the same for each way to define what bytes mean.
-- Source: Cedar reference guide 4.0, "Entities and context: JSON format" and "Authorization request"; docs/formats.md,
-- "Messages between sites".
use Rattle.std.specs.Prelude.{◌≡◌, ℕ, List, Option, option_and_then, Result, MatchResult}
use Rattle.serde_json.specs.Data.{Data}
use Rattle.values.specs.declared.entity_uid.EntityUid.{EntityUid}
use Rattle.values.specs.declared.request.Request.{Request}
use Rattle.site_store.specs.policy_grammar.declared.policy.Policy.{Policy}
use Rattle.site_store.specs.schema.Schemas.{StatedSchema}
use Rattle.site_store.specs.entity_data.declared.entity.Entity.{Entity}
use Rattle.entities.specs.declared.fault.EntityFault.{EntityFault}
use Rattle.site_store.specs.stamped_store.Deltas.{Summary}
use Rattle.entity_uids.specs.Uids.{uid_in}
use Rattle.sync_messages.specs.sync_format.declared.fault.MessageFault.{MessageFault}
use Rattle.sync_messages.specs.sync_format.declared.update.Update.{Update}
use Rattle.sync_messages.specs.sync_format.Summaries.{summary_stated}
use Rattle.sync_messages.specs.Messages.{IsMessageOf, IsMessageFaultOf}
use Rattle.site.specs.Admitted.{IsEntityUnder, IsRequestOf, IsNoRequest, entity_stated}

-- `Readings` are a schema and what JSON, texts and messages mean under it: for each kind, the relation to what they
-- describe or to their first error. JSON is `None` for bytes that are not JSON.
pub record Readings : Type 1 where
  pub schema : StatedSchema
  -- the JSON of an entity
  pub entity : Option Data → Result Entity EntityFault → Type 0
  -- the JSON of the uid of an entity; `None`: it names no entity
  pub uid : Option Data → Option EntityUid → Type 0
  -- the JSON of a request
  pub request : Option Data → Result Request EntityFault → Type 0
  -- the text of an entity in a store, under the entity's uid
  pub text : EntityUid → List ℕ → Entity → Type 0
  -- a state or a delta of another site
  pub message : List ℕ → Result (List (Update Policy Entity)) MessageFault → Type 0
  -- a summary of another site
  pub summary : List ℕ → Result Summary MessageFault → Type 0

-- `parsed schema` are the readings under `schema` by the definitions that the contracts of parsers cite.
abbrev pub parsed : StatedSchema → Readings
parsed schema = record {
  schema = schema;
  entity = λ json r. entity_stated schema json ≡ r;
  uid = λ json named. option_and_then uid_in json ≡ named;
  request = λ json r. MatchResult r (IsRequestOf schema json) (IsNoRequest schema json);
  text = IsEntityUnder schema;
  message = λ bytes r. MatchResult r (IsMessageOf schema bytes) (IsMessageFaultOf schema bytes);
  summary = λ bytes r. summary_stated schema.label bytes ≡ r;
}
