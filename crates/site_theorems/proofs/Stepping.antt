-- Steps by two readings of what bytes mean that agree, and the steps of a site by relations between bytes and what they
-- describe.
use Rattle.std.proofs.Common.{ℕ, List, Option, Some, None, Result, Ok, Err}
use Rattle.std.specs.Prelude.{◌↔◌}
use Rattle.serde_json.specs.Data.{Data}
use Rattle.json_words.specs.Json.{json_of}
use Rattle.values.specs.declared.entity_uid.EntityUid.{EntityUid}
use Rattle.values.specs.declared.request.Request.{Request}
use Rattle.site.specs.authoriser.declared.answer.Answer.{Answer}
use Rattle.site.specs.policy_grammar.declared.policy.Policy.{Policy}
use Rattle.site.specs.schema.Schemas.{StatedSchema}
use Rattle.site.specs.entity_data.declared.entity.Entity.{Entity}
use Rattle.site.specs.entities.declared.fault.EntityFault.{EntityFault}
use Rattle.site.specs.sync_format.declared.fault.MessageFault.{MessageFault}
use Rattle.site.specs.sync_format.declared.update.Update.{Update}
use Rattle.site.specs.stamped_store.declared.entry.Stamp.{Stamp}
use Rattle.site.specs.stamped_store.Deltas.{Summary}
use Rattle.site.specs.stamped_store.Store.{Store}
use Rattle.site.specs.declared.fault.SiteFault.{SiteFault}
use Rattle.site.specs.declared.fault.SiteFault.TheVariants as fault
use Rattle.site.specs.declared.outcome.Taken.{Taken}
use Rattle.site.specs.Admitted.{IsPolicyUnder}
use Rattle.site.specs.Readings.{Readings, parsed}
use Rattle.site.specs.Steps.{PutsEntity, DeletesEntity, Answers}
use Rattle.site.specs.Runs.{IsNoMessageOf, TakesMessage, WritesDelta, StepBy}
use Rattle.site.specs.Inputs.{Input}
use Rattle.site.specs.Inputs as input
use Rattle.site.specs.declared.reply.Reply.{Reply}
use Rattle.site.specs.declared.reply.Reply.TheVariants as reply
use Rattle.site.specs.entity_uids.Laws.{OneUid, UidsAreFound}
use Rattle.site.specs.entities.ParsingLaws.{EntitiesAreRead, RequestsAreRead}
use Rattle.site.specs.sync_messages.ParsingLaws.{TextsAreRead, SummariesAreRead, MessagesAreRead}
use Rattle.site_theorems.specs.Steps.{described}
use Rattle.site_theorems.specs.Laws.{StepsAreAsStated}
use Rattle.site_theorems.proofs.Readings.{answer_as, cycle_as, no_cycle_as, entity_value, entity_fault}
use Rattle.site_theorems.proofs.Readings.{request_value, request_fault, uid_named}

-- what is so by the readings `R` is so by the readings `Q`
record Implies (R Q : Readings) : Type 0 where
  entity : (json : Option Data) (r : Result Entity EntityFault) → R.entity json r → Q.entity json r
  uid : (json : Option Data) (named : Option EntityUid) → R.uid json named → Q.uid json named
  request : (json : Option Data) (r : Result Request EntityFault) → R.request json r → Q.request json r
  text : (uid : EntityUid) (text : List ℕ) (e : Entity) → R.text uid text e → Q.text uid text e
  message : (bytes : List ℕ) (r : Result (List (Update Policy Entity)) MessageFault) → R.message bytes r → Q.message bytes r
  summary : (bytes : List ℕ) (r : Result Summary MessageFault) → R.summary bytes r → Q.summary bytes r

-- the readings `R`, under this schema
abbrev under : StatedSchema → Readings → Readings
under schema R = record {
  schema = schema;
  entity = R.entity;
  uid = R.uid;
  request = R.request;
  text = R.text;
  message = R.message;
  summary = R.summary;
}

module _ (R Q : Readings) (law : Implies R Q) (schema : StatedSchema) (n : List ℕ) (s : Store) where
  -- ---- commands
  puts : (json : Option Data) (r : Result Stamp SiteFault) (t : Store) → PutsEntity (under schema R) n s json r t
      → PutsEntity (under schema Q) n s json r t
  puts json (Ok stamp) t h =
      (h.0, law.entity json (Ok h.0) h.1, no_cycle_as R.text Q.text law.text schema s h.0 h.2, h.3)
  puts json (Err fault.NoMemory) t h = h
  puts json (Err (fault.Entity f)) t h = (law.entity json (Err f) h.0, h.1)
  puts json (Err fault.WouldCycle) t h =
      ((h.0.0, law.entity json (Ok h.0.0) h.0.1, cycle_as R.text Q.text law.text schema s h.0.0 h.0.2), h.1)
  puts json (Err fault.ClockFull) t h =
      ((h.0.0, law.entity json (Ok h.0.0) h.0.1, no_cycle_as R.text Q.text law.text schema s h.0.0 h.0.2), h.1)
  puts json (Err f) t h = h

  deletes : (json : Option Data) (r : Result Stamp SiteFault) (t : Store) → DeletesEntity (under schema R) n s json r t
      → DeletesEntity (under schema Q) n s json r t
  deletes json (Err fault.NoMemory) t h = h
  deletes json (Err (fault.Entity f)) t h = (h.0, law.uid json None h.1, h.2)
  deletes json r t h = (h.0, law.uid json (Some h.0) h.1, h.2)

  -- ---- messages
  no_message : (bytes : List ℕ) (f : SiteFault) → IsNoMessageOf (under schema R) bytes f
      → IsNoMessageOf (under schema Q) bytes f
  no_message bytes (fault.Message f) h = law.message bytes (Err f) h
  no_message bytes f h = h

  takes : (bytes : List ℕ) (r : Result Taken SiteFault) (t : Store) → TakesMessage (under schema R) s bytes r t
      → TakesMessage (under schema Q) s bytes r t
  takes bytes (Ok taken) t h = (h.0, law.message bytes (Ok h.0) h.1, h.2)
  takes bytes (Err f) t h = (no_message bytes f h.0, h.1)

  -- ---- queries
  answers : (json : Option Data) (r : Result Answer SiteFault) → Answers (under schema R) s json r
      → Answers (under schema Q) s json r
  answers json (Ok a) h = (
    h.0,
    law.request json (Ok h.0) h.1,
    answer_as R.text Q.text law.text (IsPolicyUnder schema) schema s h.0 a h.2,
  )
  answers json (Err (fault.Request f)) h = law.request json (Err f) h
  answers json (Err f) h = h

  delta : (bytes : List ℕ) (r : Result (List ℕ) SiteFault) → WritesDelta (under schema R) s bytes r
      → WritesDelta (under schema Q) s bytes r
  delta bytes (Ok written) h = (h.0, law.summary bytes (Ok h.0) h.1, h.2)
  delta bytes (Err (fault.Message f)) h = law.summary bytes (Err f) h
  delta bytes (Err f) h = h

  -- ---- whichever it is
  step : (i : Input) (r : Reply) (t : Store) → StepBy (under schema R) n s i r t → StepBy (under schema Q) n s i r t
  step (input.PutEntity bytes) (reply.Stamped r) t h = puts (json_of bytes) r t h
  step (input.DeleteEntity bytes) (reply.Stamped r) t h = deletes (json_of bytes) r t h
  step (input.Take bytes) (reply.Taken r) t h = takes bytes r t h
  step (input.Authorize bytes) (reply.Answered r) t h = (answers (json_of bytes) r h.0, h.1)
  step (input.Delta bytes) (reply.Written r) t h = (delta bytes r h.0, h.1)
  step i r t h = h

-- by the theorems of lower crates
pub record ReadLaws : Type 0 where
  pub entities : EntitiesAreRead
  pub requests : RequestsAreRead
  pub texts : TextsAreRead
  pub summaries : SummariesAreRead
  pub messages : MessagesAreRead
  pub one_uid : OneUid
  pub uids : UidsAreFound

-- ---- the two readings of a schema agree

module _ (law : ReadLaws) (schema : StatedSchema) where
  entity_agrees : (json : Option Data) (r : Result Entity EntityFault)
      → (parsed schema).entity json r ↔ (described schema).entity json r
  entity_agrees json (Ok e) = entity_value law.entities schema json e
  entity_agrees json (Err f) = entity_fault law.entities schema json f

  request_agrees : (json : Option Data) (r : Result Request EntityFault)
      → (parsed schema).request json r ↔ (described schema).request json r
  request_agrees json (Ok q) = request_value law.requests schema json q
  request_agrees json (Err f) = request_fault law.requests schema json f

  message_agrees : (bytes : List ℕ) (r : Result (List (Update Policy Entity)) MessageFault)
      → (parsed schema).message bytes r ↔ (described schema).message bytes r
  message_agrees bytes (Ok us) = (law.messages schema bytes).states us
  message_agrees bytes (Err f) = (law.messages schema bytes).refuses f

  summary_agrees : (bytes : List ℕ) (r : Result Summary MessageFault)
      → (parsed schema).summary bytes r ↔ (described schema).summary bytes r
  summary_agrees bytes (Ok m) = (law.summaries schema.label bytes).value m
  summary_agrees bytes (Err f) = (law.summaries schema.label bytes).fault f

  to : Implies (parsed schema) (described schema)
  to = record {
    entity = λ json r. (entity_agrees json r).0;
    uid = λ json named. (uid_named law.one_uid law.uids json named).0;
    request = λ json r. (request_agrees json r).0;
    text = λ uid text e. ((law.texts schema uid text).value e).0;
    message = λ bytes r. (message_agrees bytes r).0;
    summary = λ bytes r. (summary_agrees bytes r).0;
  }

  from : Implies (described schema) (parsed schema)
  from = record {
    entity = λ json r. (entity_agrees json r).1;
    uid = λ json named. (uid_named law.one_uid law.uids json named).1;
    request = λ json r. (request_agrees json r).1;
    text = λ uid text e. ((law.texts schema uid text).value e).1;
    message = λ bytes r. (message_agrees bytes r).1;
    summary = λ bytes r. (summary_agrees bytes r).1;
  }

pub steps_agree : ReadLaws → StepsAreAsStated
steps_agree law schema n s i r t = (
  step (parsed schema) (described schema) (to law schema) schema n s i r t,
  step (described schema) (parsed schema) (from law schema) schema n s i r t,
)
