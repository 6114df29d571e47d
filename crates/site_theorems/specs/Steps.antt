-- Defines the steps of a site over relations between bytes and what they describe.
-- Source: Cedar reference guide 4.0, "Entities and context: JSON format" and "Authorization request"; docs/formats.md.
-- Rules of this product: those of the steps (site); bytes of an entity or a request that are not JSON have the
-- error `BadShape`.
use Rattle.std.specs.Prelude.{ℕ, List, MatchResult}
use Rattle.site.specs.schema.Schemas.{StatedSchema}
use Rattle.site.specs.stamped_store.Store.{Store}
use Rattle.site.specs.Admitted.{JsonDescribes, JsonRefused}
use Rattle.site.specs.Readings.{Readings}
use Rattle.site.specs.Runs.{StepBy}
use Rattle.site.specs.Inputs.{Input}
use Rattle.site.specs.declared.reply.Reply.{Reply}
use Rattle.site.specs.entity_uids.Uids.{IsUid, IsRead}
use Rattle.site.specs.entities.StatedEntities.{DescribesEntity, RefusesEntity}
use Rattle.site.specs.entities.StatedRequests.{DescribesRequest, RefusesRequest}
use Rattle.site.specs.sync_messages.StatedTexts.{DescribesText}
use Rattle.site.specs.sync_messages.StatedSummaries.{DescribesSummary, RefusesSummary}
use Rattle.site.specs.sync_messages.StatedMessages.{DescribesMessage, RefusesMessage}

-- `described schema` are the readings under `schema` by relations between bytes and what they describe.
abbrev pub described : StatedSchema → Readings
described schema = record {
  schema = schema;
  entity = λ json r.
      MatchResult r (JsonDescribes (DescribesEntity schema) json) (JsonRefused (RefusesEntity schema) json);
  uid = λ json named. IsRead (JsonDescribes IsUid json) named;
  request = λ json r.
      MatchResult r (JsonDescribes (DescribesRequest schema) json) (JsonRefused (RefusesRequest schema) json);
  text = DescribesText schema;
  message = λ bytes r. MatchResult r (DescribesMessage schema bytes) (RefusesMessage schema bytes);
  summary = λ bytes r. MatchResult r (DescribesSummary schema.label bytes) (RefusesSummary schema.label bytes);
}

-- `IsStep schema n s i r t` holds if, at the site of `schema` named `n` with the store `s`, the input `i` may yield the
-- reply `r` and the store `t`.
abbrev pub IsStep : StatedSchema → List ℕ → Store → Input → Reply → Store → Type 0
IsStep schema n s i r t = StepBy (described schema) n s i r t
