-- Defines the promises of systems of sites over relations between bytes and what they describe.
-- Rules of this product: schemas, entities, requests, messages and summaries are those that bytes describe. The
-- definitions cite no function that reads these from JSON, only `json_of`, which parses JSON.
use Rattle.std.specs.Prelude.{◌≡◌, ℕ, List, Some, None, Ok}
use Rattle.json_words.specs.Json.{json_of}
use Rattle.values.specs.declared.entity_uid.EntityUid.{EntityUid}
use Rattle.site.specs.schema.Schemas.{StatedSchema, IsSchemaOf}
use Rattle.site.specs.schema.SchemaEntries.{SchemaEntries}
use Rattle.site.specs.schema.Views.{schema_view}
use Rattle.site.specs.entity_data.declared.entity.Entity.{Entity}
use Rattle.site.specs.entities.Canonical.{canonical_text}
use Rattle.site.specs.stamped_store.Store.{Update, issued, policy_name, entity_name}
use Rattle.site.specs.declared.reply.Reply.{Reply}
use Rattle.site.specs.declared.reply.Reply.TheVariants as reply
use Rattle.site.specs.declared.event.Operation.{Operation}
use Rattle.site.specs.declared.event.Operation.TheVariants as operation
use Rattle.site.specs.Promises.{SystemsKeepPromises}
use Rattle.site.specs.Admitted.{JsonDescribes}
use Rattle.site.specs.entity_uids.Uids.{IsUid}
use Rattle.site.specs.entities.StatedEntities.{DescribesEntity}
use Rattle.site.specs.sync_messages.StatedUpdates.{DescribesUpdates}
use Rattle.site_theorems.specs.Steps.{IsStep}

-- `Issues schema d r u` holds if the local command `d` issued the update `u`: the reply `r` to `d` has the stamp of
-- `u`.
abbrev pub Issues : StatedSchema → Operation → Reply → Update → Type 0
Issues schema (operation.PutPolicy id text) (reply.Put (Ok put)) u =
    u ≡ (policy_name id, issued put.stamp (Some text))
Issues schema (operation.DeletePolicy id) (reply.Stamped (Ok stamp)) u = u ≡ (policy_name id, issued stamp None)
Issues schema (operation.PutEntity bytes) (reply.Stamped (Ok stamp)) u =
    (e : Entity) × JsonDescribes (DescribesEntity schema) (json_of bytes) e
    × (u ≡ (entity_name e.uid, issued stamp (Some (canonical_text e))))
Issues schema (operation.DeleteEntity bytes) (reply.Stamped (Ok stamp)) u =
    (uid : EntityUid) × JsonDescribes IsUid (json_of bytes) uid × (u ≡ (entity_name uid, issued stamp None))
Issues schema _ _ u = ⊥

-- `WorldsKeepPromises schema` holds if all systems of sites of `schema` keep the promises, with the relations `IsStep`,
-- `DescribesUpdates` and `Issues` as parameters.
abbrev pub WorldsKeepPromises : StatedSchema → Type 0
WorldsKeepPromises schema = SystemsKeepPromises (IsStep schema) (DescribesUpdates schema.label) (Issues schema)

-- `AllWorldsKeepPromises`: under each schema that some bytes describe, all systems of sites keep the promises.
abbrev pub AllWorldsKeepPromises : Type 0
AllWorldsKeepPromises = (bytes : List ℕ) (schema : SchemaEntries) → IsSchemaOf bytes (schema_view schema)
    → WorldsKeepPromises (schema_view schema)
