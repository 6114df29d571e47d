-- Defines which inputs a site of a schema admits: policies, entities, requests and updates. Every site of the schema
-- admits the same inputs, whatever its store. Checks against the store are in Steps.antt.
-- Source: Cedar reference guide 4.0, "Policy validation", "Entities and context: JSON format" and "Authorization
-- request".
-- Rules of this product: a policy's id is UTF-8 of 1 to 256 bytes, and is checked before the text; the length of the
-- text is checked before its bytes, which are UTF-8; an entity is given as JSON; the order of the errors.
use Rattle.std.specs.Prelude.{◌≡◌, ◌<◌, ◌≤◌, ℕ, List, length, Option, Some, None, Result, Ok, Err}
use Rattle.std.specs.Str.{IsUtf8}
use Rattle.serde_json.specs.Data.{Data}
use Rattle.json_words.specs.ReadsAs.{◌>>=◌, or_fault}
use Rattle.plain.specs.Words.{IsPath}
use Rattle.values.specs.declared.entity_uid.EntityUid.{EntityUid}
use Rattle.values.specs.declared.request.Request.{Request}
use Rattle.site_store.specs.policy_grammar.declared.policy.Policy.{Policy}
use Rattle.site_store.specs.policy_grammar.declared.fault.ReadFault.{ReadFault}
use Rattle.site_store.specs.policy_grammar.declared.fault.ReadFault.TheVariants.{BadId, BadToken, TooLong}
use Rattle.site_store.specs.policy_grammar.Limits.{IsId, most_policy_bytes}
use Rattle.site_store.specs.policy_grammar.PolicyText.{IsPolicyText, IsPolicyRefused}
use Rattle.site_store.specs.schema.Schemas.{StatedSchema}
use Rattle.site_store.specs.entity_data.declared.entity.Entity.{Entity}
use Rattle.entities.specs.declared.fault.EntityFault.{EntityFault}
use Rattle.entities.specs.declared.fault.EntityFault.TheVariants.{BadShape}
use Rattle.entities.specs.Canonical.{canonical_text}
use Rattle.entities.specs.Entities.{entity_stated_in}
use Rattle.site_store.specs.stamped_store.declared.entry.ReadText.{ReadText}
use Rattle.entities.specs.Requests.{ParsesRequest, RequestRefused}
use Rattle.sync_messages.specs.typing.declared.fault.TypeFault.{TypeFault}
use Rattle.sync_messages.specs.validator.Passing.{IsCheckRefused}
use Rattle.sync_messages.specs.sync_format.Summaries.{IsStamped}
use Rattle.sync_messages.specs.sync_format.declared.update.Update.{Update}
use Rattle.sync_messages.specs.sync_format.Updates.{plain_update, stamped, IsUpdateRead}
use Rattle.sync_messages.specs.Texts.{ReadsPolicy, ReadsEntity}
use Rattle.site.specs.declared.fault.SiteFault.{SiteFault}
use Rattle.site.specs.declared.fault.SiteFault.TheVariants as fault

-- ---- what a text in the store is parsed as

-- `IsPolicyUnder schema id text p` holds if `text` is the text of the policy `p`, which passes validation under
-- `schema`, whatever `id` is.
abbrev pub IsPolicyUnder : StatedSchema → List ℕ → List ℕ → Policy → Type 0
IsPolicyUnder schema id text p = ReadsPolicy schema text p

-- `IsEntityUnder schema uid text e` holds if `text` is the canonical text of the entity `e`, which `schema` allows and
-- whose uid is `uid`.
abbrev pub IsEntityUnder : StatedSchema → EntityUid → List ℕ → Entity → Type 0
IsEntityUnder schema uid text e = ReadsEntity schema uid text e

-- ---- policies

-- `IsPolicyId id` holds if `id` may be the id of a policy: UTF-8 of 1 to 256 bytes.
pub record IsPolicyId (id : List ℕ) : Type 0 where
  pub utf8 : IsUtf8 id
  pub sized : IsId id

-- `IsAdmitted schema id text p` holds if `text` may be put under `id`: `id` is UTF-8 of 1 to 256 bytes, and `text` is
-- UTF-8 and the text of the policy `p`, which passes validation under `schema`.
pub record IsAdmitted (schema : StatedSchema) (id text : List ℕ) (p : Policy) : Type 0 where
  pub named : IsPolicyId id
  pub utf8 : IsUtf8 text
  pub reads : ReadsPolicy schema text p

-- `IsNotAdmitted schema id text f` holds if `f` is the error of putting `text` under `id` at a site of `schema`: of the
-- id, else of the length of the text, else of its bytes, else of the text as a policy, else of the policy.
pub data IsNotAdmitted (schema : StatedSchema) (id text : List ℕ) : SiteFault → Type 0 where
  bad_id : (IsPolicyId id → ⊥) → IsNotAdmitted schema id text (fault.Policy BadId)
  too_long : IsPolicyId id → most_policy_bytes < length text → IsNotAdmitted schema id text (fault.Policy TooLong)
  no_text : IsPolicyId id → length text ≤ most_policy_bytes → (IsUtf8 text → ⊥)
      → IsNotAdmitted schema id text (fault.Policy (BadToken 0))
  no_policy : (f : ReadFault) → IsPolicyId id → IsUtf8 text → IsPolicyRefused text f
      → IsNotAdmitted schema id text (fault.Policy f)
  not_passing : (p : Policy) (f : TypeFault) → IsPolicyId id → IsUtf8 text → IsPolicyText text p
      → IsCheckRefused schema p f → IsNotAdmitted schema id text (fault.Check f)

-- ---- entities

-- `entity_stated schema json` is the entity that `json` describes under `schema`, or the first error. `None` stands for
-- bytes that are not JSON, whose error is `BadShape` (30).
abbrev pub entity_stated : StatedSchema → Option Data → Result Entity EntityFault
entity_stated schema json = do
  d ← or_fault BadShape json
  entity_stated_in schema d

-- `IsStatedBy schema json b` holds if `json` describes the entity in `b` under `schema`, and the text in `b` is this
-- entity's canonical text, which is parsed under `schema` as the entity. The entity's type name is a path.
pub record IsStatedBy (schema : StatedSchema) (json : Option Data) (b : ReadText Entity) : Type 0 where
  pub states : entity_stated schema json ≡ Ok b.read
  pub path : IsPath b.read.uid.type_name
  pub canonical : b.text ≡ canonical_text b.read
  pub reads : IsEntityUnder schema b.read.uid b.text b.read

-- `IsNoEntityFault schema json f` holds if `json` does not describe an entity under `schema`, and `f` is the site's
-- error for `json`.
abbrev pub IsNoEntityFault : StatedSchema → Option Data → SiteFault → Type 0
IsNoEntityFault schema json (fault.Entity f) = entity_stated schema json ≡ Err f
IsNoEntityFault schema json _ = ⊥

-- ---- requests

-- `JsonDescribes Describes json x` holds if `json` is JSON that describes `x` by the relation `Describes`; bytes that
-- are not JSON (`None`) describe nothing.
abbrev pub JsonDescribes : {A : Type 0} → (Data → A → Type 0) → Option Data → A → Type 0
JsonDescribes Describes None x = ⊥
JsonDescribes Describes (Some d) x = Describes d x

-- `JsonRefused Refuses json f` holds if `json` is JSON with the first error `f` by the relation `Refuses`. `None`
-- stands for bytes that are not JSON, whose error is `BadShape` (30).
abbrev pub JsonRefused : (Data → EntityFault → Type 0) → Option Data → EntityFault → Type 0
JsonRefused Refuses None f = f ≡ BadShape
JsonRefused Refuses (Some d) f = Refuses d f

-- `IsRequestOf schema json q` holds if `json` describes the request `q` under `schema`.
abbrev pub IsRequestOf : StatedSchema → Option Data → Request → Type 0
IsRequestOf schema json q = JsonDescribes (ParsesRequest schema) json q

-- `IsNoRequest schema json f` holds if `f` is the first error of `json` as a request under `schema`.
abbrev pub IsNoRequest : StatedSchema → Option Data → EntityFault → Type 0
IsNoRequest schema json f = JsonRefused (RequestRefused schema) json f

-- ---- updates that another site sent

-- `IsValidUnder schema u` holds if the name and stamp of the update `u` are in their ranges, and its text, if it has
-- one, is parsed under `schema` as the parsed value in `u`. (`IsValid` of sync_format states only that the text can
-- be parsed.)
pub record IsValidUnder (schema : StatedSchema) (u : Update Policy Entity) : Type 0 where
  pub in_range : IsStamped (stamped (plain_update u))
  pub is_read : IsUpdateRead (IsPolicyUnder schema) (IsEntityUnder schema) u
