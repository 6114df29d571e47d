-- Defines the policy or entity that a text of a store is parsed as under a schema, and the error of a rejected text.
-- Source: Cedar reference guide 4.0, "Policy validation" and "Entities and context: JSON format".
-- Rules of this product: a policy's text must be that of a policy that passes validation. An entity's text must be the
-- one canonical text of an entity that the schema allows, under that entity's uid. Whether a text is accepted does not
-- depend on a store, so the order in which texts arrive does not matter.
use Rattle.std.specs.Prelude.{◌≡◌, ℕ, List, Result, Ok, Err}
use Rattle.std.specs.Str.{bytes_eq}
use Rattle.json_words.specs.ReadsAs.{◌>>=◌, or_fault, demand}
use Rattle.json_words.specs.Json.{json_of}
use Rattle.values.specs.declared.entity_uid.EntityUid.{EntityUid}
use Rattle.validator.specs.ancestor_search.Decided.{is_same}
use Rattle.sync_format.specs.policy_grammar.declared.policy.Policy.{Policy}
use Rattle.sync_format.specs.policy_grammar.declared.fault.ReadFault.{ReadFault}
use Rattle.sync_format.specs.policy_grammar.Faults as grammar
use Rattle.sync_format.specs.policy_grammar.PolicyText.{IsPolicyText, IsPolicyRefused}
use Rattle.validator.specs.schema.Schemas.{StatedSchema}
use Rattle.validator.specs.entity_data.declared.entity.Entity.{Entity}
use Rattle.validator.specs.entities.declared.fault.EntityFault.{EntityFault}
use Rattle.validator.specs.entities.Faults as entities
use Rattle.validator.specs.entities.Entities.{entity_stated_in}
use Rattle.validator.specs.entities.Canonical.{canonical_text}
use Rattle.validator.specs.typing.declared.fault.TypeFault.{TypeFault}
use Rattle.validator.specs.typing.Codes as validation
use Rattle.validator.specs.Passing.{Passes, IsCheckRefused}
use Rattle.sync_format.specs.declared.bodies.BodyFault.{BodyFault}
use Rattle.sync_format.specs.declared.bodies.BodyFault.TheVariants.{Refused, OtherName}

-- ---- policies: neither the id under which a text is stored nor its `@id` matters

-- `ReadsPolicy s text p` holds if `text` is the text of the policy `p`, which passes validation under the schema `s`.
pub record ReadsPolicy (s : StatedSchema) (text : List ℕ) (p : Policy) : Type 0 where
  pub is_text : IsPolicyText text p
  pub passes : Passes s p

-- `RefusesPolicy s text f` holds if `text` is not the text of a policy that passes validation under the schema `s`, and
-- `f` has the code of the error. The error is that of the text as a policy, else that of validation.
pub data RefusesPolicy (s : StatedSchema) (text : List ℕ) : BodyFault → Type 0 where
  no_policy : (f : ReadFault) → IsPolicyRefused text f → RefusesPolicy s text (Refused (grammar.code_of f))
  not_passing : (p : Policy) (f : TypeFault) → IsPolicyText text p → IsCheckRefused s p f
      → RefusesPolicy s text (Refused (validation.code_of f))

-- ---- entities

-- `refused_by r` is the entity in `r`, or `Refused` with the code of the error in `r`.
abbrev pub refused_by : Result Entity EntityFault → Result Entity BodyFault
refused_by (Ok e) = Ok e
refused_by (Err f) = Err (Refused (entities.code_of f))

-- `entity_of_text s uid text` is the entity under the schema `s` with the canonical text `text` and the uid `uid`, or
-- the first error. The errors are, in order: 30 if `text` is not JSON; the error of JSON that does not describe an
-- entity; 57 if the entity has another canonical text; `OtherName` if it has another uid.
unfoldable pub entity_of_text : StatedSchema → EntityUid → List ℕ → Result Entity BodyFault
entity_of_text s uid text = do
  json ← or_fault (Refused 30) (json_of text)
  e ← refused_by (entity_stated_in s json)
  canonical ← demand (Refused 57) (bytes_eq (canonical_text e) text)
  named ← demand OtherName (is_same e.uid uid)
  Ok e

-- `ReadsEntity s uid text e` holds if `text` is the canonical text of the entity `e` under the schema `s`, and the uid
-- of `e` is `uid`.
abbrev pub ReadsEntity : StatedSchema → EntityUid → List ℕ → Entity → Type 0
ReadsEntity s uid text e = entity_of_text s uid text ≡ Ok e

-- `RefusesEntity s uid text f` holds if `f` is the first error of `text` as the canonical text of the entity `uid`
-- under the schema `s`.
abbrev pub RefusesEntity : StatedSchema → EntityUid → List ℕ → BodyFault → Type 0
RefusesEntity s uid text f = entity_of_text s uid text ≡ Err f
