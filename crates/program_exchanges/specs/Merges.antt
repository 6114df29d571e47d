-- Defines the merge of two messages under a schema: the state of the join of their updates, or the first error.
-- Source: docs/formats.md, "Messages between sites".
-- Rules of this product: the schema is checked first, then the first message, then the second.
use Rattle.std.specs.Prelude.{◌≡◌, ◌⊎◌, ℕ, List, ◌++◌}
use Rattle.schema_decisions.specs.policy_grammar.declared.policy.Policy.{Policy}
use Rattle.sync_messages.specs.schema.Schemas.{StatedSchema, IsSchemaOf}
use Rattle.schema_decisions.specs.entity_data.declared.entity.Entity.{Entity}
use Rattle.stamped_store.specs.Store.{Store, store_of}
use Rattle.sync_messages.specs.sync_format.declared.update.Update.{Update as SentUpdate}
use Rattle.sync_messages.specs.sync_format.Messages.{state_text}
use Rattle.sync_messages.specs.sync_format.Updates.{plain_updates}
use Rattle.schema_decisions.specs.answer_lines.declared.refusal.Refusal.{Refusal}
use Rattle.schema_decisions.specs.Checks.{IsSchemaRefused}
use Rattle.sync_messages.specs.Messages.{IsMessageOf}
use Rattle.program_exchanges.specs.Messages.{IsMessageRefused, IsReadBack}

-- ---- under a schema

-- `IsStoreOfBoth s f g m` holds if `f` and `g` are messages of the schema `s`, and `m` is the store of the updates of
-- both.
pub record IsStoreOfBoth (s : StatedSchema) (f g : List ℕ) (m : Store) : Type 0 where
  pub first : List (SentUpdate Policy Entity)
  pub second : List (SentUpdate Policy Entity)
  pub first_read : IsMessageOf s f first
  pub second_read : IsMessageOf s g second
  pub store_is : m ≡ store_of (plain_updates first ++ plain_updates second)

-- `IsSecondRefused s f g refusal` holds if `f` is a message of the schema `s`, and `g` is rejected with the error
-- `refusal`.
pub record IsSecondRefused (s : StatedSchema) (f g : List ℕ) (refusal : Refusal) : Type 0 where
  pub first : List (SentUpdate Policy Entity)
  pub first_read : IsMessageOf s f first
  pub refused : IsMessageRefused s g refusal

-- `AreRefusedUnder s f g refusal` holds if `refusal` is the error of the first of `f` and `g` that is not a message of
-- `s`.
abbrev pub AreRefusedUnder : StatedSchema → List ℕ → List ℕ → Refusal → Type 0
AreRefusedUnder s f g refusal = IsMessageRefused s f refusal ⊎ IsSecondRefused s f g refusal

-- ---- the three texts

-- `IsMerged schema f g text` holds if the text `schema` describes a schema, `f` and `g` are messages of this schema,
-- and `text` is the state of the store of the updates of both.
pub record IsMerged (schema f g text : List ℕ) : Type 0 where
  pub stated : StatedSchema
  pub schema_is : IsSchemaOf schema stated
  pub store : Store
  pub both : IsStoreOfBoth stated f g store
  pub text_is : text ≡ state_text stated.label store

-- `IsMergedBack m` holds if the state of the merge `m` is parsed as a message with the updates of the store of `m`.
abbrev pub IsMergedBack : {schema f g text : List ℕ} → IsMerged schema f g text → Type 0
IsMergedBack {schema} {f} {g} {text} m = IsReadBack m.stated m.store text

-- `IsMessageErrorUnder schema f g refusal` holds if the text `schema` describes a schema, and `refusal` is the error of
-- the first of `f` and `g` that is not a message of this schema.
pub record IsMessageErrorUnder (schema f g : List ℕ) (refusal : Refusal) : Type 0 where
  pub stated : StatedSchema
  pub schema_is : IsSchemaOf schema stated
  pub refused : AreRefusedUnder stated f g refusal

-- `AreRefused schema f g refusal` holds if `refusal` is the error of the first of `schema`, `f` and `g` that is not
-- accepted.
abbrev pub AreRefused : List ℕ → List ℕ → List ℕ → Refusal → Type 0
AreRefused schema f g refusal = IsSchemaRefused schema refusal ⊎ IsMessageErrorUnder schema f g refusal
