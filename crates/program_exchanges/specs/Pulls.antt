-- Defines the outcome of a pull: the new state, into which the received updates are joined, or an error.
-- Source: docs/operating.md.
-- Rules of this product: the schema is checked first, then the state, both before the network is used, then the
-- received message; there is a new state only if none of the three is rejected.
use Rattle.std.specs.Prelude.{◌≡◌, ◌⊎◌, ℕ, List, Option, Some, None}
use Rattle.sync_messages.specs.schema.Schemas.{StatedSchema, IsSchemaOf}
use Rattle.stamped_store.specs.Store.{Store}
use Rattle.sync_messages.specs.sync_format.Messages.{state_text}
use Rattle.schema_decisions.specs.answer_lines.declared.refusal.Refusal.{Refusal}
use Rattle.schema_decisions.specs.Checks.{IsSchemaRefused}
use Rattle.program_exchanges.specs.Messages.{IsMessageRefused, IsReadBack, Joins}

-- `IsPulled s m message state taken` holds if `message`, of the schema `s`, has `taken` updates, and `state` is the
-- state message of the join of `m` and these updates. `state` is parsed again as exactly the updates of that join.
pub record IsPulled (s : StatedSchema) (m : Store) (message state : List ℕ) (taken : ℕ) : Type 0 where
  pub store : Store
  pub joins : Joins s m message store taken
  pub state_is : state ≡ state_text s.label store
  pub reads_back : IsReadBack s store state

-- `IsStateRefused s o refusal` holds if the state `o` is present, and `refusal` is its first error as a message of the
-- schema `s`.
abbrev pub IsStateRefused : StatedSchema → Option (List ℕ) → Refusal → Type 0
IsStateRefused s None refusal = ⊥
IsStateRefused s (Some bytes) refusal = IsMessageRefused s bytes refusal

-- `IsStateErrorUnder schema state refusal` holds if the text `schema` describes a schema, and `refusal` is the error of
-- `state` under this schema.
pub record IsStateErrorUnder (schema : List ℕ) (state : Option (List ℕ)) (refusal : Refusal) : Type 0 where
  pub stated : StatedSchema
  pub schema_is : IsSchemaOf schema stated
  pub refused : IsStateRefused stated state refusal

-- `IsFirstError schema state refusal` holds if `refusal` is the error of the first of `schema` and `state` that is
-- not accepted.
abbrev pub IsFirstError : List ℕ → Option (List ℕ) → Refusal → Type 0
IsFirstError schema state refusal = IsSchemaRefused schema refusal ⊎ IsStateErrorUnder schema state refusal
