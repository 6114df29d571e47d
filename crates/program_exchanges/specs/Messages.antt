-- Defines messages of a schema, and the stores into which they are joined.
-- Source: docs/formats.md, "Messages between sites".
-- Rules of this product: a message (a state or a delta) is rejected whole, with its first error, or all its updates are
-- applied in order, including those that lose; an error has a code, a place and the code of an inner error.
use Rattle.std.specs.Prelude.{◌≡◌, ℕ, List, ◌++◌, length, option_map}
use Rattle.schema_decisions.specs.policy_grammar.declared.policy.Policy.{Policy}
use Rattle.sync_messages.specs.schema.Schemas.{StatedSchema}
use Rattle.schema_decisions.specs.entity_data.declared.entity.Entity.{Entity}
use Rattle.stamped_store.specs.Store.{Store, updates, store_of}
use Rattle.sync_messages.specs.sync_format.declared.fault.MessageFault.{MessageFault}
use Rattle.sync_messages.specs.sync_format.Faults.{code_of, place_of, within_of}
use Rattle.sync_messages.specs.sync_format.declared.update.Update.{Update as SentUpdate}
use Rattle.sync_messages.specs.sync_format.Updates.{AreInRange, AreValid, plain_updates}
use Rattle.sync_messages.specs.Messages.{IsMessageOf, IsMessageFaultOf}
use Rattle.sync_messages.specs.Texts.{ReadsPolicy, ReadsEntity}
use Rattle.schema_decisions.specs.answer_lines.declared.place.Place.TheVariants.{Index}
use Rattle.schema_decisions.specs.answer_lines.declared.refusal.Refusal.{Refusal}

-- ---- messages

-- `message_refusal f` is the report of the error `f` of a message: its code, its place and the code of the inner error.
abbrev pub message_refusal : MessageFault → Refusal
message_refusal f = record { code = code_of f; place = option_map Index (place_of f); within = within_of f }

-- `IsMessageRefused s bytes refusal` holds if `refusal` is the first error of `bytes` as a message of the schema `s`.
pub record IsMessageRefused (s : StatedSchema) (bytes : List ℕ) (refusal : Refusal) : Type 0 where
  pub fault : MessageFault
  pub is_fault : IsMessageFaultOf s bytes fault
  pub is : refusal ≡ message_refusal fault

-- ---- stores

-- `Joins s m bytes t count` holds if `bytes` are a message of the schema `s` with `count` updates, and `t` is the store
-- of these updates and those of the store `m`.
pub record Joins (s : StatedSchema) (m : Store) (bytes : List ℕ) (t : Store) (count : ℕ) : Type 0 where
  pub received_updates : List (SentUpdate Policy Entity)
  pub message : IsMessageOf s bytes received_updates
  pub store_is : t ≡ store_of (updates m ++ plain_updates received_updates)
  pub count_is : count ≡ length received_updates

-- `IsSendable s m` holds if each update of the store `m` has its name, count and site in their ranges and is valid
-- under the schema `s`, and so may occur in a message of `s`.
pub record IsSendable (s : StatedSchema) (m : Store) : Type 0 where
  pub in_range : AreInRange (updates m)
  pub valid : AreValid (λ id. ReadsPolicy s) (ReadsEntity s) (updates m)

-- `IsReadBack s m bytes` holds if `bytes` are a message of the schema `s` with the updates of the store `m`.
pub record IsReadBack (s : StatedSchema) (m : Store) (bytes : List ℕ) : Type 0 where
  pub read : List (SentUpdate Policy Entity)
  pub message : IsMessageOf s bytes read
  pub same : plain_updates read ≡ updates m
