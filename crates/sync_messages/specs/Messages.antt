-- Defines which bytes are a state or a delta of a schema, and the first error of other bytes.
-- Rules of this product: a message belongs to a schema if it has the schema's label, and each update is valid, with its
-- count, name and site in their ranges. A valid update is a tombstone, or has a text that can be parsed under the
-- schema and the update's name.
use Rattle.std.specs.Prelude.{ℕ, List}
use Rattle.sync_format.specs.policy_grammar.declared.policy.Policy.{Policy}
use Rattle.validator.specs.schema.Schemas.{StatedSchema}
use Rattle.validator.specs.entity_data.declared.entity.Entity.{Entity}
use Rattle.sync_format.specs.declared.fault.MessageFault.{MessageFault}
use Rattle.sync_format.specs.declared.update.Update.{Update}
use Rattle.sync_format.specs.Updates.{IsMessage, IsMessageFault}
use Rattle.sync_messages.specs.Texts.{ReadsPolicy, RefusesPolicy, ReadsEntity, RefusesEntity}

-- `IsMessageOf schema bytes us` holds if `bytes` are a state or delta of `schema` with the updates `us`, in this
-- order.
abbrev pub IsMessageOf : StatedSchema → List ℕ → List (Update Policy Entity) → Type 0
IsMessageOf schema bytes us = IsMessage (λ id. ReadsPolicy schema) (ReadsEntity schema) schema.label bytes us

-- `IsMessageFaultOf schema bytes f` holds if `f` is the first error of `bytes` as a state or delta of `schema`.
abbrev pub IsMessageFaultOf : StatedSchema → List ℕ → MessageFault → Type 0
IsMessageFaultOf schema bytes f = IsMessageFault (λ id. ReadsPolicy schema) (ReadsEntity schema)
    (λ id. RefusesPolicy schema) (RefusesEntity schema) schema.label bytes f
