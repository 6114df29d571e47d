-- Defines the updates that bytes describe as a state or delta under a schema, with their texts parsed, and the first
-- error of other bytes.
-- Source: docs/formats.md, "Messages between sites".
-- Rules of this product: a message is rejected as a whole: for its form and its label, then for the first entry whose
-- count, name or body has an error.
use Rattle.std.specs.Prelude.{ℕ, suc, List, ◌∷◌}
use Rattle.std.specs.List.{AllByRecursion}
use Rattle.stamped_store.specs.Store.{Update as PlainUpdate}
use Rattle.sync_format.specs.policy_grammar.declared.policy.Policy.{Policy}
use Rattle.sync_format.specs.declared.bodies.BodyFault.{BodyFault}
use Rattle.sync_format.specs.declared.fault.MessageFault.{MessageFault}
use Rattle.sync_format.specs.declared.update.Update.{Update}
use Rattle.sync_format.specs.Updates.{plain_updates, stamped, fault_at, IsUpdateRead, IsValid, IsUnreadable}
use Rattle.validator.specs.schema.Schemas.{StatedSchema}
use Rattle.validator.specs.entity_data.declared.entity.Entity.{Entity}
use Rattle.sync_messages.specs.Texts.{ReadsPolicy, RefusesPolicy}
use Rattle.sync_messages.specs.StatedUpdates.{DescribesUpdates, RefusesUpdates}
use Rattle.sync_messages.specs.StatedSummaries.{Fits, RefusesRanges}
use Rattle.sync_messages.specs.StatedTexts.{DescribesText, RefusesText}

-- `HasTextsOf s us` holds if each update of `us` that has a text has the value of this text under the schema `s`: a
-- policy that passes validation, or the entity with this canonical text and the uid in the update's name.
abbrev pub HasTextsOf : StatedSchema → List (Update Policy Entity) → Type 0
HasTextsOf s us = AllByRecursion (IsUpdateRead (λ id. ReadsPolicy s) (DescribesText s)) us

-- `HasBody s u` holds if the update `u` is a tombstone, or its body is a text that can be parsed under the schema `s`
-- and the name of `u`.
abbrev pub HasBody : StatedSchema → PlainUpdate → Type 0
HasBody s u = IsValid (λ id. ReadsPolicy s) (DescribesText s) u

-- `RefusesBody s u fault` holds if the body of the update `u` is a text that is rejected with the error `fault` under
-- the schema `s` and the name of `u`.
abbrev pub RefusesBody : StatedSchema → PlainUpdate → BodyFault → Type 0
RefusesBody s u fault = IsUnreadable (λ id. RefusesPolicy s) (RefusesText s) u.0 u.1.body fault

-- `RefusesEntries s place us fault` holds if `fault` is the first error of the entries `us` under the schema `s`, where
-- the first of them has the index `place`.
pub data RefusesEntries (s : StatedSchema) : ℕ → List PlainUpdate → MessageFault → Type 0 where
  bad_ranges : (place : ℕ) (u : PlainUpdate) (us : List PlainUpdate) (fault : MessageFault)
      → RefusesRanges place (stamped u) fault → RefusesEntries s place (u ∷ us) fault
  bad_body : (place : ℕ) (u : PlainUpdate) (us : List PlainUpdate) (within : BodyFault) → Fits (stamped u)
      → RefusesBody s u within → RefusesEntries s place (u ∷ us) (fault_at place within)
  later_entry : (place : ℕ) (u : PlainUpdate) (us : List PlainUpdate) (fault : MessageFault) → Fits (stamped u)
      → HasBody s u → RefusesEntries s (suc place) us fault → RefusesEntries s place (u ∷ us) fault

-- `DescribesMessage s bytes us` holds if `bytes` are a state or delta of the schema `s` with the updates `us`. Each
-- update has a count and a name in their ranges and, unless it is a tombstone, the value of its text.
pub record DescribesMessage (s : StatedSchema) (bytes : List ℕ) (us : List (Update Policy Entity)) : Type 0 where
  pub stated : DescribesUpdates s.label bytes (plain_updates us)
  pub fit : AllByRecursion (λ u. Fits (stamped u)) (plain_updates us)
  pub have_texts : HasTextsOf s us

-- `RefusesMessage s bytes fault` holds if `bytes` are not a message of the schema `s`, and `fault` is the first error:
-- of the form, of the label, and then of an entry.
pub data RefusesMessage (s : StatedSchema) (bytes : List ℕ) : MessageFault → Type 0 where
  no_updates : (fault : MessageFault) → RefusesUpdates s.label bytes fault → RefusesMessage s bytes fault
  bad_entries : (us : List PlainUpdate) (fault : MessageFault) → DescribesUpdates s.label bytes us
      → RefusesEntries s 0 us fault → RefusesMessage s bytes fault
