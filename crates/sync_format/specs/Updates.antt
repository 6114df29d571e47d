-- Defines the updates of a message: which are valid, and which is the first with an error.
-- Rules of this product: an update is valid if it is a tombstone, or its body is a text that can be parsed under its
-- name; this does not depend on a store. Entries are checked in their order, each by its count, its name and then its
-- body. A message with any error is rejected whole.
use Rattle.std.specs.Prelude.{◌≡◌, ℕ, suc, List, [], ◌∷◌, map, Option, Some, None, Ok, MatchResult, ◌⊎◌}
use Rattle.std.specs.List.{AllByRecursion}
use Rattle.values.specs.declared.name.Name.{Name}
use Rattle.values.specs.declared.name.Name.TheVariants as name
use Rattle.values.specs.declared.entity_uid.EntityUid.{EntityUid}
use Rattle.stamped_store.specs.declared.entry.Stamp.{Stamp}
use Rattle.stamped_store.specs.Deltas.{stamp_of}
use Rattle.stamped_store.specs.EntryOrder.{plain_entry}
use Rattle.stamped_store.specs.Reading.{IsEntryRead}
use Rattle.stamped_store.specs.Store.{Update as PlainUpdate, policy_name, entity_name}
use Rattle.sync_format.specs.declared.fault.MessageFault.{MessageFault}
use Rattle.sync_format.specs.declared.fault.MessageFault.TheVariants as message
use Rattle.sync_format.specs.Summaries.{IsStamped, checked_stamp}
use Rattle.sync_format.specs.declared.bodies.BodyFault.{BodyFault}
use Rattle.sync_format.specs.declared.bodies.BodyFault.TheVariants as body
use Rattle.sync_format.specs.declared.update.Update.{Update}
use Rattle.sync_format.specs.declared.update.Update.TheVariants.{Policy, Entity}
use Rattle.sync_format.specs.Messages.{updates_stated}

-- `plain_update u` is the update `u` without its parsed value, as a message describes it and a store applies it.
abbrev pub plain_update : {P E : Type 0} → Update P E → PlainUpdate
plain_update (Policy id entry) = (policy_name id, plain_entry entry)
plain_update (Entity uid entry) = (entity_name uid, plain_entry entry)

-- `plain_updates us` is the list of the updates `us` without their parsed values.
abbrev pub plain_updates : {P E : Type 0} → List (Update P E) → List PlainUpdate
plain_updates us = map plain_update us

-- `stamped u` is the name of the update `u` with its stamp.
abbrev pub stamped : PlainUpdate → Name × Stamp
stamped u = (u.0, stamp_of u.1)

-- `AreInRange us` holds if the name, count and site of each of `us` are in their ranges.
abbrev pub AreInRange : List PlainUpdate → Type 0
AreInRange us = AllByRecursion (λ u. IsStamped (stamped u)) us

-- `fault_at place fault` is the message's error for the error `fault` of the body of the entry at the index `place`.
abbrev pub fault_at : ℕ → BodyFault → MessageFault
fault_at place body.NoMemory = message.NoMemory
fault_at place (body.Refused within) = message.BadEntry place within
fault_at place body.OtherName = message.BodyOfOtherName place

-- `IsBodyReadable Reads body` holds if `body` is that of a tombstone (`None`), or a text that has a value by `Reads`.
abbrev pub IsBodyReadable : {P : Type 0} → (List ℕ → P → Type 0) → Option (List ℕ) → Type 0
IsBodyReadable Reads None = Unit {0}
IsBodyReadable {P} Reads (Some text) = (p : P) × Reads text p

-- `IsBodyRefused Refuses body why` holds if `body` is a text that `Refuses` rejects with the error `why`.
abbrev pub IsBodyRefused : (List ℕ → BodyFault → Type 0) → Option (List ℕ) → BodyFault → Type 0
IsBodyRefused Refuses None why = ⊥
IsBodyRefused Refuses (Some text) why = Refuses text why

-- `Policies` relates an id and a text to the policies that the text may be parsed as, and `Entities` a uid and a text
-- to the entities.
module _ {P E : Type 0} (Policies : List ℕ → List ℕ → P → Type 0) (Entities : EntityUid → List ℕ → E → Type 0) where
  -- `IsUpdateRead u` holds if the text of `u`, if there is one, is parsed as the value stored with it.
  abbrev pub IsUpdateRead : Update P E → Type 0
  IsUpdateRead (Policy id entry) = IsEntryRead (Policies id) entry
  IsUpdateRead (Entity uid entry) = IsEntryRead (Entities uid) entry

  -- `IsReadable n body` holds if `body` is that of a tombstone, or a text that can be parsed under the name `n`.
  abbrev pub IsReadable : Name → Option (List ℕ) → Type 0
  IsReadable (name.Policy id) body = IsBodyReadable (Policies id) body
  IsReadable (name.Entity uid) body = IsBodyReadable (Entities uid) body

  -- `IsValid u` holds if `u` is a tombstone, or its text can be parsed under its name. Ranges are a separate condition.
  abbrev pub IsValid : PlainUpdate → Type 0
  IsValid u = IsReadable u.0 u.1.body

  -- `AreValid us` holds if each of `us` is valid.
  abbrev pub AreValid : List PlainUpdate → Type 0
  AreValid us = AllByRecursion IsValid us

  -- `IsMessage label bytes us` holds if `bytes` are a state or delta for the schema with the label `label`, with the
  -- updates `us`, in this order. Each update is in its ranges and, unless it is a tombstone, has a value of its text.
  pub record IsMessage (label bytes : List ℕ) (us : List (Update P E)) : Type 0 where
    pub stated : updates_stated label bytes ≡ Ok (plain_updates us)
    pub in_range : AreInRange (plain_updates us)
    pub are_read : AllByRecursion IsUpdateRead us

-- `NoPolicies` relates an id and a text to the errors of the text as a policy, and `NoEntities` a uid and a text to the
-- errors of the text as an entity.
module _ (NoPolicies : List ℕ → List ℕ → BodyFault → Type 0)
    (NoEntities : EntityUid → List ℕ → BodyFault → Type 0) where
  -- `IsUnreadable n body why` holds if `body` is a text that is rejected under the name `n` with the error `why`.
  abbrev pub IsUnreadable : Name → Option (List ℕ) → BodyFault → Type 0
  IsUnreadable (name.Policy id) body why = IsBodyRefused (NoPolicies id) body why
  IsUnreadable (name.Entity uid) body why = IsBodyRefused (NoEntities uid) body why

  -- `IsBodyFault place u why` holds if `why` is the message's error for the body of `u`, at the index `place`.
  pub record IsBodyFault (place : ℕ) (u : PlainUpdate) (why : MessageFault) : Type 0 where
    pub within : BodyFault
    pub unreadable : IsUnreadable u.0 u.1.body within
    pub is : why ≡ fault_at place within

  -- `IsFaultAt place u why` holds if `why` is the error of the update `u` at the index `place`: of its count, else of
  -- its name, else of its body.
  abbrev pub IsFaultAt : ℕ → PlainUpdate → MessageFault → Type 0
  IsFaultAt place u why = MatchResult (checked_stamp place (stamped u)) (λ _. IsBodyFault place u why)
      (λ first. why ≡ first)

module _ {P E : Type 0} (Policies : List ℕ → List ℕ → P → Type 0) (Entities : EntityUid → List ℕ → E → Type 0)
    (NoPolicies : List ℕ → List ℕ → BodyFault → Type 0) (NoEntities : EntityUid → List ℕ → BodyFault → Type 0) where
  -- `IsFirstFault place us why` holds if `why` is the error of one of the updates `us`, and those before it are in
  -- their ranges and valid. The first of `us` has the index `place`.
  abbrev pub IsFirstFault : ℕ → List PlainUpdate → MessageFault → Type 0
  IsFirstFault place [] why = ⊥
  IsFirstFault place (u ∷ us) why = IsFaultAt NoPolicies NoEntities place u why
      ⊎ (IsStamped (stamped u) × IsValid Policies Entities u × IsFirstFault (suc place) us why)

  -- `IsMessageFault label bytes why` holds if `why` is the first error of `bytes` as a message for the schema with the
  -- label `label`. This is the error of their JSON, version, shape or label; or, if they describe updates, the first
  -- error of these.
  abbrev pub IsMessageFault : List ℕ → List ℕ → MessageFault → Type 0
  IsMessageFault label bytes why = MatchResult (updates_stated label bytes) (λ us. IsFirstFault 0 us why)
      (λ first. why ≡ first)
