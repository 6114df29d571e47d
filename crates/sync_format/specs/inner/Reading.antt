-- Defines the parsing of a message's entries one after another, where each entry passes the checks of ranges before its
-- text is parsed.
use Rattle.std.specs.Prelude.{◌≡◌, ◌⊎◌, ℕ, suc, List, [], ◌∷◌, Option, Ok}
use Rattle.values.specs.declared.entity_uid.EntityUid.{EntityUid}
use Rattle.stamped_store.specs.declared.entry.ReadText.{ReadText}
use Rattle.stamped_store.specs.EntryOrder.{body_bytes}
use Rattle.stamped_store.specs.Reading.{IsBodyRead}
use Rattle.stamped_store.specs.Store.{Update as PlainUpdate, issued}
use Rattle.sync_format.specs.declared.fault.MessageFault.{MessageFault}
use Rattle.sync_format.specs.Summaries.{checked_stamp}
use Rattle.sync_format.specs.declared.bodies.BodyFault.{BodyFault}
use Rattle.sync_format.specs.declared.stated.ReadEntry.{ReadEntry}
use Rattle.sync_format.specs.declared.update.Update.{Update}
use Rattle.sync_format.specs.Updates.{plain_update, stamped, IsUpdateRead, IsValid, IsFaultAt}

-- `stated_update s` is the update that the entry `s` of the code represents, before its text is parsed.
abbrev pub stated_update : ReadEntry → PlainUpdate
stated_update s = (s.stamped.0, issued s.stamped.1 s.body)

-- `IsBodyReadAs Reads body t` holds if `t` is `body` together with a value that `Reads` relates to its text, or both
-- are `None`.
pub record IsBodyReadAs {P : Type 0} (Reads : List ℕ → P → Type 0) (body : Option (List ℕ))
    (t : Option (ReadText P)) : Type 0 where
  pub shown : body_bytes t ≡ body
  pub is_read : IsBodyRead Reads t

module _ {P E : Type 0} (Policies : List ℕ → List ℕ → P → Type 0) (Entities : EntityUid → List ℕ → E → Type 0) where
  -- `IsReadAs u r` holds if `r` is the update `u` together with a value of its text; a tombstone has no value.
  pub record IsReadAs (u : PlainUpdate) (r : Update P E) : Type 0 where
    pub shown : plain_update r ≡ u
    pub is_read : IsUpdateRead Policies Entities r

  -- `IsReadInRange place u r` holds if the update `u`, at the index `place`, passes the checks of ranges, and `r` is
  -- `u` together with a value of its text; a tombstone has no value.
  pub record IsReadInRange (place : ℕ) (u : PlainUpdate) (r : Update P E) : Type 0 where
    pub passed : checked_stamp place (stamped u) ≡ Ok (stamped u)
    pub taken : IsReadAs u r

  -- `AreReadInRange place us rs` holds if each of the updates `us` passes the checks of ranges, and `rs` are these
  -- updates together with values of the texts that they have. The first of `us` has the index `place`.
  abbrev pub AreReadInRange : ℕ → List PlainUpdate → List (Update P E) → Type 0
  AreReadInRange place [] [] = Unit {0}
  AreReadInRange place [] (r ∷ rs) = ⊥
  AreReadInRange place (u ∷ us) [] = ⊥
  AreReadInRange place (u ∷ us) (r ∷ rs) = IsReadInRange place u r × AreReadInRange (suc place) us rs

module _ {P E : Type 0} (Policies : List ℕ → List ℕ → P → Type 0) (Entities : EntityUid → List ℕ → E → Type 0)
    (NoPolicies : List ℕ → List ℕ → BodyFault → Type 0) (NoEntities : EntityUid → List ℕ → BodyFault → Type 0) where
  -- `IsFirstUpdateFault place us why` holds if `why` is the error of one of the updates `us`, and those before it pass
  -- the checks of ranges and are valid. The first of `us` has the index `place`.
  abbrev pub IsFirstUpdateFault : ℕ → List PlainUpdate → MessageFault → Type 0
  IsFirstUpdateFault place [] why = ⊥
  IsFirstUpdateFault place (u ∷ us) why = IsFaultAt NoPolicies NoEntities place u why
      ⊎ ((checked_stamp place (stamped u) ≡ Ok (stamped u)) × IsValid Policies Entities u
      × IsFirstUpdateFault (suc place) us why)
