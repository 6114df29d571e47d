-- What is written of a store describes exactly the store's updates.
use Rattle.std.proofs.Common.{◌≡◌, ℕ, List, [], ◌∷◌, Ok}
use Rattle.std.specs.List.{AllByRecursion}
use Rattle.values.specs.declared.entity_uid.EntityUid.{EntityUid}
use Rattle.stamped_store.specs.Store.{Store, Update as PlainUpdate, updates}
use Rattle.sync_format.specs.policy_grammar.declared.policy.Policy.{Policy}
use Rattle.sync_format.specs.Messages.{updates_stated}
use Rattle.sync_format.specs.Updates.{AreValid}
use Rattle.sync_format.proofs.Outcomes.{valid_read}
use Rattle.validator.specs.schema.Schemas.{StatedSchema}
use Rattle.validator.specs.schema.Agreement.{HasOneOutcome}
use Rattle.validator.specs.entity_data.declared.entity.Entity.{Entity}
use Rattle.sync_messages.specs.Texts.{ReadsPolicy, ReadsEntity}
use Rattle.sync_messages.specs.StatedTexts.{DescribesText}
use Rattle.sync_messages.specs.StatedMessages.{HasBody, DescribesMessage, RefusesMessage}
use Rattle.sync_messages.specs.ParsingLaws.{TextsAreRead, MessageIsRead}
use Rattle.sync_messages.specs.ReadBack.{HasValidUpdates, DescribesStore}
use Rattle.sync_messages.proofs.MessagesRead.{readable_as}

module _ (texts : TextsAreRead) (s : StatedSchema) where
  text_read : (uid : EntityUid) (text : List ℕ) (e : Entity) → DescribesText s uid text e → ReadsEntity s uid text e
  text_read uid text e h = ((texts s uid text).value e).1 h

  valid : (us : List PlainUpdate) → AllByRecursion (HasBody s) us → AreValid (λ id. ReadsPolicy s) (ReadsEntity s) us
  valid [] h = tt
  valid (u ∷ us) h = (readable_as {P = Policy} (λ id. ReadsPolicy s) (DescribesText s) (ReadsEntity s) text_read u.0 u.1.body h.0, valid us h.1)

  pub described : (bytes : List ℕ) (m : Store) → MessageIsRead s bytes → HasOneOutcome (DescribesMessage s bytes) (RefusesMessage s bytes)
      → updates_stated s.label bytes ≡ Ok (updates m) → HasValidUpdates s m → DescribesStore s bytes m
  described bytes m read one back h =
      let message = valid_read (λ id. ReadsPolicy s) (ReadsEntity s) s.label bytes (updates m) back h.in_range (valid (updates m) h.have_bodies) in
      let described = (read.states message.0).0 message.1 in
      record {
        read = message.0;
        message = described;
        same = message.2;
        only = λ us other. one.one_value us message.0 other described;
        accepted = λ f refused. one.not_both message.0 f described refused;
      }
