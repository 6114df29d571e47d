-- The entity of which a text is the canonical one.
use Rattle.std.proofs.Common.{◌≡◌, ◌∙◌, ℕ, List, Bool, true, false, Option, Some, None, Result, Ok, Err, refl, ap, inl, inr}
use Rattle.std.specs.Prelude.{◌⊎◌}
use Rattle.std.specs.Str.{bytes_eq}
use Rattle.serde_json.specs.Data.{Data}
use Rattle.json_words.specs.Json.{json_of}
use Rattle.json_words.specs.ReadsAs.{◌>>=◌, or_fault, demand}
use Rattle.values.specs.declared.entity_uid.EntityUid.{EntityUid}
use Rattle.values.specs.Uids.{uid_cmp-IsTotalOrder, uid_cmp-IsAntisymmetric, equal-is}
use Rattle.sync_format.specs.declared.bodies.BodyFault.{BodyFault}
use Rattle.sync_format.specs.declared.bodies.BodyFault.TheVariants.{Refused, OtherName}
use Rattle.validator.specs.schema.Schemas.{StatedSchema}
use Rattle.validator.specs.ancestor_search.Decided.{is_same}
use Rattle.validator.specs.entity_data.declared.entity.Entity.{Entity}
use Rattle.validator.specs.entities.declared.fault.EntityFault.{EntityFault}
use Rattle.validator.specs.entities.Faults.{code_of}
use Rattle.validator.specs.entities.Entities.{entity_stated_in}
use Rattle.validator.specs.entities.Canonical.{canonical_text}
use Rattle.sync_messages.specs.Texts.{refused_by, entity_of_text}
use Rattle.validator.specs.entities.StatedEntities.{DescribesEntity}
use Rattle.validator.specs.schema.Agreement.{Gives}
use Rattle.validator.specs.entities.ParsingLaws.{EntitiesAreRead}
use Rattle.sync_messages.specs.StatedTexts.{DescribesText, RefusesText}
use Rattle.sync_messages.specs.StatedTexts as says
use Rattle.sync_messages.proofs.Steps.{done, failed, same_bytes, bytes_same, true_false, untrue}
use Rattle.sync_messages.proofs.OneOutcome.{gives}

same_is : (a b : EntityUid) → is_same a b ≡ true → a ≡ b
same_is a b h = (equal-is uid_cmp-IsTotalOrder uid_cmp-IsAntisymmetric a b).0 h

is_the_same : (a b : EntityUid) → a ≡ b → is_same a b ≡ true
is_the_same a b h = (equal-is uid_cmp-IsTotalOrder uid_cmp-IsAntisymmetric a b).1 h

abbrev Read : Type 0
Read = Result Entity BodyFault

abbrev checked : EntityUid → List ℕ → Entity → Read
checked uid text e = demand (Refused 57) (bytes_eq (canonical_text e) text) >>= λ canonical. demand OtherName (is_same e.uid uid) >>= λ named. Ok e

module _ (read : EntitiesAreRead) (s : StatedSchema) (uid : EntityUid) (text : List ℕ) where
  json_step : (o : Option Data) → json_of text ≡ o → entity_of_text s uid text ≡ (or_fault (Refused 30) o >>= λ d. refused_by (entity_stated_in s d) >>= checked uid text)
  unfolding entity_of_text
  json_step o e = ap (λ (p : Option Data). or_fault (Refused 30) p >>= λ d. refused_by (entity_stated_in s d) >>= checked uid text) e

  entity_step : (d : Data) (r : Result Entity EntityFault) → json_of text ≡ Some d → entity_stated_in s d ≡ r → entity_of_text s uid text ≡ (refused_by r >>= checked uid text)
  entity_step d r e f = json_step (Some d) e ∙ ap (λ (x : Result Entity EntityFault). refused_by x >>= checked uid text) f

  check_step : (d : Data) (e : Entity) (a b : Bool) → json_of text ≡ Some d → DescribesEntity s d e → bytes_eq (canonical_text e) text ≡ a → is_same e.uid uid ≡ b
      → entity_of_text s uid text ≡ (demand (Refused 57) a >>= λ canonical. demand OtherName b >>= λ named. Ok e)
  check_step d e a b j h f g =
      entity_step d (Ok e) j (((read s d).value e).1 h) ∙ (λ i. demand (Refused 57) (f i) >>= λ canonical. demand OtherName (g i) >>= λ named. Ok e)

  text_states : (e : Entity) → DescribesText s uid text e → entity_of_text s uid text ≡ done e
  text_states e h = check_step h.value e true true h.json h.states (same_bytes (canonical_text e) text h.canonical) (is_the_same e.uid uid h.named)

  text_refuses : (f : BodyFault) → RefusesText s uid text f → entity_of_text s uid text ≡ failed f
  text_refuses f (says.not_json e) = json_step None e
  text_refuses f (says.no_entity d g e bad) = entity_step d (Err g) e (((read s d).fault g).1 bad)
  text_refuses f (says.other_text d e j h apart) =
      check_step d e false (is_same e.uid uid) j h (untrue (bytes_eq (canonical_text e) text) (λ k. apart (bytes_same (canonical_text e) text k))) refl
  text_refuses f (says.other_name d e j h same apart) =
      check_step d e true false j h (same_bytes (canonical_text e) text same) (untrue (is_same e.uid uid) (λ k. apart (same_is e.uid uid k)))

  abbrev Outcome : Type 0
  Outcome = ((e : Entity) × DescribesText s uid text e) ⊎ ((f : BodyFault) × RefusesText s uid text f)

  by_checks : (d : Data) (e : Entity) (a b : Bool) → json_of text ≡ Some d → DescribesEntity s d e → bytes_eq (canonical_text e) text ≡ a → is_same e.uid uid ≡ b → Outcome
  by_checks d e false b j h f g = inr (Refused 57, says.other_text d e j h (λ k. true_false (bytes_eq (canonical_text e) text) (same_bytes (canonical_text e) text k) f))
  by_checks d e true false j h f g = inr (OtherName, says.other_name d e j h (bytes_same (canonical_text e) text f) (λ k. true_false (is_same e.uid uid) (is_the_same e.uid uid k) g))
  by_checks d e true true j h f g = inl (e, record { value = d; json = j; states = h; canonical = bytes_same (canonical_text e) text f; named = same_is e.uid uid g })

  by_entity : (d : Data) → json_of text ≡ Some d → (r : Result Entity EntityFault) → entity_stated_in s d ≡ r → Outcome
  by_entity d j (Ok e) f = by_checks d e (bytes_eq (canonical_text e) text) (is_same e.uid uid) j (((read s d).value e).0 f) refl refl
  by_entity d j (Err g) f = inr (Refused (code_of g), says.no_entity d g j (((read s d).fault g).0 f))

  by_json : (o : Option Data) → json_of text ≡ o → Outcome
  by_json (Some d) e = by_entity d e (entity_stated_in s d) refl
  by_json None e = inr (Refused 30, says.not_json e)

  pub text_given : Gives (entity_of_text s uid text) (DescribesText s uid text) (RefusesText s uid text)
  text_given = gives (entity_of_text s uid text) (DescribesText s uid text) (RefusesText s uid text) text_states text_refuses (by_json (json_of text) refl)
