-- Messages of a schema: the updates with their texts parsed, or the first error.
use Rattle.std.proofs.Common.{◌≡◌, ℕ, suc, List, [], ◌∷◌, Option, Some, None, Result, Ok, Err, arith, refl, sym, subst, inl, inr}
use Rattle.std.specs.Prelude.{◌⊎◌, ◌↔◌, ⊤, MatchResult}
use Rattle.std.specs.List.{AllByRecursion, AllZip}
use Rattle.serde_json.specs.Data.{Data}
use Rattle.json_words.specs.Ascending.{JsonAscends}
use Rattle.json_words.specs.Each.{list_of}
use Rattle.plain.specs.Words.{IsPath}
use Rattle.values.specs.declared.name.Name.{Name}
use Rattle.values.specs.declared.name.Name.TheVariants as name
use Rattle.values.specs.declared.entity_uid.EntityUid.{EntityUid}
use Rattle.stamped_store.specs.declared.entry.ReadText.{ReadText}
use Rattle.stamped_store.specs.declared.entry.Stamp.{Stamp}
use Rattle.stamped_store.specs.Reading.{IsBodyRead}
use Rattle.stamped_store.specs.SiteNames.{IsSiteName, SiteDigitsAreNames}
use Rattle.stamped_store.specs.Store.{Update as PlainUpdate}
use Rattle.sync_format.specs.policy_grammar.declared.policy.Policy.{Policy}
use Rattle.sync_format.specs.declared.version.MessageVersion.{MessageVersion}
use Rattle.sync_format.specs.declared.bodies.BodyFault.{BodyFault}
use Rattle.sync_format.specs.declared.fault.MessageFault.{MessageFault}
use Rattle.sync_format.specs.declared.update.Update.{Update}
use Rattle.sync_format.specs.declared.update.Update.TheVariants as update
use Rattle.sync_format.specs.Summaries.{IsName, IsStamped, checked_stamp}
use Rattle.sync_format.specs.Messages.{updates_stated}
use Rattle.sync_format.specs.Updates.{plain_updates, stamped, AreInRange, fault_at, IsUpdateRead, IsReadable, IsUnreadable, IsBodyFault, IsFirstFault}
use Rattle.sync_format.proofs.Outcomes.{Passes, one_message, one_refusal, never_both, some_outcome}
use Rattle.sync_format.proofs.Taking.{Sound}
use Rattle.validator.specs.schema.Schemas.{StatedSchema}
use Rattle.validator.specs.entity_data.declared.entity.Entity.{Entity}
use Rattle.sync_messages.specs.Laws.{PoliciesHaveOneReading, EntitiesHaveOneReading}
use Rattle.sync_messages.specs.Texts.{ReadsPolicy, RefusesPolicy, ReadsEntity, RefusesEntity}
use Rattle.sync_messages.specs.Messages.{IsMessageOf, IsMessageFaultOf}
use Rattle.validator.specs.entities.ParsingLaws.{EntitiesAreRead}
use Rattle.validator.specs.schema.Agreement.{HasOneOutcome}
use Rattle.sync_messages.specs.MessageForms.{DescribesName, DescribesSite}
use Rattle.sync_messages.specs.MessageForms as form
use Rattle.sync_messages.specs.StatedUpdates.{DescribesEntry, DescribesUpdates}
use Rattle.sync_messages.specs.StatedSummaries.{IdFits, Fits}
use Rattle.sync_messages.specs.StatedTexts.{DescribesText, RefusesText}
use Rattle.sync_messages.specs.StatedMessages.{HasTextsOf, HasBody, RefusesBody, RefusesEntries, DescribesMessage, RefusesMessage}
use Rattle.sync_messages.specs.StatedMessages as says
use Rattle.sync_messages.specs.ParsingLaws.{MessageIsRead}
use Rattle.sync_messages.proofs.Steps.{done}
use Rattle.sync_messages.proofs.Parts.{Facts}
use Rattle.sync_messages.proofs.Ranges.{fits_pass, refused_fail, RangesOutcome, ranges_outcome}
use Rattle.sync_messages.proofs.UpdatesRead.{updates_given}
use Rattle.sync_messages.proofs.TextsRead.{text_given}

-- ---- the same of other readings of entities

module _ {E : Type 0} (R S : List ℕ → E → Type 0) (f : (text : List ℕ) (e : E) → R text e → S text e) where
  body_as : (b : Option (ReadText E)) → IsBodyRead R b → IsBodyRead S b
  body_as None h = tt
  body_as (Some t) h = f t.text t.read h

module _ {P E : Type 0} (Policies : List ℕ → List ℕ → P → Type 0) (R S : EntityUid → List ℕ → E → Type 0)
    (f : (uid : EntityUid) (text : List ℕ) (e : E) → R uid text e → S uid text e) where
  update_as : (u : Update P E) → IsUpdateRead Policies R u → IsUpdateRead Policies S u
  update_as (update.Policy id entry) h = h
  update_as (update.Entity uid entry) h = body_as (R uid) (S uid) (f uid) entry.body h

  updates_as : (us : List (Update P E)) → AllByRecursion (IsUpdateRead Policies R) us → AllByRecursion (IsUpdateRead Policies S) us
  updates_as [] h = tt
  updates_as (u ∷ us) h = (update_as u h.0, updates_as us h.1)

  pub readable_as : (n : Name) (b : Option (List ℕ)) → IsReadable Policies R n b → IsReadable Policies S n b
  readable_as (name.Policy id) b h = h
  readable_as (name.Entity uid) None h = tt
  readable_as (name.Entity uid) (Some t) h = (h.0, f uid t h.0 h.1)

module _ (Policies : List ℕ → List ℕ → BodyFault → Type 0) (R S : EntityUid → List ℕ → BodyFault → Type 0)
    (f : (uid : EntityUid) (text : List ℕ) (e : BodyFault) → R uid text e → S uid text e) where
  unreadable_as : (n : Name) (b : Option (List ℕ)) (e : BodyFault) → IsUnreadable Policies R n b e → IsUnreadable Policies S n b e
  unreadable_as (name.Policy id) b e h = h
  unreadable_as (name.Entity uid) None e h = h
  unreadable_as (name.Entity uid) (Some t) e h = f uid t e h

-- ---- ranges

id_of : (n : Name) → IsName n → IdFits n
id_of (name.Policy id) h = h
id_of (name.Entity uid) h = tt

stamped_fits : (u : Name × Stamp) → IsStamped u → Fits u
stamped_fits u h = record { count = (h.counted, h.bounded); id = id_of u.0 h.name }

all_fit : (us : List PlainUpdate) → AreInRange us → AllByRecursion (λ u. Fits (stamped u)) us
all_fit [] h = tt
all_fit (u ∷ us) h = (stamped_fits (stamped u) h.0, all_fit us h.1)

abbrev IsSpelled : Name → Type 0
IsSpelled (name.Policy id) = ⊤
IsSpelled (name.Entity uid) = IsPath uid.type_name

abbrev AreSpelled : List PlainUpdate → Type 0
AreSpelled us = AllByRecursion (λ u. IsSpelled u.0 × IsSiteName u.1.site) us

name_spelled : (d : Data) (n : Name) → DescribesName d n → IsSpelled n
name_spelled d (name.Policy id) h = tt
name_spelled d (name.Entity uid) h = h.1

site_spelled : SiteDigitsAreNames → (version : MessageVersion) (d : Data) (site : List ℕ) → DescribesSite version d site → IsSiteName site
site_spelled digits version d site (form.by_number n h) = digits n (omega (arith, h.1))
site_spelled digits version d site (form.by_name s h) = h

entries_spelled : SiteDigitsAreNames → (version : MessageVersion) (ds : List Data) (us : List PlainUpdate) → AllZip (DescribesEntry version) ds us → AreSpelled us
entries_spelled digits version [] [] h = tt
entries_spelled digits version [] (u ∷ us) h = absurd h
entries_spelled digits version (d ∷ ds) [] h = absurd h
entries_spelled digits version (d ∷ ds) (u ∷ us) h =
    ((name_spelled h.0.name u.0 h.0.states_name, site_spelled digits version h.0.site u.1.site h.0.states_site), entries_spelled digits version ds us h.1)

name_of : (n : Name) → IdFits n → IsSpelled n → IsName n
name_of (name.Policy id) fit h = fit
name_of (name.Entity uid) fit h = h

fits_stamped : (u : PlainUpdate) → Fits (stamped u) → IsSpelled u.0 × IsSiteName u.1.site → IsStamped (stamped u)
fits_stamped u fit h = record { name = name_of u.0 fit.id h.0; counted = fit.count.0; bounded = fit.count.1; site = h.1 }

all_stamped : (us : List PlainUpdate) → AllByRecursion (λ u. Fits (stamped u)) us → AreSpelled us → AreInRange us
all_stamped [] fit h = tt
all_stamped (u ∷ us) fit h = (fits_stamped u fit.0 h.0, all_stamped us fit.1 h.1)

-- ---- a schema

-- what is known of lower crates
pub record Below : Type 0 where
  pub facts : Facts
  pub ascends : JsonAscends
  pub entities : EntitiesAreRead
  pub policy_texts : PoliciesHaveOneReading
  pub entity_texts : EntitiesHaveOneReading
  pub passes : Passes
  pub sound : Sound

module _ (below : Below) (s : StatedSchema) where
  abbrev Policies : List ℕ → List ℕ → Policy → Type 0
  Policies id = ReadsPolicy s

  abbrev NoPolicies : List ℕ → List ℕ → BodyFault → Type 0
  NoPolicies id = RefusesPolicy s

  entity_states : (uid : EntityUid) (text : List ℕ) (e : Entity) → ReadsEntity s uid text e → DescribesText s uid text e
  entity_states uid text e h = ((text_given below.entities s uid text).value e).0 h

  states_entity : (uid : EntityUid) (text : List ℕ) (e : Entity) → DescribesText s uid text e → ReadsEntity s uid text e
  states_entity uid text e h = ((text_given below.entities s uid text).value e).1 h

  entity_refuses : (uid : EntityUid) (text : List ℕ) (f : BodyFault) → RefusesEntity s uid text f → RefusesText s uid text f
  entity_refuses uid text f h = ((text_given below.entities s uid text).fault f).0 h

  refuses_entity : (uid : EntityUid) (text : List ℕ) (f : BodyFault) → RefusesText s uid text f → RefusesEntity s uid text f
  refuses_entity uid text f h = ((text_given below.entities s uid text).fault f).1 h

  -- ---- the first entry in error

  abbrev Fault : ℕ → PlainUpdate → MessageFault → Result (Name × Stamp) MessageFault → Type 0
  Fault place u why r = MatchResult r (λ _. IsBodyFault NoPolicies (RefusesEntity s) place u why) (λ first. why ≡ first)

  body_fault : (place : ℕ) (u : PlainUpdate) (us : List PlainUpdate) (why : MessageFault) → Fits (stamped u) → IsBodyFault NoPolicies (RefusesEntity s) place u why → RefusesEntries s place (u ∷ us) why
  body_fault place u us why fit h =
      subst (RefusesEntries s place (u ∷ us)) (sym h.is)
      (says.bad_body place u us h.within fit (unreadable_as NoPolicies (RefusesEntity s) (RefusesText s) entity_refuses u.0 u.1.body h.within h.unreadable))

  here_by : (place : ℕ) (u : PlainUpdate) (us : List PlainUpdate) (why : MessageFault) → Fault place u why (checked_stamp place (stamped u)) → RangesOutcome place (stamped u) → RefusesEntries s place (u ∷ us) why
  here_by place u us why h (inl fit) = body_fault place u us why fit (subst (Fault place u why) (fits_pass place (stamped u) fit) h)
  here_by place u us why h (inr bad) =
      let same : why ≡ bad.0 = subst (Fault place u why) (refused_fail place (stamped u) bad.0 bad.1) h in
      subst (RefusesEntries s place (u ∷ us)) (sym same) (says.bad_ranges place u us bad.0 bad.1)

  first_refuses : (place : ℕ) (us : List PlainUpdate) (why : MessageFault) → IsFirstFault Policies (ReadsEntity s) NoPolicies (RefusesEntity s) place us why → RefusesEntries s place us why
  first_refuses place [] why h = absurd h
  first_refuses place (u ∷ us) why (inl here) = here_by place u us why here (ranges_outcome place (stamped u))
  first_refuses place (u ∷ us) why (inr later) =
      says.later_entry place u us why (stamped_fits (stamped u) later.0) (readable_as Policies (ReadsEntity s) (DescribesText s) entity_states u.0 u.1.body later.1)
      (first_refuses (suc place) us why later.2)

  refuses_first : (place : ℕ) (us : List PlainUpdate) (why : MessageFault) → AreSpelled us → RefusesEntries s place us why → IsFirstFault Policies (ReadsEntity s) NoPolicies (RefusesEntity s) place us why
  refuses_first place us why spelled (says.bad_ranges k u more f bad) = inl (subst (Fault k u f) (sym (refused_fail k (stamped u) f bad)) refl)
  refuses_first place us why spelled (says.bad_body k u more within fit bad) =
      let here : IsBodyFault NoPolicies (RefusesEntity s) k u (fault_at k within) = record { within = within; unreadable = unreadable_as NoPolicies (RefusesText s) (RefusesEntity s) refuses_entity u.0 u.1.body within bad; is = refl } in
      inl (subst (Fault k u (fault_at k within)) (sym (fits_pass k (stamped u) fit)) here)
  refuses_first place us why spelled (says.later_entry k u more f fit body rest) =
      inr (fits_stamped u fit spelled.0, readable_as Policies (DescribesText s) (ReadsEntity s) states_entity u.0 u.1.body body, refuses_first (suc k) more f spelled.1 rest)

  -- ---- a whole message

  module _ (bytes : List ℕ) where
    abbrev given : (us : List PlainUpdate) → (updates_stated s.label bytes ≡ done us) ↔ DescribesUpdates s.label bytes us
    given us = (updates_given below.facts below.ascends s.label bytes).value us

    spelled : (us : List PlainUpdate) → DescribesUpdates s.label bytes us → AreSpelled us
    spelled us h = entries_spelled below.facts.digits h.form.version (list_of h.form.entries) us h.form.state

    message_states : (us : List (Update Policy Entity)) → IsMessageOf s bytes us → DescribesMessage s bytes us
    message_states us h = record {
      stated = (given (plain_updates us)).0 h.stated;
      fit = all_fit (plain_updates us) h.in_range;
      have_texts = updates_as Policies (ReadsEntity s) (DescribesText s) entity_states us h.are_read;
    }

    states_message : (us : List (Update Policy Entity)) → DescribesMessage s bytes us → IsMessageOf s bytes us
    states_message us h = record {
      stated = (given (plain_updates us)).1 h.stated;
      in_range = all_stamped (plain_updates us) h.fit (spelled (plain_updates us) h.stated);
      are_read = updates_as Policies (DescribesText s) (ReadsEntity s) states_entity us h.have_texts;
    }

    abbrev Refusal : MessageFault → Result (List PlainUpdate) MessageFault → Type 0
    Refusal why r = MatchResult r (λ us. IsFirstFault Policies (ReadsEntity s) NoPolicies (RefusesEntity s) 0 us why) (λ first. why ≡ first)

    refused_by : (why : MessageFault) (r : Result (List PlainUpdate) MessageFault) → updates_stated s.label bytes ≡ r → Refusal why r → RefusesMessage s bytes why
    refused_by why (Ok us) e h = says.bad_entries us why ((given us).0 e) (first_refuses 0 us why h)
    refused_by why (Err first) e h =
        subst (RefusesMessage s bytes) (sym h) (says.no_updates first (((updates_given below.facts below.ascends s.label bytes).fault first).0 e))

    message_refuses : (why : MessageFault) → IsMessageFaultOf s bytes why → RefusesMessage s bytes why
    message_refuses why h = refused_by why (updates_stated s.label bytes) refl h

    refuses_message : (why : MessageFault) → RefusesMessage s bytes why → IsMessageFaultOf s bytes why
    refuses_message why (says.no_updates f h) = subst (Refusal f) (sym (((updates_given below.facts below.ascends s.label bytes).fault f).1 h)) refl
    refuses_message why (says.bad_entries us f h bad) = subst (Refusal f) (sym ((given us).1 h)) (refuses_first 0 us f (spelled us h) bad)

    pub message_read : MessageIsRead s bytes
    message_read = record {
      states = λ us. (message_states us, states_message us);
      refuses = λ f. (message_refuses f, refuses_message f);
    }

    some_message : ((us : List (Update Policy Entity)) × IsMessageOf s bytes us) ⊎ ((f : MessageFault) × IsMessageFaultOf s bytes f)
        → ((us : List (Update Policy Entity)) × DescribesMessage s bytes us) ⊎ ((f : MessageFault) × RefusesMessage s bytes f)
    some_message (inl h) = inl (h.0, message_states h.0 h.1)
    some_message (inr h) = inr (h.0, message_refuses h.0 h.1)

    pub message_outcome : HasOneOutcome (DescribesMessage s bytes) (RefusesMessage s bytes)
    message_outcome = record {
      one_value = λ us vs h k. one_message Policies (ReadsEntity s) NoPolicies (RefusesEntity s) (λ id text. (below.policy_texts s text).0) (λ uid text. (below.entity_texts s uid text).0)
          s.label bytes us vs (states_message us h) (states_message vs k);
      one_fault = λ f g h k. one_refusal Policies (ReadsEntity s) NoPolicies (RefusesEntity s) (λ id text. (below.policy_texts s text).0) (λ uid text. (below.entity_texts s uid text).0)
          below.passes s.label bytes f g (refuses_message f h) (refuses_message g k);
      not_both = λ us f h k. never_both Policies (ReadsEntity s) NoPolicies (RefusesEntity s) (λ id text. (below.policy_texts s text).0) (λ uid text. (below.entity_texts s uid text).0)
          below.passes s.label bytes us f (states_message us h) (refuses_message f k);
      some = some_message (some_outcome Policies (ReadsEntity s) NoPolicies (RefusesEntity s) (λ id text. (below.policy_texts s text).0) (λ uid text. (below.entity_texts s uid text).0)
          (λ id text. (below.policy_texts s text).1) (λ uid text. (below.entity_texts s uid text).1) below.sound s.label bytes);
    }
