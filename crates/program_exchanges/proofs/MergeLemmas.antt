-- Merged states: neither order nor repeats nor groups of messages matter.
use Rattle.std.specs.Prelude.{◌≡◌, ◌↔◌, ℕ, List, ◌++◌, Result, Ok}
use Rattle.std.proofs.Common.{sym, ap, ◌∙◌, subst, ⊎_elim}
use Rattle.std.specs.List.{Contains}
use Rattle.std.proofs.lemmas.List.Elements.{Contains-append_left, Contains-append_right, Contains-append_cases}
use Rattle.schema_decisions.specs.policy_grammar.declared.policy.Policy.{Policy}
use Rattle.schema_decisions.specs.entity_data.declared.entity.Entity.{Entity}
use Rattle.sync_messages.specs.schema.Schemas.{StatedSchema, IsSchemaOf}
use Rattle.sync_messages.specs.schema.Outcomes.{OneSchema}
use Rattle.stamped_store.specs.Store.{Store, Update, updates, store_of}
use Rattle.sync_messages.specs.sync_format.declared.fault.MessageFault.{MessageFault}
use Rattle.sync_messages.specs.sync_format.Messages.{state_text}
use Rattle.sync_messages.specs.sync_format.declared.update.Update.{Update as SentUpdate}
use Rattle.sync_messages.specs.sync_format.Updates.{plain_updates}
use Rattle.sync_messages.specs.Messages.{IsMessageOf}
use Rattle.program_exchanges.specs.Messages.{IsReadBack}
use Rattle.program_exchanges.specs.Merges.{IsStoreOfBoth, IsMerged, IsMergedBack}

-- the laws of stores
pub record AreStores : Type 0 where
  pub grouped : (us vs : List Update) → store_of (updates (store_of us) ++ vs) ≡ store_of (us ++ vs)
  pub same_updates : (us vs : List Update) → ((u : Update) → Contains us u ↔ Contains vs u) → store_of us ≡ store_of vs

-- ---- lists with the same members
module _ {X : Type 0} where
  in_both : {G : Type 0} (us vs : List X) (u : X) → (Contains us u → G) → (Contains vs u → G) → Contains (us ++ vs) u → G
  in_both us vs u first second h = ⊎_elim first second (Contains-append_cases us vs u h)

  turned : (us vs : List X) (u : X) → Contains (us ++ vs) u → Contains (vs ++ us) u
  turned us vs u h = in_both us vs u (Contains-append_right vs us u) (Contains-append_left vs us u) h

  again_first : (us vs : List X) (u : X) → Contains ((us ++ vs) ++ us) u ↔ Contains (us ++ vs) u
  again_first us vs u = (
    in_both (us ++ vs) us u (λ h. h) (Contains-append_left us vs u),
    Contains-append_left (us ++ vs) us u,
  )

  again_second : (us vs : List X) (u : X) → Contains ((us ++ vs) ++ vs) u ↔ Contains (us ++ vs) u
  again_second us vs u = (
    in_both (us ++ vs) vs u (λ h. h) (Contains-append_right us vs u),
    Contains-append_left (us ++ vs) vs u,
  )

  rotated : (us vs ws : List X) (u : X) → Contains ((vs ++ ws) ++ us) u ↔ Contains ((us ++ vs) ++ ws) u
  rotated us vs ws u = (
    in_both (vs ++ ws) us u
        (in_both vs ws u
        (λ h. Contains-append_left (us ++ vs) ws u (Contains-append_right us vs u h))
        (λ h. Contains-append_right (us ++ vs) ws u h))
        (λ h. Contains-append_left (us ++ vs) ws u (Contains-append_left us vs u h)),
    in_both (us ++ vs) ws u
        (in_both us vs u
        (λ h. Contains-append_right (vs ++ ws) us u h)
        (λ h. Contains-append_left (vs ++ ws) us u (Contains-append_left vs ws u h)))
        (λ h. Contains-append_left (vs ++ ws) us u (Contains-append_right vs ws u h)),
  )

-- ---- one message states one list of updates
ok_same : (a b : List Update) (r : Result (List Update) MessageFault) → r ≡ Ok a → r ≡ Ok b → a ≡ b
ok_same a b r h k = cc

pub shown_same : (s : StatedSchema) (bytes : List ℕ) (us vs : List (SentUpdate Policy Entity)) → IsMessageOf s bytes us
    → IsMessageOf s bytes vs → plain_updates us ≡ plain_updates vs
shown_same s bytes us vs h k = ok_same (plain_updates us) (plain_updates vs) _ h.stated k.stated

-- the store of both, of whatever updates they state
pub store_as : (s : StatedSchema) (f g : List ℕ) (m : Store) (us vs : List (SentUpdate Policy Entity)) → IsStoreOfBoth s f g m
    → IsMessageOf s f us → IsMessageOf s g vs → m ≡ store_of (plain_updates us ++ plain_updates vs)
store_as s f g m us vs h first second =
    h.store_is ∙ ap (λ l. store_of (l ++ plain_updates h.second)) (shown_same s f h.first us h.first_read first)
    ∙ ap (λ l. store_of (plain_updates us ++ l)) (shown_same s g h.second vs h.second_read second)

-- what is merged, under the schema that the bytes state
pub record MergedAt (s : StatedSchema) (f g text : List ℕ) : Type 0 where
  pub store : Store
  pub both : IsStoreOfBoth s f g store
  pub text_is : text ≡ state_text s.label store

pub merged_at : OneSchema → (schema f g text : List ℕ) (s : StatedSchema) → IsSchemaOf schema s → IsMerged schema f g text → MergedAt s f g text
merged_at one schema f g text s is m =
    subst (λ (t : StatedSchema). MergedAt t f g text) (one schema m.stated s m.schema_is is)
    (record { store = m.store; both = m.both; text_is = m.text_is })

pub record BackAt (s : StatedSchema) (f g text : List ℕ) : Type 0 where
  pub store : Store
  pub both : IsStoreOfBoth s f g store
  pub back : IsReadBack s store text

back_at : OneSchema → (schema f g text : List ℕ) (s : StatedSchema) → IsSchemaOf schema s → (m : IsMerged schema f g text) → IsMergedBack m
    → BackAt s f g text
back_at one schema f g text s is m back =
    subst (λ (t : StatedSchema). BackAt t f g text) (one schema m.stated s m.schema_is is)
    (record { store = m.store; both = m.both; back = back })

-- ---- the laws of merged states
module _ (law : AreStores) (one : OneSchema) where
  pub order : (schema f g text other : List ℕ) → IsMerged schema f g text → IsMerged schema g f other → other ≡ text
  order schema f g text other a b =
      let s = a.stated in
      let c = merged_at one schema g f other s a.schema_is b in
      let us = plain_updates a.both.first in
      let vs = plain_updates a.both.second in
      let same : c.store ≡ a.store =
      store_as s g f c.store a.both.second a.both.first c.both a.both.second_read a.both.first_read
      ∙ law.same_updates (vs ++ us) (us ++ vs) (λ u. (turned vs us u, turned us vs u)) ∙ sym a.both.store_is in
      c.text_is ∙ ap (state_text s.label) same ∙ sym a.text_is

  pub again : (schema f g text other : List ℕ) (m : IsMerged schema f g text) (h : List ℕ) (us : List (SentUpdate Policy Entity))
      → IsMergedBack m → IsMessageOf m.stated h us
      → ((u : Update) → Contains ((plain_updates m.both.first ++ plain_updates m.both.second) ++ plain_updates us) u
      ↔ Contains (plain_updates m.both.first ++ plain_updates m.both.second) u)
      → IsMerged schema text h other → other ≡ text
  again schema f g text other m h us back message members b =
      let s = m.stated in
      let c = merged_at one schema text h other s m.schema_is b in
      let all = plain_updates m.both.first ++ plain_updates m.both.second in
      let same : c.store ≡ m.store =
      store_as s text h c.store back.read us c.both back.message message
      ∙ ap (λ l. store_of (l ++ plain_updates us)) (back.same ∙ ap updates m.both.store_is)
      ∙ law.grouped all (plain_updates us) ∙ law.same_updates (all ++ plain_updates us) all members ∙ sym m.both.store_is in
      c.text_is ∙ ap (state_text s.label) same ∙ sym m.text_is

  pub repeats : (schema f g text other : List ℕ) (m : IsMerged schema f g text) → IsMergedBack m
      → (IsMerged schema text f other → other ≡ text) × (IsMerged schema text g other → other ≡ text)
  repeats schema f g text other m back = (
    again schema f g text other m f m.both.first back m.both.first_read (again_first (plain_updates m.both.first) (plain_updates m.both.second)),
    again schema f g text other m g m.both.second back m.both.second_read (again_second (plain_updates m.both.first) (plain_updates m.both.second)),
  )

  pub groups : (schema f g h left right text other : List ℕ) (a : IsMerged schema f g left) (b : IsMerged schema g h right)
      → IsMergedBack a → IsMergedBack b → IsMerged schema left h text → IsMerged schema f right other → other ≡ text
  groups schema f g h left right text other a b aback bback x y =
      let s = a.stated in
      let r = back_at one schema g h right s a.schema_is b bback in
      let p = merged_at one schema left h text s a.schema_is x in
      let q = merged_at one schema f right other s a.schema_is y in
      let us = plain_updates a.both.first in
      let vs = plain_updates a.both.second in
      let ws = plain_updates r.both.second in
      let right_is : r.store ≡ store_of (vs ++ ws) =
      store_as s g h r.store a.both.second r.both.second r.both a.both.second_read r.both.second_read in
      let p_is : p.store ≡ store_of ((us ++ vs) ++ ws) =
      store_as s left h p.store aback.read r.both.second p.both aback.message r.both.second_read
      ∙ ap (λ l. store_of (l ++ ws)) (aback.same ∙ ap updates a.both.store_is) ∙ law.grouped (us ++ vs) ws in
      let q_is : q.store ≡ store_of ((us ++ vs) ++ ws) =
      store_as s f right q.store a.both.first r.back.read q.both a.both.first_read r.back.message
      ∙ ap (λ l. store_of (us ++ l)) (r.back.same ∙ ap updates right_is)
      ∙ law.same_updates (us ++ updates (store_of (vs ++ ws))) (updates (store_of (vs ++ ws)) ++ us)
      (λ u. (turned us (updates (store_of (vs ++ ws))) u, turned (updates (store_of (vs ++ ws))) us u))
      ∙ law.grouped (vs ++ ws) us ∙ law.same_updates ((vs ++ ws) ++ us) ((us ++ vs) ++ ws) (rotated us vs ws) in
      q.text_is ∙ ap (state_text s.label) (q_is ∙ sym p_is) ∙ sym p.text_is
