-- Bytes are at most one message, or have at most one error; and one of both if each text is read or rejected.
use Rattle.std.proofs.Common.{◌≡◌, ◌∙◌, ℕ, Bool, true, false, suc, List, [], ◌∷◌, Option, Some, None, Result, Ok, Err}
use Rattle.std.proofs.Common.{refl, sym, ap, subst, inl, inr}
use Rattle.std.specs.Prelude.{◌⊎◌, ◌&&◌, nat_le, MatchResult}
use Rattle.std.specs.List.{AllByRecursion}
use Rattle.json_words.specs.ReadsAs.{◌>>=◌, demand}
use Rattle.json_words.proofs.EachLemmas.{bind_ok}
use Rattle.values.specs.declared.name.Name.{Name}
use Rattle.values.specs.declared.name.Name.TheVariants as name
use Rattle.values.specs.declared.entity_uid.EntityUid.{EntityUid}
use Rattle.stamped_store.specs.declared.entry.ReadText.{ReadText}
use Rattle.stamped_store.specs.declared.entry.Stamp.{Stamp}
use Rattle.stamped_store.specs.EntryOrder.{PlainEntry, body_bytes}
use Rattle.stamped_store.specs.Reading.{IsBodyRead}
use Rattle.stamped_store.specs.Store.{Update as PlainUpdate, policy_name, entity_name}
use Rattle.sync_format.specs.declared.fault.MessageFault.{MessageFault}
use Rattle.sync_format.specs.declared.fault.MessageFault.TheVariants.{CountRange, BadEntry, BodyOfOtherName}
use Rattle.sync_format.specs.Summaries.{IsStamped, checked_stamp, is_name_in_range, bad_id}
use Rattle.sync_format.specs.declared.bodies.BodyFault.{BodyFault}
use Rattle.sync_format.specs.declared.bodies.BodyFault.TheVariants as body
use Rattle.sync_format.specs.declared.update.Update.{Update}
use Rattle.sync_format.specs.declared.update.Update.TheVariants.{Policy, Entity}
use Rattle.sync_format.specs.Bodies.{HasAtMostOneOutcome, HasOutcome}
use Rattle.sync_format.specs.Messages.{updates_stated}
use Rattle.sync_format.specs.Updates.{plain_update, plain_updates, stamped, fault_at, AreInRange, IsBodyRefused}
use Rattle.sync_format.specs.Updates.{IsUpdateRead, IsReadable, IsValid, AreValid, IsMessage, IsUnreadable}
use Rattle.sync_format.specs.Updates.{IsBodyFault, IsFaultAt, IsFirstFault, IsMessageFault}
use Rattle.sync_format.specs.inner.Reading.{IsReadAs, AreReadInRange}
use Rattle.sync_format.proofs.Found.{AreFound, stated_found}
use Rattle.sync_format.proofs.Taking.{Sound, readable, is_message}

-- an update in its ranges passes the checks
abbrev pub Passes : Type 0
Passes = (place : ℕ) (u : Name × Stamp) → IsStamped u → checked_stamp place u ≡ Ok u

abbrev done : {A : Type 0} → A → Result A MessageFault
done x = Ok x

done_is : {A : Type 0} (x y : A) → done x ≡ done y → x ≡ y
done_is x y h = cc

passed_same : (place : ℕ) (u v : Name × Stamp) → checked_stamp place u ≡ done v → u ≡ v
unfolding checked_stamp
passed_same place u v e =
    let a = bind_ok (demand (CountRange place) (nat_le 1 u.1.count && nat_le u.1.count 1_000_000_000_000_000_000)) (λ counted. demand (BadEntry place bad_id) (is_name_in_range u.0) >>= λ named. done u) v e in
    let b = bind_ok (demand (BadEntry place bad_id) (is_name_in_range u.0)) (λ named. done u) v a.2 in
    done_is u v b.2

same_text : {P : Type 0} (s t : ReadText P) → Some s.text ≡ Some t.text → s.text ≡ t.text
same_text s t h = cc

-- ---- a text is read as one value
one_body : {P : Type 0} (Reads : List ℕ → P → Type 0) → ((text : List ℕ) (p q : P) → Reads text p → Reads text q → p ≡ q)
    → (a b : Option (ReadText P)) → body_bytes a ≡ body_bytes b → IsBodyRead Reads a → IsBodyRead Reads b → a ≡ b
one_body Reads one None None same h k = refl
one_body Reads one None (Some t) same h k = absurd (cc)
one_body Reads one (Some s) None same h k = absurd (cc)
one_body {P} Reads one (Some s) (Some t) same h k =
    let texts = same_text s t same in
    let values : s.read ≡ t.read = one t.text s.read t.read (subst (λ x. Reads x s.read) texts h) k in
    λ i. Some (record { text = texts i; read = values i })

-- an update without its parsed text, spelled out
module _ {P E : Type 0} (Policies : List ℕ → List ℕ → P → Type 0) (Entities : EntityUid → List ℕ → E → Type 0) where
  read_of : (n : Name) (c : ℕ) (s : List ℕ) (b : Option (List ℕ)) → IsReadable Policies Entities n b
      → (r : Update P E) × IsReadAs Policies Entities (n, record { count = c; site = s; body = b }) r
  read_of (name.Policy id) c s None h = (Policy id (record { stamp = record { count = c; site = s }; body = None }), record { shown = refl; is_read = tt })
  read_of (name.Policy id) c s (Some t) h =
      (Policy id (record { stamp = record { count = c; site = s }; body = Some (record { text = t; read = h.0 }) }), record { shown = refl; is_read = h.1 })
  read_of (name.Entity uid) c s None h = (Entity uid (record { stamp = record { count = c; site = s }; body = None }), record { shown = refl; is_read = tt })
  read_of (name.Entity uid) c s (Some t) h =
      (Entity uid (record { stamp = record { count = c; site = s }; body = Some (record { text = t; read = h.0 }) }), record { shown = refl; is_read = h.1 })

  all_read : (us : List PlainUpdate) → AreValid Policies Entities us
      → (rs : List (Update P E)) × (plain_updates rs ≡ us) × AllByRecursion (IsUpdateRead Policies Entities) rs
  all_read [] h = ([], refl, tt)
  all_read (u ∷ us) h =
      let one = read_of u.0 u.1.count u.1.site u.1.body h.0 in
      let rest = all_read us h.1 in
      (one.0 ∷ rest.0, λ i. one.1.shown i ∷ rest.1 i, (one.1.is_read, rest.2))

  pub valid_read : (label bytes : List ℕ) (us : List PlainUpdate) → updates_stated label bytes ≡ Ok us → AreInRange us → AreValid Policies Entities us
      → (rs : List (Update P E)) × IsMessage Policies Entities label bytes rs × (plain_updates rs ≡ us)
  valid_read label bytes us e range h =
      let all = all_read us h in
      (all.0, record { stated = e ∙ ap (λ (l : List PlainUpdate). Ok l) (sym all.1); in_range = subst AreInRange (sym all.1) range; are_read = all.2 }, all.1)

  all_valid : (rs : List (Update P E)) → AllByRecursion (IsUpdateRead Policies Entities) rs → AreValid Policies Entities (plain_updates rs)
  all_valid [] h = tt
  all_valid (r ∷ rs) h = (readable Policies Entities r h.0, all_valid rs h.1)

  pub message_valid : (label bytes : List ℕ) (rs : List (Update P E)) → IsMessage Policies Entities label bytes rs → AreValid Policies Entities (plain_updates rs)
  message_valid label bytes rs h = all_valid rs h.are_read

module _ {P E : Type 0} (Policies : List ℕ → List ℕ → P → Type 0) (Entities : EntityUid → List ℕ → E → Type 0)
    (NoPolicies : List ℕ → List ℕ → BodyFault → Type 0) (NoEntities : EntityUid → List ℕ → BodyFault → Type 0)
    (policies : (id text : List ℕ) → HasAtMostOneOutcome (Policies id text) (NoPolicies id text))
    (entities : (uid : EntityUid) (text : List ℕ) → HasAtMostOneOutcome (Entities uid text) (NoEntities uid text)) where
  -- ---- one list of updates
  one_update : (r s : Update P E) → plain_update r ≡ plain_update s → IsUpdateRead Policies Entities r → IsUpdateRead Policies Entities s → r ≡ s
  one_update (Policy id e) (Policy other f) same h k =
      let names : policy_name id ≡ policy_name other = ap (λ (u : PlainUpdate). u.0) same in
      let ids : id ≡ other = cc in
      let counts : e.stamp.count ≡ f.stamp.count = ap (λ (u : PlainUpdate). u.1.count) same in
      let sites : e.stamp.site ≡ f.stamp.site = ap (λ (u : PlainUpdate). u.1.site) same in
      let texts : body_bytes e.body ≡ body_bytes f.body = ap (λ (u : PlainUpdate). u.1.body) same in
      let bodies = one_body (Policies other) (λ text. (policies other text).value) e.body f.body texts (subst (λ (x : List ℕ). IsBodyRead (Policies x) e.body) ids h) k in
      λ i. Policy (ids i) (record { stamp = record { count = counts i; site = sites i }; body = bodies i })
  one_update (Policy id e) (Entity uid f) same h k = let names : policy_name id ≡ entity_name uid = ap (λ (u : PlainUpdate). u.0) same in absurd (cc)
  one_update (Entity uid e) (Policy id f) same h k = let names : entity_name uid ≡ policy_name id = ap (λ (u : PlainUpdate). u.0) same in absurd (cc)
  one_update (Entity uid e) (Entity other f) same h k =
      let names : entity_name uid ≡ entity_name other = ap (λ (u : PlainUpdate). u.0) same in
      let uids : uid ≡ other = cc in
      let counts : e.stamp.count ≡ f.stamp.count = ap (λ (u : PlainUpdate). u.1.count) same in
      let sites : e.stamp.site ≡ f.stamp.site = ap (λ (u : PlainUpdate). u.1.site) same in
      let texts : body_bytes e.body ≡ body_bytes f.body = ap (λ (u : PlainUpdate). u.1.body) same in
      let bodies = one_body (Entities other) (λ text. (entities other text).value) e.body f.body texts (subst (λ (x : EntityUid). IsBodyRead (Entities x) e.body) uids h) k in
      λ i. Entity (uids i) (record { stamp = record { count = counts i; site = sites i }; body = bodies i })

  one_list : (rs ss : List (Update P E)) → plain_updates rs ≡ plain_updates ss → AllByRecursion (IsUpdateRead Policies Entities) rs → AllByRecursion (IsUpdateRead Policies Entities) ss → rs ≡ ss
  one_list [] [] same h k = refl
  one_list [] (s ∷ ss) same h k = absurd (cc)
  one_list (r ∷ rs) [] same h k = absurd (cc)
  one_list (r ∷ rs) (s ∷ ss) same h k =
      let first : plain_update r ≡ plain_update s = cc in
      let rest : plain_updates rs ≡ plain_updates ss = cc in
      let x = one_update r s first h.0 k.0 in
      let xs = one_list rs ss rest h.1 k.1 in
      λ i. x i ∷ xs i

  pub one_message : (label bytes : List ℕ) (rs ss : List (Update P E)) → IsMessage Policies Entities label bytes rs → IsMessage Policies Entities label bytes ss → rs ≡ ss
  one_message label bytes rs ss h k = one_list rs ss (done_is (plain_updates rs) (plain_updates ss) (sym h.stated ∙ k.stated)) h.are_read k.are_read

  -- ---- not both
  not_both : (n : Name) (b : Option (List ℕ)) (why : BodyFault) → IsReadable Policies Entities n b → IsUnreadable NoPolicies NoEntities n b why → ⊥
  not_both (name.Policy id) None why h k = k
  not_both (name.Policy id) (Some t) why h k = (policies id t).apart h.0 why h.1 k
  not_both (name.Entity uid) None why h k = k
  not_both (name.Entity uid) (Some t) why h k = (entities uid t).apart h.0 why h.1 k

  no_fault : Passes → (place : ℕ) (u : PlainUpdate) (why : MessageFault) → IsStamped (stamped u) → IsValid Policies Entities u → IsFaultAt NoPolicies NoEntities place u why → ⊥
  no_fault passes place u why h v k =
      let f = subst (λ (r : Result (Name × Stamp) MessageFault). MatchResult r (λ _. IsBodyFault NoPolicies NoEntities place u why) (λ first. why ≡ first)) (passes place (stamped u) h) k in
      not_both u.0 u.1.body f.within v f.unreadable

  no_first : Passes → (place : ℕ) (us : List PlainUpdate) (why : MessageFault) → AreInRange us → AreValid Policies Entities us → IsFirstFault Policies Entities NoPolicies NoEntities place us why → ⊥
  no_first passes place [] why h v k = k
  no_first passes place (u ∷ us) why h v (inl here) = no_fault passes place u why h.0 v.0 here
  no_first passes place (u ∷ us) why h v (inr k) = no_first passes (suc place) us why h.1 v.1 k.2

  pub never_both : Passes → (label bytes : List ℕ) (rs : List (Update P E)) (why : MessageFault) → IsMessage Policies Entities label bytes rs
      → IsMessageFault Policies Entities NoPolicies NoEntities label bytes why → ⊥
  never_both passes label bytes rs why h k =
      no_first passes 0 (plain_updates rs) why h.in_range (message_valid Policies Entities label bytes rs h)
      (subst (λ (r : Result (List PlainUpdate) MessageFault). MatchResult r (λ us. IsFirstFault Policies Entities NoPolicies NoEntities 0 us why) (λ first. why ≡ first)) h.stated k)

  -- ---- one fault
  one_within : (n : Name) (b : Option (List ℕ)) (f g : BodyFault) → IsUnreadable NoPolicies NoEntities n b f → IsUnreadable NoPolicies NoEntities n b g → f ≡ g
  one_within (name.Policy id) None f g h k = absurd h
  one_within (name.Policy id) (Some t) f g h k = (policies id t).fault f g h k
  one_within (name.Entity uid) None f g h k = absurd h
  one_within (name.Entity uid) (Some t) f g h k = (entities uid t).fault f g h k

  one_at : (place : ℕ) (u : PlainUpdate) (f g : MessageFault) (r : Result (Name × Stamp) MessageFault)
      → MatchResult r (λ _. IsBodyFault NoPolicies NoEntities place u f) (λ first. f ≡ first) → MatchResult r (λ _. IsBodyFault NoPolicies NoEntities place u g) (λ first. g ≡ first) → f ≡ g
  one_at place u f g (Ok v) h k = h.is ∙ ap (fault_at place) (one_within u.0 u.1.body h.within k.within h.unreadable k.unreadable) ∙ sym k.is
  one_at place u f g (Err e) h k = h ∙ sym k

  one_first : Passes → (place : ℕ) (us : List PlainUpdate) (f g : MessageFault) → IsFirstFault Policies Entities NoPolicies NoEntities place us f
      → IsFirstFault Policies Entities NoPolicies NoEntities place us g → f ≡ g
  one_first passes place [] f g h k = absurd h
  one_first passes place (u ∷ us) f g (inl h) (inl k) = one_at place u f g (checked_stamp place (stamped u)) h k
  one_first passes place (u ∷ us) f g (inl h) (inr k) = absurd (no_fault passes place u f k.0 k.1 h)
  one_first passes place (u ∷ us) f g (inr h) (inl k) = absurd (no_fault passes place u g h.0 h.1 k)
  one_first passes place (u ∷ us) f g (inr h) (inr k) = one_first passes (suc place) us f g h.2 k.2

  one_of : Passes → (f g : MessageFault) (r : Result (List PlainUpdate) MessageFault)
      → MatchResult r (λ us. IsFirstFault Policies Entities NoPolicies NoEntities 0 us f) (λ first. f ≡ first)
      → MatchResult r (λ us. IsFirstFault Policies Entities NoPolicies NoEntities 0 us g) (λ first. g ≡ first) → f ≡ g
  one_of passes f g (Ok us) h k = one_first passes 0 us f g h k
  one_of passes f g (Err e) h k = h ∙ sym k

  pub one_refusal : Passes → (label bytes : List ℕ) (f g : MessageFault) → IsMessageFault Policies Entities NoPolicies NoEntities label bytes f
      → IsMessageFault Policies Entities NoPolicies NoEntities label bytes g → f ≡ g
  one_refusal passes label bytes f g h k = one_of passes f g (updates_stated label bytes) h k

  -- ---- one or the other
  module _ (some_policy : (id text : List ℕ) → HasOutcome (Policies id text) (NoPolicies id text))
      (some_entity : (uid : EntityUid) (text : List ℕ) → HasOutcome (Entities uid text) (NoEntities uid text)) where
    abbrev Told : Name → Option (List ℕ) → Type 0
    Told n b = IsReadable Policies Entities n b ⊎ ((f : BodyFault) × IsUnreadable NoPolicies NoEntities n b f)

    told : (n : Name) (b : Option (List ℕ)) → Told n b
    told (name.Policy id) None = inl tt
    told (name.Policy id) (Some t) = some_policy id t
    told (name.Entity uid) None = inl tt
    told (name.Entity uid) (Some t) = some_entity uid t

    abbrev Outcome : ℕ → List PlainUpdate → Type 0
    Outcome place us = ((rs : List (Update P E)) × AreReadInRange Policies Entities place us rs) ⊎ ((why : MessageFault) × IsFirstFault Policies Entities NoPolicies NoEntities place us why)

    faulty : (place : ℕ) (u : PlainUpdate) (us : List PlainUpdate) (why : MessageFault) → IsFaultAt NoPolicies NoEntities place u why → Outcome place (u ∷ us)
    faulty place u us why h = inr (why, inl h)

    goes_on : Sound → (place : ℕ) (u : PlainUpdate) (us : List PlainUpdate) → IsStamped (stamped u) → checked_stamp place (stamped u) ≡ Ok (stamped u) → IsValid Policies Entities u
        → Outcome (suc place) us → Outcome place (u ∷ us)
    goes_on sound place u us range passed v (inl (rs, taken)) =
        let one = read_of Policies Entities u.0 u.1.count u.1.site u.1.body v in
        inl (one.0 ∷ rs, (record { passed = passed; taken = one.1 }, taken))
    goes_on sound place u us range passed v (inr (why, fault)) = inr (why, inr (range, v, fault))

    by_body : Sound → (place : ℕ) (u : PlainUpdate) (us : List PlainUpdate) → IsStamped (stamped u) → checked_stamp place (stamped u) ≡ Ok (stamped u) → Outcome (suc place) us
        → Told u.0 u.1.body → Outcome place (u ∷ us)
    by_body sound place u us range passed rest (inl v) = goes_on sound place u us range passed v rest
    by_body sound place u us range passed rest (inr (f, h)) =
        let here : IsBodyFault NoPolicies NoEntities place u (fault_at place f) = record { within = f; unreadable = h; is = refl } in
        faulty place u us (fault_at place f) (subst (λ (r : Result (Name × Stamp) MessageFault). MatchResult r (λ _. IsBodyFault NoPolicies NoEntities place u (fault_at place f)) (λ first. fault_at place f ≡ first)) (sym passed) here)

    by_stamp : Sound → (place : ℕ) (u : PlainUpdate) (us : List PlainUpdate) → AreFound (u ∷ us) → Outcome (suc place) us → (r : Result (Name × Stamp) MessageFault) → checked_stamp place (stamped u) ≡ r
        → Outcome place (u ∷ us)
    by_stamp sound place u us f rest (Ok v) e =
        let passed : checked_stamp place (stamped u) ≡ Ok (stamped u) = e ∙ ap (λ (x : Name × Stamp). Ok x) (sym (passed_same place (stamped u) v e)) in
        by_body sound place u us (sound place f.0.0 f.0.1 (stamped u) (stamped u) f.0.2 passed) passed rest (told u.0 u.1.body)
    by_stamp sound place u us f rest (Err why) e =
        faulty place u us why (subst (λ (r : Result (Name × Stamp) MessageFault). MatchResult r (λ _. IsBodyFault NoPolicies NoEntities place u why) (λ first. why ≡ first)) (sym e) refl)

    outcome : Sound → (place : ℕ) (us : List PlainUpdate) → AreFound us → Outcome place us
    outcome sound place [] f = inl ([], tt)
    outcome sound place (u ∷ us) f = by_stamp sound place u us f (outcome sound (suc place) us f.1) (checked_stamp place (stamped u)) refl

    abbrev MessageOutcome : List ℕ → List ℕ → Type 0
    MessageOutcome label bytes = ((us : List (Update P E)) × IsMessage Policies Entities label bytes us) ⊎ ((why : MessageFault) × IsMessageFault Policies Entities NoPolicies NoEntities label bytes why)

    of_updates : Sound → (label bytes : List ℕ) (us : List PlainUpdate) → updates_stated label bytes ≡ Ok us → Outcome 0 us → MessageOutcome label bytes
    of_updates sound label bytes us e (inl (rs, taken)) = inl (rs, is_message Policies Entities sound label bytes us rs e taken)
    of_updates sound label bytes us e (inr (why, fault)) =
        inr (why, subst (λ (r : Result (List PlainUpdate) MessageFault). MatchResult r (λ vs. IsFirstFault Policies Entities NoPolicies NoEntities 0 vs why) (λ first. why ≡ first)) (sym e) fault)

    of_bytes : Sound → (label bytes : List ℕ) (r : Result (List PlainUpdate) MessageFault) → updates_stated label bytes ≡ r → MessageOutcome label bytes
    of_bytes sound label bytes (Ok us) e = of_updates sound label bytes us e (outcome sound 0 us (stated_found label bytes us e))
    of_bytes sound label bytes (Err why) e =
        inr (why, subst (λ (r : Result (List PlainUpdate) MessageFault). MatchResult r (λ vs. IsFirstFault Policies Entities NoPolicies NoEntities 0 vs why) (λ first. why ≡ first)) (sym e) refl)

    pub some_outcome : Sound → (label bytes : List ℕ) → MessageOutcome label bytes
    some_outcome sound label bytes = of_bytes sound label bytes (updates_stated label bytes) refl

-- ---- a policy is never refused as of another name
stamp_fault : (place other : ℕ) (u : Name × Stamp) → checked_stamp place u ≡ Err (BodyOfOtherName other) → ⊥
unfolding checked_stamp
stamp_fault place other u e =
    elim (nat_le 1 u.1.count && nat_le u.1.count 1_000_000_000_000_000_000) as (λ b. (demand (CountRange place) b >>= λ counted. demand (BadEntry place bad_id) (is_name_in_range u.0) >>= λ named. done u) ≡ Err (BodyOfOtherName other) → ⊥) [
      | true ↦ name_fault place other u (is_name_in_range u.0)
      | false ↦ λ h. absurd (cc)
    ] e
  where
    name_fault : (k o : ℕ) (v : Name × Stamp) (b : Bool) → (demand (BadEntry k bad_id) b >>= λ named. done v) ≡ Err (BodyOfOtherName o) → ⊥
    name_fault k o v true h = absurd (cc)
    name_fault k o v false h = absurd (cc)

module _ (NoPolicies : List ℕ → List ℕ → BodyFault → Type 0) (NoEntities : EntityUid → List ℕ → BodyFault → Type 0)
    (named : (id text : List ℕ) → NoPolicies id text body.OtherName → ⊥) where
  no_other : (id : List ℕ) (b : Option (List ℕ)) → IsBodyRefused (NoPolicies id) b body.OtherName → ⊥
  no_other id None h = h
  no_other id (Some t) h = named id t h

  within_other : (place other : ℕ) (id : List ℕ) (b : Option (List ℕ)) (f : BodyFault) → IsBodyRefused (NoPolicies id) b f → BodyOfOtherName other ≡ fault_at place f → ⊥
  within_other place other id b body.NoMemory h e = absurd (cc)
  within_other place other id b (body.Refused n) h e = absurd (cc)
  within_other place other id b body.OtherName h e = no_other id b h

  by_judged : (place other : ℕ) (id : List ℕ) (e : PlainEntry) (r : Result (Name × Stamp) MessageFault) → checked_stamp place (stamped (policy_name id, e)) ≡ r
      → MatchResult r (λ _. IsBodyFault NoPolicies NoEntities place (policy_name id, e) (BodyOfOtherName other)) (λ first. BodyOfOtherName other ≡ first) → ⊥
  by_judged place other id e (Ok v) is h = within_other place other id e.body h.within h.unreadable h.is
  by_judged place other id e (Err first) is h = stamp_fault place other (stamped (policy_name id, e)) (is ∙ ap (λ (x : MessageFault). Err x) (sym h))

  pub never_other : (place other : ℕ) (id : List ℕ) (e : PlainEntry) → IsFaultAt NoPolicies NoEntities place (policy_name id, e) (BodyOfOtherName other) → ⊥
  never_other place other id e h = by_judged place other id e (checked_stamp place (stamped (policy_name id, e))) refl h
