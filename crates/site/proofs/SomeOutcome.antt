-- Each input of a site has an outcome if there is memory, over a store that a site may hold.
use Rattle.std.specs.Prelude.{◌≡◌, ◌↔◌, ◌<◌, ◌≤◌, ◌⊎◌, ◌++◌, ◌∷◌, [], ℕ, List, length, map, Bool, true, false, IsTrue}
use Rattle.std.specs.Prelude.{Contains, if◌then◌else◌}
use Rattle.std.specs.Prelude.{Option, Some, None, IsSome, option_and_then, option_map, Result, Ok, Err, refl}
use Rattle.std.specs.List.{AllZip, flat_map}
use Rattle.std.proofs.Common.{sym, ap, ◌∙◌, subst, arith, inl, inr}
use Rattle.std.proofs.lemmas.Bool.{cases_Bool, cases_lt}
use Rattle.std.specs.Str.{IsUtf8, is_utf8}
use Rattle.std.proofs.lemmas.Str.{IsUtf8-from_is_utf8, is_utf8-from_IsUtf8}
use Rattle.std.proofs.lemmas.List.Elements.{All-contains, All-from_recursion, Contains-append_left}
use Rattle.std.proofs.lemmas.List.Elements.{Contains-append_right}
use Rattle.std.specs.FinMap.{get}
use Rattle.std.specs.Ordering.{is_eq}
use Rattle.serde_json.specs.Data.{Data}
use Rattle.json_words.specs.Json.{json_of}
use Rattle.values.specs.declared.entity_uid.EntityUid.{EntityUid}
use Rattle.values.specs.declared.name.Name.{Name}
use Rattle.values.specs.declared.name.Name.TheVariants as name
use Rattle.values.specs.declared.request.Request.{Request}
use Rattle.values.specs.Names.{uid_cmp}
use Rattle.site_store.specs.policy_grammar.declared.policy.Policy.{Policy}
use Rattle.site_store.specs.policy_grammar.declared.fault.ReadFault.TheVariants.{BadId, BadToken, TooLong}
use Rattle.site_store.specs.policy_grammar.Limits.{IsId, most_policy_bytes}
use Rattle.site_meaning.specs.ancestor_search.Decided.{HaveAllParents, PathsAreDecided, reaches}
use Rattle.site_meaning.specs.ancestor_search.Deciding.{Contains-cases, Contains-here, Contains-none, Contains-there, same_uid}
use Rattle.site_meaning.specs.authoriser.declared.answer.Answer.{Answer}
use Rattle.site_meaning.specs.authoriser.Answers.{NamedPolicy}
use Rattle.site_store.specs.schema.Schemas.{StatedSchema, IsSchemaOf}
use Rattle.site_store.specs.entity_data.declared.entity.Entity.{Entity}
use Rattle.entities.specs.declared.fault.EntityFault.{EntityFault}
use Rattle.entities.specs.declared.fault.EntityFault.TheVariants.{BadShape}
use Rattle.entities.specs.Canonical.{canonical_text}
use Rattle.entities.specs.Laws.{RequestOrRefusal}
use Rattle.site_store.specs.entity_data.declared.data.EntityData.{EntityData}
use Rattle.site_store.specs.entity_data.Entities.{action_or, kept_parents}
use Rattle.sync_messages.specs.validator.Outcomes.{passes, refused as check_refused, IsCheckResult, PoliciesHaveOneOutcome}
use Rattle.sync_messages.specs.validator.Outcomes.{PassingIsNotRefused, CheckResult as CheckOutcome}
use Rattle.sync_messages.specs.validator.Passing.{Passes, IsImpossible}
use Rattle.site_store.specs.stamped_store.declared.entry.Stamp.{Stamp}
use Rattle.site_store.specs.stamped_store.Contents.{text_under, policy_text, entities_of}
use Rattle.site_store.specs.stamped_store.Deltas as deltas
use Rattle.site_store.specs.stamped_store.EntryOrder.{PlainEntry, entry_cmp}
use Rattle.site_store.specs.stamped_store.Greatest.{IsGreatestAt, greatest_count}
use Rattle.site_store.specs.stamped_store.Store.{Store, Update, IsStoreOf, updates, store_of, issue, issued, policy_name}
use Rattle.site_store.specs.stamped_store.Store.{entity_name}
use Rattle.site_meaning.specs.StoreMeaning.{ArePolicies, AreEntities, IsReadFrom, IsAnswerOver, MakesCycle, MakesNoCycle}
use Rattle.site_meaning.specs.StoreMeaning.{data_of, parents_with, entity_data_under}
use Rattle.entity_uids.specs.Uids.{uid_in}
use Rattle.sync_messages.specs.sync_format.declared.fault.MessageFault.{MessageFault}
use Rattle.sync_messages.specs.sync_format.Summaries.{summary_text, summary_stated, IsStamped}
use Rattle.sync_messages.specs.sync_format.declared.bodies.BodyFault.{BodyFault}
use Rattle.sync_messages.specs.sync_format.declared.update.Update.{Update as SentUpdate}
use Rattle.sync_messages.specs.sync_format.Messages.{state_text, delta_text}
use Rattle.sync_messages.specs.sync_format.Updates.{AreValid, IsReadable, IsValid, plain_updates, stamped}
use Rattle.sync_messages.specs.Laws.{PoliciesHaveOneReading}
use Rattle.sync_messages.specs.Texts.{RefusesPolicy, entity_of_text, no_policy as text_of_none}
use Rattle.sync_messages.specs.Texts.{not_passing as text_of_failing}
use Rattle.site.specs.declared.fault.SiteFault.{SiteFault}
use Rattle.site.specs.declared.fault.SiteFault.TheVariants as fault
use Rattle.site.specs.declared.outcome.Taken as taking
use Rattle.site.specs.declared.outcome.Taken.TheVariants.{All}
use Rattle.site.specs.Admitted.{IsPolicyUnder, IsEntityUnder, IsPolicyId, IsAdmitted, bad_id, too_long, no_text}
use Rattle.site.specs.Admitted.{no_policy, not_passing, entity_stated}
use Rattle.site.specs.Readings.{parsed}
use Rattle.site.specs.SiteViews.{IsValidStore}
use Rattle.site.specs.Steps.{most_count, Records, IsClockFull, PutsPolicy, PutsEntity, Deletes, DeletesPolicy}
use Rattle.site.specs.Steps.{DeletesEntity, Answers, policy_found}
use Rattle.site.specs.Inputs.{Input}
use Rattle.site.specs.Inputs as input
use Rattle.site.specs.declared.reply.Found.{Found}
use Rattle.site.specs.declared.reply.Reply.{Reply}
use Rattle.site.specs.declared.reply.Reply.TheVariants as reply
use Rattle.sync_messages.specs.Messages.{IsMessageOf, IsMessageFaultOf}
use Rattle.site.specs.Runs.{TakesMessage, Finds, WritesDelta}
use Rattle.site.specs.Outcomes.{ReportsNoFailedAllocation, ReportsNoFailedAllocationForAll, IsOutcome}

-- a result that a command may have, and the store after it
abbrev Has : {A : Type 0} → (Result A SiteFault → Store → Type 0) → Type 0
Has {A} HasOutcome = (x : Result A SiteFault) × (t : Store) × HasOutcome x t × ReportsNoFailedAllocation x

-- ---- the clock

below_or_at : (g m : ℕ) → g ≤ m → (g < m) ⊎ (g ≡ m)
below_or_at g m h = elim (cases_lt g m) [
  | inl less ↦ inl less
  | inr more ↦ inr (omega arith)
]

stamped_or_full : (n : List ℕ) (s : Store) (q : Name) (body : Option (List ℕ)) → greatest_count s ≤ most_count
    → ((stamp : Stamp) × (t : Store) × Records n s q body stamp t) ⊎ IsClockFull s s
stamped_or_full n s q body h = elim (below_or_at (greatest_count s) most_count h) [
  | inl less ↦ inl (
    issue s n,
    store_of (updates s ++ (q, issued (issue s n) body) ∷ []),
    record { clock = less; next = refl; store = refl },
  )
  | inr full ↦ inr (full, refl)
]

-- ---- policies

sized_or_not : (id : List ℕ) → IsId id ⊎ (IsId id → ⊥)
sized_or_not id = elim (cases_lt (length id) 1) [
  | inl short ↦ inr (λ h. absurd (omega arith))
  | inr some ↦ elim (cases_lt 256 (length id)) [
    | inl long ↦ inr (λ h. absurd (omega arith))
    | inr fits ↦ inl (some, fits)
  ]
]

utf8_or_not : (bytes : List ℕ) → IsUtf8 bytes ⊎ (IsUtf8 bytes → ⊥)
utf8_or_not bytes = elim (cases_Bool (is_utf8 bytes)) [
  | inl is ↦ inl (IsUtf8-from_is_utf8 bytes is)
  | inr other ↦ inr (λ h. let is = is_utf8-from_IsUtf8 bytes h in absurd (cc))
]

id_or_not : (id : List ℕ) → IsPolicyId id ⊎ (IsPolicyId id → ⊥)
id_or_not id = elim (utf8_or_not id) [
  | inl utf8 ↦ elim (sized_or_not id) [
    | inl sized ↦ inl (record { utf8 = utf8; sized = sized })
    | inr other ↦ inr (λ h. other h.sized)
  ]
  | inr other ↦ inr (λ h. other h.utf8)
]

module _ (schema : StatedSchema) (checks : PoliciesHaveOneOutcome) (apart : PassingIsNotRefused)
    (texts : PoliciesHaveOneReading) (n : List ℕ) (s : Store) (room : greatest_count s ≤ most_count) (id text : List ℕ) where
  verdict_by : (p : Policy) → Passes schema p → (o : CheckOutcome) → IsCheckResult schema p o
      → (b : Bool) × (IsTrue b ↔ IsImpossible schema p)
  verdict_by p h (passes b) k = (b, k.impossible)
  verdict_by p h (check_refused f) k = absurd (apart schema p f h k)

  admitted_policy : (p : Policy) → IsAdmitted schema id text p → Has (PutsPolicy schema n s id text)
  admitted_policy p h =
      let o = checks schema p in
      let told = verdict_by p h.reads.passes o.0 o.1 in
      elim (stamped_or_full n s (policy_name id) (Some text) room) [
        | inl put ↦ (Ok (record { stamp = put.0; impossible = told.0 }), put.1, (p, h, told.1, put.2), tt)
        | inr full ↦ (Err fault.ClockFull, s, ((p, h), full), tt)
      ]

  refused_policy : (f : BodyFault) → IsPolicyId id → IsUtf8 text → RefusesPolicy schema text f
      → Has (PutsPolicy schema n s id text)
  refused_policy _ named utf8 (text_of_none f h) = (Err (fault.Policy f), s, (no_policy f named utf8 h, refl), tt)
  refused_policy _ named utf8 (text_of_failing p f is h) =
      (Err (fault.Check f), s, (not_passing p f named utf8 is h, refl), tt)

  text_policy : IsPolicyId id → IsUtf8 text → Has (PutsPolicy schema n s id text)
  text_policy named utf8 = elim (texts schema text).1 [
    | inl read ↦ admitted_policy read.0 (record { named = named; utf8 = utf8; reads = read.1 })
    | inr none ↦ refused_policy none.0 named utf8 none.1
  ]

  not_text_policy : IsPolicyId id → (IsUtf8 text → ⊥) → Has (PutsPolicy schema n s id text)
  not_text_policy named other = elim (cases_lt most_policy_bytes (length text)) [
    | inl long ↦ (Err (fault.Policy TooLong), s, (too_long named long, refl), tt)
    | inr fits ↦ (Err (fault.Policy (BadToken 0)), s, (no_text named fits other, refl), tt)
  ]

  some_policy : Has (PutsPolicy schema n s id text)
  some_policy = elim (id_or_not id) [
    | inl named ↦ elim (utf8_or_not text) [
      | inl utf8 ↦ text_policy named utf8
      | inr other ↦ not_text_policy named other
    ]
    | inr unnamed ↦ (Err (fault.Policy BadId), s, (bad_id unnamed, refl), tt)
  ]

-- ---- names that are taken away

module _ (n : List ℕ) (s : Store) (room : greatest_count s ≤ most_count) (q : Name) where
  delete_by : (o : Option (List ℕ)) → text_under s q ≡ o → Has (Deletes n s q)
  delete_by None is = (Err fault.NotThere, s, (is, refl), tt)
  delete_by (Some text) is =
      let there : IsSome (text_under s q) = subst (λ (o : Option (List ℕ)). IsSome o) (sym is) refl in
      elim (stamped_or_full n s q None room) [
        | inl put ↦ (Ok put.0, put.1, (there, put.2), tt)
        | inr full ↦ (Err fault.ClockFull, s, (there, full), tt)
      ]

  some_delete : Has (Deletes n s q)
  some_delete = delete_by (text_under s q) refl

module _ (schema : StatedSchema) (n : List ℕ) (s : Store) (room : greatest_count s ≤ most_count) where
  policy_deleted : (id : List ℕ) → IsUtf8 id → Has (Deletes n s (policy_name id)) → Has (DeletesPolicy n s id)
  policy_deleted id utf8 (Err fault.NoMemory, t, h, m) = absurd m
  policy_deleted id utf8 (Err (fault.Policy f), t, h, m) = absurd h
  policy_deleted id utf8 (x, t, h, m) = (x, t, (utf8, h), m)

  some_policy_delete : (id : List ℕ) → Has (DeletesPolicy n s id)
  some_policy_delete id = elim (utf8_or_not id) [
    | inl utf8 ↦ policy_deleted id utf8 (some_delete n s room (policy_name id))
    | inr other ↦ (Err (fault.Policy BadId), s, (refl, other, refl), tt)
  ]

  entity_deleted : (json : Option Data) (uid : EntityUid) → option_and_then uid_in json ≡ Some uid
      → Has (Deletes n s (entity_name uid)) → Has (DeletesEntity (parsed schema) n s json)
  entity_deleted json uid is (Err fault.NoMemory, t, h, m) = absurd m
  entity_deleted json uid is (Err (fault.Entity f), t, h, m) = absurd h
  entity_deleted json uid is (x, t, h, m) = (x, t, (uid, is, h), m)

  entity_delete_by : (json : Option Data) (o : Option EntityUid) → option_and_then uid_in json ≡ o
      → Has (DeletesEntity (parsed schema) n s json)
  entity_delete_by json None is = (Err (fault.Entity BadShape), s, (refl, is, refl), tt)
  entity_delete_by json (Some uid) is = entity_deleted json uid is (some_delete n s room (entity_name uid))

  some_entity_delete : (json : Option Data) → Has (DeletesEntity (parsed schema) n s json)
  some_entity_delete json = entity_delete_by json (option_and_then uid_in json) refl

-- ---- what a store says

-- by the theorems about stores
pub record LawsOfStores : Type 0 where
  pub greatest : (us : List Update) → IsStoreOf us (store_of us)
  pub own : (s : Store) → store_of (updates s) ≡ s
  pub reached : (s : Store) → (greatest_count s ≡ 0)
      ⊎ ((u : Update) × Contains (updates s) u × (u.1.count ≡ greatest_count s))
  pub entities : (s : Store) (uid : EntityUid) (text : List ℕ) → Contains (entities_of s) (uid, text)
      ↔ (text_under s (entity_name uid) ≡ Some text)

module _ (stores : LawsOfStores) (schema : StatedSchema) (s : Store) (held : IsValidStore schema s) where
  -- its greatest count is in the range of stamps
  room_in : greatest_count s ≤ most_count
  room_in = elim (stores.reached s) [
    | inl none ↦ subst (λ (n : ℕ). n ≤ most_count) (sym none) (omega arith)
    | inr found ↦ subst (λ (n : ℕ). n ≤ most_count) found.2
        (All-contains (λ (u : Update). IsStamped (stamped u)) (updates s) found.0
        (All-from_recursion (λ (u : Update). IsStamped (stamped u)) (updates s) held.in_range) found.1).bounded
  ]

  -- each of its policies
  with_policy : (q : Name) (b : Option (List ℕ)) (ts : List (List ℕ × List ℕ))
      → IsReadable (IsPolicyUnder schema) (IsEntityUnder schema) q b
      → (ps : List NamedPolicy) × AllZip (λ t p. (p.id ≡ t.0) × IsPolicyUnder schema t.0 t.1 p.policy) ts ps
      → (ps : List NamedPolicy) × AllZip (λ t p. (p.id ≡ t.0) × IsPolicyUnder schema t.0 t.1 p.policy) (policy_text q b ++ ts) ps
  with_policy (name.Policy id) (Some text) ts h rest = (record { id = id; policy = h.0 } ∷ rest.0, ((refl, h.1), rest.1))
  with_policy (name.Policy id) None ts h rest = rest
  with_policy (name.Entity uid) b ts h rest = rest

  policies_in : (us : List Update) → AreValid (IsPolicyUnder schema) (IsEntityUnder schema) us
      → (ps : List NamedPolicy) × AllZip (λ t p. (p.id ≡ t.0) × IsPolicyUnder schema t.0 t.1 p.policy)
      (flat_map (λ (u : Update). policy_text u.0 u.1.body) us) ps
  policies_in [] h = ([], tt)
  policies_in (u ∷ us) h =
      with_policy u.0 u.1.body (flat_map (λ (v : Update). policy_text v.0 v.1.body) us) h.0 (policies_in us h.1)

  some_policies : (ps : List NamedPolicy) × ArePolicies (IsPolicyUnder schema) s ps
  some_policies = policies_in (updates s) held.valid

  -- and of its entities
  update_of : (q : Name) (e : PlainEntry) → get s q ≡ Some e → Contains (updates s) (q, e)
  update_of q e is = (subst (λ (a : Option PlainEntry). IsGreatestAt entry_cmp (updates s) q a)
      (ap (λ (m : Store). get m q) (stores.own s) ∙ is) (stores.greatest (updates s) q)).0

  body_by : (q : Name) (text : List ℕ) (a : Option PlainEntry) → get s q ≡ a
      → option_and_then (λ (e : PlainEntry). e.body) a ≡ Some text
      → IsReadable (IsPolicyUnder schema) (IsEntityUnder schema) q (Some text)
  body_by q text None is h = absurd cc
  body_by q text (Some e) is h = subst (λ (b : Option (List ℕ)). IsReadable (IsPolicyUnder schema) (IsEntityUnder schema) q b) h
      (All-contains (IsValid (IsPolicyUnder schema) (IsEntityUnder schema)) (updates s) (q, e)
      (All-from_recursion (IsValid (IsPolicyUnder schema) (IsEntityUnder schema)) (updates s) held.valid) (update_of q e is))

  value_in : Result Entity BodyFault → Option Entity
  value_in (Ok e) = Some e
  value_in (Err f) = None

  entity_from : EntityUid → Option (List ℕ) → Option Entity
  entity_from uid None = None
  entity_from uid (Some text) = value_in (entity_of_text schema uid text)

  entity_read : (uid : EntityUid) (b : Option (List ℕ)) → text_under s (entity_name uid) ≡ b
      → IsReadFrom (IsEntityUnder schema uid) b (entity_from uid b)
  unfolding entity_from value_in
  entity_read uid None is = tt
  entity_read uid (Some text) is =
      let read = body_by (entity_name uid) text (get s (entity_name uid)) refl is in
      subst (λ (x : Result Entity BodyFault). IsReadFrom (IsEntityUnder schema uid) (Some text) (value_in x)) (sym read.1) read.1

  entities_held : EntityUid → Option Entity
  entities_held uid = entity_from uid (text_under s (entity_name uid))

  are_entities : AreEntities (IsEntityUnder schema) s entities_held
  unfolding entities_held
  are_entities uid = entity_read uid (text_under s (entity_name uid)) refl

  -- ---- cycles

  firsts : List (EntityUid × List ℕ) → List EntityUid
  firsts ts = map (λ (t : EntityUid × List ℕ). t.0) ts

  first_in : (ts : List (EntityUid × List ℕ)) (t : EntityUid × List ℕ) → Contains ts t → Contains (firsts ts) t.0
  unfolding firsts
  first_in [] t m = Contains-none t m
  first_in (u ∷ ts) t m = elim (Contains-cases u ts t m) [
    | inl same ↦ subst (λ (x : EntityUid × List ℕ). Contains (firsts (u ∷ ts)) x.0) same (Contains-here u.0 (firsts ts))
    | inr later ↦ Contains-there u.0 (firsts ts) t.0 (first_in ts t later)
  ]

  text_there : (Reads : List ℕ → Entity → Type 0) (b : Option (List ℕ)) (o : Option Entity) (a : EntityUid)
      → IsReadFrom Reads b o → Contains (kept_parents (option_map data_of o)) a → (text : List ℕ) × (b ≡ Some text)
  text_there Reads None None a h m = Contains-none a m
  text_there Reads None (Some e) a h m = absurd h
  text_there Reads (Some text) o a h m = (text, refl)

  parent_of : (actions : Option (List EntityUid)) (o : Option EntityData) (a : EntityUid) {G : Type 0}
      → Contains (kept_parents (action_or actions o)) a → ((us : List EntityUid) → actions ≡ Some us → G)
      → (Contains (kept_parents o) a → G) → G
  parent_of None o a h f g = g h
  parent_of (Some us) o a h f g = f us refl

  module _ (bytes : List ℕ) (is_schema : IsSchemaOf bytes schema) where
    held_uids : List EntityUid
    held_uids = firsts (entities_of s) ++ schema.actions

    held_parents : HaveAllParents (entity_data_under schema entities_held).parents held_uids
    unfolding held_uids
    held_parents b a h = parent_of (schema.member_of b) (option_map data_of (entities_held b)) a h
        (λ us is. Contains-append_right (firsts (entities_of s)) schema.actions b
        ((is_schema.answers.actions b).1 (is_schema.answers.member_of b us is).0))
        (λ m.
        let found = text_there (IsEntityUnder schema b) (text_under s (entity_name b)) (entities_held b) a (are_entities b) m in
        Contains-append_left (firsts (entities_of s)) schema.actions b
        (first_in (entities_of s) (b, found.0) ((stores.entities s b found.0).1 found.1)))

    module _ (e : Entity) where
      put_parents_by : (b a : EntityUid) (t : Bool) → is_eq (uid_cmp e.uid b) ≡ t
          → Contains (if t then e.parents else (entity_data_under schema entities_held).parents b) a
          → Contains (e.uid ∷ held_uids) b
      put_parents_by b a true is m =
          subst (λ (x : EntityUid). Contains (e.uid ∷ held_uids) x) (same_uid e.uid b is) (Contains-here e.uid held_uids)
      put_parents_by b a false is m = Contains-there e.uid held_uids b (held_parents b a m)

      put_parents : HaveAllParents (parents_with schema entities_held e) (e.uid ∷ held_uids)
      put_parents b a m = put_parents_by b a (is_eq (uid_cmp e.uid b)) refl m

      cycle_by : PathsAreDecided → (t : Bool) → reaches (parents_with schema entities_held e) (e.uid ∷ held_uids) e.uid e.uid ≡ t
          → MakesCycle (IsEntityUnder schema) schema s e ⊎ MakesNoCycle (IsEntityUnder schema) schema s e
      cycle_by paths true is = inl (record {
        entities = entities_held;
        are_entities = are_entities;
        cycle = (paths (parents_with schema entities_held e) (e.uid ∷ held_uids) put_parents e.uid e.uid).0 is;
      })
      cycle_by paths false is = inr (record {
        entities = entities_held;
        are_entities = are_entities;
        none = λ on.
            let both : true ≡ false =
            sym ((paths (parents_with schema entities_held e) (e.uid ∷ held_uids) put_parents e.uid e.uid).1 on) ∙ is in
            absurd cc;
      })

    -- ---- entities

    entity_by : PathsAreDecided → (n : List ℕ) (json : Option Data) (r : Result Entity EntityFault) → entity_stated schema json ≡ r
        → Has (PutsEntity (parsed schema) n s json)
    entity_by paths n json (Err f) is = (Err (fault.Entity f), s, (is, refl), tt)
    entity_by paths n json (Ok e) is = elim (cycle_by e paths (reaches (parents_with schema entities_held e) (e.uid ∷ held_uids) e.uid e.uid) refl) [
      | inl on ↦ (Err fault.WouldCycle, s, ((e, is, on), refl), tt)
      | inr off ↦ elim (stamped_or_full n s (entity_name e.uid) (Some (canonical_text e)) room_in) [
        | inl put ↦ (Ok put.0, put.1, (e, is, off, put.2), tt)
        | inr full ↦ (Err fault.ClockFull, s, ((e, is, off), full), tt)
      ]
    ]

-- ---- messages, requests and look-ups

abbrev pub ReadsOrRefuses : StatedSchema → List ℕ → Type 0
ReadsOrRefuses schema bytes = ((us : List (SentUpdate Policy Entity)) × IsMessageOf schema bytes us)
    ⊎ ((f : MessageFault) × IsMessageFaultOf schema bytes f)

some_take : (schema : StatedSchema) (s : Store) (bytes : List ℕ) → ReadsOrRefuses schema bytes
    → (x : Result taking.Taken SiteFault) × (t : Store) × TakesMessage (parsed schema) s bytes x t × ReportsNoFailedAllocationForAll x
some_take schema s bytes o = elim o [
  | inl m ↦ (Ok (All (length (plain_updates m.0))), store_of (updates s ++ plain_updates m.0), (m.0, m.1, (refl, refl)), tt)
  | inr f ↦ (Err (fault.Message f.0), s, (f.1, refl), tt)
]

abbrev AnswersAll : StatedSchema → Store → Type 0
AnswersAll schema s = (q : Request)
    → (a : Answer) × IsAnswerOver (IsPolicyUnder schema) (IsEntityUnder schema) schema s q a

some_answer : (schema : StatedSchema) (s : Store) → RequestOrRefusal → AnswersAll schema s → (json : Option Data)
    → (x : Result Answer SiteFault) × Answers (parsed schema) s json x × ReportsNoFailedAllocation x
some_answer schema s asks answers None = (Err (fault.Request BadShape), refl, tt)
some_answer schema s asks answers (Some d) = elim (asks schema d) [
  | inl asked ↦ let a = answers asked.0 in (Ok a.0, (asked.0, asked.1, a.1), tt)
  | inr none ↦ (Err (fault.Request none.0), none.1, tt)
]

found_of : Option (List ℕ × Stamp) → Option Found
found_of None = None
found_of (Some p) = Some (record { text = p.0; stamp = p.1 })

found_is : (o : Option (List ℕ × Stamp)) → option_map (λ (f : Found). (f.text, f.stamp)) (found_of o) ≡ o
unfolding found_of
found_is None = refl
found_is (Some p) = refl

some_found : (s : Store) (id : List ℕ)
    → (x : Result (Option Found) SiteFault) × Finds s id x × ReportsNoFailedAllocation x
some_found s id = elim (utf8_or_not id) [
  | inl utf8 ↦ (Ok (found_of (policy_found s id)), (utf8, found_is (policy_found s id)), tt)
  | inr other ↦ (Err (fault.Policy BadId), (refl, other), tt)
]

delta_by : (schema : StatedSchema) (s : Store) (bytes : List ℕ) (r : Result deltas.Summary MessageFault)
    → summary_stated schema.label bytes ≡ r
    → (x : Result (List ℕ) SiteFault) × WritesDelta (parsed schema) s bytes x × ReportsNoFailedAllocation x
delta_by schema s bytes (Ok m) is = (Ok (delta_text schema.label (deltas.delta s m)), (m, is, refl), tt)
delta_by schema s bytes (Err f) is = (Err (fault.Message f), is, tt)

-- ---- a step

-- by the theorems about a site's callees
pub record LawsOfSome (schema : StatedSchema) : Type 0 where
  pub checks : PoliciesHaveOneOutcome
  pub apart : PassingIsNotRefused
  pub texts : PoliciesHaveOneReading
  pub stores : LawsOfStores
  pub bytes : List ℕ
  pub is_schema : IsSchemaOf bytes schema
  pub paths : PathsAreDecided
  pub messages : (bytes : List ℕ) → ReadsOrRefuses schema bytes
  pub asks : RequestOrRefusal
  pub answers : (s : Store) (ps : List NamedPolicy) (es : EntityUid → Option Entity) (q : Request)
      → ArePolicies (IsPolicyUnder schema) s ps → AreEntities (IsEntityUnder schema) s es
      → (a : Answer) × IsAnswerOver (IsPolicyUnder schema) (IsEntityUnder schema) schema s q a

abbrev HasOutcome : StatedSchema → List ℕ → Store → Input → Type 0
HasOutcome schema n s i = (r : Reply) × (t : Store) × IsOutcome schema n s i r t

pub some_step : (schema : StatedSchema) → LawsOfSome schema → (n : List ℕ) (s : Store) (i : Input) → IsValidStore schema s
    → HasOutcome schema n s i
some_step schema law n s (input.PutPolicy id text) held =
    let a = some_policy schema law.checks law.apart law.texts n s (room_in law.stores schema s held) id text in
    (reply.Put a.0, a.1, record { step = a.2; whole = a.3 })
some_step schema law n s (input.DeletePolicy id) held =
    let a = some_policy_delete schema n s (room_in law.stores schema s held) id in
    (reply.Stamped a.0, a.1, record { step = a.2; whole = a.3 })
some_step schema law n s (input.PutEntity bytes) held =
    let a = entity_by law.stores schema s held law.bytes law.is_schema law.paths n (json_of bytes)
    (entity_stated schema (json_of bytes)) refl in
    (reply.Stamped a.0, a.1, record { step = a.2; whole = a.3 })
some_step schema law n s (input.DeleteEntity bytes) held =
    let a = some_entity_delete schema n s (room_in law.stores schema s held) (json_of bytes) in
    (reply.Stamped a.0, a.1, record { step = a.2; whole = a.3 })
some_step schema law n s (input.Take bytes) held =
    let a = some_take schema s bytes (law.messages bytes) in
    (reply.Taken a.0, a.1, record { step = a.2; whole = a.3 })
some_step schema law n s (input.Authorize bytes) held =
    let policies = some_policies law.stores schema s held in
    let a = some_answer schema s law.asks (λ q. law.answers s policies.0 (entities_held law.stores schema s held) q policies.1
    (are_entities law.stores schema s held)) (json_of bytes) in
    (reply.Answered a.0, s, record { step = (a.1, refl); whole = a.2 })
some_step schema law n s (input.GetPolicy id) held =
    let a = some_found s id in
    (reply.Found a.0, s, record { step = (a.1, refl); whole = a.2 })
some_step schema law n s input.State held =
    (reply.Written (Ok (state_text schema.label s)), s, record { step = (refl, refl); whole = tt })
some_step schema law n s input.Summary held =
    (reply.Written (Ok (summary_text schema.label (deltas.summary_of s))), s, record { step = (refl, refl); whole = tt })
some_step schema law n s (input.Delta bytes) held =
    let a = delta_by schema s bytes (summary_stated schema.label bytes) refl in
    (reply.Written a.0, s, record { step = (a.1, refl); whole = a.2 })
