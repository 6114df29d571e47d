-- The store after a command, by cases of its result.
use Rattle.std.specs.Prelude.{◌≡◌, ◌++◌, ◌∷◌, [], ℕ, List, Bool, true, false, Option, Some, None, IsSome, is_some}
use Rattle.std.specs.Prelude.{⊤, Result, Ok, Err, OnOk, OnErr, IfOk, MatchResult}
use Rattle.std.proofs.Common.{sym, ap, ◌∙◌, subst, refl}
use Rattle.std.specs.FinMap.{get}
use Rattle.serde_json.specs.Data.{Data}
use Rattle.values.specs.declared.entity_uid.EntityUid.{EntityUid}
use Rattle.values.specs.declared.name.Name.{Name}
use Rattle.site_store.specs.policy_grammar.declared.policy.Policy.{Policy}
use Rattle.site_store.specs.schema.Schemas.{StatedSchema}
use Rattle.site_store.specs.entity_data.declared.entity.Entity.{Entity}
use Rattle.entities.specs.Canonical.{canonical_text}
use Rattle.site_store.specs.stamped_store.declared.entry.ReadText.{ReadText}
use Rattle.site_store.specs.stamped_store.declared.entry.Stamp.{Stamp}
use Rattle.site_store.specs.stamped_store.Contents.{text_under}
use Rattle.site_store.specs.stamped_store.Store.{Store, Update, StoreEntries, updates, store_of, issue, issued}
use Rattle.site_store.specs.stamped_store.Store.{policy_name, entity_name}
use Rattle.site_store.specs.stamped_store.Store.{KeepsOtherNames, abstract_store}
use Rattle.sync_messages.specs.sync_format.Summaries.{IsStamped}
use Rattle.sync_messages.specs.sync_format.Updates.{AreInRange, stamped}
use Rattle.site_meaning.specs.StoreMeaning.{MakesCycle, MakesNoCycle}
use Rattle.site.specs.declared.fault.SiteFault.{SiteFault}
use Rattle.site.specs.declared.fault.SiteFault.TheVariants as fault
use Rattle.site.specs.Admitted.{IsEntityUnder, IsNotAdmitted, bad_id, too_long, no_text, no_policy, not_passing}
use Rattle.site.specs.Admitted.{entity_stated}
use Rattle.site.specs.Readings.{parsed}
use Rattle.site.specs.SiteViews.{IsHeld, IsSite}
use Rattle.site.specs.Steps.{Records, PutsPolicy, PutsEntity, Deletes}
use Rattle.site.specs.Admitted.{IsStatedBy, IsNoEntityFault}
use Rattle.site.specs.inner.Recording.{RecordsOr, PutsUnless, IsNext, put_result, IsCheckedPolicy}
use Rattle.plain.specs.AllocationErrors.{OrNoMemory}

-- ---- what is always true of a site, after a call that may have found no memory
pub site_after : {A B : Type 0} → (schema : StatedSchema) (name : List ℕ) (k l t : StoreEntries Policy Entity) (u : Update)
    (r : Result A B) → OnOk r (t ≡ l) → OnOk r (abstract_store t ≡ store_of (updates (abstract_store k) ++ u ∷ []))
    → OnErr r (t ≡ k) → IsSite schema name k → IsHeld schema l
    → ((m n : Store) (v : Update) → AreInRange (updates m) → IsStamped (stamped v)
    → n ≡ store_of (updates m ++ v ∷ []) → AreInRange (updates n))
    → IsStamped (stamped u) → IsSite schema name t
site_after schema name k l t u (Ok a) e stored f old new stay in_range = record {
  held = subst (IsHeld schema) (sym e) new;
  in_range = stay (abstract_store k) (abstract_store t) u old.in_range in_range stored;
  named = old.named;
}
site_after schema name k l t u (Err b) e stored f old new stay in_range = subst (IsSite schema name) (sym f) old

pub others_after : {A B : Type 0} → (name : Name) (s t : Store) (r : Result A B) → OnOk r (KeepsOtherNames name s t)
    → OnErr r (t ≡ s) → KeepsOtherNames name s t
others_after name s t (Ok a) e f = e
others_after name s t (Err b) e f = λ q apart. ap (λ (m : Store). get m q) f

-- ---- what is recorded
pub recorded : {E : Type 0} → (n : List ℕ) (s : Store) (name : Name) (body : Option (List ℕ)) (stamp : Stamp)
    (taken : Result ⊤ E) (r : Result Stamp SiteFault) (t : Store) → IsNext n s (Some stamp)
    → OnOk taken (t ≡ store_of (updates s ++ (name, issued stamp body) ∷ [])) → OnErr taken (t ≡ s)
    → MatchResult taken (λ _. r ≡ Ok stamp) (λ _. r ≡ Err fault.NoMemory) → RecordsOr n s name body r t
recorded n s name body stamp (Ok x) r t next ok err is =
    subst (λ q. RecordsOr n s name body q t) (sym is) (record { clock = next.0; next = next.1; store = ok })
recorded n s name body stamp (Err x) r t next ok err is = subst (λ q. RecordsOr n s name body q t) (sym is) err

pub clock_full : (n : List ℕ) (s : Store) (name : Name) (body : Option (List ℕ)) (r : Result Stamp SiteFault) (t : Store)
    → IsNext n s None → t ≡ s → r ≡ Err fault.ClockFull → RecordsOr n s name body r t
clock_full n s name body r t full same is = subst (λ q. RecordsOr n s name body q t) (sym is) (full, same)

pub stands : ((s : Store) (name : Name) (n : List ℕ) (body : Option (List ℕ))
    → get (store_of (updates s ++ (name, issued (issue s n) body) ∷ [])) name ≡ Some (issued (issue s n) body))
    → (n : List ℕ) (s : Store) (name : Name) (body : Option (List ℕ)) (r : Result Stamp SiteFault) (t : Store)
    → RecordsOr n s name body r t → IfOk r (λ stamp. get t name ≡ Some (issued stamp body))
stands law n s name body (Ok stamp) t h =
    ap (λ (m : Store). get m name) h.store
    ∙ subst (λ (x : Stamp). get (store_of (updates s ++ (name, issued x body) ∷ [])) name ≡ Some (issued x body))
    (sym h.next) (law s name n body)
stands law n s name body (Err f) t h = tt

-- ---- a policy is put
pub puts_policy : (schema : StatedSchema) (n : List ℕ) (s : Store) (id text : List ℕ) (b : ReadText Policy) (impossible : Bool)
    (r : Result Stamp SiteFault) (t : Store) → IsCheckedPolicy schema id text b impossible
    → RecordsOr n s (policy_name id) (Some b.text) r t → PutsPolicy schema n s id text (put_result impossible r) t
puts_policy schema n s id text b impossible (Ok stamp) t j h = (
  b.read,
  j.admitted,
  j.told,
  subst (λ (x : List ℕ). Records n s (policy_name id) (Some x) stamp t) j.same h,
)
puts_policy schema n s id text b impossible (Err fault.NoMemory) t j h = h
puts_policy schema n s id text b impossible (Err (fault.Policy f)) t j h = absurd h
puts_policy schema n s id text b impossible (Err (fault.Check f)) t j h = absurd h
puts_policy schema n s id text b impossible (Err (fault.Entity f)) t j h = absurd h
puts_policy schema n s id text b impossible (Err (fault.Message f)) t j h = absurd h
puts_policy schema n s id text b impossible (Err fault.NotThere) t j h = absurd h
puts_policy schema n s id text b impossible (Err fault.WouldCycle) t j h = absurd h
puts_policy schema n s id text b impossible (Err fault.ClockFull) t j h = ((b.read, j.admitted), h)
puts_policy schema n s id text b impossible (Err (fault.Request f)) t j h = absurd h

none_clock_full : (schema : StatedSchema) (id text : List ℕ) (f : SiteFault) → IsNotAdmitted schema id text f
    → f ≡ fault.ClockFull → ⊥
none_clock_full schema id text _ (bad_id named) e = absurd (cc)
none_clock_full schema id text _ (too_long named long) e = absurd (cc)
none_clock_full schema id text _ (no_text named fits other) e = absurd (cc)
none_clock_full schema id text _ (no_policy f named utf8 h) e = absurd (cc)
none_clock_full schema id text _ (not_passing p f named utf8 is h) e = absurd (cc)

pub refuses_policy : (schema : StatedSchema) (n : List ℕ) (s : Store) (id text : List ℕ) (f : SiteFault)
    → OrNoMemory fault.NoMemory (IsNotAdmitted schema id text) f → PutsPolicy schema n s id text (Err f) s
refuses_policy schema n s id text fault.NoMemory h = refl
refuses_policy schema n s id text (fault.Policy f) h = (h (λ e. cc), refl)
refuses_policy schema n s id text (fault.Check f) h = (h (λ e. cc), refl)
refuses_policy schema n s id text (fault.Entity f) h = (h (λ e. cc), refl)
refuses_policy schema n s id text (fault.Message f) h = (h (λ e. cc), refl)
refuses_policy schema n s id text fault.NotThere h = (h (λ e. cc), refl)
refuses_policy schema n s id text fault.WouldCycle h = (h (λ e. cc), refl)
refuses_policy schema n s id text fault.ClockFull h =
    absurd (none_clock_full schema id text fault.ClockFull (h (λ e. cc)) refl)
refuses_policy schema n s id text (fault.Request f) h = (h (λ e. cc), refl)

-- what was recorded is in the store, also as the result of a put
pub put_stands : (s : Store) (name : Name) (x y : List ℕ) (impossible : Bool) (r : Result Stamp SiteFault) → x ≡ y
    → IfOk r (λ stamp. get s name ≡ Some (issued stamp (Some x)))
    → IfOk (put_result impossible r) (λ put. get s name ≡ Some (issued put.stamp (Some y)))
put_stands s name x y impossible (Ok stamp) e h = h ∙ ap (λ (z : List ℕ). Some (issued stamp (Some z))) e
put_stands s name x y impossible (Err f) e h = tt

-- ---- an entity is put
puts_apart : (schema : StatedSchema) (n : List ℕ) (s : Store) (json : Option Data) (b : ReadText Entity)
    (r : Result Stamp SiteFault) (t : Store) → IsStatedBy schema json b
    → MakesNoCycle (IsEntityUnder schema) schema s b.read → RecordsOr n s (entity_name b.read.uid) (Some b.text) r t
    → PutsEntity (parsed schema) n s json r t
puts_apart schema n s json b (Ok stamp) t i apart h = (
  b.read,
  i.states,
  apart,
  subst (λ (x : List ℕ). Records n s (entity_name b.read.uid) (Some x) stamp t) i.canonical h,
)
puts_apart schema n s json b (Err fault.NoMemory) t i apart h = h
puts_apart schema n s json b (Err (fault.Policy f)) t i apart h = absurd h
puts_apart schema n s json b (Err (fault.Check f)) t i apart h = absurd h
puts_apart schema n s json b (Err (fault.Entity f)) t i apart h = absurd h
puts_apart schema n s json b (Err (fault.Message f)) t i apart h = absurd h
puts_apart schema n s json b (Err fault.NotThere) t i apart h = absurd h
puts_apart schema n s json b (Err fault.WouldCycle) t i apart h = absurd h
puts_apart schema n s json b (Err fault.ClockFull) t i apart h = ((b.read, i.states, apart), h)
puts_apart schema n s json b (Err (fault.Request f)) t i apart h = absurd h

pub puts_entity : {E : Type 0} → (schema : StatedSchema) (n : List ℕ) (s : Store) (json : Option Data) (b : ReadText Entity)
    (cycle : Result Bool E) (uid : EntityUid) (r : Result Stamp SiteFault) (t : Store) → IsStatedBy schema json b
    → uid ≡ b.read.uid → IfOk cycle (λ yes. yes ≡ true → MakesCycle (IsEntityUnder schema) schema s b.read)
    → IfOk cycle (λ yes. yes ≡ false → MakesNoCycle (IsEntityUnder schema) schema s b.read)
    → PutsUnless n s cycle uid b.text r t → PutsEntity (parsed schema) n s json r t
puts_entity schema n s json b (Ok true) uid r t i named makes apart h =
    subst (λ q. PutsEntity (parsed schema) n s json q t) (sym h.0) ((b.read, i.states, makes refl), h.1)
puts_entity schema n s json b (Ok false) uid r t i named makes apart h =
    puts_apart schema n s json b r t i (apart refl)
    (subst (λ (u : EntityUid). RecordsOr n s (entity_name u) (Some b.text) r t) named h)
puts_entity schema n s json b (Err e) uid r t i named makes apart h =
    subst (λ q. PutsEntity (parsed schema) n s json q t) (sym h.0) h.1

-- what was put is in the store, whether or not it might have been cyclic
pub put_or_not : {E : Type 0} → ((s : Store) (name : Name) (n : List ℕ) (body : Option (List ℕ))
    → get (store_of (updates s ++ (name, issued (issue s n) body) ∷ [])) name ≡ Some (issued (issue s n) body))
    → (n : List ℕ) (s : Store) (cycle : Result Bool E) (uid : EntityUid) (text : List ℕ) (r : Result Stamp SiteFault)
    (t : Store) → PutsUnless n s cycle uid text r t
    → IfOk r (λ stamp. get t (entity_name uid) ≡ Some (issued stamp (Some text)))
put_or_not law n s (Ok true) uid text r t h =
    subst (λ q. IfOk q (λ stamp. get t (entity_name uid) ≡ Some (issued stamp (Some text)))) (sym h.0) tt
put_or_not law n s (Ok false) uid text r t h = stands law n s (entity_name uid) (Some text) r t h
put_or_not law n s (Err e) uid text r t h =
    subst (λ q. IfOk q (λ stamp. get t (entity_name uid) ≡ Some (issued stamp (Some text)))) (sym h.0) tt

pub refuses_entity : (schema : StatedSchema) (n : List ℕ) (s : Store) (json : Option Data) (f : SiteFault)
    → OrNoMemory fault.NoMemory (IsNoEntityFault schema json) f → PutsEntity (parsed schema) n s json (Err f) s
refuses_entity schema n s json fault.NoMemory h = refl
refuses_entity schema n s json (fault.Policy f) h = absurd (h (λ e. cc))
refuses_entity schema n s json (fault.Check f) h = absurd (h (λ e. cc))
refuses_entity schema n s json (fault.Entity f) h = (h (λ e. cc), refl)
refuses_entity schema n s json (fault.Message f) h = absurd (h (λ e. cc))
refuses_entity schema n s json fault.NotThere h = absurd (h (λ e. cc))
refuses_entity schema n s json fault.WouldCycle h = absurd (h (λ e. cc))
refuses_entity schema n s json fault.ClockFull h = absurd (h (λ e. cc))
refuses_entity schema n s json (fault.Request f) h = absurd (h (λ e. cc))

pub entity_stands : (schema : StatedSchema) (s t : Store) (json : Option Data) (b : ReadText Entity)
    (r : Result Stamp SiteFault) → IsStatedBy schema json b
    → IfOk r (λ stamp. get t (entity_name b.read.uid) ≡ Some (issued stamp (Some b.text)))
    → KeepsOtherNames (entity_name b.read.uid) s t
    → IfOk r (λ stamp. (e : Entity) × (entity_stated schema json ≡ Ok e)
    × (get t (entity_name e.uid) ≡ Some (issued stamp (Some (canonical_text e)))) × KeepsOtherNames (entity_name e.uid) s t)
entity_stands schema s t json b (Ok stamp) i h others = (
  b.read,
  i.states,
  h ∙ ap (λ (z : List ℕ). Some (issued stamp (Some z))) i.canonical,
  others,
)
entity_stands schema s t json b (Err f) i h others = tt

-- ---- a name is taken away
some_of : {A : Type 0} (o : Option A) (b : Bool) → b ≡ is_some o → b ≡ true → IsSome o
some_of o b e h = sym e ∙ h

none_of : {A : Type 0} (o : Option A) (b : Bool) → b ≡ is_some o → b ≡ false → o ≡ None
none_of None b e h = refl
none_of (Some x) b e h = absurd (cc)

pub deletes : (n : List ℕ) (s : Store) (name : Name) (b : Bool) (r : Result Stamp SiteFault) (t : Store)
    → b ≡ is_some (text_under s name) → b ≡ true → RecordsOr n s name None r t → Deletes n s name r t
deletes n s name b (Ok stamp) t e is h = (some_of (text_under s name) b e is, h)
deletes n s name b (Err fault.NoMemory) t e is h = h
deletes n s name b (Err (fault.Policy f)) t e is h = h
deletes n s name b (Err (fault.Check f)) t e is h = h
deletes n s name b (Err (fault.Entity f)) t e is h = h
deletes n s name b (Err (fault.Message f)) t e is h = h
deletes n s name b (Err fault.NotThere) t e is h = absurd h
deletes n s name b (Err fault.WouldCycle) t e is h = h
deletes n s name b (Err fault.ClockFull) t e is h = (some_of (text_under s name) b e is, h)
deletes n s name b (Err (fault.Request f)) t e is h = h

pub not_there : (s : Store) (name : Name) (b : Bool) → b ≡ is_some (text_under s name) → b ≡ false
    → text_under s name ≡ None
not_there s name b e is = none_of (text_under s name) b e is
