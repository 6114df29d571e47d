-- Defines the steps of a site, each from a store `s` to a store `t` with a result, and the results of two queries. What
-- JSON and texts mean is given by readings `R` (Readings.antt).
-- Rules of this product: an id that is not UTF-8 is rejected before any look-up; a local command is checked for
-- `ClockFull` after all other errors; the put of an entity is checked for a cycle before that; the count of a command's
-- stamp is one more than the greatest in the whole store; updates from another site are applied in their order; queries
-- and rejected inputs leave the store unchanged.
use Rattle.std.specs.Prelude.{◌≡◌, ◌↔◌, ◌<◌, ℕ, List, [], ◌∷◌, ◌++◌, length, take, Option, Some, None, IsSome}
use Rattle.std.specs.Prelude.{IsTrue, Result, Ok, Err, option_and_then, option_map}
use Rattle.std.specs.FinMap.{get}
use Rattle.std.specs.Str.{IsUtf8}
use Rattle.serde_json.specs.Data.{Data}
use Rattle.values.specs.declared.entity_uid.EntityUid.{EntityUid}
use Rattle.values.specs.declared.name.Name.{Name}
use Rattle.values.specs.declared.request.Request.{Request}
use Rattle.site_store.specs.policy_grammar.declared.policy.Policy.{Policy}
use Rattle.site_store.specs.policy_grammar.declared.fault.ReadFault.TheVariants.{BadId}
use Rattle.site_meaning.specs.authoriser.declared.answer.Answer.{Answer}
use Rattle.site_store.specs.schema.Schemas.{StatedSchema}
use Rattle.site_store.specs.entity_data.declared.entity.Entity.{Entity}
use Rattle.entities.specs.declared.fault.EntityFault.TheVariants.{BadShape}
use Rattle.entities.specs.Canonical.{canonical_text}
use Rattle.site_store.specs.stamped_store.declared.entry.Stamp.{Stamp}
use Rattle.site_store.specs.stamped_store.EntryOrder.{PlainEntry}
use Rattle.site_store.specs.stamped_store.Contents.{text_under}
use Rattle.site_store.specs.stamped_store.Deltas.{stamp_of}
use Rattle.site_store.specs.stamped_store.Greatest.{greatest_count}
use Rattle.site_store.specs.stamped_store.Store.{Store, Update, updates, store_of, issue, issued, policy_name}
use Rattle.site_store.specs.stamped_store.Store.{entity_name}
use Rattle.site_meaning.specs.StoreMeaning.{IsAnswerOver, MakesCycle, MakesNoCycle}
use Rattle.sync_messages.specs.validator.Passing.{IsImpossible}
use Rattle.site.specs.declared.fault.SiteFault.{SiteFault}
use Rattle.site.specs.declared.fault.SiteFault.TheVariants as fault
use Rattle.site.specs.declared.outcome.Put.{Put}
use Rattle.site.specs.declared.outcome.Taken as taking
use Rattle.site.specs.declared.outcome.Taken.TheVariants.{All, Short}
use Rattle.site.specs.Admitted.{IsPolicyUnder, IsAdmitted, IsNotAdmitted}
use Rattle.site.specs.Readings.{Readings}

-- ---- local commands, at the site with the name `n`

-- `most_count` is the greatest count that a stamp may have.
abbrev pub most_count : ℕ
most_count = 1_000_000_000_000_000_000

-- `Records n s name body stamp t` holds if the greatest count in `s` is less than `most_count`, and `body` is stored
-- under `name` with `stamp`, the next stamp of the site `n`: `t` is the store of the updates of `s` and this update.
-- The definitions below that use `Records` state which bodies they allow.
pub record Records (n : List ℕ) (s : Store) (name : Name) (body : Option (List ℕ)) (stamp : Stamp) (t : Store) : Type 0
  where
    pub clock : greatest_count s < most_count
    pub next : stamp ≡ issue s n
    pub store : t ≡ store_of (updates s ++ (name, issued stamp body) ∷ [])

-- `IsClockFull s t` holds if the greatest count in `s` is `most_count`, so that no stamp is left, and `t` is `s`.
abbrev pub IsClockFull : Store → Store → Type 0
IsClockFull s t = (greatest_count s ≡ most_count) × (t ≡ s)

-- `PutsPolicy schema n s id text r t` holds if, at the site `n` of `schema`, a put of the policy text `text` under
-- `id` may lead from `s` to `t` with the result `r`.
abbrev pub PutsPolicy : StatedSchema → List ℕ → Store → List ℕ → List ℕ → Result Put SiteFault → Store → Type 0
PutsPolicy schema n s id text (Ok put) t =
    (p : Policy) × IsAdmitted schema id text p × (IsTrue put.impossible ↔ IsImpossible schema p)
    × Records n s (policy_name id) (Some text) put.stamp t
PutsPolicy schema n s id text (Err fault.NoMemory) t = t ≡ s
PutsPolicy schema n s id text (Err fault.ClockFull) t =
    ((p : Policy) × IsAdmitted schema id text p) × IsClockFull s t
PutsPolicy schema n s id text (Err f) t = IsNotAdmitted schema id text f × (t ≡ s)

-- `PutsEntity R n s json r t` holds if, at the site named `n`, a put of the entity that `json` describes may lead from
-- `s` to `t` with the result `r`. The entity's canonical text is stored. A cycle is reported before a full clock.
-- `json` is `None` for bytes not in JSON.
abbrev pub PutsEntity : Readings → List ℕ → Store → Option Data → Result Stamp SiteFault → Store → Type 0
PutsEntity R n s json (Ok stamp) t =
    (e : Entity) × R.entity json (Ok e) × MakesNoCycle R.text R.schema s e
    × Records n s (entity_name e.uid) (Some (canonical_text e)) stamp t
PutsEntity R n s json (Err fault.NoMemory) t = t ≡ s
PutsEntity R n s json (Err (fault.Entity f)) t = R.entity json (Err f) × (t ≡ s)
PutsEntity R n s json (Err fault.WouldCycle) t =
    ((e : Entity) × R.entity json (Ok e) × MakesCycle R.text R.schema s e) × (t ≡ s)
PutsEntity R n s json (Err fault.ClockFull) t =
    ((e : Entity) × R.entity json (Ok e) × MakesNoCycle R.text R.schema s e) × IsClockFull s t
PutsEntity R n s json (Err _) t = ⊥

-- `Deletes n s name r t` holds if, at the site named `n`, deleting `name` may lead from `s` to `t` with the result `r`.
-- `r` is a stamp only if `name` has a text in `s`; a tombstone is then recorded under `name`.
abbrev pub Deletes : List ℕ → Store → Name → Result Stamp SiteFault → Store → Type 0
Deletes n s name (Ok stamp) t = IsSome (text_under s name) × Records n s name None stamp t
Deletes n s name (Err fault.NoMemory) t = t ≡ s
Deletes n s name (Err fault.NotThere) t = (text_under s name ≡ None) × (t ≡ s)
Deletes n s name (Err fault.ClockFull) t = IsSome (text_under s name) × IsClockFull s t
Deletes n s name (Err _) t = ⊥

-- `DeletesPolicy n s id r t` holds if, at the site named `n`, deleting the policy with the id `id` may lead from `s` to
-- `t` with the result `r`. An id that is not UTF-8 has the error `BadId` (19).
abbrev pub DeletesPolicy : List ℕ → Store → List ℕ → Result Stamp SiteFault → Store → Type 0
DeletesPolicy n s id (Err fault.NoMemory) t = t ≡ s
DeletesPolicy n s id (Err (fault.Policy f)) t = (f ≡ BadId) × (IsUtf8 id → ⊥) × (t ≡ s)
DeletesPolicy n s id r t = IsUtf8 id × Deletes n s (policy_name id) r t

-- `DeletesEntity R n s json r t` holds if, at the site named `n`, deleting the entity with the uid in `json` may lead
-- from `s` to `t` with the result `r`. JSON that names no entity has the error `BadShape` (30).
abbrev pub DeletesEntity : Readings → List ℕ → Store → Option Data → Result Stamp SiteFault → Store → Type 0
DeletesEntity R n s json (Err fault.NoMemory) t = t ≡ s
DeletesEntity R n s json (Err (fault.Entity f)) t = (f ≡ BadShape) × R.uid json None × (t ≡ s)
DeletesEntity R n s json r t =
    (uid : EntityUid) × R.uid json (Some uid) × Deletes n s (entity_name uid) r t

-- ---- updates that another site sent

-- `TakesUpdates s us taken t` holds if `taken` reports that all of the updates `us`, or exactly the first `k` of them
-- (`Short k`), were applied, and `t` is the store of the updates of `s` and the applied ones: at each name, `t` has the
-- greatest entry of both (`store_of` of stamped_store).
abbrev pub TakesUpdates : Store → List Update → taking.Taken → Store → Type 0
TakesUpdates s us (All k) t = (k ≡ length us) × (t ≡ store_of (updates s ++ us))
TakesUpdates s us (Short k) t = (k < length us) × (t ≡ store_of (updates s ++ take k us))

-- ---- queries, which change nothing

-- `Answers R s json r` holds if `r` is an answer over `s` to the request that `json` describes, or the first error of
-- `json` as a request, or `NoMemory`. `None` stands for bytes that are not JSON.
abbrev pub Answers : Readings → Store → Option Data → Result Answer SiteFault → Type 0
Answers R s json (Ok a) =
    (q : Request) × R.request json (Ok q) × IsAnswerOver (IsPolicyUnder R.schema) R.text R.schema s q a
Answers R s json (Err fault.NoMemory) = Unit {0}
Answers R s json (Err (fault.Request f)) = R.request json (Err f)
Answers R s json (Err _) = ⊥

-- `stamped_text e` is the text and the stamp of the entry `e`, if it has a text.
abbrev pub stamped_text : PlainEntry → Option (List ℕ × Stamp)
stamped_text e = option_map (λ text. (text, stamp_of e)) e.body

-- `policy_found s id` is the text and the stamp of the policy `id` in the store `s`, or `None` if `id` has no text in
-- `s`.
abbrev pub policy_found : Store → List ℕ → Option (List ℕ × Stamp)
policy_found s id = option_and_then stamped_text (get s (policy_name id))
