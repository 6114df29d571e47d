-- Defines the parts of commands: the results of their checks, and the stamping and storing after the checks.
use Rattle.std.specs.Prelude.{◌≡◌, ◌↔◌, ◌<◌, ℕ, Bool, true, false, List, Option, Some, None, Result, Ok, Err, IsTrue}
use Rattle.values.specs.declared.entity_uid.EntityUid.{EntityUid}
use Rattle.values.specs.declared.name.Name.{Name}
use Rattle.serde_json.specs.Data.{Data}
use Rattle.site_store.specs.policy_grammar.declared.policy.Policy.{Policy}
use Rattle.site_store.specs.schema.Schemas.{StatedSchema}
use Rattle.site_store.specs.entity_data.declared.entity.Entity.{Entity}
use Rattle.entities.specs.Entities.{entity_stated_in}
use Rattle.site_store.specs.stamped_store.declared.entry.ReadText.{ReadText}
use Rattle.site_store.specs.stamped_store.declared.entry.Stamp.{Stamp}
use Rattle.site_store.specs.stamped_store.Greatest.{greatest_count}
use Rattle.site_store.specs.stamped_store.Store.{Store, entity_name, issue}
use Rattle.sync_messages.specs.validator.Passing.{IsImpossible}
use Rattle.site.specs.declared.fault.SiteFault.{SiteFault}
use Rattle.site.specs.declared.fault.SiteFault.TheVariants as fault
use Rattle.site.specs.declared.outcome.Put.{Put}
use Rattle.site.specs.Admitted.{IsAdmitted, IsNoRequest}
use Rattle.site.specs.Steps.{Records, IsClockFull, most_count}

-- `RecordsOr n s name body r t` holds if, at the site named `n`, storing `body` under `name` with the stamp `r` leads
-- from the store `s` to the store `t` (`Records`). It also holds if `t` is `s`, and either `r` is `NoMemory`, or `r` is
-- `ClockFull` and no stamp is left.
abbrev pub RecordsOr : List ℕ → Store → Name → Option (List ℕ) → Result Stamp SiteFault → Store → Type 0
RecordsOr n s name body (Ok stamp) t = Records n s name body stamp t
RecordsOr n s name body (Err fault.NoMemory) t = t ≡ s
RecordsOr n s name body (Err fault.ClockFull) t = IsClockFull s t
RecordsOr n s name body (Err _) t = ⊥

-- `IsNext n s r` holds if `r` is the next stamp at the site named `n` with store `s`, or `None` if the clock is full.
abbrev pub IsNext : List ℕ → Store → Option Stamp → Type 0
IsNext n s (Some stamp) = (greatest_count s < most_count) × (stamp ≡ issue s n)
IsNext n s None = greatest_count s ≡ most_count

-- `PutsUnless n s cycle uid text r t` holds if `cycle` is false and, at the site named `n`, storing `text` under `uid`
-- may lead from the store `s` to the store `t` with the result `r` (`RecordsOr`). It also holds if `t` is `s`, and
-- either `cycle` is true and `r` is `WouldCycle`, or `cycle` is an error and `r` is `NoMemory`.
abbrev pub PutsUnless : {E : Type 0} → List ℕ → Store → Result Bool E → EntityUid → List ℕ → Result Stamp SiteFault
    → Store → Type 0
PutsUnless n s (Ok false) uid text r t = RecordsOr n s (entity_name uid) (Some text) r t
PutsUnless n s (Ok true) uid text r t = (r ≡ Err fault.WouldCycle) × (t ≡ s)
PutsUnless n s (Err e) uid text r t = (r ≡ Err fault.NoMemory) × (t ≡ s)

-- `put_result impossible r` is the result of a put of a policy: the stamp in `r` with `impossible` (whether the policy
-- is impossible), or the error in `r`.
abbrev pub put_result : Bool → Result Stamp SiteFault → Result Put SiteFault
put_result impossible (Ok stamp) = Ok (record { stamp = stamp; impossible = impossible })
put_result impossible (Err f) = Err f

-- `IsDescribed schema e` holds if some JSON describes the entity `e` under `schema`.
abbrev pub IsDescribed : StatedSchema → Entity → Type 0
IsDescribed schema e = (d : Data) × (entity_stated_in schema d ≡ Ok e)

-- `IsNoRequestFault schema json f` holds if `json` does not describe a request under `schema`, and `f` is the site's
-- error for `json`.
abbrev pub IsNoRequestFault : StatedSchema → Option Data → SiteFault → Type 0
IsNoRequestFault schema json (fault.Request f) = IsNoRequest schema json f
IsNoRequestFault schema json _ = ⊥

-- `IsCheckedPolicy schema id text b impossible` holds if `b` has the text `text`, the policy in `b` may be put under
-- `id` at a site of `schema`, and `impossible` is whether this policy is impossible.
pub record IsCheckedPolicy (schema : StatedSchema) (id text : List ℕ) (b : ReadText Policy) (impossible : Bool)
    : Type 0 where
  pub same : b.text ≡ text
  pub admitted : IsAdmitted schema id text b.read
  pub told : IsTrue impossible ↔ IsImpossible schema b.read
