-- Defines the theorem that each input of a site has one outcome (one reply and one store), unless the reply reports a
-- failed allocation.
-- Rules of this product: a failed allocation is reported as such; apart from that, reply and store are determined.
use Rattle.std.specs.Prelude.{◌≡◌, ℕ, List, Result, Ok, Err}
use Rattle.site_store.specs.schema.Schemas.{StatedSchema}
use Rattle.site_store.specs.stamped_store.Store.{Store}
use Rattle.site.specs.declared.fault.SiteFault.{SiteFault}
use Rattle.site.specs.declared.fault.SiteFault.TheVariants as fault
use Rattle.site.specs.declared.outcome.Taken as taking
use Rattle.site.specs.declared.outcome.Taken.TheVariants.{All, Short}
use Rattle.site.specs.SiteViews.{IsValidStore}
use Rattle.site.specs.Inputs.{Input}
use Rattle.site.specs.declared.reply.Reply.{Reply}
use Rattle.site.specs.declared.reply.Reply.TheVariants as reply
use Rattle.site.specs.Runs.{Step}

-- `ReportsNoFailedAllocation r` holds if the result `r` is not `NoMemory`.
abbrev pub ReportsNoFailedAllocation : {A : Type 0} → Result A SiteFault → Type 0
ReportsNoFailedAllocation (Ok a) = Unit {0}
ReportsNoFailedAllocation (Err fault.NoMemory) = ⊥
ReportsNoFailedAllocation (Err _) = Unit {0}

-- `ReportsNoFailedAllocationForAll r` holds if the result `r` of a message is not `NoMemory`, and not `Short`, which
-- says that only the first updates were applied.
abbrev pub ReportsNoFailedAllocationForAll : Result taking.Taken SiteFault → Type 0
ReportsNoFailedAllocationForAll (Ok (All k)) = Unit {0}
ReportsNoFailedAllocationForAll (Ok (Short k)) = ⊥
ReportsNoFailedAllocationForAll (Err fault.NoMemory) = ⊥
ReportsNoFailedAllocationForAll (Err _) = Unit {0}

-- `IsWhole r` holds if the reply `r` reports no failed allocation.
abbrev pub IsWhole : Reply → Type 0
IsWhole (reply.Put r) = ReportsNoFailedAllocation r
IsWhole (reply.Stamped r) = ReportsNoFailedAllocation r
IsWhole (reply.Taken r) = ReportsNoFailedAllocationForAll r
IsWhole (reply.Answered r) = ReportsNoFailedAllocation r
IsWhole (reply.Found r) = ReportsNoFailedAllocation r
IsWhole (reply.Written r) = ReportsNoFailedAllocation r

-- `IsOutcome schema n s i r t` holds if the input `i` may yield the reply `r` and the store `t`, and `r` reports no
-- failed allocation. The site is one of `schema`, named `n`, with the store `s`.
pub record IsOutcome (schema : StatedSchema) (n : List ℕ) (s : Store) (i : Input) (r : Reply) (t : Store) : Type 0 where
  pub step : Step schema n s i r t
  pub whole : IsWhole r

-- `InputsHaveAnOutcome schema`: each input has at least one outcome, over any store that a site of `schema` may have.
abbrev pub InputsHaveAnOutcome : StatedSchema → Type 0
InputsHaveAnOutcome schema = (n : List ℕ) (s : Store) (i : Input) → IsValidStore schema s
    → (r : Reply) × (t : Store) × IsOutcome schema n s i r t

-- `InputsHaveOneOutcome schema`: each input has at most one outcome: the reply and the store are determined.
abbrev pub InputsHaveOneOutcome : StatedSchema → Type 0
InputsHaveOneOutcome schema = (n : List ℕ) (s : Store) (i : Input) (r q : Reply) (t u : Store)
    → IsOutcome schema n s i r t → IsOutcome schema n s i q u → (r ≡ q) × (t ≡ u)
