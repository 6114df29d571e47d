-- Defines the state of a system of sites: the store of each site, and each message and summary that was made so far.
-- Rules of this product: messages and summaries are numbered from 0, sites from 1.
use Rattle.std.specs.Prelude.{◌≡◌, ℕ, zero, suc, List, [], ◌∷◌, ◌++◌, map, set, slice_get, Option, Some, None}
use Rattle.std.specs.FinMap.{empty}
use Rattle.site_store.specs.stamped_store.Deltas.{delta, summary_of}
use Rattle.site_store.specs.stamped_store.SiteNames.{IsSiteName, five_digits}
use Rattle.site_store.specs.stamped_store.Store.{Store}

-- ---- the names of sites

-- A `SiteName` is the name of a site in stamps: a string.
abbrev pub SiteName : Type 0
SiteName = List ℕ

-- `AreSites sites` holds if `sites` are names of sites, and distinct.
pub record AreSites (sites : List SiteName) : Type 0 where
  pub named : (k : ℕ) (n : SiteName) → slice_get sites k ≡ Some n → IsSiteName n
  pub distinct : (j k : ℕ) (n : SiteName) → slice_get sites j ≡ Some n → slice_get sites k ≡ Some n → j ≡ k

-- `first_sites n` is the list of the default names of `n` sites: the five digits of 1, 2 and so on.
abbrev pub first_sites : ℕ → List SiteName
first_sites zero = []
first_sites (suc n) = first_sites n ++ five_digits (suc n) ∷ []

-- `numbered xs k` is the item of `xs` with the number `k`, from 1, if there is one.
abbrev pub numbered : {X : Type 0} → List X → ℕ → Option X
numbered xs zero = None
numbered xs (suc k) = slice_get xs k

-- `set_numbered xs k x` is `xs` with `x` in place of the item with the number `k`, from 1, if there is one.
abbrev pub set_numbered : {X : Type 0} → List X → ℕ → X → List X
set_numbered xs zero x = xs
set_numbered xs (suc k) x = set xs k x

-- ---- systems

-- A `SentSummary` is a summary that was made: its bytes, the number of the site that made it, and the store from which
-- it was made.
pub record SentSummary : Type 0 where
  pub bytes : List ℕ
  pub site : ℕ
  pub store : Store

-- A `SentMessage` is a message that was made: its bytes, the store that it was made from, and the summary that a delta
-- was made against (`None` for a state).
pub record SentMessage : Type 0 where
  pub bytes : List ℕ
  pub whole : Store
  pub since : Option SentSummary

-- A `World` is the state of a system: the store of each site, in the order of the sites, and the messages and summaries
-- made so far, in the order in which they were made.
pub record World : Type 0 where
  pub stores : List Store
  pub messages : List SentMessage
  pub summaries : List SentSummary

-- `part_since s since` is the part of the store `s` that a message has: all of it for a state, or the delta against the
-- summary `since`.
abbrev pub part_since : Store → Option SentSummary → Store
part_since s None = s
part_since s (Some old) = delta s (summary_of old.store)

-- `content m` is what the message `m` has of the store that it was made from: all of it, or the delta.
abbrev pub content : SentMessage → Store
content m = part_since m.whole m.since

-- `start sites` is the state in which every site is empty.
abbrev pub start : List SiteName → World
start sites = record { stores = map (λ _. empty) sites; messages = []; summaries = [] }
