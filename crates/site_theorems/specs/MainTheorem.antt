-- Defines the main theorem about sites, over relations between bytes and what they describe: the promises that all runs
-- of a site and all systems of sites keep.
-- Rules of this product: each site's store is the join of the updates that it applied, whatever their order, repeats or
-- grouping; no policy in an answer has an error of a type, of an attribute or of an extension function.
use Rattle.site_theorems.specs.Runs.{RunsLeaveApplied, EqualUpdatesLeaveEqualStores, RunsHavePermittedErrors}
use Rattle.site_theorems.specs.SiteStores.{SitesHoldApplied}
use Rattle.site_theorems.specs.Promises.{AllWorldsKeepPromises}

-- `SitesAreAsStated` holds if all runs of a site and all systems of sites keep these promises:
pub record SitesAreAsStated : Type 0 where
  -- for each run of a site, from any store
  pub leave : RunsLeaveApplied
  pub equal : EqualUpdatesLeaveEqualStores
  pub permitted : RunsHavePermittedErrors
  -- for each system of sites, at every moment
  pub stores : SitesHoldApplied
  pub worlds : AllWorldsKeepPromises
