use Rattle.site_theorems.proofs.Holding.{sites_hold}
use Rattle.site_theorems.proofs.laws.sites_hold_what_they_applied.Goals as goal

pub returns : goal.returns
returns c = sites_hold (record {
  steps = c.steps_are_as_stated.ensures;
  entities = c.entities_are_read_as_stated.ensures.read;
  messages = c.updates_are_read_as_stated.ensures.read;
  one_uid = c.names_read_back.ensures.one;
  uids = c.names_read_back.ensures.found;
  leave = c.runs_leave_what_they_took.ensures;
})
