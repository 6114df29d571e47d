use Rattle.site_theorems.proofs.laws.sites_are_as_stated.Goals as goal

pub returns : goal.returns
returns c = record {
  leave = c.runs_leave_what_was_applied.ensures.leave;
  equal = c.runs_leave_what_was_applied.ensures.equal;
  permitted = c.runs_leave_what_was_applied.ensures.permitted;
  stores = c.sites_hold_what_they_applied.ensures;
  worlds = c.worlds_keep_promises_as_stated.ensures;
}
