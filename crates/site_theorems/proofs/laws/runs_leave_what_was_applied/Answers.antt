use Rattle.site_theorems.proofs.Running.{runs_leave, runs_equal, runs_harmless}
use Rattle.site_theorems.proofs.laws.runs_leave_what_was_applied.Goals as goal

pub returns-clause-leave : goal.returns-clause-leave
returns-clause-leave c = runs_leave (record {
  steps = c.steps_are_as_stated.ensures;
  entities = c.entities_are_read_as_stated.ensures.read;
  messages = c.updates_are_read_as_stated.ensures.read;
  one_uid = c.names_read_back.ensures.one;
  uids = c.names_read_back.ensures.found;
  leave = c.runs_leave_what_they_took.ensures;
})

pub returns-clause-equal : goal.returns-clause-equal
returns-clause-equal c = runs_equal (record {
  steps = c.steps_are_as_stated.ensures;
  entities = c.entities_are_read_as_stated.ensures.read;
  messages = c.updates_are_read_as_stated.ensures.read;
  one_uid = c.names_read_back.ensures.one;
  uids = c.names_read_back.ensures.found;
  leave = c.runs_leave_what_they_took.ensures;
})

pub returns-clause-permitted : goal.returns-clause-permitted
returns-clause-permitted c = runs_harmless (record {
  steps = c.steps_are_as_stated.ensures;
  entities = c.entities_are_read_as_stated.ensures.read;
  messages = c.updates_are_read_as_stated.ensures.read;
  one_uid = c.names_read_back.ensures.one;
  uids = c.names_read_back.ensures.found;
  leave = c.runs_leave_what_they_took.ensures;
}) c.runs_are_sound.ensures
