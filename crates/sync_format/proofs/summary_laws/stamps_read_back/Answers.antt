use Rattle.sync_format.proofs.RoundTrip.{name_again, judged_again}
use Rattle.sync_format.proofs.Sound.{judged_in_range}
use Rattle.sync_format.proofs.summary_laws.stamps_read_back.Goals as goal

pub returns-clause-names : goal.returns-clause-names
returns-clause-names c = name_again c.path_tests_are_exact.ensures.paths

pub returns-clause-checked_stamp : goal.returns-clause-checked_stamp
returns-clause-checked_stamp c = judged_again

pub returns-clause-sound : goal.returns-clause-sound
returns-clause-sound c = judged_in_range (record {
  uids = c.names_read_back.ensures.found;
  tested = c.site_names_are_recognized.ensures.tested;
  digits = c.site_names_are_recognized.ensures.digits;
})
