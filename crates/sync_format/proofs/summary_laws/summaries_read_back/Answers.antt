use Rattle.sync_format.proofs.OneText.{one_text, text_again}
use Rattle.sync_format.proofs.RoundTrip.{summary_again, numbered_again, summary_ascends}
use Rattle.sync_format.proofs.Sound.{read_stamped}
use Rattle.sync_format.proofs.summary_laws.summaries_read_back.Goals as goal

pub returns-clause-back : goal.returns-clause-back
returns-clause-back c = summary_again c.path_tests_are_exact.ensures.paths c.site_names_are_recognized.ensures.tested

pub returns-clause-numbered : goal.returns-clause-numbered
returns-clause-numbered c = numbered_again c.path_tests_are_exact.ensures.paths

pub returns-clause-ascending : goal.returns-clause-ascending
returns-clause-ascending c = summary_ascends

pub returns-clause-one_text : goal.returns-clause-one_text
returns-clause-one_text c = one_text c.path_tests_are_exact.ensures.paths c.site_names_are_recognized.ensures.tested
    c.site_names_are_recognized.ensures.texts c.compact_texts_read_back.ensures.one

pub returns-clause-text : goal.returns-clause-text
returns-clause-text c = text_again c.path_tests_are_exact.ensures.paths c.site_names_are_recognized.ensures.tested
    c.site_names_are_recognized.ensures.texts c.compact_texts_read_back.ensures.back

pub returns-clause-sound : goal.returns-clause-sound
returns-clause-sound c = read_stamped (record {
  uids = c.names_read_back.ensures.found;
  tested = c.site_names_are_recognized.ensures.tested;
  digits = c.site_names_are_recognized.ensures.digits;
})
