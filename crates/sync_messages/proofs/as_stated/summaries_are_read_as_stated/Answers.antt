use Rattle.sync_messages.proofs.SummariesRead.{summary_given, summary_outcome, summary_written}
use Rattle.sync_messages.proofs.as_stated.summaries_are_read_as_stated.Goals as goal

pub returns-clause-read : goal.returns-clause-read
returns-clause-read c = summary_given (record {
  uids = c.names_read_back.ensures.found;
  names = c.stamps_read_back.ensures.names;
  tested = c.site_names_are_recognized.ensures.tested;
  digits = c.site_names_are_recognized.ensures.digits;
}) c.json_keys_ascend.ensures

pub returns-clause-one : goal.returns-clause-one
returns-clause-one c = summary_outcome (record {
  uids = c.names_read_back.ensures.found;
  names = c.stamps_read_back.ensures.names;
  tested = c.site_names_are_recognized.ensures.tested;
  digits = c.site_names_are_recognized.ensures.digits;
}) c.json_keys_ascend.ensures

pub returns-clause-written : goal.returns-clause-written
returns-clause-written c = summary_written (record {
  uids = c.names_read_back.ensures.found;
  names = c.stamps_read_back.ensures.names;
  tested = c.site_names_are_recognized.ensures.tested;
  digits = c.site_names_are_recognized.ensures.digits;
}) c.json_keys_ascend.ensures
