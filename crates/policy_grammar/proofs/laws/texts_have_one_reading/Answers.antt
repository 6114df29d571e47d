use Rattle.policy_grammar.proofs.Answering.{uid_answered, policy_answered, file_answered}
use Rattle.policy_grammar.proofs.Readings.{uid_reading, policy_reading, file_reading}
use Rattle.policy_grammar.proofs.laws.texts_have_one_reading.Goals as goal

pub returns-clause-uid : goal.returns-clause-uid
returns-clause-uid c =
    uid_reading (record {
      lexing = c.lexing_is_unique.ensures.one_list;
      not_both = c.lexing_is_unique.ensures.not_both;
      one_place = c.lexing_is_unique.ensures.one_place;
      values = c.strings_have_one_meaning.ensures.one_value;
    }) c.reading_is_unique.ensures.one_uid c.reading_is_unique.ensures.uid_answer
    (uid_answered (record {
      some = c.lexing_is_unique.ensures.some;
      spelled = c.lexing_is_unique.ensures.spelled;
      values = c.strings_have_one_meaning.ensures.some_value;
      none = c.least_fault_is_reported.ensures.none;
    }) c.reading_is_unique.ensures.uid_answer c.trees_are_made_of_tokens.ensures.uid)

pub returns-clause-policy : goal.returns-clause-policy
returns-clause-policy c =
    policy_reading (record {
      lexing = c.lexing_is_unique.ensures.one_list;
      not_both = c.lexing_is_unique.ensures.not_both;
      one_place = c.lexing_is_unique.ensures.one_place;
      values = c.strings_have_one_meaning.ensures.one_value;
    }) c.reading_is_unique.ensures.one_policy c.reading_is_unique.ensures.policy_answer
    (policy_answered (record {
      some = c.lexing_is_unique.ensures.some;
      spelled = c.lexing_is_unique.ensures.spelled;
      values = c.strings_have_one_meaning.ensures.some_value;
      none = c.least_fault_is_reported.ensures.none;
    }) c.reading_is_unique.ensures.policy_answer c.trees_are_made_of_tokens.ensures.policy)

pub returns-clause-file : goal.returns-clause-file
returns-clause-file c =
    file_reading (record {
      lexing = c.lexing_is_unique.ensures.one_list;
      not_both = c.lexing_is_unique.ensures.not_both;
      one_place = c.lexing_is_unique.ensures.one_place;
      values = c.strings_have_one_meaning.ensures.one_value;
    }) c.reading_is_unique.ensures.one_list c.reading_is_unique.ensures.list_answer
    (file_answered (record {
      some = c.lexing_is_unique.ensures.some;
      spelled = c.lexing_is_unique.ensures.spelled;
      values = c.strings_have_one_meaning.ensures.some_value;
      none = c.least_fault_is_reported.ensures.none;
    }) c.reading_is_unique.ensures.list_answer c.trees_are_made_of_tokens.ensures.list)
