use Rattle.grammar_syntax.proofs.NamesExact.{one_uid, uid_answer}
use Rattle.grammar_parsing.proofs.Exact.{one_policy, one_list, policy_answer, list_answer, policy_next_level}
use Rattle.grammar_parsing.proofs.Exact.{list_next_level}
use Rattle.grammar_parsing.proofs.laws.reading_is_unique.Goals as goal

pub returns : goal.returns
returns c = record {
  one_policy = one_policy;
  one_list = one_list;
  one_uid = one_uid;
  policy_answer = policy_answer;
  list_answer = list_answer;
  uid_answer = uid_answer;
  policy_too_deep = policy_next_level;
  list_too_deep = list_next_level;
}
