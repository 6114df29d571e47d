use Rattle.policy_grammar.proofs.Counting.{as_many}
use Rattle.policy_grammar.proofs.Deriving.{each_derives}
use Rattle.policy_grammar.proofs.cut_laws.files_are_cut_by_policies.Goals as goal

pub returns : goal.returns
returns c = record { as_many = as_many c.lexing_is_unique.ensures.one_list; each = each_derives }
