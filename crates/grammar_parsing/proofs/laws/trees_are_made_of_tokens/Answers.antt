use Rattle.grammar_parsing.specs.Expressions.{nesting_limit}
use Rattle.grammar_parsing.proofs.WellFormedLemmas.{policy_stands, policies_stand, uid_stands}
use Rattle.grammar_parsing.proofs.laws.trees_are_made_of_tokens.Goals as goal

pub returns : goal.returns
returns c = record { policy = policy_stands nesting_limit; list = policies_stand nesting_limit; uid = uid_stands }
