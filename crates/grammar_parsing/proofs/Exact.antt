-- A policy and a list of policies, each as a whole list of tokens.
use Rattle.std.proofs.Common.{suc, ◌-◌, Result, List, length}
use Rattle.grammar_syntax.specs.declared.token.Token.{Token}
use Rattle.grammar_syntax.specs.declared.fault.StopCause.{StopCause}
use Rattle.grammar_parsing.specs.declared.tree.PolicyTree.{PolicyTree}
use Rattle.grammar_parsing.specs.Grammar as g
use Rattle.grammar_parsing.specs.inner.Parsing as r
use Rattle.grammar_parsing.specs.inner.Parsing.{policy_firsts}
use Rattle.grammar_syntax.specs.ParsesTo.{ParsesTo}
use Rattle.grammar_syntax.specs.ParseResults.{HasOneTree, HasOneAnswerWithin, OpensNextLevel, ReadsWithin}
use Rattle.grammar_syntax.specs.ParseResults.{whole_of}
use Rattle.grammar_syntax.proofs.Steps.{none}
use Rattle.grammar_parsing.proofs.PolicyRules.{policy_rule, alive_policy, policies_rule, alive_policies}
use Rattle.grammar_parsing.specs.Expressions.{nesting_limit}
use Rattle.grammar_syntax.specs.Lang.{at_any}
use Rattle.grammar_syntax.proofs.Depths as depths

-- ---- one policy, and what its reader answers

pub one_policy : HasOneTree (g.policy nesting_limit)
one_policy = depths.one_tree g.policy r.policy none policy_rule (λ n. alive_policy (suc n)) 63

pub one_policy_at_any : HasOneTree (at_any g.policy)
one_policy_at_any = depths.one_tree_at_any g.policy r.policy none policy_rule (λ n. alive_policy (suc n))

pub policy_answer : HasOneAnswerWithin (g.policy nesting_limit) (at_any g.policy)
policy_answer = depths.one_answer g.policy r.policy none policy_rule (λ n. alive_policy (suc n)) 63

pub policy_answered : (ts rest : List Token) (read : Result PolicyTree StopCause) → ParsesTo (r.policy nesting_limit ts) read rest
    → ReadsWithin (g.policy nesting_limit) (at_any g.policy) ts (whole_of read (length ts - length rest) rest)
policy_answered = depths.answered_whole g.policy r.policy none policy_rule (λ n. alive_policy (suc n)) 63

-- ---- a file, and what its reader answers

pub one_list : HasOneTree (g.policies nesting_limit)
one_list = depths.one_tree g.policies r.policies policy_firsts policies_rule (λ n. alive_policies (suc n)) 63

pub one_list_at_any : HasOneTree (at_any g.policies)
one_list_at_any = depths.one_tree_at_any g.policies r.policies policy_firsts policies_rule (λ n. alive_policies (suc n))

pub list_answer : HasOneAnswerWithin (g.policies nesting_limit) (at_any g.policies)
list_answer = depths.one_answer g.policies r.policies policy_firsts policies_rule (λ n. alive_policies (suc n)) 63

pub policies_answered : (ts rest : List Token) (read : Result (List PolicyTree) StopCause) → ParsesTo (r.policies nesting_limit ts) read rest
    → ReadsWithin (g.policies nesting_limit) (at_any g.policies) ts (whole_of read (length ts - length rest) rest)
policies_answered = depths.answered_whole g.policies r.policies policy_firsts policies_rule (λ n. alive_policies (suc n)) 63

-- ---- what is too deep

pub policy_next_level : OpensNextLevel g.policy nesting_limit
policy_next_level = depths.next_level g.policy r.policy none policy_rule (λ n. alive_policy (suc n)) 63

pub list_next_level : OpensNextLevel g.policies nesting_limit
list_next_level = depths.next_level g.policies r.policies policy_firsts policies_rule (λ n. alive_policies (suc n)) 63
