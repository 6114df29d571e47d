use Rattle.std.proofs.Common.{subst, sym}
use Rattle.grammar_parsing.specs.Expressions.{nesting_limit}
use Rattle.grammar_syntax.specs.Lang.{at_any}
use Rattle.grammar_syntax.specs.ParseResults.{ReadsWithin}
use Rattle.grammar_parsing.specs.Grammar as grammar
use Rattle.grammar_parsing.proofs.Exact.{policy_answered}
use Rattle.grammar_parsing.proofs.WellFormedLemmas.{policy_answer_stands}
use Rattle.grammar_parsing.proofs.read.read_policy.Goals as goal

pub returns-clause-reads : goal.returns-clause-reads
returns-clause-reads c =
    subst (ReadsWithin (grammar.policy nesting_limit) (at_any grammar.policy) c.args.tokens.now) (sym c.read_to_end.ensures)
    (policy_answered c.args.tokens.now c.policy-read.new.tokens.rest.now c.policy-read.result c.policy-read.ensures)

pub returns-clause-is_well_formed : goal.returns-clause-is_well_formed
returns-clause-is_well_formed c =
    policy_answer_stands nesting_limit (at_any grammar.policy) c.args.tokens.now c.read_to_end.result
    (subst (ReadsWithin (grammar.policy nesting_limit) (at_any grammar.policy) c.args.tokens.now) (sym c.read_to_end.ensures)
    (policy_answered c.args.tokens.now c.policy-read.new.tokens.rest.now c.policy-read.result c.policy-read.ensures))
