use Rattle.std.proofs.Common.{subst, sym}
use Rattle.std.proofs.lemmas.Result.{err_from_is_err_and}
use Rattle.std.specs.List.{AllByRecursion}
use Rattle.grammar_parsing.specs.Expressions.{nesting_limit}
use Rattle.grammar_syntax.specs.Lang.{at_any}
use Rattle.grammar_syntax.specs.ParseResults.{ReadsWithin}
use Rattle.grammar_parsing.specs.Grammar as grammar
use Rattle.grammar_parsing.specs.WellFormed.{WellFormedPolicy}
use Rattle.grammar_parsing.proofs.Exact.{policies_answered}
use Rattle.grammar_parsing.proofs.WellFormedLemmas.{policies_stand}
use Rattle.grammar_parsing.proofs.read.read_policies.Goals as goal

pub returns-in_err-trees-clause-reads : goal.returns-in_err-trees-clause-reads
returns-in_err-trees-clause-reads c =
    let exit = err_from_is_err_and c.from_residual.result c.from_residual.ensures.1 in
    rw (exit.1, exit.2) (subst (ReadsWithin (grammar.policies nesting_limit) (at_any grammar.policies) c.args.tokens.now) (sym c.in_err-trees.ensures)
    (policies_answered c.args.tokens.now c.policies-read.new.tokens.rest.now c.policies-read.result c.policies-read.ensures))

pub returns-clause-reads : goal.returns-clause-reads
returns-clause-reads c =
    subst (grammar.policies nesting_limit c.args.tokens.now) (sym c.into_vec-found.ensures)
    (subst (ReadsWithin (grammar.policies nesting_limit) (at_any grammar.policies) c.args.tokens.now) (sym c.in_ok-trees.ensures)
    (policies_answered c.args.tokens.now c.policies-read.new.tokens.rest.now c.policies-read.result c.policies-read.ensures))

pub returns-clause-is_well_formed : goal.returns-clause-is_well_formed
returns-clause-is_well_formed c =
    subst (AllByRecursion (WellFormedPolicy c.args.tokens.now)) (sym c.into_vec-found.ensures)
    (policies_stand nesting_limit c.args.tokens.now c.in_ok-trees.trees
    (subst (ReadsWithin (grammar.policies nesting_limit) (at_any grammar.policies) c.args.tokens.now) (sym c.in_ok-trees.ensures)
    (policies_answered c.args.tokens.now c.policies-read.new.tokens.rest.now c.policies-read.result c.policies-read.ensures)))
