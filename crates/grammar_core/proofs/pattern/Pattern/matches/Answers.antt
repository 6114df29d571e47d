use Rattle.std.proofs.Common.{rules}
use Rattle.grammar_core.proofs.Whole.{test_is, matches_first, matches_last}
use Rattle.grammar_core.proofs.pattern.Pattern.matches.Goals as goal

pub returns-in-Some-clause-like : goal.returns-in-Some-clause-like
returns-in-Some-clause-like c =
    matches_first c.first_matches.result c.args.self.now c.self.inside.before c.in-Some.middle.now c.in-Some.first.now c.self.inside.last c.args.text.now (search rules) (search rules) c.first_matches.ensures

pub returns-in-Some-clause-test : goal.returns-in-Some-clause-test
returns-in-Some-clause-test c = test_is c.first_matches.result c.args.self.now c.args.text.now (returns-in-Some-clause-like c)

pub returns-in-None-clause-like : goal.returns-in-None-clause-like
returns-in-None-clause-like c =
    matches_last c.eq.result c.args.self.now c.self.inside.before c.self.inside.last c.args.text.now (search rules) (search rules) (search rules)

pub returns-in-None-clause-test : goal.returns-in-None-clause-test
returns-in-None-clause-test c = test_is c.eq.result c.args.self.now c.args.text.now (returns-in-None-clause-like c)
