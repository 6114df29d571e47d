use Rattle.std.proofs.Common.{◌≡◌, ap, arith}
use Rattle.grammar_parsing.specs.inner.Reading.{expr}
use Rattle.grammar_syntax.proofs.Gathered.{deeper, instead}
use Rattle.grammar_parsing.proofs.ExpressionExact.{expression_front}
use Rattle.grammar_parsing.proofs.expression.+expr.Goals as goal

pub returns-then-levels-eq0-clause-reads : goal.returns-then-levels-eq0-clause-reads
returns-then-levels-eq0-clause-reads t c = λ some. absurd (omega (arith, some))

pub returns-then-levels-eq0-clause-steps : goal.returns-then-levels-eq0-clause-steps
unfolding expr
returns-then-levels-eq0-clause-steps t c = let none : c.args.levels ≡ 0 = omega arith in ap (λ n. expr n c.args.tokens.now.rest.now) none

pub returns-clause-reads : goal.returns-clause-reads
unfolding expr
returns-clause-reads t c =
    expression_front c.args.levels c.args.tokens.now.rest.now c.level.new.tokens.rest.now c.level.result
    (instead _ _ _ _ (deeper (λ n. expr n c.args.tokens.now.rest.now) c.args.levels (omega arith)) c.level.ensures)

pub returns-clause-shut : goal.returns-clause-shut
returns-clause-shut t c = λ none. absurd (omega (arith, none))

pub returns-clause-steps : goal.returns-clause-steps
unfolding expr
returns-clause-steps t c = instead _ _ _ _ (deeper (λ n. expr n c.args.tokens.now.rest.now) c.args.levels (omega arith)) c.level.ensures
