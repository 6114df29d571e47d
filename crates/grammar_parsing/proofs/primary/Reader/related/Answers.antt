use Rattle.grammar_parsing.specs.Expressions.{is_positive}
use Rattle.grammar_parsing.specs.inner.Reading as spec
use Rattle.grammar_syntax.proofs.Gathered.{instead}
use Rattle.grammar_parsing.proofs.Tails.{related_joins}
use Rattle.grammar_parsing.proofs.primary.Reader.related.Goals as goal

pub returns : goal.returns
returns g c =
    instead _ _ _ _ (related_joins (is_positive c.args.self.now.levels) (spec.expr c.args.self.now.levels) c.args.x c.args.tokens.now.rest.now) c.join_tail.ensures
