use Rattle.std.proofs.Common.{rules}
use Rattle.grammar_parsing.specs.Expressions.{is_positive}
use Rattle.grammar_parsing.specs.inner.Reading as spec
use Rattle.grammar_parsing.proofs.primary.Reader.rest_of_arguments.Goals as goal

pub returns : goal.returns
unfolding spec.rest_of_arguments
returns g c = c.read_more.ensures (spec.next_argument (is_positive c.args.self.now.levels) (spec.expr c.args.self.now.levels)) (λ old new r met. search rules)
