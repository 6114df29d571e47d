use Rattle.std.proofs.Common.{rules}
use Rattle.grammar_parsing.specs.inner.Parsing as spec
use Rattle.grammar_parsing.proofs.scope.rest_of_uids.Goals as goal

pub returns : goal.returns
unfolding spec.rest_of_uids
returns c = c.read_more.ensures spec.comma_uid (λ old new r met. search rules)
