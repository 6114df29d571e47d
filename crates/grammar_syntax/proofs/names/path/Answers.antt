use Rattle.std.proofs.Common.{rules}
use Rattle.grammar_syntax.specs.Parsing as spec
use Rattle.grammar_syntax.proofs.NamesExact.{path_front}
use Rattle.grammar_syntax.proofs.names.path.Goals as goal

pub returns-in_err-first-clause-reads : goal.returns-in_err-first-clause-reads
unfolding spec.path
returns-in_err-first-clause-reads c = path_front _ _ _ (search rules)

pub returns-clause-reads : goal.returns-clause-reads
unfolding spec.path
returns-clause-reads c = path_front _ _ _ (search rules)

pub returns-clause-steps : goal.returns-clause-steps
unfolding spec.path
returns-clause-steps c = search rules
