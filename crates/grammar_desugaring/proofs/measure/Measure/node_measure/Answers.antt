use Rattle.std.proofs.Common.{rules}
use Rattle.grammar_desugaring.proofs.measure.Measure.node_measure.Goals as goal

pub returns : goal.returns
returns c = search rules
