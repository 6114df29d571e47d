use Rattle.grammar_syntax.proofs.KindLemmas.{same_by_number}
use Rattle.grammar_syntax.proofs.kind_sets.same_kind.Goals as goal

pub returns : goal.returns
returns c = same_by_number c.args.a c.args.b c.eq.result c.eq.ensures
