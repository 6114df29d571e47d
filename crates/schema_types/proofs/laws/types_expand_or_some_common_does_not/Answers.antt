use Rattle.schema_types.proofs.CyclicEnds.{types_expand_or_some_common_does_not as law}
use Rattle.schema_types.proofs.laws.types_expand_or_some_common_does_not.Goals as goal

pub returns : goal.returns
returns c = law c.cycles_have_no_expansion.ensures
