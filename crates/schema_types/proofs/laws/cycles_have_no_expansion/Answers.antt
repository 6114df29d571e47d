use Rattle.schema_types.proofs.OneEnd.{cycles_have_no_expansion as law}
use Rattle.schema_types.proofs.laws.cycles_have_no_expansion.Goals as goal

pub returns : goal.returns
returns c = law
