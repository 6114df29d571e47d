use Rattle.schema_types.proofs.OneEnd.{one_written as law}
use Rattle.schema_types.proofs.laws.one_written.Goals as goal

pub returns : goal.returns
returns c = law
