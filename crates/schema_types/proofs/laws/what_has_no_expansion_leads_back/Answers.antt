use Rattle.schema_types.proofs.CyclicEnds.{what_has_no_expansion_leads_back as law}
use Rattle.schema_types.proofs.laws.what_has_no_expansion_leads_back.Goals as goal

pub returns : goal.returns
returns c = law
