use Rattle.explanations.proofs.Agreeing.{values_have_paths, records_have_paths}
use Rattle.explanations.proofs.laws.rejected_values_have_one_path.Goals as goal

pub returns-clause-values : goal.returns-clause-values
returns-clause-values c = values_have_paths

pub returns-clause-records : goal.returns-clause-records
returns-clause-records c = records_have_paths
