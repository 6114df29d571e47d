use Rattle.explanations.proofs.ReadableErrors.{source_is_readable, whole_is_readable, code_is_readable}
use Rattle.explanations.proofs.laws.explanations_are_readable.Goals as goal

pub returns : goal.returns
returns c = (source_is_readable, whole_is_readable, code_is_readable)
