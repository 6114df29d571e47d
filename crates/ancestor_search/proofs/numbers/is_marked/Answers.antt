use Rattle.std.proofs.Common.{rules}
use Rattle.ancestor_search.proofs.numbers.is_marked.Goals as goal

pub returns-then-number-marks : goal.returns-then-number-marks
returns-then-number-marks c = search rules
