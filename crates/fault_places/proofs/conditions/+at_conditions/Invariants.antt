use Rattle.std.proofs.Common.{length}
use Rattle.fault_places.proofs.conditions.+at_conditions.Given as goal

abbrev pub decreases-at_conditions : goal.decreases-at_conditions
decreases-at_conditions l = length l.conditions.now
