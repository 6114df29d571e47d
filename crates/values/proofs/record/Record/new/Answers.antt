use Rattle.values.proofs.WellFormedLemmas.{none_well_formed}
use Rattle.values.proofs.record.Record.new.Goals as goal

pub invariant_of-result : goal.invariant_of-result
invariant_of-result c = rw c.new.ensures.empty none_well_formed
