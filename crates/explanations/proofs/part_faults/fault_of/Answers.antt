use Rattle.explanations.proofs.part_faults.fault_of.Goals as goal

pub returns-in_default : goal.returns-in_default
returns-in_default g c = (c.in-Err.is, c.in_default.not-NoMemory)
