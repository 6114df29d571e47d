use Rattle.fault_places.proofs.unknown_names.blame_name.Goals as goal

pub returns-in-Ok-None : goal.returns-in-Ok-None
returns-in-Ok-None c = (rw c.in-Ok-None.field-0-is at c.in-Ok-None.ensures).0
