use Rattle.std.proofs.Common.{length}
use Rattle.program_drills.specs.inner.Reading.{IsReadUpTo}
use Rattle.program_drills.proofs.whole.read_script.Given as goal

-- the lines before are read, and less is left each time
abbrev pub invariant-loop-rest : goal.invariant-loop-rest
invariant-loop-rest l = IsReadUpTo l.count l.script l.made l.rest l.events.items

abbrev pub decreases-loop-rest : goal.decreases-loop-rest
decreases-loop-rest l = length l.rest
