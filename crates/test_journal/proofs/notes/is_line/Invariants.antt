use Rattle.std.proofs.Common.{take}
use Rattle.journal.specs.Lines.{IsLine}
use Rattle.test_journal.proofs.notes.is_line.Given as goal

abbrev pub invariant-loop-b : goal.invariant-loop-b
invariant-loop-b l = IsLine (take l.b-index l.bytes)
