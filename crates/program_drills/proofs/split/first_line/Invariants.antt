use Rattle.std.proofs.Common.{◌≡◌, ℕ, ◌<◌, ◌==◌, get_or, false}
use Rattle.program_drills.specs.Lines.{line_end}
use Rattle.program_drills.proofs.split.first_line.Given as goal

-- no line feed stands before
abbrev pub invariant-loop-at : goal.invariant-loop-at
invariant-loop-at l = (k : ℕ) → k < l.at → (get_or l.bytes k 0 == line_end) ≡ false
