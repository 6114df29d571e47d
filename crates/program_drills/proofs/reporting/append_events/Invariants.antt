use Rattle.std.proofs.Common.{take}
use Rattle.program_drills.specs.inner.LineFeeds.{AppendsEventLines}
use Rattle.program_drills.proofs.reporting.append_events.Given as goal

-- what was told so far
abbrev pub invariant-loop-answer : goal.invariant-loop-answer
invariant-loop-answer l = AppendsEventLines (take l.answer-index l.answers) l.fn.text.items l.text.items
