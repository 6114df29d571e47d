use Rattle.std.proofs.Common.{◌≡◌, ◌++◌, map, take}
use Rattle.program_drills.specs.EventReports.{state_line}
use Rattle.program_drills.specs.inner.LineFeeds.{ended}
use Rattle.program_drills.proofs.reporting.append_states.Given as goal

-- the states so far
abbrev pub invariant-loop-site : goal.invariant-loop-site
invariant-loop-site l = l.text.items ≡ l.fn.text.items ++ ended (map state_line (take l.site-index l.sites))
