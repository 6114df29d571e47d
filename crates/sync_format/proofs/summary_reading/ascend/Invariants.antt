use Rattle.std.proofs.Common.{◌≡◌, ◌-◌, ◌≤◌, drop}
use Rattle.sync_format.specs.Summaries.{ascend}
use Rattle.sync_format.proofs.summary_reading.ascend.Given as goal

-- the names before this index ascend, so the rest decides
abbrev pub invariant-loop-place : goal.invariant-loop-place
invariant-loop-place l = record {
  from : 1 ≤ l.place;
  so : ascend l.stamps ≡ ascend (drop (l.place - 1) l.stamps);
}
