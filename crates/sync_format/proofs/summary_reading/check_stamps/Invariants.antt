use Rattle.std.proofs.Common.{◌≡◌, map, take, Ok}
use Rattle.json_words.specs.Each.{each}
use Rattle.sync_format.specs.Summaries.{checked_stamp}
use Rattle.sync_format.proofs.summary_reading.check_stamps.Given as goal

abbrev pub invariant-loop-place : goal.invariant-loop-place
invariant-loop-place l = each checked_stamp 0 (map (λ u. u) (take l.place l.stamps)) ≡ Ok (take l.place l.stamps)
