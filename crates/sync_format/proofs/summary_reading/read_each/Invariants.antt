use Rattle.std.proofs.Common.{◌≡◌, map, take, Ok}
use Rattle.serde_json.specs.View.{view}
use Rattle.json_words.specs.Each.{each}
use Rattle.sync_format.specs.Summaries.{stamp_in}
use Rattle.sync_format.proofs.summary_reading.read_each.Given as goal

abbrev pub invariant-loop-value : goal.invariant-loop-value
invariant-loop-value l = each (λ i d. stamp_in l.version d) 0 (map view (take l.value-index l.values)) ≡ Ok l.stamps.items
