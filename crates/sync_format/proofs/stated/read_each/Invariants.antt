use Rattle.std.proofs.Common.{◌≡◌, map, take, Ok}
use Rattle.serde_json.specs.View.{view}
use Rattle.json_words.specs.Each.{each}
use Rattle.sync_format.specs.Messages.{entry_in}
use Rattle.sync_format.specs.inner.Reading.{stated_update}
use Rattle.sync_format.proofs.stated.read_each.Given as goal

-- what was read so far
abbrev pub invariant-loop-value : goal.invariant-loop-value
invariant-loop-value l = each (λ i d. entry_in l.version d) 0 (map view (take l.value-index l.values)) ≡ Ok (map stated_update l.entries.items)
