use Rattle.std.proofs.Common.{◌≡◌, map, take, Ok}
use Rattle.serde_json.specs.View.{view}
use Rattle.json_words.specs.Each.{each}
use Rattle.schema_reading.specs.FileForm.{parent_of}
use Rattle.schema_reading.proofs.reading_actions.read_parents.Given as goal

abbrev pub invariant-loop-value : goal.invariant-loop-value
invariant-loop-value l = each (λ i d. parent_of d) 0 (map view (take l.value-index l.values)) ≡ Ok l.parents
