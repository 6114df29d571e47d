use Rattle.std.proofs.Common.{◌≡◌, map, take, Ok}
use Rattle.json_words.specs.Each.{each}
use Rattle.schema_types.specs.NamesViews.{scope_of}
use Rattle.schema_reading.specs.Qualifying.{entity_type_named}
use Rattle.schema_reading.proofs.qualifying.qualify_names.Given as goal

abbrev pub invariant-loop-word : goal.invariant-loop-word
invariant-loop-word l = each (λ i w. entity_type_named (scope_of l.names) l.own w) 0 (map (λ x. x) (take l.word-index l.words)) ≡ Ok l.found
