use Rattle.std.proofs.Common.{◌≡◌, map, take, Ok}
use Rattle.json_words.specs.Each.{each}
use Rattle.schema_types.specs.NamesViews.{is_action_of}
use Rattle.schema_reading.specs.Qualifying.{parent_named}
use Rattle.schema_reading.proofs.qualifying.qualify_parents.Given as goal

abbrev pub invariant-loop-parent : goal.invariant-loop-parent
invariant-loop-parent l = each (λ i p. parent_named (is_action_of l.names) l.own p) 0 (map (λ x. x) (take l.parent-index l.parents)) ≡ Ok l.found
