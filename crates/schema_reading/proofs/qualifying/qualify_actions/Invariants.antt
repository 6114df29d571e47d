use Rattle.std.proofs.Common.{◌≡◌, map, take, Ok}
use Rattle.json_words.specs.Each.{each}
use Rattle.schema_types.specs.NamesViews.{scope_of, is_action_of}
use Rattle.schema_reading.specs.inner.StatedViews.{action_view}
use Rattle.schema_reading.specs.ResolvedViews.{resolved_action_view}
use Rattle.schema_reading.specs.Qualifying.{qualified_action}
use Rattle.schema_reading.proofs.qualifying.qualify_actions.Given as goal

abbrev pub invariant-loop-item : goal.invariant-loop-item
invariant-loop-item l = each (λ i x. qualified_action (scope_of l.names) (is_action_of l.names) l.own x) 0 (map action_view (take l.item-index l.stated)) ≡ Ok (map resolved_action_view l.found)
