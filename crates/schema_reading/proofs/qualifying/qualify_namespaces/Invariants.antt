use Rattle.std.proofs.Common.{◌≡◌, map, take, Ok}
use Rattle.json_words.specs.Each.{each}
use Rattle.schema_types.specs.NamesViews.{scope_of, is_action_of}
use Rattle.schema_reading.specs.inner.StatedViews.{namespace_view}
use Rattle.schema_reading.specs.ResolvedViews.{resolved_view}
use Rattle.schema_reading.specs.Qualifying.{qualified_namespace}
use Rattle.schema_reading.proofs.qualifying.qualify_namespaces.Given as goal

abbrev pub invariant-loop-item : goal.invariant-loop-item
invariant-loop-item l = each (λ i x. qualified_namespace (scope_of l.names) (is_action_of l.names) x) 0 (map namespace_view (take l.item-index l.stated)) ≡ Ok (map resolved_view l.found)
