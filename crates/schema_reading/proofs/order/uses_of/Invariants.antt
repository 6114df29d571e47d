use Rattle.std.proofs.Common.{◌≡◌, ◌++◌, drop}
use Rattle.std.specs.BTreeMap.{get_by_text}
use Rattle.schema_types.specs.Orders.{graph_of}
use Rattle.schema_types.specs.NamesViews.{scope_of}
use Rattle.schema_reading.proofs.UsesLemmas.{uses_by}
use Rattle.schema_reading.proofs.order.uses_of.Given as goal

abbrev pub invariant-loop-listed : goal.invariant-loop-listed
invariant-loop-listed l =
    uses_by (λ q. get_by_text l.places q) (scope_of l.names) l.commons
    ≡ graph_of l.edges.items ++ uses_by (λ q. get_by_text l.places q) (scope_of l.names) (drop l.listed-index l.commons)
