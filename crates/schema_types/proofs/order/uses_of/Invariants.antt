use Rattle.std.proofs.Common.{◌≡◌, ◌++◌, drop}
use Rattle.std.specs.BTreeMap.{get_by_text}
use Rattle.schema_types.specs.Orders.{graph_of}
use Rattle.schema_types.proofs.Named.{uses_by}
use Rattle.schema_types.proofs.order.uses_of.Given as goal

abbrev pub invariant-loop-common : goal.invariant-loop-common
invariant-loop-common l =
    uses_by (λ q. get_by_text l.places q) l.commons ≡ graph_of l.edges.items ++ uses_by (λ q. get_by_text l.places q) (drop l.common-index l.commons)
