use Rattle.std.proofs.Common.{◌∙◌, List, Vec, Global, ℕ, IfOk, ap, map, subst}
use Rattle.std.specs.BTreeMap.{get_by_text}
use Rattle.schema_types.specs.Orders.{Graph, graph_of, IsSuccessorsFirst}
use Rattle.schema_types.specs.QualifiedViews.{resolved_common_view}
use Rattle.schema_types.proofs.Named.{are_uses}
use Rattle.schema_types.proofs.order.order_of.Goals as goal

pub returns : goal.returns
returns c = subst (λ (g : Graph). IfOk c.successors_first.result (λ order. IsSuccessorsFirst g order.items))
    (ap (λ (es : List (Vec ℕ Global)). graph_of es) c.as_slice.ensures.value ∙ c.in_ok-edges.ensures
    ∙ are_uses (map resolved_common_view c.args.commons.now) (λ q. get_by_text c.in_ok-places.places q) c.in_ok-places.ensures)
    c.successors_first.ensures
