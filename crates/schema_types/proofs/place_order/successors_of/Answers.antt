use Rattle.std.proofs.Common.{◌∙◌, ap, sym}
use Rattle.schema_types.proofs.EndsFirst.{ends_at, no_ends}
use Rattle.schema_types.proofs.place_order.successors_of.Goals as goal

pub returns-then-place-edges : goal.returns-then-place-edges
returns-then-place-edges c = c.deref.ensures.value ∙ ap (λ v. v.items) c.index-edges-place.is ∙ sym (ends_at c.args.edges.now c.args.place c.if-place-edges.true c.index-edges-place.result)

pub returns-else-place-edges : goal.returns-else-place-edges
returns-else-place-edges c = sym (no_ends c.args.edges.now c.args.place c.if-place-edges.false)
