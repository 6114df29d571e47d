use Rattle.std.proofs.Common.{ℕ, List, subst}
use Rattle.schema_types.specs.QualifiedViews.{qualified_view, resolved_common_view}
use Rattle.schema_types.specs.inner.Rounds.{Steps}
use Rattle.schema_types.proofs.Rounds.{kept_at}
use Rattle.schema_types.proofs.commons.add_at.Goals as goal

pub returns-in_ok-add_if_ready : goal.returns-in_ok-add_if_ready
returns-in_ok-add_if_ready c =
    let common = c.index-commons-place.result in
    let step : Steps (resolved_common_view common) c.args.table.now c.add_if_ready.new.table =
    subst (λ (n : List ℕ). Steps (n, qualified_view common.ty) c.args.table.now c.add_if_ready.new.table) c.as_str.ensures c.in_ok-add_if_ready.ensures in
    kept_at c.args.commons.now c.args.place common c.args.table.now c.add_if_ready.new.table c.if-place-commons.true c.index-commons-place.is step
