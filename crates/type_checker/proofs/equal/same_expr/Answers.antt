use Rattle.std.proofs.Common.{sym, ap, ◌∙◌}
use Rattle.std.specs.Ordering.{is_eq}
use Rattle.values.specs.Uids.{equal-is}
use Rattle.type_capabilities.specs.Ordered.{expr_cmp-IsTotalOrder, expr_cmp-IsAntisymmetric}
use Rattle.type_checker.proofs.equal.same_expr.Goals as goal

pub returns : goal.returns
returns c =
    let i = equal-is expr_cmp-IsTotalOrder expr_cmp-IsAntisymmetric c.args.one.now c.args.other.now in
    let e = c.is_eq.ensures ∙ ap is_eq c.compare.ensures in
    λ t. i.0 (sym e ∙ t)
