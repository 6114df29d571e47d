-- Defines capabilities, each an expression and the name of a field, and their order: by names, and then by expressions.
-- Source: Cedar reference guide 4.0, "Policy validation" (`has`): a field that is known to be present may be accessed.
-- Rules of this product: the order.
use Rattle.std.specs.Prelude.{ℕ, List, map}
use Rattle.std.proofs.Common.{ap, ◌∙◌}
use Rattle.std.specs.declared.cmp.Ordering.{Ordering}
use Rattle.std.specs.Ordering.{ordering_then}
use Rattle.std.specs.Cmp.{IsTotalOrder}
use Rattle.std.specs.FinMap.{IsAntisymmetric}
use Rattle.std.proofs.lemmas.Cmp.{on_total, then_total, nat_list_cmp_total}
use Rattle.values.specs.Uids.{text_cmp, text_cmp-IsAntisymmetric, both_equal}
use Rattle.grammar_core.specs.declared.expr.Expr.{Expr}
use Rattle.type_capabilities.specs.Order.{expr_cmp}
use Rattle.type_capabilities.specs.Ordered.{expr_cmp-IsTotalOrder, expr_cmp-IsAntisymmetric}
use Rattle.type_capabilities.specs.declared.capability.Capability.{Capability}

-- A `CapabilityValue` is an abstract capability: an expression and the name of a field.
abbrev pub CapabilityValue : Type 0
CapabilityValue = Expr × List ℕ

-- `capability_of p` is the abstract value of the code's capability `p`, which borrows its expression and its name.
abbrev pub capability_of : Capability → CapabilityValue
capability_of p = (p.whole.now, p.name.now)

-- `capabilities ps` are the abstract values of the code's capabilities `ps`.
abbrev pub capabilities : List Capability → List CapabilityValue
capabilities ps = map capability_of ps

-- `capability_cmp p q` compares the capabilities `p` and `q` by names, and then by expressions.
abbrev pub capability_cmp : CapabilityValue → CapabilityValue → Ordering
capability_cmp p q = ordering_then (text_cmp p.1 q.1) (expr_cmp p.0 q.0)

-- `borrowed_cmp p q` compares the code's capabilities `p` and `q` as `capability_cmp` compares their abstract values.
abbrev pub borrowed_cmp : Capability → Capability → Ordering
borrowed_cmp p q = capability_cmp (capability_of p) (capability_of q)

-- The order of capabilities is total.
pub capability_cmp-IsTotalOrder : IsTotalOrder capability_cmp
capability_cmp-IsTotalOrder = then_total (on_total (λ p. p.1) nat_list_cmp_total)
    (on_total (λ p. p.0) expr_cmp-IsTotalOrder)

-- Only equal capabilities compare as equal.
pub capability_cmp-IsAntisymmetric : IsAntisymmetric capability_cmp
capability_cmp-IsAntisymmetric p q e =
    let h = both_equal (text_cmp p.1 q.1) (expr_cmp p.0 q.0) e in
    ap (λ x. (x, p.1)) (expr_cmp-IsAntisymmetric p.0 q.0 h.1)
    ∙ ap (λ k. (q.0, k)) (text_cmp-IsAntisymmetric p.1 q.1 h.0)

-- The order of the code's capabilities is total.
pub borrowed_cmp-IsTotalOrder : IsTotalOrder borrowed_cmp
borrowed_cmp-IsTotalOrder = on_total capability_of capability_cmp-IsTotalOrder
