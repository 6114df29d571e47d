-- The order of places.
use Rattle.std.specs.Cmp.{IsTotalOrder}
use Rattle.std.specs.FinMap.{IsAntisymmetric}
use Rattle.std.specs.Ordering.{ordering_then}
use Rattle.std.proofs.lemmas.Cmp.{then_total, on_total}
use Rattle.values.specs.Uids.{uid_cmp, text_cmp, uid_cmp-IsTotalOrder, text_cmp-IsTotalOrder, uid_cmp-IsAntisymmetric, text_cmp-IsAntisymmetric, both_equal}
use Rattle.schema.specs.Schemas.{place_cmp}

pub place_cmp-IsTotalOrder : IsTotalOrder place_cmp
place_cmp-IsTotalOrder =
    then_total (on_total (λ p. p.action) uid_cmp-IsTotalOrder)
    (then_total (on_total (λ p. p.principal) text_cmp-IsTotalOrder) (on_total (λ p. p.resource) text_cmp-IsTotalOrder))

pub place_cmp-IsAntisymmetric : IsAntisymmetric place_cmp
place_cmp-IsAntisymmetric p q h =
    let behind = ordering_then (text_cmp p.principal q.principal) (text_cmp p.resource q.resource) in
    let outer = both_equal (uid_cmp p.action q.action) behind h in
    let inner = both_equal (text_cmp p.principal q.principal) (text_cmp p.resource q.resource) outer.1 in
    let actions = uid_cmp-IsAntisymmetric p.action q.action outer.0 in
    let principals = text_cmp-IsAntisymmetric p.principal q.principal inner.0 in
    let resources = text_cmp-IsAntisymmetric p.resource q.resource inner.1 in
    λ i. record { action = actions i; principal = principals i; resource = resources i }
