use Rattle.std.proofs.Common.{sym, ◌∙◌}
use Rattle.schema.specs.inner.Making.{PlaceMay, PlaceMust}
use Rattle.schema.proofs.FillingLemmas.{adds_entry}
use Rattle.schema.proofs.PlaceLemmas.{place_cmp-IsAntisymmetric}
use Rattle.schema.proofs.environments.add_place.Goals as goal

pub returns : goal.returns
returns c =
    adds_entry place_cmp-IsAntisymmetric c.args.places.now c.put.new.map c.in_ok-place.place _ c.in_ok-put.ensures
    (PlaceMay c.args.action.now c.args.context.now c.args.principal.now c.args.resource.now) (PlaceMust c.args.action.now c.args.principal.now c.args.resource.now) _
    (sym c.in_ok-place.ensures, c.in_ok-context.ensures) (λ k m. c.in_ok-place.ensures ∙ m) tt
