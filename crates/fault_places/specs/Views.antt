-- Defines the view of the place that a report on a typing error has.
-- Source: the rules of `typing` (BlamedExpressions.antt).
use Rattle.std.specs.Prelude.{map}
use Rattle.type_checker.specs.Views.{static_view}
use Rattle.fault_places.specs.declared.descending.BlamedForm.{BlamedForm}
use Rattle.typing.specs.BlamedExpressions.{Blame}

-- `place_view p` is the blame that the code's value `p` represents: its path, its form and its types.
abbrev pub place_view : BlamedForm → Blame
place_view p = record { path = p.path.items; form = p.form.now; types = map static_view p.types.items }
