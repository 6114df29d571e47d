use Rattle.std.proofs.Common.{◌≡◌, ℕ, List, map, drop}
use Rattle.std.specs.BTreeMap.{get_by_text}
use Rattle.schema_types.specs.QualifiedViews.{resolved_common_view}
use Rattle.schema_types.specs.inner.Order.{place_from, place_of}
use Rattle.schema_types.proofs.order.places_of.Given as goal

abbrev pub invariant-loop-place : goal.invariant-loop-place
invariant-loop-place l = (q : List ℕ)
    → place_of (map resolved_common_view l.commons) q ≡ place_from l.place (map resolved_common_view (drop l.place l.commons)) q (get_by_text l.places q)
