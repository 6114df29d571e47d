use Rattle.std.proofs.Common.{◌≡◌, ℕ, List, map, drop}
use Rattle.std.specs.BTreeMap.{get_by_text}
use Rattle.schema_reading.specs.inner.Uses.{listed_view, place_from, place_of}
use Rattle.schema_reading.proofs.order.places_of.Given as goal

abbrev pub invariant-loop-place : goal.invariant-loop-place
invariant-loop-place l = (q : List ℕ)
    → place_of (map listed_view l.commons) q ≡ place_from l.place (map listed_view (drop l.place l.commons)) q (get_by_text l.places q)
