-- Defines the graph of the common types, in which an edge leads from each common type to those that it mentions.
use Rattle.std.specs.Prelude.{ℕ, ◌+◌, List, [], ◌∷◌, ◌++◌, map, Option, Some, None, if◌then◌else◌}
use Rattle.std.specs.Str.{bytes_eq}
use Rattle.schema_types.specs.Qualified as qualified
use Rattle.schema_types.specs.Qualified.{Qualified, QualifiedFields}
use Rattle.schema_types.specs.Expansions.{Declarations}
use Rattle.schema_types.specs.Orders.{Graph}

-- `listed o` is the index in `o`, as a list; `[]` if `o` is `None`.
abbrev pub listed : Option ℕ → List ℕ
listed None = []
listed (Some a) = a ∷ []

-- `places_named place r` are the indices of the common types that `r` mentions, where `place` gives the index of a
-- name.
unfoldable mutual
  pub places_named : (List ℕ → Option ℕ) → Qualified → List ℕ
  places_named place qualified.text = []
  places_named place qualified.long = []
  places_named place qualified.boolean = []
  places_named place qualified.decimal = []
  places_named place qualified.ipaddr = []
  places_named place (qualified.set r) = places_named place r
  places_named place (qualified.record_of rs) = fields_name place rs
  places_named place (qualified.entity n) = []
  places_named place (qualified.common q) = listed (place q)

  -- `fields_name place rs` are the indices of the common types that the types of the fields `rs` mention.
  pub fields_name : (List ℕ → Option ℕ) → QualifiedFields → List ℕ
  fields_name place qualified.no_fields = []
  fields_name place (qualified.field k r required rs) = places_named place r ++ fields_name place rs

-- `place_from i ds q found` is the last index at which `ds`, whose first index is `i`, declares `q`, or `found` if `ds`
-- does not declare `q`.
abbrev pub place_from : ℕ → Declarations → List ℕ → Option ℕ → Option ℕ
place_from i [] q found = found
place_from i (d ∷ ds) q found = place_from (i + 1) ds q (if bytes_eq d.0 q then Some i else found)

-- `place_of commons q` is the last index at which `commons` declares `q`, if it does.
abbrev pub place_of : Declarations → List ℕ → Option ℕ
place_of commons q = place_from 0 commons q None

-- `uses commons` is the graph that has, for the index of each of the common types `commons`, the indices of those that
-- it mentions.
abbrev pub uses : Declarations → Graph
uses commons = map (λ d. places_named (place_of commons) d.1) commons
