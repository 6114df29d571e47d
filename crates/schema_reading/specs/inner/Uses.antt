-- Defines the graph of the common types of a file: if the definition of a common type is only the name of another, an
-- edge leads from the first to the other.
-- Source: Cedar reference guide, "Schema JSON format": a common type may be a reference to another.
use Rattle.std.specs.Prelude.{ℕ, ◌+◌, List, [], ◌∷◌, map, Option, Some, None, if◌then◌else◌}
use Rattle.std.specs.Str.{bytes_eq}
use Rattle.schema_types.specs.Orders.{Graph}
use Rattle.schema_types.specs.Names.{Scope}
use Rattle.schema_reading.specs.inner.StatedViews.{common_view}
use Rattle.schema_reading.specs.Qualifying.{CommonOf, common_in}
use Rattle.schema_reading.specs.Records.{common_meant}
use Rattle.schema_reading.specs.declared.order.ListedCommon.{ListedCommon}

-- `listed_view l` is the abstract value of the common type `l` of the code.
abbrev pub listed_view : ListedCommon → CommonOf
listed_view l = common_in l.own.now (common_view l.common.now)

-- `place_from i cs q found` is the last index at which `cs`, whose first index is `i`, declares `q`, or `found` if `cs`
-- does not declare `q`.
abbrev pub place_from : ℕ → List CommonOf → List ℕ → Option ℕ → Option ℕ
place_from i [] q found = found
place_from i (c ∷ cs) q found = place_from (i + 1) cs q (if bytes_eq c.name q then Some i else found)

-- `place_of commons q` is the last index at which `commons` declares `q`, if it does.
abbrev pub place_of : List CommonOf → List ℕ → Option ℕ
place_of commons q = place_from 0 commons q None

-- `place_meant place o` is the index of the name in `o`, if there is a name and `place` has an index for it.
abbrev pub place_meant : (List ℕ → Option ℕ) → Option (List ℕ) → Option ℕ
place_meant place None = None
place_meant place (Some q) = place q

-- `in_list o` is the index in `o`, as a list; `[]` if `o` is `None`.
abbrev pub in_list : Option ℕ → List ℕ
in_list None = []
in_list (Some a) = a ∷ []

-- `place_used place s c` is the index that `place` gives for the common type whose name is the definition of `c`, as a
-- list; `[]` if the definition is not such a name, or if `place` gives no index. `s` has the declared names.
abbrev pub place_used : (List ℕ → Option ℕ) → Scope → CommonOf → List ℕ
place_used place s c = in_list (place_meant place (common_meant s c.own c.type))

-- `uses s commons` is the graph of the common types `commons`: if the definition of one is only the name of another, an
-- edge leads from the index of the first to the index of the other. `s` has the declared names.
abbrev pub uses : Scope → List CommonOf → Graph
uses s commons = map (λ c. place_used (place_of commons) s c) commons
