-- Defines the size and the expansion of a type, computed from a table of its common types.
use Rattle.std.specs.Prelude.{◌≡◌, ⊤, ◌&&◌, ◌+◌, min, max, [], ◌∷◌, Bool, true, Option, Some, None}
use Rattle.std.specs.Prelude.{◌≤◌, option_map, is_some, option_and_then, nat_lt, if◌then◌else◌}
use Rattle.schema_types.specs.Qualified as qualified
use Rattle.schema_types.specs.Qualified.{Qualified, QualifiedFields}
use Rattle.schema_types.specs.Cedar as cedar
use Rattle.schema_types.specs.Cedar.{Cedar, CedarFields}
use Rattle.schema_types.specs.Expansions.{Declarations}
use Rattle.schema_types.specs.TypeTables.{Extent, TableEntry, TypeTable}

-- `leaf_size` is the size of a type without parts: one node.
abbrev pub leaf_size : Extent
leaf_size = record { parts = 1; deep = 1 }

-- `no_size` is the size of the fields of a record that has no fields.
abbrev pub no_size : Extent
no_size = record { parts = 0; deep = 0 }

-- `node_size s` is the size of a node whose parts together have the size `s`.
abbrev pub node_size : Extent → Extent
node_size s = record { parts = min (s.parts + 1) 10001; deep = min (s.deep + 1) 65 }

-- `side_by_side s t` is the size of parts of the sizes `s` and `t` together.
abbrev pub side_by_side : Extent → Extent → Extent
side_by_side s t = record { parts = min (s.parts + t.parts) 10001; deep = max s.deep t.deep }

-- `size_in known r` is the size of the expansion of `r`, if the table `known` has an entry for each common type that
-- `r` mentions.
unfoldable mutual
  pub size_in : TypeTable → Qualified → Option Extent
  size_in known qualified.text = Some leaf_size
  size_in known qualified.long = Some leaf_size
  size_in known qualified.boolean = Some leaf_size
  size_in known qualified.decimal = Some leaf_size
  size_in known qualified.ipaddr = Some leaf_size
  size_in known (qualified.set r) = option_map node_size (size_in known r)
  size_in known (qualified.record_of rs) = option_map node_size (sizes_in known no_size rs)
  size_in known (qualified.entity n) = Some leaf_size
  size_in known (qualified.common q) = option_map (λ k. k.size) (known q)

  -- `sizes_in known total rs` is the size of the fields `rs`, added to `total`, if the table `known` has an entry for
  -- each common type that `rs` mention.
  pub sizes_in : TypeTable → Extent → QualifiedFields → Option Extent
  sizes_in known total qualified.no_fields = Some total
  sizes_in known total (qualified.field k r required rs) =
      option_and_then (λ s. sizes_in known (side_by_side total s) rs) (size_in known r)

-- `written_in known r` is the expansion of `r`, if the table `known` has an expansion for each common type that `r`
-- mentions.
unfoldable mutual
  pub written_in : TypeTable → Qualified → Option Cedar
  written_in known qualified.text = Some cedar.text
  written_in known qualified.long = Some cedar.long
  written_in known qualified.boolean = Some cedar.boolean
  written_in known qualified.decimal = Some cedar.decimal
  written_in known qualified.ipaddr = Some cedar.ipaddr
  written_in known (qualified.set r) = option_map cedar.set (written_in known r)
  written_in known (qualified.record_of rs) = option_map cedar.record_of (fields_in known rs)
  written_in known (qualified.entity n) = Some (cedar.entity n)
  written_in known (qualified.common q) = option_and_then (λ k. k.whole) (known q)

  -- `fields_in known rs` are the fields `rs`, with each type replaced by its expansion, if the table `known` has an
  -- expansion for each common type that `rs` mention.
  pub fields_in : TypeTable → QualifiedFields → Option CedarFields
  fields_in known qualified.no_fields = Some cedar.no_fields
  fields_in known (qualified.field k r required rs) =
      option_and_then (λ t. option_map (cedar.field k t required) (fields_in known rs)) (written_in known r)

-- ---- types that are not too large

-- `IsWithin s` holds if the size `s` is within the limits, 10,000 nodes and a depth of 64.
abbrev pub IsWithin : Extent → Type 0
IsWithin s = (s.parts ≤ 10000) × (s.deep ≤ 64)

-- `fits s` tests whether the size `s` is within the limits.
abbrev pub fits : Extent → Bool
fits s = nat_lt s.parts 10001 && nat_lt s.deep 65

-- `IsCounted known r` holds if `size_in known r` is a size within the limits.
pub record IsCounted (known : TypeTable) (r : Qualified) : Type 0 where
  pub size : Extent
  pub is : size_in known r ≡ Some size
  pub small : fits size ≡ true

-- `built_of known s r` is the expansion of `r` by the table `known` (`written_in`), or `None` if the size `s` of the
-- expansion is not within the limits.
abbrev pub built_of : TypeTable → Extent → Qualified → Option Cedar
built_of known s r = if fits s then written_in known r else None

-- ---- tables

-- `AreSettled known ds` holds if each of `ds` has an entry in the table `known`, or mentions a common type that has
-- none: no further entry can be added.
abbrev pub AreSettled : TypeTable → Declarations → Type 0
AreSettled known [] = ⊤
AreSettled known (d ∷ ds) = (known d.0 ≡ None → size_in known d.1 ≡ None) × AreSettled known ds

-- `all_known known ds` tests whether the table `known` has an entry for each name that `ds` declares.
abbrev pub all_known : TypeTable → Declarations → Bool
all_known known [] = true
all_known known (d ∷ ds) = is_some (known d.0) && all_known known ds

-- `is_small_at o` tests whether the entry in `o` has a size within the limits; true if `o` is `None`.
abbrev pub is_small_at : Option TableEntry → Bool
is_small_at None = true
is_small_at (Some k) = fits k.size

-- `all_small known ds` tests whether `is_small_at` is true of the entry of each name that `ds` declares.
abbrev pub all_small : TypeTable → Declarations → Bool
all_small known [] = true
all_small known (d ∷ ds) = is_small_at (known d.0) && all_small known ds

-- `HasSize known r` holds if `size_in known r` is a size.
pub record HasSize (known : TypeTable) (r : Qualified) : Type 0 where
  pub size : Extent
  pub is : size_in known r ≡ Some size
