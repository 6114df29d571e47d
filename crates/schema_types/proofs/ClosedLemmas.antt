-- A type whose common types are all declared has a size in a table that knows each common type that is declared.
use Rattle.std.proofs.Common.{◌≡◌, inl, inr, ℕ, List, Some, refl}
use Rattle.schema_types.specs.Qualified as qualified
use Rattle.schema_types.specs.Qualified.{Qualified, QualifiedFields}
use Rattle.schema_types.specs.Expansions.{Declarations}
use Rattle.schema_types.specs.Mentions.{Mentions, FieldsMention, IsClosed}
use Rattle.schema_types.specs.TypeTables.{Extent, TableEntry, TypeTable, AreWritten}
use Rattle.schema_types.specs.inner.Table.{leaf_size, no_size, node_size, side_by_side, size_in, sizes_in, HasSize}

mutual
  unfolding size_in

  sized : (known : TypeTable) (r : Qualified) → ((q : List ℕ) → Mentions r q → (k : TableEntry) × (known q ≡ Some k)) → (s : Extent) × (size_in known r ≡ Some s)
  sized known qualified.text h = (leaf_size, refl)
  sized known qualified.long h = (leaf_size, refl)
  sized known qualified.boolean h = (leaf_size, refl)
  sized known qualified.decimal h = (leaf_size, refl)
  sized known qualified.ipaddr h = (leaf_size, refl)
  sized known (qualified.set r) h = let p = sized known r h in (node_size p.0, rw p.1 refl)
  sized known (qualified.record_of rs) h = let p = fields_sized known no_size rs h in (node_size p.0, rw p.1 refl)
  sized known (qualified.entity n) h = (leaf_size, refl)
  sized known (qualified.common q) h = let p = h q refl in (p.0.size, rw p.1 refl)

  fields_sized : (known : TypeTable) (total : Extent) (rs : QualifiedFields) → ((q : List ℕ) → FieldsMention rs q → (k : TableEntry) × (known q ≡ Some k)) → (s : Extent) × (sizes_in known total rs ≡ Some s)
  fields_sized known total qualified.no_fields h = (total, refl)
  fields_sized known total (qualified.field k r b rs) h =
      let p = sized known r (λ q m. h q (inl m)) in
      let t = fields_sized known (side_by_side total p.0) rs (λ q m. h q (inr m)) in (t.0, rw p.1 t.1)

pub closed_sized : (commons : Declarations) (known : TypeTable) → AreWritten commons known → (r : Qualified) → IsClosed commons r → HasSize known r
closed_sized commons known w r closed =
    let p = sized known r (λ q m. let d = closed q m in w.all q d.0 d.1) in record { size = p.0; is = p.1 }
