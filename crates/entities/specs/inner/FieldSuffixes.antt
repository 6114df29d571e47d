-- Defines when a list of fields may be shortened for look-ups of names in ascending order.
use Rattle.std.specs.Prelude.{◌≡◌, ℕ, List}
use Rattle.std.specs.declared.cmp.Ordering.TheVariants.{Less}
use Rattle.values.specs.Uids.{text_cmp}
use Rattle.schema_types.specs.Cedar.{CedarFields}
use Rattle.entities.specs.Parts.{declared_at}

-- `DeclareAlikeFrom name fs gs` holds if `fs` and `gs` declare the same type, or none, for each name not less than
-- `name`.
abbrev pub DeclareAlikeFrom : List ℕ → CedarFields → CedarFields → Type 0
DeclareAlikeFrom name fs gs = (k : List ℕ) → (text_cmp k name ≡ Less → ⊥) → declared_at k fs ≡ declared_at k gs
