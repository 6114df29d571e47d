-- The fields of record types, as lists hold them.
use Rattle.std.proofs.Common.{◌≡◌, ℕ, zero, suc, ◌≤◌, arith, Bool, List, [], ◌∷◌, length, refl, ap}
use Rattle.std.specs.Borrow.{Bor}
use Rattle.typing.specs.Types.{FieldTypes, no_field_types, field_type}
use Rattle.schema_types.specs.declared.cedar.CedarType.{CedarType}
use Rattle.schema_types.specs.CedarViews.{cedar_fields_view}
use Rattle.type_checker.specs.FromSchemas.{static_fields}
use Rattle.type_checker.specs.inner.Parts.{built_view, fields_count, fields_after}
use Rattle.type_checker.specs.declared.static_type.StaticType.{StaticType}

abbrev pub Built : Type 0
Built = Bor (List ℕ) × StaticType × Bool

abbrev pub Declared : Type 0
Declared = List ℕ × CedarType × Bool

-- how many there are
pub built_count : (fs : List Built) → length fs ≡ fields_count (built_view fs)
built_count [] = refl
built_count (f ∷ fs) = ap (λ n. suc n) (built_count fs)

pub declared_count : (fs : List Declared) → length fs ≡ fields_count (static_fields (cedar_fields_view fs))
declared_count [] = refl
declared_count (f ∷ fs) = ap (λ n. suc n) (declared_count fs)

-- nothing stands behind all
pub behind_past : (ts : FieldTypes) (i : ℕ) → fields_count ts ≤ i → fields_after i ts ≡ no_field_types
behind_past no_field_types zero past = refl
behind_past no_field_types (suc i) past = refl
behind_past (field_type k t r ts) zero past = absurd (omega (arith, past))
behind_past (field_type k t r ts) (suc i) past =
    let low : fields_count ts ≤ i = omega (arith, past) in
    behind_past ts i low
