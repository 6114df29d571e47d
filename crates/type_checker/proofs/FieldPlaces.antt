-- The field at a place, as lists hold it.
use Rattle.std.proofs.Common.{◌≡◌, ℕ, zero, suc, Bool, List, [], ◌∷◌, slice_get, Option, Some, None, refl, ap}
use Rattle.std.specs.Borrow.{Bor}
use Rattle.typing.specs.Types.{no_field_types, field_type}
use Rattle.schema_types.specs.declared.cedar.CedarType.{CedarType}
use Rattle.schema_types.specs.CedarViews.{cedar_view, cedar_fields_view}
use Rattle.type_checker.specs.FromSchemas.{static, static_fields}
use Rattle.type_checker.specs.Views.{static_view}
use Rattle.type_checker.specs.inner.Parts.{built_view, fields_after}
use Rattle.type_checker.specs.declared.static_type.StaticType.{StaticType}

abbrev some : {A : Type 0} → A → Option A
some x = Some x

some_same : {A : Type 0} (x y : A) → some x ≡ some y → x ≡ y
some_same x y e = cc

abbrev pub Built : Type 0
Built = Bor (List ℕ) × StaticType × Bool

abbrev pub Declared : Type 0
Declared = List ℕ × CedarType × Bool

-- the field at a place
pub built_some : (fs : List Built) (i : ℕ) (f : Built) → slice_get fs i ≡ some f
    → fields_after i (built_view fs) ≡ field_type f.0.now (static_view f.1) f.2 (fields_after (suc i) (built_view fs))
built_some [] i f e = absurd cc
built_some (x ∷ fs) zero f e = ap (λ g. field_type g.0.now (static_view g.1) g.2 (built_view fs)) (some_same x f e)
built_some (x ∷ fs) (suc i) f e = built_some fs i f e

pub built_none : (fs : List Built) (i : ℕ) → slice_get fs i ≡ None → fields_after i (built_view fs) ≡ no_field_types
built_none [] zero e = refl
built_none [] (suc i) e = refl
built_none (x ∷ fs) zero e = absurd cc
built_none (x ∷ fs) (suc i) e = built_none fs i e

pub declared_some : (fs : List Declared) (i : ℕ) (f : Declared) → slice_get fs i ≡ some f
    → fields_after i (static_fields (cedar_fields_view fs))
    ≡ field_type f.0 (static (cedar_view f.1)) f.2 (fields_after (suc i) (static_fields (cedar_fields_view fs)))
declared_some [] i f e = absurd cc
declared_some (x ∷ fs) zero f e =
    ap (λ g. field_type g.0 (static (cedar_view g.1)) g.2 (static_fields (cedar_fields_view fs))) (some_same x f e)
declared_some (x ∷ fs) (suc i) f e = declared_some fs i f e

pub declared_none : (fs : List Declared) (i : ℕ) → slice_get fs i ≡ None
    → fields_after i (static_fields (cedar_fields_view fs)) ≡ no_field_types
declared_none [] zero e = refl
declared_none [] (suc i) e = refl
declared_none (x ∷ fs) zero e = absurd cc
declared_none (x ∷ fs) (suc i) e = declared_none fs i e
