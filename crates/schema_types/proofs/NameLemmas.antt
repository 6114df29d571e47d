-- A text is a type name or is none.
use Rattle.std.proofs.Common.{◌≡◌, ℕ, List, Bool, true, false, Ok, Err, sym, ap, refl}
use Rattle.std.specs.Prelude.{IsTrue}
use Rattle.plain.specs.Words.{IsPath}
use Rattle.values.specs.Paths.{is_path, PathTestIsExact}
use Rattle.schema_types.specs.declared.fault.SchemaFault.TheVariants.{BadShape}
use Rattle.schema_types.specs.TypeShape.{type_name}

pub is_named : PathTestIsExact → (text name : List ℕ) → IsPath text → name ≡ text → type_name text ≡ Ok name
unfolding type_name
is_named told text name is same = rw ((told text).1 is) (ap Ok (sym same))

failed : (b : Bool) → (IsTrue b → ⊥) → b ≡ false
failed true none = absurd (none refl)
failed false none = refl

pub is_unnamed : PathTestIsExact → (text : List ℕ) → (IsPath text → ⊥) → type_name text ≡ Err BadShape
unfolding type_name
is_unnamed told text none = rw (failed (is_path text) (λ h. none ((told text).0 h))) refl
