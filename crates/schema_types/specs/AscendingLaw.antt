-- Defines the theorems on when the keys of each record in a type ascend, for a type that JSON describes, one with
-- resolved names, and an expanded one.
use Rattle.std.specs.Prelude.{◌≡◌, ℕ, List, Bool, Option, Ok}
use Rattle.serde_json.specs.Data.{Data}
pub use Rattle.json_words.specs.Ascending.{JsonAscends}
use Rattle.schema_types.specs.Raw.{Raw}
use Rattle.schema_types.specs.Qualified.{Qualified}
use Rattle.schema_types.specs.Cedar.{Cedar}
use Rattle.schema_types.specs.Names.{Scope, qualified_of}
use Rattle.schema_types.specs.TypeShape.{type_of}
use Rattle.schema_types.specs.Expansions.{Declarations, Declares, IsExpansion}
use Rattle.schema_types.specs.Ascending.{DataAscends, RawAscends, QualifiedAscends, KeysAscend}

-- `StatedTypesAscend`: if the keys of each object in the JSON of a type ascend, so do the keys in the type.
abbrev pub StatedTypesAscend : Type 0
StatedTypesAscend =
    (is_attribute : Bool) (d : Data) (r : Raw) → type_of is_attribute d ≡ Ok r → DataAscends d → RawAscends r

-- `FoundTypesAscend`: if the keys in a type ascend, they still ascend after the names in the type are resolved.
abbrev pub FoundTypesAscend : Type 0
FoundTypesAscend =
    (s : Scope) (own : Option (List ℕ)) (r : Raw) (n : Qualified) → qualified_of s own r ≡ Ok n → RawAscends r
    → QualifiedAscends n

-- `AllAscend commons` holds if the keys in each common type that `commons` declares ascend.
abbrev pub AllAscend : Declarations → Type 0
AllAscend commons = (q : List ℕ) (r : Qualified) → Declares commons q r → QualifiedAscends r

-- `WrittenTypesAscend`: if the keys in a type and in each declared common type ascend, so do the keys in the type's
-- expansion.
abbrev pub WrittenTypesAscend : Type 0
WrittenTypesAscend =
    (commons : Declarations) → AllAscend commons → (r : Qualified) (t : Cedar) → IsExpansion commons r t
    → QualifiedAscends r → KeysAscend t
