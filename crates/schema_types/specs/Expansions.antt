-- Defines the expansion of a type: each common type in it is replaced by its definition.
-- Source: Cedar reference guide 4.0, "Schema JSON format".
use Rattle.std.specs.Prelude.{◌≡◌, ◌⊎◌, ℕ, List, [], ◌∷◌, Bool}
use Rattle.schema_types.specs.Qualified as qualified
use Rattle.schema_types.specs.Qualified.{Qualified, QualifiedFields}
use Rattle.schema_types.specs.Cedar as cedar
use Rattle.schema_types.specs.Cedar.{Cedar, CedarFields}

-- `Declarations` is the type of lists of common types, each a name with its definition.
abbrev pub Declarations : Type 0
Declarations = List (List ℕ × Qualified)

-- `Declares ds q r` holds if `ds` has the definition `r` for the name `q`.
abbrev pub Declares : Declarations → List ℕ → Qualified → Type 0
Declares [] q r = ⊥
Declares (d ∷ ds) q r = ((d.0 ≡ q) × (d.1 ≡ r)) ⊎ Declares ds q r

-- `IsExpansion commons r t` holds if `t` is the expansion of the type `r`, by one case for each form; `commons` are the
-- declared common types. If no name has two definitions, a common type that refers to itself has no expansion, since
-- its expansion would not be finite.
mutual
  pub data IsExpansion (commons : Declarations) : Qualified → Cedar → Type 0 where
    text : IsExpansion commons qualified.text cedar.text
    long : IsExpansion commons qualified.long cedar.long
    boolean : IsExpansion commons qualified.boolean cedar.boolean
    decimal : IsExpansion commons qualified.decimal cedar.decimal
    ipaddr : IsExpansion commons qualified.ipaddr cedar.ipaddr
    set : (r : Qualified) (t : Cedar) → IsExpansion commons r t → IsExpansion commons (qualified.set r) (cedar.set t)
    record_of : (rs : QualifiedFields) (ts : CedarFields) → AreFieldExpansions commons rs ts
        → IsExpansion commons (qualified.record_of rs) (cedar.record_of ts)
    entity : (n : List ℕ) → IsExpansion commons (qualified.entity n) (cedar.entity n)
    common : (q : List ℕ) (r : Qualified) (t : Cedar) → Declares commons q r → IsExpansion commons r t
        → IsExpansion commons (qualified.common q) t

  -- `AreFieldExpansions commons rs ts` holds if `ts` are the fields `rs`, with each type replaced by its expansion.
  pub data AreFieldExpansions (commons : Declarations) : QualifiedFields → CedarFields → Type 0 where
    no_fields : AreFieldExpansions commons qualified.no_fields cedar.no_fields
    field : (k : List ℕ) (r : Qualified) (t : Cedar) (required : Bool) (rs : QualifiedFields) (ts : CedarFields)
        → IsExpansion commons r t → AreFieldExpansions commons rs ts
        → AreFieldExpansions commons (qualified.field k r required rs) (cedar.field k t required ts)

-- `HasNoExpansion commons q` holds if the common type `q` has no expansion.
abbrev pub HasNoExpansion : Declarations → List ℕ → Type 0
HasNoExpansion commons q = (t : Cedar) → IsExpansion commons (qualified.common q) t → ⊥
