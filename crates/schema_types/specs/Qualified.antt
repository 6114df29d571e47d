-- Defines types with resolved names.
-- Source: Cedar reference guide 4.0, "Schema JSON format".
use Rattle.std.specs.Prelude.{ℕ, List, Bool}

-- A `Qualified` is a type in which each name is a full name.
mutual
  pub data Qualified : Type 0 where
    text : Qualified
    long : Qualified
    boolean : Qualified
    decimal : Qualified
    ipaddr : Qualified
    set : Qualified → Qualified
    record_of : QualifiedFields → Qualified
    entity : List ℕ → Qualified
    common : List ℕ → Qualified

  pub data QualifiedFields : Type 0 where
    no_fields : QualifiedFields
    field : List ℕ → Qualified → Bool → QualifiedFields → QualifiedFields
