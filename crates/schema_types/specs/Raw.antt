-- Defines types as a schema writes them, before names are resolved.
-- Source: Cedar reference guide 4.0, "Schema JSON format".
use Rattle.std.specs.Prelude.{ℕ, List, Bool}

-- A `Raw` is a type as written in a schema.
mutual
  pub data Raw : Type 0 where
    text : Raw
    long : Raw
    boolean : Raw
    decimal : Raw
    ipaddr : Raw
    set : Raw → Raw
    record_of : RawFields → Raw
    -- an entity type, a common type, and a name that may be either of these or a primitive or extension type
    entity : List ℕ → Raw
    common : List ℕ → Raw
    entity_or_common : List ℕ → Raw

  pub data RawFields : Type 0 where
    no_fields : RawFields
    -- a key, its type, and whether it is required
    field : List ℕ → Raw → Bool → RawFields → RawFields
