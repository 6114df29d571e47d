-- Defines the theorems about the canonical texts of entities.
-- Rules of this product: the canonical text.
use Rattle.std.specs.Prelude.{◌≡◌, ℕ, List, Some, Ok}
use Rattle.serde_json.specs.Data.{Data}
use Rattle.json_words.specs.Json.{json_of}
use Rattle.schema.specs.Schemas.{StatedSchema}
use Rattle.schema.specs.WellFormed.{IsWellFormed}
use Rattle.entity_data.specs.declared.entity.Entity.{Entity}
use Rattle.entities.specs.Entities.{entity_stated_in}
use Rattle.entities.specs.Canonical.{canonical_json, canonical_text}
use Rattle.entities.specs.Texts.{HasUtf8}

-- `JsonTextsAreUtf8`: each string and each key in parsed JSON is UTF-8.
abbrev pub JsonTextsAreUtf8 : Type 0
JsonTextsAreUtf8 = (bytes : List ℕ) (d : Data) → json_of bytes ≡ Some d → HasUtf8 d

-- `IsReadFrom s bytes e` holds if `bytes` are JSON that describes the entity `e` under the schema `s`.
pub record IsReadFrom (s : StatedSchema) (bytes : List ℕ) (e : Entity) : Type 0 where
  pub json : Data
  pub stands : json_of bytes ≡ Some json
  pub states : entity_stated_in s json ≡ Ok e

-- `CanonicalTextsAreJson`: under a well-formed schema, whatever bytes an entity was parsed from, the JSON of its
-- canonical text is its canonical JSON.
abbrev pub CanonicalTextsAreJson : Type 0
CanonicalTextsAreJson = (s : StatedSchema) (bytes : List ℕ) (e : Entity) → IsWellFormed s → IsReadFrom s bytes e
    → json_of (canonical_text e) ≡ Some (canonical_json e)

-- `CanonicalTextsReadBack`: under a well-formed schema, whatever bytes an entity was parsed from, its canonical text is
-- parsed as the same entity.
abbrev pub CanonicalTextsReadBack : Type 0
CanonicalTextsReadBack = (s : StatedSchema) (bytes : List ℕ) (e : Entity) → IsWellFormed s → IsReadFrom s bytes e
    → IsReadFrom s (canonical_text e) e

-- `CanonicalTextsAreOne`: two entities parsed under one well-formed schema are equal if their canonical texts are
-- equal.
abbrev pub CanonicalTextsAreOne : Type 0
CanonicalTextsAreOne = (s : StatedSchema) (bytes other : List ℕ) (e f : Entity) → IsWellFormed s
    → IsReadFrom s bytes e → IsReadFrom s other f → canonical_text e ≡ canonical_text f → e ≡ f
