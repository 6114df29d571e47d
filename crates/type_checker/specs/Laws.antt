-- Defines the theorems about the typing environments of each schema that some bytes describe.
use Rattle.std.specs.Prelude.{ℕ, List, Contains}
use Rattle.typing.specs.Ordered.{HasOrderedTypes}
use Rattle.typing.specs.Laws.{IsTransitive}
use Rattle.entities.specs.schema.Schemas.{EnvironmentOf, StatedSchema, IsSchemaOf}
use Rattle.type_checker.specs.FromSchemas.{typing_environment_of}

-- `TypeAncestryIsTransitive`: in each typing environment of such a schema, the ancestor relation of entity types is
-- transitive.
abbrev pub TypeAncestryIsTransitive : Type 0
TypeAncestryIsTransitive =
    (bytes : List ℕ) (v : StatedSchema) → IsSchemaOf bytes v → (e : EnvironmentOf)
    → IsTransitive (typing_environment_of v e).may_have_ancestor

-- `StatedTypesAreOrdered`: in each typing environment of such a schema, the keys of each declared record type ascend.
abbrev pub StatedTypesAreOrdered : Type 0
StatedTypesAreOrdered =
    (bytes : List ℕ) (v : StatedSchema) → IsSchemaOf bytes v → (e : EnvironmentOf) → Contains v.environments e
    → HasOrderedTypes (typing_environment_of v e)
