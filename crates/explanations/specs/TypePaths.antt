-- Defines the type that is declared for the part of a value to which a path leads.
-- Source: Cedar reference guide 4.0, "Schema JSON format": `element`, `attributes`.
use Rattle.std.specs.Prelude.{List, [], ◌∷◌, Option, Some, option_and_then}
use Rattle.schema_types.specs.Cedar.{Cedar}
use Rattle.entities.specs.Parts.{element_of, fields_in, declared_at}
use Rattle.explanations.specs.Steps.{Step, Key, Index}

-- `type_under t step` is the type that `t` declares for the part to which `step` leads from a value of the type `t`, if
-- it declares one.
abbrev pub type_under : Cedar → Step → Option Cedar
type_under t (Key key) = option_and_then (declared_at key) (fields_in t)
type_under t (Index i) = element_of t

-- `type_at t path` is the type that `t` declares for the part to which `path` leads from a value of the type `t`, if it
-- declares one.
abbrev pub type_at : Cedar → List Step → Option Cedar
type_at t [] = Some t
type_at t (step ∷ path) = option_and_then (λ part. type_at part path) (type_under t step)
