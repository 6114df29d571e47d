-- Defines which names a schema does not declare, and the error of each.
-- Source: Cedar reference guide 4.0, "Policy validation"; cedar-spec, cedar-lean/Cedar/Validation/Typechecker.lean
-- (`typeOfLit`).
-- Rules of this product: a name is checked wherever it occurs, whether or not its operand is ever evaluated; an
-- entity is checked as an action if the last word of its type is `Action`; `is` may name the type of a declared
-- action.
use Rattle.std.specs.Prelude.{◌≡◌, ℕ, List, ◌∷◌, Contains, IsTrue, IsFalse, IsSome}
use Rattle.values.specs.declared.entity_uid.EntityUid.{EntityUid}
use Rattle.type_checker.specs.schema.Schemas.{StatedSchema}
use Rattle.type_checker.specs.entities.Entities.{is_action_type}
use Rattle.type_checker.specs.typing.declared.fault.TypeFault.{TypeFault}
use Rattle.type_checker.specs.typing.declared.fault.TypeFault.TheVariants.{UnknownType, UnknownAction}
use Rattle.validator.specs.Names.{Name, tested_type, entity}

-- `IsEntityType s n` holds if the schema `s` declares an entity type named `n`.
abbrev pub IsEntityType : StatedSchema → List ℕ → Type 0
IsEntityType s n = IsSome (s.shape n)

-- `IsTypeOfAction s n` holds if the schema `s` declares an action of type `n`.
abbrev pub IsTypeOfAction : StatedSchema → List ℕ → Type 0
IsTypeOfAction s n = (u : EntityUid) × Contains s.actions u × (u.type_name ≡ n)

-- `IsUnknown s n f` holds if the schema `s` does not declare the name `n`, and `f` is the error for this.
pub data IsUnknown (s : StatedSchema) : Name → TypeFault → Type 0 where
  -- an `is` names neither a declared entity type nor the type of a declared action
  unknown_tested_type : (n : List ℕ) → ¬ IsEntityType s n → ¬ IsTypeOfAction s n
      → IsUnknown s (tested_type n) UnknownType
  -- the entity is not of an action type, and its type is not declared
  unknown_type : (u : EntityUid) → IsFalse (is_action_type u.type_name) → ¬ IsEntityType s u.type_name
      → IsUnknown s (entity u) UnknownType
  -- the entity is of an action type, and is not a declared action
  unknown_action : (u : EntityUid) → IsTrue (is_action_type u.type_name) → ¬ Contains s.actions u
      → IsUnknown s (entity u) UnknownAction

-- `IsKnown s n` holds if the schema `s` declares the name `n`: there is no error for it.
abbrev pub IsKnown : StatedSchema → Name → Type 0
IsKnown s n = (f : TypeFault) → ¬ IsUnknown s n f

-- `FirstUnknown s ns f` holds if `f` is the error of the first of the names `ns` that the schema `s` does not declare.
pub data FirstUnknown (s : StatedSchema) : List Name → TypeFault → Type 0 where
  unknown_here : {n : Name} {ns : List Name} {f : TypeFault} → IsUnknown s n f → FirstUnknown s (n ∷ ns) f
  unknown_later : {n : Name} {ns : List Name} {f : TypeFault} → IsKnown s n → FirstUnknown s ns f
      → FirstUnknown s (n ∷ ns) f
