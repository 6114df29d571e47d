-- Defines the result of expanding the types of a schema, and its errors. In this file `commons` are the declared common
-- types, each with its definition.
-- Rules of this product: the limits, and the errors.
use Rattle.std.specs.Prelude.{ℕ, List}
use Rattle.schema_types.specs.Qualified.{Qualified, common}
use Rattle.schema_types.specs.Cedar.{Cedar, IsTooLarge}
use Rattle.schema_types.specs.Expansions.{Declarations, Declares, IsExpansion, HasNoExpansion}
use Rattle.schema_types.specs.declared.fault.SchemaFault.{SchemaFault}
use Rattle.schema_types.specs.declared.fault.SchemaFault.TheVariants.{TypeCycle, TypeTooLarge}

-- `SomeHasNoExpansion commons` holds if some declared common type has no expansion.
pub record SomeHasNoExpansion (commons : Declarations) : Type 0 where
  pub name : List ℕ
  pub type : Qualified
  pub declared : Declares commons name type
  pub has_no_expansion : HasNoExpansion commons name

-- `SomeIsTooLarge commons` holds if some common type has an expansion that is too large.
pub record SomeIsTooLarge (commons : Declarations) : Type 0 where
  pub name : List ℕ
  pub type : Cedar
  pub is_written : IsExpansion commons (common name) type
  pub too_large : IsTooLarge type

-- `IsWhole commons r t` holds if `t` is the expansion of the type `r`, and is not too large.
pub record IsWhole (commons : Declarations) (r : Qualified) (t : Cedar) : Type 0 where
  pub is_written : IsExpansion commons r t
  pub small : IsTooLarge t → ⊥

-- `IsLarge commons r` holds if the type `r` has an expansion that is too large.
pub record IsLarge (commons : Declarations) (r : Qualified) : Type 0 where
  pub type : Cedar
  pub is_written : IsExpansion commons r type
  pub large : IsTooLarge type

-- ---- errors

-- `CommonsRefused commons f` holds if `f` is the error of expanding the common types: `TypeCycle`, since one of them
-- has no expansion.
pub data CommonsRefused (commons : Declarations) : SchemaFault → Type 0 where
  cycle : SomeHasNoExpansion commons → CommonsRefused commons TypeCycle

-- `SizesRefused commons f` holds if `f` is the error of the sizes of the common types: `TypeTooLarge`, since the
-- expansion of one of them is too large.
pub data SizesRefused (commons : Declarations) : SchemaFault → Type 0 where
  large_common : SomeIsTooLarge commons → SizesRefused commons TypeTooLarge

-- `TypeRefused commons r f` holds if `f` is the error of expanding the type `r`: `TypeTooLarge`, since its expansion is
-- too large.
pub data TypeRefused (commons : Declarations) (r : Qualified) : SchemaFault → Type 0 where
  large_type : IsLarge commons r → TypeRefused commons r TypeTooLarge
