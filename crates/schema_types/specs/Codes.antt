-- Defines the codes of schema errors (docs/codes.md).
-- Rules of this product: the codes.
use Rattle.std.specs.Prelude.{ℕ}
use Rattle.schema_types.specs.declared.fault.SchemaFault.{SchemaFault}
use Rattle.schema_types.specs.declared.fault.SchemaFault.TheVariants.{NoMemory, NotJson, BadShape, UnknownName}
use Rattle.schema_types.specs.declared.fault.SchemaFault.TheVariants.{TypeCycle, ActionCycle, TypeTooLarge}

-- `code_of f` is the code of the error `f`.
abbrev pub code_of : SchemaFault → ℕ
code_of NoMemory = 1
code_of NotJson = 20
code_of BadShape = 21
code_of UnknownName = 22
code_of TypeCycle = 23
code_of ActionCycle = 24
code_of TypeTooLarge = 25
