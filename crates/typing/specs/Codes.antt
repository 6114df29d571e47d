-- Defines the codes of errors of validation.
-- Source: docs/codes.md.
-- Rules of this product: the codes.
use Rattle.std.specs.Prelude.{ℕ}
use Rattle.typing.specs.declared.fault.TypeFault.{TypeFault}
use Rattle.typing.specs.declared.fault.TypeFault.TheVariants.{NoMemory, UnknownType, UnknownAction, Unexpected}
use Rattle.typing.specs.declared.fault.TypeFault.TheVariants.{NoCommonType, AttributeMayBeMissing, EmptySet}
use Rattle.typing.specs.declared.fault.TypeFault.TheVariants.{BadExtensionLiteral}

-- `code_of f` is the code of the error `f`.
abbrev pub code_of : TypeFault → ℕ
code_of NoMemory = 1
code_of UnknownType = 40
code_of UnknownAction = 41
code_of Unexpected = 42
code_of NoCommonType = 43
code_of AttributeMayBeMissing = 44
code_of EmptySet = 45
code_of BadExtensionLiteral = 46
