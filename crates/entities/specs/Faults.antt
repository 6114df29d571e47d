-- Defines the codes of errors of entities, contexts and requests.
-- Rules of this product: the codes.
use Rattle.std.specs.Prelude.{ℕ}
use Rattle.entities.specs.declared.fault.EntityFault.{EntityFault}
use Rattle.entities.specs.declared.fault.EntityFault.TheVariants.{NoMemory, BadShape, UnknownType, ActionEntity}
use Rattle.entities.specs.declared.fault.EntityFault.TheVariants.{Undeclared, Missing, WrongType, BadParent}
use Rattle.entities.specs.declared.fault.EntityFault.TheVariants.{SelfParent, TagsLeftOut, NotApplicable}

-- `code_of f` is the code of the error `f`.
abbrev pub code_of : EntityFault → ℕ
code_of NoMemory = 1
code_of BadShape = 30
code_of UnknownType = 31
code_of ActionEntity = 32
code_of Undeclared = 33
code_of Missing = 34
code_of WrongType = 35
code_of BadParent = 36
code_of SelfParent = 37
code_of TagsLeftOut = 38
code_of NotApplicable = 39
