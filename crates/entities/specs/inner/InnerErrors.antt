-- Defines the error of a value that has an error inside it.
use Rattle.entities.specs.declared.fault.EntityFault.{EntityFault}
use Rattle.entities.specs.declared.fault.EntityFault.TheVariants.{NoMemory, WrongType}

-- `inside_fault f` is the error of a value with the error `f` inside it: `NoMemory` for `NoMemory`, else `WrongType`.
abbrev pub inside_fault : EntityFault → EntityFault
inside_fault NoMemory = NoMemory
inside_fault f = WrongType
