-- Defines the error of a parsing result, and that error with the path to the part at fault.
use Rattle.std.specs.Prelude.{◌≡◌, ⊤, List, Option, Some, None, Result, Ok, Err}
use Rattle.entities.specs.declared.fault.EntityFault.{EntityFault}
use Rattle.entities.specs.declared.fault.EntityFault.TheVariants.{NoMemory}
use Rattle.explanations.specs.declared.part_faults.PartFault.{PartFault}
use Rattle.explanations.specs.Steps.{Step, path_in}

-- `IsAtPath f found o` holds if `o` is the error `f` with the path in `found`, or if `o` and `found` are `None`.
abbrev pub IsAtPath : EntityFault → Option (List Step) → Option PartFault → Type 0
IsAtPath f None None = ⊤
IsAtPath f None (Some x) = ⊥
IsAtPath f (Some path) None = ⊥
IsAtPath f (Some path) (Some x) = (x.fault ≡ f) × (path_in x ≡ path)

-- `IsFaultOf read o` holds if `o` is the error of the result `read`, which is not `NoMemory`, or if `o` is `None`, and
-- `read` is a value.
abbrev pub IsFaultOf : {A : Type 0} → Result A EntityFault → Option EntityFault → Type 0
IsFaultOf {A = A} read None = (x : A) × (read ≡ Ok x)
IsFaultOf read (Some f) = (read ≡ Err f) × (f ≡ NoMemory → ⊥)
