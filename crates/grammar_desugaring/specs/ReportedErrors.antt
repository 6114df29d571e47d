-- Defines the offset of an error, and which of several errors is reported: a rule of this product.
use Rattle.std.specs.Prelude.{◌≡◌, ℕ, ◌≤◌, if◌then◌else◌, nat_lt, List, [], ◌∷◌, ◌++◌, Option, Some, None, Contains}
use Rattle.grammar_desugaring.specs.declared.fault.DesugarFault.{DesugarFault}
use Rattle.grammar_desugaring.specs.declared.fault.DesugarFault.TheVariants.{NumberRange, UnknownCall, Arity}
use Rattle.grammar_desugaring.specs.declared.fault.DesugarFault.TheVariants.{RepeatedKey}

-- `at f` is the byte offset of the error `f`.
abbrev pub at : DesugarFault → ℕ
at (NumberRange place) = place
at (UnknownCall place) = place
at (Arity place) = place
at (RepeatedKey place) = place

-- `earlier e f` is the one of the errors `e` and `f` at the lesser offset, or `e` if both are at one offset.
abbrev pub earlier : DesugarFault → DesugarFault → DesugarFault
earlier e f = if nat_lt (at f) (at e) then f else e

-- `earlier_of a b` is the earlier of the errors `a` and `b` that are present; `None` if neither is.
abbrev pub earlier_of : Option DesugarFault → Option DesugarFault → Option DesugarFault
earlier_of None other = other
earlier_of (Some e) None = Some e
earlier_of (Some e) (Some f) = Some (earlier e f)

-- `least faults` is the first of `faults` at the least offset, or `None` if `faults` is empty.
abbrev pub least : List DesugarFault → Option DesugarFault
least [] = None
least (fault ∷ faults) = earlier_of (Some fault) (least faults)

-- ## Theorems

-- `IsLeastOf faults fault` holds if `fault` is one of `faults`, and none of these has a lesser offset. `LeastIsLeast`:
-- this holds of `least faults`. `NoneOfNone`: if `least faults` is `None`, there are no errors.
pub record IsLeastOf (faults : List DesugarFault) (fault : DesugarFault) : Type 0 where
  pub here : Contains faults fault
  pub first : (other : DesugarFault) → Contains faults other → at fault ≤ at other

abbrev pub LeastIsLeast : Type 0
LeastIsLeast = (faults : List DesugarFault) (fault : DesugarFault) → least faults ≡ Some fault → IsLeastOf faults fault

abbrev pub NoneOfNone : Type 0
NoneOfNone = (faults : List DesugarFault) → least faults ≡ None → faults ≡ []

-- `LeastOfBoth`: `least` of two lists of errors together is the earlier of their least errors.
abbrev pub LeastOfBoth : Type 0
LeastOfBoth = (faults more : List DesugarFault) → least (faults ++ more) ≡ earlier_of (least faults) (least more)
