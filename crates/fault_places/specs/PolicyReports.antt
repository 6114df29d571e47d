-- Defines the report on a rejected policy: its error, and the undeclared name or the expression that the error blames.
-- Source: docs/codes.md.
-- Rules of this product: names are reported before types.
use Rattle.std.specs.Prelude.{All}
use Rattle.policy_grammar.specs.declared.policy.Policy.{Policy}
use Rattle.policy_grammar.specs.PolicyExpression.{expression_of}
use Rattle.type_checker.specs.schema.Schemas.{StatedSchema}
use Rattle.typing.specs.declared.fault.TypeFault.{TypeFault}
use Rattle.validator.specs.Names.{names_of}
use Rattle.validator.specs.Unknown.{IsKnown}
use Rattle.validator.specs.Passing.{IsCheckRefused}
use Rattle.fault_places.specs.NamesAt.{IsNameBlame}
use Rattle.fault_places.specs.FirstTypingError.{IsTypeBlame}
use Rattle.fault_places.specs.declared.refusing.PolicyBlame.{PolicyBlame}
use Rattle.fault_places.specs.declared.refusing.PolicyBlame.TheVariants.{Name, Typing}

-- `fault_of b` is the error in the report `b`.
abbrev pub fault_of : PolicyBlame → TypeFault
fault_of (Name b) = b.fault
fault_of (Typing b) = b.fault

-- `IsPlace s policy b` holds if `b` has the place of the first undeclared name in `policy` or, if all names are
-- declared, the place of its first typing error.
abbrev pub IsPlace : StatedSchema → Policy → PolicyBlame → Type 0
IsPlace s policy (Name b) = IsNameBlame s (expression_of policy) b
IsPlace s policy (Typing b) = All (IsKnown s) (names_of policy) × IsTypeBlame s (expression_of policy) b

-- `IsBlame s policy b` holds if `b` reports the error for which `check` rejects `policy`, with its place.
abbrev pub IsBlame : StatedSchema → Policy → PolicyBlame → Type 0
IsBlame s policy b = IsCheckRefused s policy (fault_of b) × IsPlace s policy b
