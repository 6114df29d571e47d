-- Defines the type of each kind of expression, given its operands' types, or the error.
-- Source: Cedar reference guide 4.0, "Policy validation" and "Operators and functions"; cedar-spec,
-- cedar-lean/Cedar/Validation/Typechecker.lean (`typeOfUnaryApp`, `typeOfBinaryApp`, `typeOfGetAttr`,
-- `typeOfHasAttr`, `typeOfSet`, `typeOfCall`).
-- Rules of this product: `in` between unrelated entity types (`may_be_in`) has the type False.
use Rattle.std.specs.Prelude.{ℕ, List, [], ◌∷◌, Bool, true, false, ◌||◌, Option, Some, None, Result, Ok, Err}
use Rattle.std.specs.Prelude.{if◌then◌else◌}
use Rattle.std.specs.Str.{bytes_eq}
use Rattle.grammar_core.specs.declared.leaf.Literal.{Literal}
use Rattle.grammar_core.specs.declared.leaf.Literal.TheVariants as literal
use Rattle.grammar_core.specs.declared.leaf.Variable.{Variable}
use Rattle.grammar_core.specs.declared.leaf.Variable.TheVariants.{Principal, Action, Resource, Context}
use Rattle.grammar_core.specs.declared.operator.Unary.{Unary}
use Rattle.grammar_core.specs.declared.operator.Unary.TheVariants.{Not, Negate, Like, Is}
use Rattle.grammar_core.specs.declared.operator.Binary.{Binary}
use Rattle.grammar_core.specs.declared.operator.Binary.TheVariants.{Equal, In, Less, LessOrEqual, Add}
use Rattle.grammar_core.specs.declared.operator.Binary.TheVariants.{Subtract}
use Rattle.grammar_core.specs.declared.operator.Binary.TheVariants.{Multiply, Contains, ContainsAll}
use Rattle.grammar_core.specs.declared.operator.Binary.TheVariants.{ContainsAny}
use Rattle.grammar_core.specs.declared.operator.BinaryCall.{BinaryCall}
use Rattle.grammar_core.specs.declared.operator.BinaryCall.TheVariants.{LessThan, LessThanOrEqual}
use Rattle.grammar_core.specs.declared.operator.BinaryCall.TheVariants.{GreaterThan}
use Rattle.grammar_core.specs.declared.operator.BinaryCall.TheVariants.{GreaterThanOrEqual, IsInRange}
use Rattle.typing.specs.Types.{StaticType, true_type, false_type, boolean_type, long_type, text_type, entity_type}
use Rattle.typing.specs.Types.{set_type, record_type, decimal_type, ipaddr_type, Declared, undeclared, optional}
use Rattle.typing.specs.Types.{required, field_declared_at, truth_type, common, common_of}
use Rattle.typing.specs.Environment.{Environment}
use Rattle.typing.specs.declared.fault.TypeFault.{TypeFault}
use Rattle.typing.specs.declared.fault.TypeFault.TheVariants.{Unexpected, NoCommonType, AttributeMayBeMissing}
use Rattle.typing.specs.declared.fault.TypeFault.TheVariants.{EmptySet}

-- A `Row` is the type of an expression, or its error, given the types of its operands.
abbrev pub Row : Type 0
Row = Result StaticType TypeFault

-- ---- literals and variables

-- `literal_type l` is the type of the literal `l`.
abbrev pub literal_type : Literal → StaticType
literal_type (literal.Boolean b) = truth_type b
literal_type (literal.Long z) = long_type
literal_type (literal.Text t) = text_type
literal_type (literal.Entity u) = entity_type u.type_name

-- `variable_type env x` is the type of the variable `x` in the environment `env`.
abbrev pub variable_type : Environment → Variable → StaticType
variable_type env Principal = entity_type env.principal
variable_type env Action = entity_type env.action.type_name
variable_type env Resource = entity_type env.resource
variable_type env Context = record_type env.context

-- ---- operators

-- `unary_type op t` is the type of the operator `op` on an operand of the type `t`.
abbrev pub unary_type : Unary → StaticType → Row
unary_type Not true_type = Ok false_type
unary_type Not false_type = Ok true_type
unary_type Not boolean_type = Ok boolean_type
unary_type Negate long_type = Ok long_type
unary_type (Like pattern) text_type = Ok boolean_type
unary_type (Is n) (entity_type m) = Ok (truth_type (bytes_eq m n))
unary_type op t = Err Unexpected

-- `if_common o` is Bool if there is a common type `o`, else the error `NoCommonType`.
abbrev pub if_common : Option StaticType → Row
if_common None = Err NoCommonType
if_common (Some t) = Ok boolean_type

-- `equal_type s t` is the type of `==` on operands of the types `s` and `t`: False for two different entity types; else
-- Bool, if they have a common type.
abbrev pub equal_type : StaticType → StaticType → Row
equal_type (entity_type m) (entity_type n) = Ok (if bytes_eq m n then boolean_type else false_type)
equal_type s t = if_common (common s t)

-- `may_be_in env m n` tests whether, in the environment `env`, an entity of the type `m` may be in one of the type `n`.
-- It may if one of the types is an action type, if they are equal, or if `n` is an ancestor type of `m`.
abbrev pub may_be_in : Environment → List ℕ → List ℕ → Bool
may_be_in env m n =
    env.is_action_type m || (env.is_action_type n || (bytes_eq m n || env.may_have_ancestor m n))

-- `in_type env m n` is the type of `in` between entities of the types `m` and `n` in the environment `env`.
abbrev pub in_type : Environment → List ℕ → List ℕ → StaticType
in_type env m n = if may_be_in env m n then boolean_type else false_type

-- `of_numbers t r s` is the type `t` if the operand types `r` and `s` are both Long, else the error `Unexpected`.
abbrev pub of_numbers : StaticType → StaticType → StaticType → Row
of_numbers t long_type long_type = Ok t
of_numbers t r s = Err Unexpected

-- `binary_type env op s t` is the type of the operator `op` on operands of the types `s` and `t` in the environment
-- `env`.
abbrev pub binary_type : Environment → Binary → StaticType → StaticType → Row
binary_type env Equal s t = equal_type s t
binary_type env In (entity_type m) (entity_type n) = Ok (in_type env m n)
binary_type env In (entity_type m) (set_type (entity_type n)) = Ok (in_type env m n)
binary_type env Less s t = of_numbers boolean_type s t
binary_type env LessOrEqual s t = of_numbers boolean_type s t
binary_type env Add s t = of_numbers long_type s t
binary_type env Subtract s t = of_numbers long_type s t
binary_type env Multiply s t = of_numbers long_type s t
binary_type env Contains (set_type s) t = if_common (common s t)
binary_type env ContainsAll (set_type s) (set_type t) = if_common (common s t)
binary_type env ContainsAny (set_type s) (set_type t) = if_common (common s t)
binary_type env op s t = Err Unexpected

-- ---- `&&` and `||`

-- `MayBeTrue t` holds if `t` is True or Bool.
pub data MayBeTrue : StaticType → Type 0 where
  surely : MayBeTrue true_type
  perhaps : MayBeTrue boolean_type

-- `MayBeFalse t` holds if `t` is False or Bool.
pub data MayBeFalse : StaticType → Type 0 where
  surely_not : MayBeFalse false_type
  perhaps_not : MayBeFalse boolean_type

-- `and_type s t` is the type of `&&` whose left side has the type `s`, True or Bool, and whose right side has the type
-- `t`: False if `t` is False; True if both are True; else Bool.
abbrev pub and_type : StaticType → StaticType → StaticType
and_type s false_type = false_type
and_type true_type true_type = true_type
and_type s t = boolean_type

-- `or_type t` is the type of `||` whose left side has the type Bool, and whose right side has the type `t`: True if `t`
-- is True; else Bool.
abbrev pub or_type : StaticType → StaticType
or_type true_type = true_type
or_type t = boolean_type

-- ---- fields; `is_known` is whether there is a capability for the field

-- `access_type is_known declared` is the type of `e.f`, where `declared` is the declaration of `f`: the type of a
-- required field, or of an optional one if `is_known`; else the error `AttributeMayBeMissing`.
abbrev pub access_type : Bool → Declared → Row
access_type is_known undeclared = Err AttributeMayBeMissing
access_type is_known (required t) = Ok t
access_type true (optional t) = Ok t
access_type false (optional t) = Err AttributeMayBeMissing

-- `field_type_of env is_known k t` is the type of `e.k` in the environment `env`, where `e` is of the type `t`, and
-- `is_known` is whether there is a capability for `e.k`.
abbrev pub field_type_of : Environment → Bool → List ℕ → StaticType → Row
field_type_of env is_known k (record_type ts) = access_type is_known (field_declared_at k ts)
field_type_of env is_known k (entity_type n) = access_type is_known (field_declared_at k (env.attributes n))
field_type_of env is_known k t = Err Unexpected

-- `record_has declared` is the type of `e has f` for a record `e` without a capability for `e.f`, where `declared` is
-- the declaration of `f`.
abbrev pub record_has : Declared → StaticType
record_has undeclared = false_type
record_has (required t) = true_type
record_has (optional t) = boolean_type

-- `entity_has declared` is the type of `e has f` for an entity `e` without a capability for `e.f`, where `declared` is
-- the declaration of `f`: Bool also for a required attribute, since the entity may not be stored.
abbrev pub entity_has : Declared → StaticType
entity_has undeclared = false_type
entity_has (required t) = boolean_type
entity_has (optional t) = boolean_type

-- `has_type env is_known k t` is the type of `e has k` in the environment `env`, where `e` is of the type `t`, and
-- `is_known` is whether there is a capability for `e.k`.
abbrev pub has_type : Environment → Bool → List ℕ → StaticType → Row
has_type env is_known k (record_type ts) = Ok (if is_known then true_type else record_has (field_declared_at k ts))
has_type env is_known k (entity_type n) =
    Ok (if is_known then true_type else entity_has (field_declared_at k (env.attributes n)))
has_type env is_known k t = Err Unexpected

-- ---- sets

-- `set_of_common o` is the type of sets whose members have the common type `o`; the error `NoCommonType` for `None`.
abbrev pub set_of_common : Option StaticType → Row
set_of_common None = Err NoCommonType
set_of_common (Some t) = Ok (set_type t)

-- `set_literal_type ts` is the type of a set literal whose members have the types `ts`.
abbrev pub set_literal_type : List StaticType → Row
set_literal_type [] = Err EmptySet
set_literal_type (t ∷ ts) = set_of_common (common_of t ts)

-- ---- calls

-- `address_test_type t` is the type of a test of an IP address on an operand of the type `t`.
abbrev pub address_test_type : StaticType → Row
address_test_type ipaddr_type = Ok boolean_type
address_test_type t = Err Unexpected

-- `of_decimals s t` is Bool if the types `s` and `t` are both decimal, else the error `Unexpected`. `of_addresses s t`
-- is Bool if both are ipaddr, else the same error.
abbrev pub of_decimals : StaticType → StaticType → Row
of_decimals decimal_type decimal_type = Ok boolean_type
of_decimals s t = Err Unexpected

abbrev pub of_addresses : StaticType → StaticType → Row
of_addresses ipaddr_type ipaddr_type = Ok boolean_type
of_addresses s t = Err Unexpected

-- `call_type called s t` is the type of the call `called` on operands of the types `s` and `t`.
abbrev pub call_type : BinaryCall → StaticType → StaticType → Row
call_type LessThan s t = of_decimals s t
call_type LessThanOrEqual s t = of_decimals s t
call_type GreaterThan s t = of_decimals s t
call_type GreaterThanOrEqual s t = of_decimals s t
call_type IsInRange s t = of_addresses s t
