-- Defines the names of functions and methods, their numbers of arguments, and the ranks of operators, functions,
-- methods and variables.
-- Source: Cedar reference guide 4.0, "Operators and functions", and the extensions "decimal" and "ipaddr".
-- Rules of this product: a rank is the index of an operator, function, method or variable among the variants of its
-- type in the code; ranks serve only for look-ups.
use Rattle.std.specs.Prelude.{◌≡◌, refl, ℕ, List, [], ◌∷◌, Option, Some, None, codes, if◌then◌else◌, cond, ◌==◌}
use Rattle.std.specs.Str.{bytes_eq}
use Rattle.grammar_core.specs.declared.leaf.Variable.{Variable}
use Rattle.grammar_core.specs.declared.leaf.Variable.TheVariants as variable
use Rattle.grammar_core.specs.declared.operator.Method.{Method}
use Rattle.grammar_core.specs.declared.operator.Method.TheVariants as method
use Rattle.grammar_core.specs.declared.operator.Binary.{Binary}
use Rattle.grammar_core.specs.declared.operator.Binary.TheVariants as binary
use Rattle.grammar_core.specs.declared.operator.BinaryCall.{BinaryCall}
use Rattle.grammar_core.specs.declared.operator.BinaryCall.TheVariants as binary_call
use Rattle.grammar_core.specs.declared.operator.UnaryCall.{UnaryCall}
use Rattle.grammar_core.specs.declared.operator.UnaryCall.TheVariants as unary_call

-- ## Names, and numbers of arguments

-- `function_of name` is the function that `name` names, if it names one.
abbrev pub function_of : List ℕ → Option UnaryCall
function_of name =
    if bytes_eq name (codes "ip") then Some unary_call.Ip
    else (if bytes_eq name (codes "decimal") then Some unary_call.Decimal else None)

-- A `NamedMethod` is a method with its name.
pub record NamedMethod : Type 0 where
  pub name : List ℕ
  pub method : Method

-- `named name method` is `method` with the name `name`.
abbrev named : List ℕ → Method → NamedMethod
named name method = record { name = name; method = method }

-- `methods` is the list of all methods, each with its name.
abbrev pub methods : List NamedMethod
methods = named (codes "contains") (method.Operator binary.Contains)
    ∷ named (codes "containsAll") (method.Operator binary.ContainsAll)
    ∷ named (codes "containsAny") (method.Operator binary.ContainsAny)
    ∷ named (codes "lessThan") (method.WithArgument binary_call.LessThan)
    ∷ named (codes "lessThanOrEqual") (method.WithArgument binary_call.LessThanOrEqual)
    ∷ named (codes "greaterThan") (method.WithArgument binary_call.GreaterThan)
    ∷ named (codes "greaterThanOrEqual") (method.WithArgument binary_call.GreaterThanOrEqual)
    ∷ named (codes "isInRange") (method.WithArgument binary_call.IsInRange)
    ∷ named (codes "isIpv4") (method.Alone unary_call.IsIpv4) ∷ named (codes "isIpv6") (method.Alone unary_call.IsIpv6)
    ∷ named (codes "isLoopback") (method.Alone unary_call.IsLoopback)
    ∷ named (codes "isMulticast") (method.Alone unary_call.IsMulticast) ∷ []

-- `find_method table name` is the method that `name` names in `table`, if it names one.
abbrev pub find_method : List NamedMethod → List ℕ → Option Method
find_method [] name = None
find_method (known ∷ more) name = if bytes_eq name known.name then Some known.method else find_method more name

-- `method_of name` is the method that `name` names, if it names one.
abbrev pub method_of : List ℕ → Option Method
method_of name = find_method methods name

-- `function_takes function` and `method_takes method` are the numbers of arguments that a function or method takes, or
-- `None` for an unknown one. `takes method` is the number of arguments of the method `method`. The receiver of a method
-- is not an argument.
abbrev pub function_takes : Option UnaryCall → Option ℕ
function_takes None = None
function_takes (Some call) = Some 1

abbrev pub takes : Method → ℕ
takes (method.Alone call) = 0
takes (method.Operator operator) = 1
takes (method.WithArgument call) = 1

abbrev pub method_takes : Option Method → Option ℕ
method_takes None = None
method_takes (Some method) = Some (takes method)

-- ## Ranks of operators with two operands

-- `binary_rank o` is the rank of the operator `o`.
abbrev pub binary_rank : Binary → ℕ
binary_rank binary.Equal = 0
binary_rank binary.In = 1
binary_rank binary.Less = 2
binary_rank binary.LessOrEqual = 3
binary_rank binary.Add = 4
binary_rank binary.Subtract = 5
binary_rank binary.Multiply = 6
binary_rank binary.Contains = 7
binary_rank binary.ContainsAll = 8
binary_rank binary.ContainsAny = 9

-- `binary_of r` is the operator of the rank `r`, or `ContainsAny` if `r` is not a rank.
abbrev pub binary_of : ℕ → Binary
binary_of r =
    cond (r == 0) binary.Equal (cond (r == 1) binary.In (cond (r == 2) binary.Less (cond (r == 3) binary.LessOrEqual
    (cond (r == 4) binary.Add (cond (r == 5) binary.Subtract (cond (r == 6) binary.Multiply
    (cond (r == 7) binary.Contains (cond (r == 8) binary.ContainsAll binary.ContainsAny))))))))

-- `binary_back`: each operator is the operator of its rank.
pub binary_back : (o : Binary) → binary_of (binary_rank o) ≡ o
binary_back binary.Equal = refl
binary_back binary.In = refl
binary_back binary.Less = refl
binary_back binary.LessOrEqual = refl
binary_back binary.Add = refl
binary_back binary.Subtract = refl
binary_back binary.Multiply = refl
binary_back binary.Contains = refl
binary_back binary.ContainsAll = refl
binary_back binary.ContainsAny = refl

-- ## Ranks of functions and methods with one operand

-- `unary_call_rank c` is the rank of the function or method `c`.
abbrev pub unary_call_rank : UnaryCall → ℕ
unary_call_rank unary_call.Ip = 0
unary_call_rank unary_call.Decimal = 1
unary_call_rank unary_call.IsIpv4 = 2
unary_call_rank unary_call.IsIpv6 = 3
unary_call_rank unary_call.IsLoopback = 4
unary_call_rank unary_call.IsMulticast = 5

-- `unary_call_of r` is the function or method of the rank `r`, or `IsMulticast` if `r` is not a rank.
abbrev pub unary_call_of : ℕ → UnaryCall
unary_call_of r =
    cond (r == 0) unary_call.Ip (cond (r == 1) unary_call.Decimal (cond (r == 2) unary_call.IsIpv4
    (cond (r == 3) unary_call.IsIpv6 (cond (r == 4) unary_call.IsLoopback unary_call.IsMulticast))))

-- `unary_call_back`: each function or method is the function or method of its rank.
pub unary_call_back : (c : UnaryCall) → unary_call_of (unary_call_rank c) ≡ c
unary_call_back unary_call.Ip = refl
unary_call_back unary_call.Decimal = refl
unary_call_back unary_call.IsIpv4 = refl
unary_call_back unary_call.IsIpv6 = refl
unary_call_back unary_call.IsLoopback = refl
unary_call_back unary_call.IsMulticast = refl

-- ## Ranks of methods with two operands

-- `binary_call_rank c` is the rank of the method `c`.
abbrev pub binary_call_rank : BinaryCall → ℕ
binary_call_rank binary_call.LessThan = 0
binary_call_rank binary_call.LessThanOrEqual = 1
binary_call_rank binary_call.GreaterThan = 2
binary_call_rank binary_call.GreaterThanOrEqual = 3
binary_call_rank binary_call.IsInRange = 4

-- `binary_call_of r` is the method of the rank `r`, or `IsInRange` if `r` is not a rank.
abbrev pub binary_call_of : ℕ → BinaryCall
binary_call_of r =
    cond (r == 0) binary_call.LessThan (cond (r == 1) binary_call.LessThanOrEqual
    (cond (r == 2) binary_call.GreaterThan (cond (r == 3) binary_call.GreaterThanOrEqual binary_call.IsInRange)))

-- `binary_call_back`: each method is the method of its rank.
pub binary_call_back : (c : BinaryCall) → binary_call_of (binary_call_rank c) ≡ c
binary_call_back binary_call.LessThan = refl
binary_call_back binary_call.LessThanOrEqual = refl
binary_call_back binary_call.GreaterThan = refl
binary_call_back binary_call.GreaterThanOrEqual = refl
binary_call_back binary_call.IsInRange = refl

-- ## Ranks of variables

-- `variable_rank x` is the rank of the variable `x`.
abbrev pub variable_rank : Variable → ℕ
variable_rank variable.Principal = 0
variable_rank variable.Action = 1
variable_rank variable.Resource = 2
variable_rank variable.Context = 3

-- `variable_of r` is the variable of the rank `r`, or `Context` if `r` is not a rank.
abbrev pub variable_of : ℕ → Variable
variable_of r =
    cond (r == 0) variable.Principal (cond (r == 1) variable.Action (cond (r == 2) variable.Resource variable.Context))

-- `variable_back`: each variable is the variable of its rank.
pub variable_back : (x : Variable) → variable_of (variable_rank x) ≡ x
variable_back variable.Principal = refl
variable_back variable.Action = refl
variable_back variable.Resource = refl
variable_back variable.Context = refl
