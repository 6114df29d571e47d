-- Defines the core expression of a syntax tree over the text that its tokens are in (`text` in each definition), by one
-- equation for each form of tree. The expression of a tree with errors, which is rejected, has no meaning.
-- Source: Cedar reference guide 4.0, "Grammar specification for Cedar policy syntax" and "Operators and functions".
-- Operators of one level group to the left.
use Rattle.std.specs.Prelude.{ℕ, ℤ, false, List, [], ◌∷◌, map, Option, Some, None}
use Rattle.std.specs.List.{fold}
use Rattle.grammar_syntax.specs.declared.token.Token.{Token}
use Rattle.grammar_syntax.specs.Lexing.{spelling_of}
use Rattle.grammar_core.specs.declared.leaf.Literal.TheVariants as literal
use Rattle.grammar_core.specs.declared.operator.Unary.TheVariants.{Not, Negate, Like, Is}
use Rattle.grammar_core.specs.declared.operator.Binary.TheVariants.{Equal, In, Less, LessOrEqual, Multiply}
use Rattle.grammar_core.specs.declared.operator.UnaryCall.{UnaryCall}
use Rattle.grammar_core.specs.declared.expr.Named.{Named}
use Rattle.grammar_core.specs.declared.expr.Expr.{Expr}
use Rattle.grammar_core.specs.declared.expr.Expr.TheVariants as core
use Rattle.grammar_syntax.specs.declared.name_trees.PathTree.{PathTree}
use Rattle.grammar_syntax.specs.declared.tree.Access.{Access}
use Rattle.grammar_syntax.specs.declared.tree.Access.TheVariants as access
use Rattle.grammar_syntax.specs.declared.tree.Comparison.{Comparison}
use Rattle.grammar_syntax.specs.declared.tree.Comparison.TheVariants as is
use Rattle.grammar_syntax.specs.declared.tree.RecordEntry.{RecordEntry}
use Rattle.grammar_syntax.specs.declared.tree.Term.{Term}
use Rattle.grammar_syntax.specs.declared.tree.ExprTree.{ExprTree}
use Rattle.grammar_syntax.specs.declared.tree.ExprTree.TheOpen.{ExprTree-F as tree}
use Rattle.grammar_syntax.specs.declared.tree.ExprTree.TheFolds.{fold-ExprTree}
use Rattle.grammar_desugaring.specs.declared.forms.Chain.{Chain}
use Rattle.grammar_desugaring.specs.declared.forms.Chain.TheVariants as chain
use Rattle.grammar_core.specs.declared.operator.Method.{Method}
use Rattle.grammar_core.specs.declared.operator.Method.TheVariants as method
use Rattle.grammar_core.specs.Operators.{function_of, method_of}
use Rattle.grammar_desugaring.specs.Numbers.{positive, negative}
use Rattle.grammar_desugaring.specs.Strings.{value_of, pattern_of}
use Rattle.grammar_desugaring.specs.Meaning.{variable_of, sign_of, path_name, uid_of, name_of}

-- A `Meaning` has the core expression of a tree by itself, and that of the tree with a minus before it.
pub record Meaning : Type 0 where
  pub alone : Expr
  pub negated : Expr

-- `long n` is the literal of the number `n`.
abbrev pub long : ℤ → Expr
long n = core.Literal (literal.Long n)

-- `number digits` is the meaning of the number that `digits` denote. A minus before a number belongs to the number.
abbrev pub number : List ℕ → Meaning
number digits = record { alone = long (positive digits); negated = long (negative digits) }

-- `plain e` is the meaning of any other tree, with the expression `e`. A minus before such a tree is an operator.
abbrev pub plain : Expr → Meaning
plain e = record { alone = e; negated = core.Unary Negate e }

-- `compared operator a b` is the comparison of `a` and `b` by `operator`: `!=`, `>` and `>=` are the negations of `==`,
-- `<=` and `<`.
abbrev pub compared : Comparison → Expr → Expr → Expr
compared is.Less a b = core.Binary Less a b
compared is.LessOrEqual a b = core.Binary LessOrEqual a b
compared is.Greater a b = core.Unary Not (core.Binary LessOrEqual a b)
compared is.GreaterOrEqual a b = core.Unary Not (core.Binary Less a b)
compared is.Equal a b = core.Binary Equal a b
compared is.NotEqual a b = core.Unary Not (core.Binary Equal a b)
compared is.In a b = core.Binary In a b

-- `no_call` is the placeholder for a call that is rejected: its function or method is unknown, or takes another number
-- of arguments.
abbrev pub no_call : Expr
no_call = core.Literal (literal.Boolean false)

-- `function_at text first more` is the function that the Path of the words `first` and `more` names, if it names one:
-- only a Path of one word can.
abbrev pub function_at : List ℕ → Token → List Token → Option UnaryCall
function_at text first [] = function_of (spelling_of text first)
function_at text first (word ∷ more) = None

-- `function text path` is the function that the Path `path` names, if it names one.
abbrev pub function : List ℕ → PathTree → Option UnaryCall
function text path = function_at text path.first path.more

-- `called function arguments` is the call of `function` with `arguments`, or `no_call` if `function` is unknown
-- (`None`) or the number of arguments is not one.
abbrev pub called : Option UnaryCall → List Expr → Expr
called (Some call) (a ∷ []) = core.UnaryCall call a
called _ _ = no_call

-- `method_called method receiver arguments` is the call of `method` on `receiver` with `arguments`, or `no_call` if
-- `method` is unknown (`None`) or takes another number of arguments.
abbrev pub method_called : Option Method → Expr → List Expr → Expr
method_called (Some (method.Alone call)) receiver [] = core.UnaryCall call receiver
method_called (Some (method.Operator operator)) receiver (a ∷ []) = core.Binary operator receiver a
method_called (Some (method.WithArgument call)) receiver (a ∷ []) = core.BinaryCall call receiver a
method_called _ _ _ = no_call

-- `accessed text e access` is the access `access` to `e`, where `e["f"]` is `e.f`.
abbrev pub accessed : List ℕ → Expr → Access (List Expr) → Expr
accessed text e (access.Field key) = core.Field e (name_of text key)
accessed text e (access.Method name arguments) = method_called (method_of (spelling_of text name)) e arguments

-- `added left term` is the sum `left` with the further term `term`.
abbrev pub added : Expr → Term Expr → Expr
added left term = core.Binary (sign_of term.sign) left term.operand

-- `field text entry` is the field of a record that `entry` denotes.
abbrev pub field : List ℕ → RecordEntry Expr → Named Expr
field text entry = record { name = name_of text entry.key; value = entry.value }

-- `in_term term`, `in_entry entry` and `in_access access` are a term, an entry and an access with their expressions
-- mapped by `f`.
module _ {A B : Type 0} (f : A → B) where
  abbrev pub in_term : Term A → Term B
  in_term term = record { sign = term.sign; operand = f term.operand }

  abbrev pub in_entry : RecordEntry A → RecordEntry B
  in_entry entry = record { key = entry.key; value = f entry.value }

  abbrev pub in_access : Access (List A) → Access (List B)
  in_access (access.Field key) = access.Field key
  in_access (access.Method name arguments) = access.Method name (map f arguments)

-- `by_itself m` is the expression of the meaning `m` without a minus.
abbrev by_itself : Meaning → Expr
by_itself m = m.alone

-- `core_step text x` is the meaning of the node `x`, in which every subexpression is replaced by its meaning.
abbrev pub core_step : List ℕ → tree Meaning → Meaning
core_step text (tree.Boolean value) = plain (core.Literal (literal.Boolean value))
core_step text (tree.Number t) = number (spelling_of text t)
core_step text (tree.Text t) = plain (core.Literal (literal.Text (value_of (spelling_of text t))))
core_step text (tree.Variable word) = plain (core.Variable (variable_of word))
core_step text (tree.Uid uid) = plain (core.Literal (literal.Entity (uid_of text uid)))
core_step text (tree.Call path arguments) = plain (called (function text path) (map by_itself arguments))
core_step text (tree.Parentheses a) = plain a.alone
core_step text (tree.Set members) = plain (core.Set (map by_itself members))
core_step text (tree.Record entries) = plain (core.Record (map (field text) (map (in_entry by_itself) entries)))
core_step text (tree.Member a accesses) = plain (fold (accessed text) a.alone (map (in_access by_itself) accesses))
core_step text (tree.Not a) = plain (core.Unary Not a.alone)
core_step text (tree.Minus a) = plain a.negated
core_step text (tree.Product a more) = plain (fold (core.Binary Multiply) a.alone (map by_itself more))
core_step text (tree.Sum a terms) = plain (fold added a.alone (map (in_term by_itself) terms))
core_step text (tree.Compare a operator b) = plain (compared operator a.alone b.alone)
core_step text (tree.Has a key) = plain (core.Has a.alone (name_of text key))
core_step text (tree.Like a t) = plain (core.Unary (Like (pattern_of (spelling_of text t))) a.alone)
core_step text (tree.Is a path) = plain (core.Unary (Is (path_name text path)) a.alone)
core_step text (tree.IsIn a path b) =
    plain (core.And (core.Unary (Is (path_name text path)) a.alone) (core.Binary In a.alone b.alone))
core_step text (tree.And a more) = plain (fold core.And a.alone (map by_itself more))
core_step text (tree.Or a more) = plain (fold core.Or a.alone (map by_itself more))
core_step text (tree.If a b c) = plain (core.If a.alone b.alone c.alone)

-- `meaning text x` is the meaning of the tree `x`.
abbrev pub meaning : List ℕ → ExprTree → Meaning
meaning text = fold-ExprTree Meaning (core_step text)

-- `core_of text x` is the core expression of the tree `x`.
abbrev pub core_of : List ℕ → ExprTree → Expr
core_of text x = (meaning text x).alone

-- `negated text x` is the core expression of the tree `x` with a minus before it.
abbrev pub negated : List ℕ → ExprTree → Expr
negated text x = (meaning text x).negated

-- ## Steps of the code's loops

-- `joined_by chain a b` is the operator of `chain` with the operands `a` and `b`.
abbrev pub joined_by : Chain → Expr → Expr → Expr
joined_by chain.Product = core.Binary Multiply
joined_by (chain.Sum sign) = core.Binary (sign_of sign)
joined_by chain.And = core.And
joined_by chain.Or = core.Or

-- `single_of es` is the only one of the arguments `es`, if there is exactly one.
abbrev pub single_of : List Expr → Option Expr
single_of (a ∷ []) = Some a
single_of _ = None

-- `called_with method receiver a` is the call of `method` on `receiver` with the argument `a`, or `no_call` if `method`
-- takes no argument.
abbrev pub called_with : Method → Expr → Expr → Expr
called_with (method.Alone call) receiver a = no_call
called_with (method.Operator operator) receiver a = core.Binary operator receiver a
called_with (method.WithArgument call) receiver a = core.BinaryCall call receiver a
