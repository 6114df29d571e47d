-- Defines the errors of a syntax tree over the text that its tokens are in (`text` in each definition). In a list of
-- errors, a function call's or a record's own errors come before the errors of its parts, and the errors of an
-- expression come before the errors of each access to it.
-- Source: Cedar reference guide 4.0, "Data types: Long", "Data types: Record", "Operators and functions". The offsets
-- are a rule of this product.
use Rattle.std.specs.Prelude.{ℕ, Bool, List, [], ◌∷◌, ◌++◌, map, length, Option, Some, None, nat_eq, if◌then◌else◌}
use Rattle.std.specs.List.{flat_map}
use Rattle.grammar_syntax.specs.declared.token.Token.{Token}
use Rattle.grammar_syntax.specs.Lexing.{spelling_of}
use Rattle.grammar_syntax.specs.declared.name_trees.PathTree.{PathTree}
use Rattle.grammar_syntax.specs.declared.tree.Access.{Access}
use Rattle.grammar_syntax.specs.declared.tree.Access.TheVariants as access
use Rattle.grammar_syntax.specs.declared.tree.RecordEntry.{RecordEntry}
use Rattle.grammar_syntax.specs.declared.tree.ExprTree.{ExprTree}
use Rattle.grammar_syntax.specs.declared.tree.ExprTree.TheOpen.{ExprTree-F as tree}
use Rattle.grammar_syntax.specs.declared.tree.ExprTree.TheFolds.{fold-ExprTree}
use Rattle.grammar_desugaring.specs.declared.fault.DesugarFault.{DesugarFault}
use Rattle.grammar_desugaring.specs.declared.fault.DesugarFault.TheVariants.{NumberRange, UnknownCall, Arity}
use Rattle.grammar_core.specs.Operators.{method_of, function_takes, method_takes}
use Rattle.grammar_desugaring.specs.Numbers.{fits, fits_negated}
use Rattle.grammar_desugaring.specs.Meaning.{name_of, place_of}
use Rattle.grammar_desugaring.specs.Core.{function, in_access}
use Rattle.grammar_desugaring.specs.Repeats.{NameAt, repeat_faults}

-- A `Faulty` has the errors of a tree by itself, and those of the tree with a minus before it.
pub record Faulty : Type 0 where
  pub alone : List DesugarFault
  pub negated : List DesugarFault

-- `either_way faults` has the errors `faults` for a tree by itself, and the same for the tree with a minus before it.
abbrev pub either_way : List DesugarFault → Faulty
either_way faults = record { alone = faults; negated = faults }

-- `range within t` is the error of the number at the token `t`, or `[]` if `within` is true. `within` is whether the
-- number is in range.
abbrev pub range : Bool → Token → List DesugarFault
range within t = if within then [] else NumberRange t.start ∷ []

-- `call_faults at takes count` is the error of a call at offset `at` with `count` arguments, or `[]` if the called name
-- takes that many. `takes` is the number of arguments that the name takes, or `None` if the name is unknown.
abbrev pub call_faults : ℕ → Option ℕ → ℕ → List DesugarFault
call_faults at None count = UnknownCall at ∷ []
call_faults at (Some takes) count = if nat_eq count takes then [] else Arity at ∷ []

-- `function_faults text path count` is the error, if there is one, of a call of the function `path` with `count`
-- arguments, at the first byte of the function's name.
abbrev pub function_faults : List ℕ → PathTree → ℕ → List DesugarFault
function_faults text path count = call_faults path.first.start (function_takes (function text path)) count

-- `access_faults text access` are the errors of the access `access`, in which every argument is replaced by its errors.
-- The error of a method call, at the method's name, comes before those of its arguments.
abbrev pub access_faults : List ℕ → Access (List (List DesugarFault)) → List DesugarFault
access_faults text (access.Field key) = []
access_faults text (access.Method name arguments) =
    call_faults name.start (method_takes (method_of (spelling_of text name))) (length arguments)
    ++ flat_map (λ faults. faults) arguments

-- `key_of text entry` is the key of `entry`, an entry of a record, with its offset.
abbrev pub key_of : List ℕ → {A : Type 0} → RecordEntry A → NameAt
key_of text entry = record { name = name_of text entry.key; at = place_of entry.key }

-- `by_itself f` are the errors of `f` without a minus, and `in_all fs` those of each of `fs`.
abbrev by_itself : Faulty → List DesugarFault
by_itself f = f.alone

abbrev in_all : List Faulty → List DesugarFault
in_all = flat_map by_itself

-- `fault_step text x` are the errors of the node `x`, in which every subexpression is replaced by its errors.
abbrev pub fault_step : List ℕ → tree Faulty → Faulty
fault_step text (tree.Boolean value) = either_way []
fault_step text (tree.Number t) =
    record { alone = range (fits (spelling_of text t)) t; negated = range (fits_negated (spelling_of text t)) t }
fault_step text (tree.Text t) = either_way []
fault_step text (tree.Variable word) = either_way []
fault_step text (tree.Uid uid) = either_way []
fault_step text (tree.Call path arguments) =
    either_way (function_faults text path (length arguments) ++ in_all arguments)
fault_step text (tree.Parentheses a) = either_way a.alone
fault_step text (tree.Set members) = either_way (in_all members)
fault_step text (tree.Record entries) =
    either_way (repeat_faults (map (key_of text) entries) ++ flat_map (λ entry. entry.value.alone) entries)
fault_step text (tree.Member a accesses) =
    either_way (a.alone ++ flat_map (access_faults text) (map (in_access by_itself) accesses))
fault_step text (tree.Not a) = either_way a.alone
fault_step text (tree.Minus a) = either_way a.negated
fault_step text (tree.Product a more) = either_way (a.alone ++ in_all more)
fault_step text (tree.Sum a terms) = either_way (a.alone ++ flat_map (λ term. term.operand.alone) terms)
fault_step text (tree.Compare a operator b) = either_way (a.alone ++ b.alone)
fault_step text (tree.Has a key) = either_way a.alone
fault_step text (tree.Like a t) = either_way a.alone
fault_step text (tree.Is a path) = either_way a.alone
fault_step text (tree.IsIn a path b) = either_way (a.alone ++ b.alone)
fault_step text (tree.And a more) = either_way (a.alone ++ in_all more)
fault_step text (tree.Or a more) = either_way (a.alone ++ in_all more)
fault_step text (tree.If a b c) = either_way (a.alone ++ (b.alone ++ c.alone))

-- `fault_meaning text x` are the errors of the tree `x`, by itself and with a minus before it.
abbrev pub fault_meaning : List ℕ → ExprTree → Faulty
fault_meaning text = fold-ExprTree Faulty (fault_step text)

-- `faults_of text x` are the errors of the tree `x` by itself.
abbrev pub faults_of : List ℕ → ExprTree → List DesugarFault
faults_of text x = (fault_meaning text x).alone

-- `negated_faults text x` are the errors of the tree `x` with a minus before it.
abbrev pub negated_faults : List ℕ → ExprTree → List DesugarFault
negated_faults text x = (fault_meaning text x).negated
