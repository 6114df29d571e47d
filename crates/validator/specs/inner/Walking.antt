-- Defines the check of an expression's names as a function, whose result is a success or the first error.
use Rattle.std.specs.Prelude.{ℕ, List, [], ◌∷◌, map, Bool, false, ◌||◌, if◌then◌else◌, Option, Some, None, is_some}
use Rattle.std.specs.Prelude.{⊤, Result, Ok, Err}
use Rattle.std.specs.List.{list_any}
use Rattle.std.specs.Str.{bytes_eq}
use Rattle.values.specs.declared.entity_uid.EntityUid.{EntityUid}
use Rattle.type_checker.specs.ancestor_search.Decided.{is_same}
use Rattle.grammar_core.specs.Size.{values_of}
use Rattle.grammar_core.specs.declared.leaf.Literal.{Literal}
use Rattle.grammar_core.specs.declared.leaf.Literal.TheVariants as literal
use Rattle.grammar_core.specs.declared.operator.Unary.{Unary}
use Rattle.grammar_core.specs.declared.operator.Unary.TheVariants.{Is}
use Rattle.grammar_core.specs.declared.expr.Named.{Named}
use Rattle.grammar_core.specs.declared.expr.Expr.{Expr}
use Rattle.grammar_core.specs.declared.expr.Expr.TheOpen.{Expr-F}
use Rattle.grammar_core.specs.declared.expr.Expr.TheFolds.{fold-Expr}
use Rattle.type_checker.specs.schema.Schemas.{StatedSchema}
use Rattle.type_checker.specs.entities.Entities.{is_action_type}
use Rattle.type_checker.specs.typing.declared.fault.TypeFault.{TypeFault}
use Rattle.type_checker.specs.typing.declared.fault.TypeFault.TheVariants.{UnknownType, UnknownAction}
use Rattle.validator.specs.Names.{Name, tested_type, entity}

-- A `WalkResult` is success or the first error.
abbrev pub WalkResult : Type 0
WalkResult = Result ⊤ TypeFault

-- `and_then first r` is `r` if the result `first` is a success, else the error of `first`.
abbrev pub and_then : WalkResult → WalkResult → WalkResult
and_then (Ok u) r = r
and_then (Err f) r = Err f

-- `in_turn rs` is the first error of the results `rs`, else a success.
abbrev pub in_turn : List WalkResult → WalkResult
in_turn [] = Ok tt
in_turn (r ∷ rs) = and_then r (in_turn rs)

-- `or_fault f b` is a success if `b` is true, else the error `f`.
abbrev pub or_fault : TypeFault → Bool → WalkResult
or_fault f b = if b then Ok tt else Err f

-- `type_at n o` tests whether `o` is an entity of the type `n`; it is false if `o` is `None`.
abbrev pub type_at : List ℕ → Option EntityUid → Bool
type_at n None = false
type_at n (Some u) = bytes_eq u.type_name n

-- `is_type_of_action s n` tests whether the schema `s` declares an action of type `n`.
abbrev pub is_type_of_action : StatedSchema → List ℕ → Bool
is_type_of_action s n = list_any (λ u. bytes_eq u.type_name n) s.actions

-- `is_declared_action s u` tests whether `s` declares the action `u`.
abbrev pub is_declared_action : StatedSchema → EntityUid → Bool
is_declared_action s u = list_any (λ v. is_same u v) s.actions

-- `tested_type_check s n` is the result of checking the type `n` of an `is` under `s`.
abbrev pub tested_type_check : StatedSchema → List ℕ → WalkResult
tested_type_check s n = or_fault UnknownType (is_some (s.shape n) || is_type_of_action s n)

-- `action_check s u` is the result of checking the entity `u` of an action type under `s`.
abbrev pub action_check : StatedSchema → EntityUid → WalkResult
action_check s u = or_fault UnknownAction (is_declared_action s u)

-- `other_check s u` is the result of checking the entity `u`, whose type is not an action type, under `s`.
abbrev pub other_check : StatedSchema → EntityUid → WalkResult
other_check s u = or_fault UnknownType (is_some (s.shape u.type_name))

-- `entity_check s u` is the result of checking the entity literal `u` under `s`.
abbrev pub entity_check : StatedSchema → EntityUid → WalkResult
entity_check s u = if is_action_type u.type_name then action_check s u else other_check s u

-- `name_check s n` is the result of checking the name `n` under `s`.
abbrev pub name_check : StatedSchema → Name → WalkResult
name_check s (tested_type n) = tested_type_check s n
name_check s (entity u) = entity_check s u

-- `literal_check s l` is the result of checking the names of the literal `l` under `s`.
abbrev pub literal_check : StatedSchema → Literal → WalkResult
literal_check s (literal.Entity u) = entity_check s u
literal_check s l = Ok tt

-- `operator_check s op` is the result of checking the names of the unary operator `op` under `s`.
abbrev pub operator_check : StatedSchema → Unary → WalkResult
operator_check s (Is n) = tested_type_check s n
operator_check s op = Ok tt

-- `walk_step s form` is the result of checking an expression of the form `form` under `s`. The form has the result of
-- each operand in place of the operand.
abbrev pub walk_step : StatedSchema → Expr-F WalkResult → WalkResult
walk_step s (Expr-F.Literal l) = literal_check s l
walk_step s (Expr-F.Variable x) = Ok tt
walk_step s (Expr-F.If a b c) = and_then a (and_then b c)
walk_step s (Expr-F.And a b) = and_then a b
walk_step s (Expr-F.Or a b) = and_then a b
walk_step s (Expr-F.Unary op a) = and_then a (operator_check s op)
walk_step s (Expr-F.Binary op a b) = and_then a b
walk_step s (Expr-F.Field a k) = a
walk_step s (Expr-F.Has a k) = a
walk_step s (Expr-F.Set rs) = in_turn rs
walk_step s (Expr-F.Record fs) = in_turn (values_of fs)
walk_step s (Expr-F.UnaryCall called a) = a
walk_step s (Expr-F.BinaryCall called a b) = and_then a b

-- `walk s x` is the result of checking the names of the expression `x` under `s`.
abbrev pub walk : StatedSchema → Expr → WalkResult
walk s = fold-Expr WalkResult (walk_step s)

-- `named_walk s f` is the record field `f` with the result of checking its value under `s` in place of the value.
abbrev pub named_walk : StatedSchema → Named Expr → Named WalkResult
named_walk s f = record { name = f.name; value = walk s f.value }

-- `names_check s ns` is the result of checking the names `ns` under `s` in turn.
abbrev pub names_check : StatedSchema → List Name → WalkResult
names_check s ns = in_turn (map (name_check s) ns)

-- `parts_check s parts condition` is the result of checking the names of the expressions `parts` under `s` in turn, and
-- then those of `condition`.
abbrev pub parts_check : StatedSchema → List Expr → Expr → WalkResult
parts_check s parts condition = and_then (in_turn (map (walk s) parts)) (walk s condition)
