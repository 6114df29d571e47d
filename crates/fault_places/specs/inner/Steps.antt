-- Defines a step down the path to the blamed expression, and the judgement on an expression: its error, or its type.
use Rattle.std.specs.Prelude.{◌≡◌, ℕ, zero, suc, ◌+◌, ◌<◌, List, [], ◌∷◌, ◌++◌, map, Option, Some, None, MatchOption}
use Rattle.grammar_core.specs.Size.{height}
use Rattle.grammar_core.specs.declared.expr.Expr.{Expr}
use Rattle.grammar_core.specs.declared.expr.Expr.TheOpen.{Expr-F}
use Rattle.typing.specs.Types.{IsBoolean}
use Rattle.typing.specs.Environment.{Environment}
use Rattle.typing.specs.declared.fault.TypeFault.{TypeFault}
use Rattle.typing.specs.Typing.{Types}
use Rattle.typing.specs.Faults.{Faults}
use Rattle.type_checker.specs.Views.{static_view, boolean_view}
use Rattle.type_checker.specs.type_capabilities.CapabilityList.{capabilities}
use Rattle.type_checker.specs.type_capabilities.declared.capability.Capability.{Capability}
use Rattle.type_checker.specs.declared.static_type.BooleanType.{BooleanType}
use Rattle.type_checker.specs.declared.static_type.BooleanType.TheVariants as truth
use Rattle.type_checker.specs.declared.static_type.StaticType.{StaticType}
use Rattle.fault_places.specs.declared.judging.Judgement.{Judgement}
use Rattle.fault_places.specs.declared.judging.Judgement.TheVariants as judgement
use Rattle.fault_places.specs.declared.steps.Next.{Next}
use Rattle.fault_places.specs.declared.steps.Next.TheVariants as next
use Rattle.fault_places.specs.declared.steps.Step.{Step}
use Rattle.typing.specs.BlamedExpressions.{Blame, under, blamed}

-- `IsUntyped env ps x qs` holds if `x` has an error in `env` under the capabilities `ps`, and `qs` is `ps`.
pub record IsUntyped (env : Environment) (ps : List Capability) (x : Expr) (qs : List Capability) : Type 0 where
  pub error : TypeFault
  pub has_error : Faults env (capabilities ps) x error
  pub unchanged : qs ≡ ps

-- `IsTyped env ps ts x qs us o` holds if `x` has a type in `env` under the capabilities `ps`; `qs` is `ps` followed by
-- the capabilities that `x` gains, `us` is `ts` followed by the type, and `o` is the type if it is boolean, else
-- `None`.
pub record IsTyped (env : Environment) (ps : List Capability) (ts : List StaticType) (x : Expr) (qs : List Capability)
    (us : List StaticType) (o : Option BooleanType) : Type 0 where
  pub kind : StaticType
  pub gained : List Capability
  pub typed : Types env (capabilities ps) x (static_view kind) (capabilities gained)
  pub extended : qs ≡ ps ++ gained
  pub appended : us ≡ ts ++ kind ∷ []
  pub boolean : MatchOption o (¬ IsBoolean (static_view kind)) (λ b. static_view kind ≡ boolean_view b)

-- `IsJudged env ps ts x qs us j` holds if `j` is `Faulty f`, `IsUntyped env ps x qs` holds, and `f` is the error of
-- `x`; or if `j` is `Typed o` and `IsTyped env ps ts x qs us o` holds.
abbrev pub IsJudged : Environment → List Capability → List StaticType → Expr → List Capability → List StaticType
    → Judgement → Type 0
IsJudged env ps ts x qs us (judgement.Faulty f) = (u : IsUntyped env ps x qs) × (f ≡ u.error)
IsJudged env ps ts x qs us (judgement.Typed o) = IsTyped env ps ts x qs us o

-- `last_of o` is the last part of a path: the index `o` of the blamed operand, or nothing if the form itself is blamed.
abbrev pub last_of : Option ℕ → List ℕ
last_of None = []
last_of (Some i) = i ∷ []

-- `stopped x o ts` blames the operand `o` of the form `x`, or `x` itself, for a demand about the types `ts`.
abbrev pub stopped : Expr → Option ℕ → List StaticType → Blame
stopped x o ts = record { path = last_of o; form = x; types = map static_view ts }

-- `GoesDown env ps x qs i y` holds if `y` has a smaller height than `x`, and for each derivation of an error of `x`
-- under the capabilities `ps` there is one of the same error of `y` under the capabilities `qs`, and the first blames
-- what the second does, with the index `i` in front of the path.
abbrev pub GoesDown : Environment → List Capability → Expr → List Capability → ℕ → Expr → Type 0
GoesDown env ps x qs i y = (height y < height x)
    × ((n : TypeFault) (h : Faults env (capabilities ps) x n)
    → (g : Faults env (capabilities qs) y n) × (blamed h ≡ under i (blamed g)))

-- `StopsAt env ps x o ts` holds if each derivation of an error of `x` under the capabilities `ps` blames the operand
-- `o` of `x`, or `x` itself if `o` is `None`, for a demand about the types `ts`.
abbrev pub StopsAt : Environment → List Capability → Expr → Option ℕ → List StaticType → Type 0
StopsAt env ps x o ts = (n : TypeFault) (h : Faults env (capabilities ps) x n) → blamed h ≡ stopped x o ts

-- `IsStep env ps x qs ts o` holds if `o` is the step from the form `x` under the capabilities `ps`: to an operand that
-- has the error, under the capabilities `qs`, or to an operand that `x` blames for a demand about the types `ts`; or if
-- `o` is `None`, and `x` blames itself for such a demand.
abbrev pub IsStep : Environment → List Capability → Expr → List Capability → List StaticType → Option Step → Type 0
IsStep env ps x qs ts o = MatchOption o (StopsAt env ps x None ts)
    (λ s. MatchOption s.faulty (StopsAt env ps x (Some s.at) ts) (λ y. GoesDown env ps x qs s.at y.now))

-- `after_test t n m` is what follows the test of an `if`; the test has the boolean type `t`. If `t` is False, `else`
-- follows, with the `n` capabilities before the `if`; otherwise `then` follows, with all `m`. No type is kept.
abbrev pub after_test : BooleanType → ℕ → ℕ → Next
after_test truth.False n m = next.Operand 2 n 0
after_test t n m = next.Operand 1 m 0

-- `after_left i o n` is what follows the operand `i` of an `&&` or `||`; the operand has the boolean type `o`, or
-- another type if `o` is `None`. After a boolean left operand the right one follows, with `n` capabilities and no type;
-- any other operand is blamed.
abbrev pub after_left : ℕ → Option BooleanType → ℕ → Next
after_left i None n = next.Blamed
after_left zero (Some t) n = next.Operand 1 n 0
after_left (suc i) (Some t) n = next.Blamed

-- `after y i o n m l` is what follows the operand `i` of the form `y`, which has an error: the operand has the boolean
-- type `o`, or another type if `o` is `None`. Of `m` known capabilities the first `n` are those before `y`, and `l` is
-- the number of the types so far.
abbrev pub after : Expr-F Expr → ℕ → Option BooleanType → ℕ → ℕ → ℕ → Next
after (Expr-F.If a b c) zero None n m l = next.Blamed
after (Expr-F.If a b c) zero (Some t) n m l = after_test t n m
after (Expr-F.And a b) i o n m l = after_left i o m
after (Expr-F.Or a b) i o n m l = after_left i o n
after (Expr-F.Unary op a) i o n m l = next.Blamed
after (Expr-F.Has a k) i o n m l = next.Blamed
after y i o n m l = next.Operand (i + 1) n l

-- `below p b` is the blame `b` with the path `p` in front of its own.
abbrev pub below : List ℕ → Blame → Blame
below p b = record { path = p ++ b.path; form = b.form; types = b.types }

-- `Reaches env whole p ps x` holds if for each derivation of an error of `whole` without known capabilities there is
-- one of the same error of `x` under the capabilities `ps`, and the first blames what the second does, with `p` in
-- front of the path.
abbrev pub Reaches : Environment → Expr → List ℕ → List Capability → Expr → Type 0
Reaches env whole p ps x = (n : TypeFault) (h : Faults env [] whole n)
    → (g : Faults env (capabilities ps) x n) × (blamed h ≡ below p (blamed g))
