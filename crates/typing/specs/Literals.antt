-- Defines when literals alone decide a result, before any type is checked.
-- Source: Cedar reference guide 4.0, "Policy validation"; cedar-spec, cedar-lean/Cedar/Validation/Typechecker.lean
-- (`typeOfEq`, `typeOfInₑ`).
-- Rules of this product: an action `in` entity literals is True or False by the schema's actions; `ip` and `decimal`
-- take a string literal.
use Rattle.std.specs.Prelude.{◌≡◌, ◌⊎◌, ⊤, ℕ, ℤ, List, [], ◌∷◌, Contains, IsTrue, Bool}
use Rattle.std.specs.Bool.{Decides}
use Rattle.values.specs.extensions.DecimalText.{IsDecimalText}
use Rattle.values.specs.extensions.Network.{Network}
use Rattle.values.specs.extensions.NetworkText.{IsNetworkText}
use Rattle.values.specs.declared.entity_uid.EntityUid.{EntityUid}
use Rattle.grammar_core.specs.declared.leaf.Literal.{Literal}
use Rattle.grammar_core.specs.declared.leaf.Literal.TheVariants as literal
use Rattle.grammar_core.specs.declared.leaf.Variable.TheVariants.{Action}
use Rattle.grammar_core.specs.declared.operator.Binary.{Binary}
use Rattle.grammar_core.specs.declared.operator.Binary.TheVariants.{Equal, In}
use Rattle.grammar_core.specs.declared.operator.UnaryCall.{UnaryCall}
use Rattle.grammar_core.specs.declared.operator.UnaryCall.TheVariants.{Ip, Decimal}
use Rattle.grammar_core.specs.declared.expr.Expr.{Expr}
use Rattle.grammar_core.specs.declared.expr.Expr.TheVariants as form
use Rattle.typing.specs.Types.{StaticType, decimal_type, ipaddr_type}
use Rattle.typing.specs.Environment.{Environment}

-- `IsLiteral env x l` holds if `x` is the literal `l`; the variable `action` counts as the literal of the action of
-- `env`.
pub data IsLiteral (env : Environment) : Expr → Literal → Type 0 where
  stated : {l : Literal} → IsLiteral env (form.Literal l) l
  action : IsLiteral env (form.Variable Action) (literal.Entity env.action)

-- `AreEntityLiterals env xs us` holds if `xs` are literals (`IsLiteral env`) of the entities `us`, index by index.
pub data AreEntityLiterals (env : Environment) : List Expr → List EntityUid → Type 0 where
  no_literals : AreEntityLiterals env [] []
  literal_before : {x : Expr} {xs : List Expr} {u : EntityUid} {us : List EntityUid}
      → IsLiteral env x (literal.Entity u) → AreEntityLiterals env xs us → AreEntityLiterals env (x ∷ xs) (u ∷ us)

-- `ListsEntities env x us` holds if `x` is an entity literal (`IsLiteral env`), or a set literal of one or more entity
-- literals, and `us` are their entities, in order.
pub data ListsEntities (env : Environment) : Expr → List EntityUid → Type 0 where
  alone : {x : Expr} {u : EntityUid} → IsLiteral env x (literal.Entity u) → ListsEntities env x (u ∷ [])
  in_set : {x : Expr} {xs : List Expr} {us : List EntityUid} → AreEntityLiterals env (x ∷ xs) us
      → ListsEntities env (form.Set (x ∷ xs)) us

-- `IsActionIn env a b` holds if, in the environment `env`, the action `a` is `b` or a descendant of `b`.
abbrev pub IsActionIn : Environment → EntityUid → EntityUid → Type 0
IsActionIn env a b = (a ≡ b) ⊎ Contains (env.action_ancestors a) b

-- `DecidedByLiterals env op a b r` holds if, in the environment `env`, literals decide that the result of `op` on `a`
-- and `b` is `r`. They decide `==` between two literals, and `in` between an action's literal and entity literals.
pub data DecidedByLiterals (env : Environment) : Binary → Expr → Expr → Bool → Type 0 where
  equal_literals : {a b : Expr} {l m : Literal} {r : Bool} → IsLiteral env a l → IsLiteral env b m
      → Decides r (l ≡ m) → DecidedByLiterals env Equal a b r
  action_in : {a b : Expr} {u : EntityUid} {vs : List EntityUid} {r : Bool} → IsLiteral env a (literal.Entity u)
      → IsTrue (env.is_action_type u.type_name) → ListsEntities env b vs
      → Decides r ((v : EntityUid) × Contains vs v × IsActionIn env u v) → DecidedByLiterals env In a b r

-- `UndecidedByLiterals env op a b` holds if, in the environment `env`, literals do not decide the result of `op` on `a`
-- and `b`.
abbrev pub UndecidedByLiterals : Environment → Binary → Expr → Expr → Type 0
UndecidedByLiterals env op a b = (r : Bool) → ¬ DecidedByLiterals env op a b r

-- `TakesText called` holds if the call `called` takes a string.
abbrev pub TakesText : UnaryCall → Type 0
TakesText Ip = ⊤
TakesText Decimal = ⊤
TakesText called = ⊥

-- `ReadsLiteral called x t` holds if `x` is a string literal of the grammar of the extension function `called`, whose
-- values have the type `t`.
pub data ReadsLiteral : UnaryCall → Expr → StaticType → Type 0 where
  reads_decimal : {t : List ℕ} {z : ℤ} → IsDecimalText t z
      → ReadsLiteral Decimal (form.Literal (literal.Text t)) decimal_type
  reads_address : {t : List ℕ} {n : Network} → IsNetworkText t n
      → ReadsLiteral Ip (form.Literal (literal.Text t)) ipaddr_type
