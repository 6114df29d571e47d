-- Defines the type of an expression, and the capabilities that it gains: the fields that are present if the expression
-- evaluates to true. Each constructor is one typing rule.
-- Source: Cedar reference guide 4.0, "Policy validation"; cedar-spec, cedar-lean/Cedar/Validation/Typechecker.lean
-- (`typeOf`).
-- Rules of this product: those at the head of Literals.antt and of Rows.antt; and `a && b` gains the capabilities of
-- both sides even if `b`, but not `a`, has the type False.
use Rattle.std.specs.Prelude.{◌≡◌, ℕ, List, [], ◌∷◌, ◌++◌, map, Contains, Bool, Some, Ok}
use Rattle.std.specs.Bool.{Decides}
use Rattle.grammar_core.specs.declared.leaf.Literal.{Literal}
use Rattle.grammar_core.specs.declared.leaf.Variable.{Variable}
use Rattle.grammar_core.specs.declared.operator.Unary.{Unary}
use Rattle.grammar_core.specs.declared.operator.Binary.{Binary}
use Rattle.grammar_core.specs.declared.operator.UnaryCall.{UnaryCall}
use Rattle.grammar_core.specs.declared.operator.BinaryCall.{BinaryCall}
use Rattle.grammar_core.specs.declared.expr.Named.{Named}
use Rattle.grammar_core.specs.declared.expr.Expr.{Expr}
use Rattle.grammar_core.specs.declared.expr.Expr.TheVariants as form
use Rattle.evaluator.specs.Operators.{TakesAddress}
use Rattle.typing.specs.Types.{StaticType, true_type, false_type, boolean_type, record_type}
use Rattle.typing.specs.Types.{no_field_types, put_each, truth_type, IsBoolean, common}
use Rattle.typing.specs.Environment.{Environment}
use Rattle.typing.specs.Gained.{CapabilityList, InBoth, OrGains, has_gains}
use Rattle.typing.specs.Literals.{DecidedByLiterals, UndecidedByLiterals, ReadsLiteral}
use Rattle.typing.specs.Rows.{literal_type, variable_type, unary_type, binary_type, MayBeTrue, and_type, or_type}
use Rattle.typing.specs.Rows.{field_type_of, has_type, set_literal_type, address_test_type, call_type}

mutual
  -- `Types env K x t L` holds if `x` has the type `t` and gains the capabilities `L`, in the environment `env`, where
  -- the capabilities `K` are known.
  pub data Types (env : Environment) : CapabilityList → Expr → StaticType → CapabilityList → Type 0 where
    types_literal : {K : CapabilityList} (l : Literal) → Types env K (form.Literal l) (literal_type l) []
    types_variable : {K : CapabilityList} (x : Variable) → Types env K (form.Variable x) (variable_type env x) []
    types_unary : {K L : CapabilityList} (op : Unary) (a : Expr) {s t : StaticType} → Types env K a s L
        → unary_type op s ≡ Ok t → Types env K (form.Unary op a) t []
    -- the left side has the type False: the right side is not checked
    and_of_false : {K L : CapabilityList} (a b : Expr) → Types env K a false_type L
        → Types env K (form.And a b) false_type []
    and_of_both : {K L M : CapabilityList} (a b : Expr) {s t : StaticType} → Types env K a s L → MayBeTrue s
        → Types env (K ++ L) b t M → IsBoolean t → Types env K (form.And a b) (and_type s t) (L ++ M)
    -- the left side has the type True: the right side is not checked
    or_of_true : {K L : CapabilityList} (a b : Expr) → Types env K a true_type L
        → Types env K (form.Or a b) true_type []
    or_of_false : {K L M : CapabilityList} (a b : Expr) {t : StaticType} → Types env K a false_type L
        → Types env K b t M
        → IsBoolean t → Types env K (form.Or a b) t M
    or_of_both : {K L M N : CapabilityList} (a b : Expr) {t : StaticType} → Types env K a boolean_type L
        → Types env K b t M → IsBoolean t → OrGains t L M N → Types env K (form.Or a b) (or_type t) N
    -- the test has the type True or False: the branch that is not taken is not checked
    if_of_true : {K L M : CapabilityList} (a b c : Expr) {t : StaticType} → Types env K a true_type L
        → Types env (K ++ L) b t M → Types env K (form.If a b c) t (L ++ M)
    if_of_false : {K L M : CapabilityList} (a b c : Expr) {t : StaticType} → Types env K a false_type L
        → Types env K c t M → Types env K (form.If a b c) t M
    -- the whole gains `B`: the capabilities that are both in `N` (of `else`) and in `L ++ M` (of the test and `then`)
    if_of_both : {K L M N B : CapabilityList} (a b c : Expr) {s t u : StaticType} → Types env K a boolean_type L
        → Types env (K ++ L) b s M → Types env K c t N → common s t ≡ Some u → InBoth N (L ++ M) B
        → Types env K (form.If a b c) u B
    -- literals decide the result: the operands are not typed
    types_decided : {K : CapabilityList} (op : Binary) (a b : Expr) {r : Bool} → DecidedByLiterals env op a b r
        → Types env K (form.Binary op a b) (truth_type r) []
    types_binary : {K L M : CapabilityList} (op : Binary) (a b : Expr) {s t u : StaticType}
        → UndecidedByLiterals env op a b
        → Types env K a s L → Types env K b t M → binary_type env op s t ≡ Ok u
        → Types env K (form.Binary op a b) u []
    types_field : {K L : CapabilityList} (a : Expr) (k : List ℕ) {is_known : Bool} {s t : StaticType}
        → Types env K a s L
        → Decides is_known (Contains K (a, k)) → field_type_of env is_known k s ≡ Ok t
        → Types env K (form.Field a k) t []
    types_has : {K L : CapabilityList} (a : Expr) (k : List ℕ) {is_known : Bool} {s t : StaticType} → Types env K a s L
        → Decides is_known (Contains K (a, k)) → has_type env is_known k s ≡ Ok t
        → Types env K (form.Has a k) t (has_gains t (a, k))
    types_set : {K : CapabilityList} (xs : List Expr) {ts : List StaticType} {t : StaticType} → TypesEach env K xs ts
        → set_literal_type ts ≡ Ok t → Types env K (form.Set xs) t []
    -- each field is required in the record's type
    types_record : {K : CapabilityList} (xs : List (Named Expr)) {ts : List StaticType}
        → TypesEach env K (map (λ x. x.value) xs) ts
        → Types env K (form.Record xs) (record_type (put_each (map (λ x. x.name) xs) ts no_field_types)) []
    types_literal_call : {K L : CapabilityList} (called : UnaryCall) (a : Expr) {s t : StaticType} → Types env K a s L
        → ReadsLiteral called a t → Types env K (form.UnaryCall called a) t []
    types_address_test : {K L : CapabilityList} (called : UnaryCall) (a : Expr) {s t : StaticType} → TakesAddress called
        → Types env K a s L → address_test_type s ≡ Ok t → Types env K (form.UnaryCall called a) t []
    types_call : {K L M : CapabilityList} (called : BinaryCall) (a b : Expr) {s t u : StaticType} → Types env K a s L
        → Types env K b t M → call_type called s t ≡ Ok u → Types env K (form.BinaryCall called a b) u []

  -- `TypesEach env K xs ts` holds if `ts` are the types of `xs` in `env`, in order, where the capabilities `K` are
  -- known.
  pub data TypesEach (env : Environment) : CapabilityList → List Expr → List StaticType → Type 0 where
    types_none : {K : CapabilityList} → TypesEach env K [] []
    types_more : {K L : CapabilityList} {x : Expr} {xs : List Expr} {t : StaticType} {ts : List StaticType}
        → Types env K x t L → TypesEach env K xs ts → TypesEach env K (x ∷ xs) (t ∷ ts)
