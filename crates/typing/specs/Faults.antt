-- Defines the error of an expression without a type: the error of its first operand without a type, in order, else its
-- own error. The left operands of `&&` and of `||`, and the test of an `if`, must be boolean before the next operand is
-- checked.
-- Source: the rules of Typing.antt, and the order in which operands are evaluated.
use Rattle.std.specs.Prelude.{◌≡◌, ℕ, List, [], ◌∷◌, ◌++◌, map, Contains, Bool, None, Err}
use Rattle.std.specs.Bool.{Decides}
use Rattle.grammar_core.specs.declared.operator.Unary.{Unary}
use Rattle.grammar_core.specs.declared.operator.Binary.{Binary}
use Rattle.grammar_core.specs.declared.operator.UnaryCall.{UnaryCall}
use Rattle.grammar_core.specs.declared.operator.BinaryCall.{BinaryCall}
use Rattle.grammar_core.specs.declared.expr.Named.{Named}
use Rattle.grammar_core.specs.declared.expr.Expr.{Expr}
use Rattle.grammar_core.specs.declared.expr.Expr.TheVariants as form
use Rattle.evaluator.specs.Operators.{TakesAddress}
use Rattle.typing.specs.Types.{StaticType, false_type, boolean_type, IsBoolean, common}
use Rattle.typing.specs.Environment.{Environment}
use Rattle.typing.specs.declared.fault.TypeFault.{TypeFault}
use Rattle.typing.specs.declared.fault.TypeFault.TheVariants.{Unexpected, NoCommonType, BadExtensionLiteral}
use Rattle.typing.specs.Gained.{CapabilityList}
use Rattle.typing.specs.Literals.{UndecidedByLiterals, TakesText, ReadsLiteral}
use Rattle.typing.specs.Rows.{unary_type, binary_type, MayBeTrue, MayBeFalse, field_type_of, has_type}
use Rattle.typing.specs.Rows.{set_literal_type, address_test_type, call_type}
use Rattle.typing.specs.Typing.{Types, TypesEach}

-- `NeedsTypes env x xs` holds if `x` needs the types of all of its operands `xs`, in order. `if`, `&&` and `||` need
-- only some of them; an `==` or `in` that literals decide in the environment `env` needs none.
pub data NeedsTypes (env : Environment) : Expr → List Expr → Type 0 where
  of_unary : (op : Unary) (a : Expr) → NeedsTypes env (form.Unary op a) (a ∷ [])
  of_binary : (op : Binary) (a b : Expr) → UndecidedByLiterals env op a b
      → NeedsTypes env (form.Binary op a b) (a ∷ b ∷ [])
  of_field : (a : Expr) (k : List ℕ) → NeedsTypes env (form.Field a k) (a ∷ [])
  of_has : (a : Expr) (k : List ℕ) → NeedsTypes env (form.Has a k) (a ∷ [])
  of_set : (xs : List Expr) → NeedsTypes env (form.Set xs) xs
  of_record : (xs : List (Named Expr)) → NeedsTypes env (form.Record xs) (map (λ x. x.value) xs)
  of_unary_call : (called : UnaryCall) (a : Expr) → NeedsTypes env (form.UnaryCall called a) (a ∷ [])
  of_binary_call : (called : BinaryCall) (a b : Expr) → NeedsTypes env (form.BinaryCall called a b) (a ∷ b ∷ [])

mutual
  -- `Faults env K x n` holds if `x` has the error `n` in the environment `env`, where the capabilities `K` are known.
  pub data Faults (env : Environment) : CapabilityList → Expr → TypeFault → Type 0 where
    -- the first operand with an error decides
    fault_in_operand : {K : CapabilityList} {x : Expr} {xs : List Expr} {n : TypeFault} → NeedsTypes env x xs
        → FaultsEach env K xs n → Faults env K x n
    -- else the types of the operands decide
    fault_of_unary : {K L : CapabilityList} (op : Unary) (a : Expr) {s : StaticType} {n : TypeFault}
        → Types env K a s L
        → unary_type op s ≡ Err n → Faults env K (form.Unary op a) n
    fault_of_binary : {K L M : CapabilityList} (op : Binary) (a b : Expr) {s t : StaticType} {n : TypeFault}
        → UndecidedByLiterals env op a b → Types env K a s L → Types env K b t M → binary_type env op s t ≡ Err n
        → Faults env K (form.Binary op a b) n
    fault_of_field : {K L : CapabilityList} (a : Expr) (k : List ℕ) {is_known : Bool} {s : StaticType}
        {n : TypeFault}
        → Types env K a s L → Decides is_known (Contains K (a, k)) → field_type_of env is_known k s ≡ Err n
        → Faults env K (form.Field a k) n
    fault_of_has : {K L : CapabilityList} (a : Expr) (k : List ℕ) {is_known : Bool} {s : StaticType}
        {n : TypeFault}
        → Types env K a s L → Decides is_known (Contains K (a, k)) → has_type env is_known k s ≡ Err n
        → Faults env K (form.Has a k) n
    fault_of_set : {K : CapabilityList} (xs : List Expr) {ts : List StaticType} {n : TypeFault}
        → TypesEach env K xs ts
        → set_literal_type ts ≡ Err n → Faults env K (form.Set xs) n
    no_literal : {K L : CapabilityList} (called : UnaryCall) (a : Expr) {s : StaticType} → TakesText called
        → Types env K a s L → ((t : StaticType) → ¬ ReadsLiteral called a t)
        → Faults env K (form.UnaryCall called a) BadExtensionLiteral
    fault_of_address_test : {K L : CapabilityList} (called : UnaryCall) (a : Expr) {s : StaticType}
        {n : TypeFault}
        → TakesAddress called → Types env K a s L → address_test_type s ≡ Err n
        → Faults env K (form.UnaryCall called a) n
    fault_of_call : {K L M : CapabilityList} (called : BinaryCall) (a b : Expr) {s t : StaticType} {n : TypeFault}
        → Types env K a s L → Types env K b t M → call_type called s t ≡ Err n
        → Faults env K (form.BinaryCall called a b) n
    -- `&&`, `||` and `if`: first the left operand or the test is typed, then it must be boolean, then the next is typed
    fault_left_of_and : {K : CapabilityList} (a b : Expr) {n : TypeFault} → Faults env K a n
        → Faults env K (form.And a b) n
    left_of_and_no_boolean : {K L : CapabilityList} (a b : Expr) {s : StaticType} → Types env K a s L → ¬ IsBoolean s
        → Faults env K (form.And a b) Unexpected
    fault_right_of_and : {K L : CapabilityList} (a b : Expr) {s : StaticType} {n : TypeFault} → Types env K a s L
        → MayBeTrue s → Faults env (K ++ L) b n → Faults env K (form.And a b) n
    right_of_and_no_boolean : {K L M : CapabilityList} (a b : Expr) {s t : StaticType} → Types env K a s L → MayBeTrue s
        → Types env (K ++ L) b t M → ¬ IsBoolean t → Faults env K (form.And a b) Unexpected
    fault_left_of_or : {K : CapabilityList} (a b : Expr) {n : TypeFault} → Faults env K a n
        → Faults env K (form.Or a b) n
    left_of_or_no_boolean : {K L : CapabilityList} (a b : Expr) {s : StaticType} → Types env K a s L → ¬ IsBoolean s
        → Faults env K (form.Or a b) Unexpected
    fault_right_of_or : {K L : CapabilityList} (a b : Expr) {s : StaticType} {n : TypeFault} → Types env K a s L
        → MayBeFalse s → Faults env K b n → Faults env K (form.Or a b) n
    right_of_or_no_boolean : {K L M : CapabilityList} (a b : Expr) {s t : StaticType} → Types env K a s L → MayBeFalse s
        → Types env K b t M → ¬ IsBoolean t → Faults env K (form.Or a b) Unexpected
    fault_in_test : {K : CapabilityList} (a b c : Expr) {n : TypeFault} → Faults env K a n
        → Faults env K (form.If a b c) n
    test_no_boolean : {K L : CapabilityList} (a b c : Expr) {s : StaticType} → Types env K a s L → ¬ IsBoolean s
        → Faults env K (form.If a b c) Unexpected
    fault_in_then : {K L : CapabilityList} (a b c : Expr) {s : StaticType} {n : TypeFault} → Types env K a s L
        → MayBeTrue s
        → Faults env (K ++ L) b n → Faults env K (form.If a b c) n
    fault_in_only_else : {K L : CapabilityList} (a b c : Expr) {n : TypeFault} → Types env K a false_type L
        → Faults env K c n → Faults env K (form.If a b c) n
    fault_in_else : {K L M : CapabilityList} (a b c : Expr) {t : StaticType} {n : TypeFault}
        → Types env K a boolean_type L
        → Types env (K ++ L) b t M → Faults env K c n → Faults env K (form.If a b c) n
    branches_differ : {K L M N : CapabilityList} (a b c : Expr) {s t : StaticType} → Types env K a boolean_type L
        → Types env (K ++ L) b s M → Types env K c t N → common s t ≡ None
        → Faults env K (form.If a b c) NoCommonType

  -- `FaultsEach env K xs n` holds if `n` is the error of the first of `xs` that has one in `env`, where the
  -- capabilities `K` are known.
  pub data FaultsEach (env : Environment) : CapabilityList → List Expr → TypeFault → Type 0 where
    fault_here : {K : CapabilityList} {x : Expr} {xs : List Expr} {n : TypeFault} → Faults env K x n
        → FaultsEach env K (x ∷ xs) n
    fault_later : {K L : CapabilityList} {x : Expr} {xs : List Expr} {t : StaticType} {n : TypeFault}
        → Types env K x t L
        → FaultsEach env K xs n → FaultsEach env K (x ∷ xs) n
