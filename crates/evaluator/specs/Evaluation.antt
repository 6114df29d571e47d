-- Defines the outcome of an expression under a request, over entity data: a value, or the first error. Each case of the
-- relation `EvaluatesTo` is a rule of evaluation.
-- Source: Cedar reference guide 4.0, "Operators and functions" and "Syntax: record, set, if"; cedar-spec,
-- cedar-lean/Cedar/Spec/Evaluator.lean (`evaluate`). Operands are evaluated from left to right before the type
-- of any is checked; only `if`, `&&` and `||` check the first before they evaluate another.
-- Rules of this product: the fields of a record are evaluated in the order in which they are written.
use Rattle.std.specs.Prelude.{◌≡◌, ◌≢◌, ℕ, List, [], ◌∷◌, map, Bool, true, false, None, Result, Ok, Err, MatchResult}
use Rattle.values.specs.declared.request.Request.{Request}
use Rattle.values.specs.Fields.{Field, put}
use Rattle.values.specs.Sets.{IsSetOf}
use Rattle.values.specs.Values.{PlainValue, boolean, long, text, entity, set, record_of, values_of, fields_of}
use Rattle.grammar_core.specs.declared.leaf.Literal.{Literal}
use Rattle.grammar_core.specs.declared.leaf.Literal.TheVariants as literal
use Rattle.grammar_core.specs.declared.leaf.Variable.{Variable}
use Rattle.grammar_core.specs.declared.leaf.Variable.TheVariants.{Principal, Action, Resource, Context}
use Rattle.grammar_core.specs.declared.operator.Unary.{Unary}
use Rattle.grammar_core.specs.declared.operator.Binary.{Binary}
use Rattle.grammar_core.specs.declared.operator.UnaryCall.{UnaryCall}
use Rattle.grammar_core.specs.declared.operator.BinaryCall.{BinaryCall}
use Rattle.grammar_core.specs.declared.expr.Named.{Named}
use Rattle.grammar_core.specs.declared.expr.Expr.{Expr}
use Rattle.grammar_core.specs.declared.expr.Expr.TheVariants as form
use Rattle.evaluator.specs.declared.fault.EvalFault.{EvalFault}
use Rattle.evaluator.specs.declared.fault.EvalFault.TheVariants.{TypeError, NoMemory}
use Rattle.evaluator.specs.Outcomes.{EvaluationResult, boolean_in}
use Rattle.evaluator.specs.Operators.{Entities, UnaryGives, BinaryGives, FieldGives, HasGives, UnaryCallGives}
use Rattle.evaluator.specs.Operators.{BinaryCallGives}

-- `literal_value l` is the value of the literal `l`.
abbrev pub literal_value : Literal → PlainValue
literal_value (literal.Boolean b) = boolean b
literal_value (literal.Long z) = long z
literal_value (literal.Text t) = text t
literal_value (literal.Entity u) = entity u

-- `variable_value x q` is the value of the variable `x` under the request `q`.
abbrev pub variable_value : Variable → Request → PlainValue
variable_value Principal q = entity q.principal
variable_value Action q = entity q.action
variable_value Resource q = entity q.resource
variable_value Context q = record_of (fields_of q.context)

-- `HasOperands x xs` holds if `x` needs the values of all of its operands `xs`, evaluated in this order. It does not
-- hold for `if`, `&&` and `||`, which evaluate only what they need, or for literals and variables, which have no
-- operands.
pub data HasOperands : Expr → List Expr → Type 0 where
  of_unary : (op : Unary) (a : Expr) → HasOperands (form.Unary op a) (a ∷ [])
  of_binary : (op : Binary) (a b : Expr) → HasOperands (form.Binary op a b) (a ∷ b ∷ [])
  of_field : (a : Expr) (name : List ℕ) → HasOperands (form.Field a name) (a ∷ [])
  of_has : (a : Expr) (name : List ℕ) → HasOperands (form.Has a name) (a ∷ [])
  of_set : (xs : List Expr) → HasOperands (form.Set xs) xs
  of_record : (xs : List (Named Expr)) → HasOperands (form.Record xs) (map (λ x. x.value) xs)
  of_unary_call : (called : UnaryCall) (a : Expr) → HasOperands (form.UnaryCall called a) (a ∷ [])
  of_binary_call : (called : BinaryCall) (a b : Expr) → HasOperands (form.BinaryCall called a b) (a ∷ b ∷ [])

-- `put_each xs vs done` is `done` with each name of `xs` in turn set to the value at the same index in `vs`, as far as
-- both lists go.
abbrev pub put_each : List (Named Expr) → List PlainValue → List Field → List Field
put_each (x ∷ xs) (v ∷ vs) done = put_each xs vs (put x.name v done)
put_each xs vs done = done

mutual
  -- `EvaluatesTo W q x r` holds if `r` is the outcome of the expression `x` under the request `q`, over the entity data
  -- `W`.
  pub data EvaluatesTo (W : Entities) (q : Request) : Expr → EvaluationResult → Type 0 where
    gives_literal : (l : Literal) → EvaluatesTo W q (form.Literal l) (Ok (literal_value l))
    gives_variable : (x : Variable) → EvaluatesTo W q (form.Variable x) (Ok (variable_value x q))
    if_true : (a b c : Expr) {r : EvaluationResult} → EvaluatesTo W q a (Ok (boolean true)) → EvaluatesTo W q b r
        → EvaluatesTo W q (form.If a b c) r
    if_false : (a b c : Expr) {r : EvaluationResult} → EvaluatesTo W q a (Ok (boolean false)) → EvaluatesTo W q c r
        → EvaluatesTo W q (form.If a b c) r
    if_fails : (a b c : Expr) {e : EvalFault} → TestFails W q a e → EvaluatesTo W q (form.If a b c) (Err e)
    and_false : (a b : Expr) → EvaluatesTo W q a (Ok (boolean false))
        → EvaluatesTo W q (form.And a b) (Ok (boolean false))
    and_true : (a b : Expr) {t : Bool} → EvaluatesTo W q a (Ok (boolean true)) → EvaluatesTo W q b (Ok (boolean t))
        → EvaluatesTo W q (form.And a b) (Ok (boolean t))
    and_left_fails : (a b : Expr) {e : EvalFault} → TestFails W q a e → EvaluatesTo W q (form.And a b) (Err e)
    and_right_fails : (a b : Expr) {e : EvalFault} → EvaluatesTo W q a (Ok (boolean true)) → TestFails W q b e
        → EvaluatesTo W q (form.And a b) (Err e)
    or_true : (a b : Expr) → EvaluatesTo W q a (Ok (boolean true)) → EvaluatesTo W q (form.Or a b) (Ok (boolean true))
    or_false : (a b : Expr) {t : Bool} → EvaluatesTo W q a (Ok (boolean false)) → EvaluatesTo W q b (Ok (boolean t))
        → EvaluatesTo W q (form.Or a b) (Ok (boolean t))
    or_left_fails : (a b : Expr) {e : EvalFault} → TestFails W q a e → EvaluatesTo W q (form.Or a b) (Err e)
    or_right_fails : (a b : Expr) {e : EvalFault} → EvaluatesTo W q a (Ok (boolean false)) → TestFails W q b e
        → EvaluatesTo W q (form.Or a b) (Err e)
    -- the first operand with an error determines the outcome; those after it do not matter
    operand_fails : {x : Expr} {xs : List Expr} {e : EvalFault} → HasOperands x xs → EachEvaluatesTo W q xs (Err e)
        → EvaluatesTo W q x (Err e)
    gives_unary : (op : Unary) (a : Expr) {v : PlainValue} {r : EvaluationResult} → EvaluatesTo W q a (Ok v)
        → UnaryGives op v r → EvaluatesTo W q (form.Unary op a) r
    gives_binary : (op : Binary) (a b : Expr) {v w : PlainValue} {r : EvaluationResult} → EvaluatesTo W q a (Ok v)
        → EvaluatesTo W q b (Ok w) → BinaryGives W op v w r → EvaluatesTo W q (form.Binary op a b) r
    gives_field : (a : Expr) (name : List ℕ) {v : PlainValue} {r : EvaluationResult} → EvaluatesTo W q a (Ok v)
        → FieldGives W name v r → EvaluatesTo W q (form.Field a name) r
    gives_has : (a : Expr) (name : List ℕ) {v : PlainValue} {r : EvaluationResult} → EvaluatesTo W q a (Ok v)
        → HasGives W name v r → EvaluatesTo W q (form.Has a name) r
    gives_set : (xs : List Expr) {vs s : List PlainValue} → EachEvaluatesTo W q xs (Ok vs) → IsSetOf vs s
        → EvaluatesTo W q (form.Set xs) (Ok (set (values_of s)))
    gives_record : (xs : List (Named Expr)) {vs : List PlainValue} → EachEvaluatesTo W q (map (λ x. x.value) xs) (Ok vs)
        → EvaluatesTo W q (form.Record xs) (Ok (record_of (fields_of (put_each xs vs []))))
    gives_unary_call : (called : UnaryCall) (a : Expr) {v : PlainValue} {r : EvaluationResult}
        → EvaluatesTo W q a (Ok v) → UnaryCallGives called v r → EvaluatesTo W q (form.UnaryCall called a) r
    gives_binary_call : (called : BinaryCall) (a b : Expr) {v w : PlainValue} {r : EvaluationResult}
        → EvaluatesTo W q a (Ok v)
        → EvaluatesTo W q b (Ok w) → BinaryCallGives called v w r → EvaluatesTo W q (form.BinaryCall called a b) r

  -- `TestFails W q x e` holds if `x`, where a boolean is required, gives the error `e` under the request `q`, over the
  -- entity data `W`. Either the outcome of `x` is `e`, or it is a value that is not a boolean, and `e` is `TypeError`.
  pub data TestFails (W : Entities) (q : Request) : Expr → EvalFault → Type 0 where
    test_errs : {a : Expr} {e : EvalFault} → EvaluatesTo W q a (Err e) → TestFails W q a e
    no_boolean : {a : Expr} {v : PlainValue} → EvaluatesTo W q a (Ok v) → boolean_in v ≡ None
        → TestFails W q a TypeError

  -- `EachEvaluatesTo W q xs r` holds if, under the request `q` and over the entity data `W`, `r` are the values of `xs`
  -- in order, or the error of the first of `xs` that has an error.
  pub data EachEvaluatesTo (W : Entities) (q : Request)
      : List Expr → Result (List PlainValue) EvalFault → Type 0 where
    each_none : EachEvaluatesTo W q [] (Ok [])
    each_more : {x : Expr} {xs : List Expr} {v : PlainValue} {vs : List PlainValue} → EvaluatesTo W q x (Ok v)
        → EachEvaluatesTo W q xs (Ok vs) → EachEvaluatesTo W q (x ∷ xs) (Ok (v ∷ vs))
    each_fails : {x : Expr} {xs : List Expr} {e : EvalFault} → EvaluatesTo W q x (Err e)
        → EachEvaluatesTo W q (x ∷ xs) (Err e)
    each_fails_later : {x : Expr} {xs : List Expr} {v : PlainValue} {e : EvalFault} → EvaluatesTo W q x (Ok v)
        → EachEvaluatesTo W q xs (Err e) → EachEvaluatesTo W q (x ∷ xs) (Err e)

-- ---- contracts of an evaluator

-- Soundness: `IsSoundEvaluation W q x answer` holds if the result `answer`, unless it is `NoMemory`, is an outcome of
-- `x` under the request `q`, over the entity data `W`.
abbrev pub IsSoundEvaluation : Entities → Request → Expr → EvaluationResult → Type 0
IsSoundEvaluation W q x answer = MatchResult answer (λ v. EvaluatesTo W q x (Ok v))
    (λ e. e ≢ NoMemory → EvaluatesTo W q x (Err e))

-- Completeness: `IsCompleteEvaluation W q x answer` holds if each outcome of `x` under the request `q`, over the entity
-- data `W`, is the result `answer`, unless `answer` is `NoMemory`.
abbrev pub IsCompleteEvaluation : Entities → Request → Expr → EvaluationResult → Type 0
IsCompleteEvaluation W q x answer = (r : EvaluationResult) → EvaluatesTo W q x r → answer ≢ Err NoMemory → answer ≡ r

-- `AnswersTest W q x answer` holds if, under the request `q` and over the entity data `W`, `answer` is the boolean that
-- is the value of `x`, the error with which `x` fails as a test, or `NoMemory`.
abbrev pub AnswersTest : Entities → Request → Expr → Result Bool EvalFault → Type 0
AnswersTest W q x answer = MatchResult answer (λ t. EvaluatesTo W q x (Ok (boolean t)))
    (λ e. e ≢ NoMemory → TestFails W q x e)
