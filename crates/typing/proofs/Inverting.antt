-- What it says of its parts that a form gives an outcome.
use Rattle.std.specs.Prelude.{◌≡◌, List, [], ◌∷◌, map, Bool, true, false, Ok, Err, refl}
use Rattle.std.proofs.Common.{sym, subst}
use Rattle.values.specs.declared.request.Request.{Request}
use Rattle.values.specs.Sets.{IsSetOf}
use Rattle.values.specs.Values.{PlainValue, boolean, set, record_of, values_of, fields_of}
use Rattle.grammar_core.specs.declared.expr.Named.{Named}
use Rattle.grammar_core.specs.declared.expr.Expr.{Expr}
use Rattle.grammar_core.specs.declared.expr.Expr.TheVariants as form
use Rattle.grammar_core.specs.declared.expr.Expr.TheViews.{out-Expr}
use Rattle.grammar_core.specs.declared.expr.Expr.TheOpen.{Expr-F}
use Rattle.evaluator.specs.declared.fault.EvalFault.{EvalFault}
use Rattle.evaluator.specs.Outcomes.{EvaluationResult}
use Rattle.evaluator.specs.Operators.{Entities, UnaryGives, BinaryGives, FieldGives, HasGives, UnaryCallGives}
use Rattle.evaluator.specs.Operators.{BinaryCallGives}
use Rattle.evaluator.specs.Evaluation as rule
use Rattle.evaluator.specs.Evaluation.{EvaluatesTo, TestFails, EachEvaluatesTo, HasOperands, literal_value}
use Rattle.evaluator.specs.Evaluation.{variable_value, put_each}

module _ (W : Entities) (q : Request) where
  pub data IfGives (a b c : Expr) : EvaluationResult → Type 0 where
    then_gives : {r : EvaluationResult} → EvaluatesTo W q a (Ok (boolean true)) → EvaluatesTo W q b r → IfGives a b c r
    else_gives : {r : EvaluationResult} → EvaluatesTo W q a (Ok (boolean false)) → EvaluatesTo W q c r → IfGives a b c r
    test_fails : {e : EvalFault} → TestFails W q a e → IfGives a b c (Err e)

  pub data AndGives (a b : Expr) : EvaluationResult → Type 0 where
    left_false : EvaluatesTo W q a (Ok (boolean false)) → AndGives a b (Ok (boolean false))
    both_give : {t : Bool} → EvaluatesTo W q a (Ok (boolean true)) → EvaluatesTo W q b (Ok (boolean t)) → AndGives a b (Ok (boolean t))
    and_left : {e : EvalFault} → TestFails W q a e → AndGives a b (Err e)
    and_right : {e : EvalFault} → EvaluatesTo W q a (Ok (boolean true)) → TestFails W q b e → AndGives a b (Err e)

  pub data OrGives (a b : Expr) : EvaluationResult → Type 0 where
    left_true : EvaluatesTo W q a (Ok (boolean true)) → OrGives a b (Ok (boolean true))
    right_gives : {t : Bool} → EvaluatesTo W q a (Ok (boolean false)) → EvaluatesTo W q b (Ok (boolean t)) → OrGives a b (Ok (boolean t))
    or_left : {e : EvalFault} → TestFails W q a e → OrGives a b (Err e)
    or_right : {e : EvalFault} → EvaluatesTo W q a (Ok (boolean false)) → TestFails W q b e → OrGives a b (Err e)

  -- one operand, and what its value gives
  pub data OneGives (a : Expr) (R : PlainValue → EvaluationResult → Type 0) : EvaluationResult → Type 0 where
    one_value : {v : PlainValue} {r : EvaluationResult} → EvaluatesTo W q a (Ok v) → R v r → OneGives a R r
    one_fails : {e : EvalFault} → EvaluatesTo W q a (Err e) → OneGives a R (Err e)

  pub data TwoGive (a b : Expr) (R : PlainValue → PlainValue → EvaluationResult → Type 0) : EvaluationResult → Type 0 where
    two_values : {v w : PlainValue} {r : EvaluationResult} → EvaluatesTo W q a (Ok v) → EvaluatesTo W q b (Ok w) → R v w r → TwoGive a b R r
    left_fails : {e : EvalFault} → EvaluatesTo W q a (Err e) → TwoGive a b R (Err e)
    right_fails : {v : PlainValue} {e : EvalFault} → EvaluatesTo W q a (Ok v) → EvaluatesTo W q b (Err e) → TwoGive a b R (Err e)

  pub data SetGives (xs : List Expr) : EvaluationResult → Type 0 where
    set_value : {vs s : List PlainValue} → EachEvaluatesTo W q xs (Ok vs) → IsSetOf vs s → SetGives xs (Ok (set (values_of s)))
    member_fails : {e : EvalFault} → EachEvaluatesTo W q xs (Err e) → SetGives xs (Err e)

  pub data RecordGives (xs : List (Named Expr)) : EvaluationResult → Type 0 where
    record_value : {vs : List PlainValue} → EachEvaluatesTo W q (map (λ x. x.value) xs) (Ok vs)
        → RecordGives xs (Ok (record_of (fields_of (put_each xs vs []))))
    field_fails : {e : EvalFault} → EachEvaluatesTo W q (map (λ x. x.value) xs) (Err e) → RecordGives xs (Err e)

  -- what a form gives, by its parts
  abbrev pub LayerGives : Expr-F Expr → EvaluationResult → Type 0
  LayerGives (Expr-F.Literal l) r = r ≡ Ok (literal_value l)
  LayerGives (Expr-F.Variable x) r = r ≡ Ok (variable_value x q)
  LayerGives (Expr-F.If a b c) r = IfGives a b c r
  LayerGives (Expr-F.And a b) r = AndGives a b r
  LayerGives (Expr-F.Or a b) r = OrGives a b r
  LayerGives (Expr-F.Unary op a) r = OneGives a (UnaryGives op) r
  LayerGives (Expr-F.Binary op a b) r = TwoGive a b (BinaryGives W op) r
  LayerGives (Expr-F.Field a k) r = OneGives a (FieldGives W k) r
  LayerGives (Expr-F.Has a k) r = OneGives a (HasGives W k) r
  LayerGives (Expr-F.Set xs) r = SetGives xs r
  LayerGives (Expr-F.Record xs) r = RecordGives xs r
  LayerGives (Expr-F.UnaryCall called a) r = OneGives a (UnaryCallGives called) r
  LayerGives (Expr-F.BinaryCall called a b) r = TwoGive a b (BinaryCallGives called) r

  seen_at : (x : Expr) (y : Expr-F Expr) (r : EvaluationResult) → out-Expr x ≡ y → LayerGives y r → LayerGives (out-Expr x) r
  seen_at x y r e h = subst (λ z. LayerGives z r) (sym e) h

  one_of : {a : Expr} {R : PlainValue → EvaluationResult → Type 0} {e : EvalFault} → EachEvaluatesTo W q (a ∷ []) (Err e) → OneGives a R (Err e)
  one_of (rule.each_fails g) = one_fails g
  one_of (rule.each_fails_later g h) = elim h [ ]

  two_of : {a b : Expr} {R : PlainValue → PlainValue → EvaluationResult → Type 0} {e : EvalFault} → EachEvaluatesTo W q (a ∷ b ∷ []) (Err e) → TwoGive a b R (Err e)
  two_of (rule.each_fails g) = left_fails g
  two_of (rule.each_fails_later g (rule.each_fails h)) = right_fails g h
  two_of (rule.each_fails_later g (rule.each_fails_later h i)) = elim i [ ]

  fails_at : {x : Expr} {xs : List Expr} (e : EvalFault) → HasOperands x xs → EachEvaluatesTo W q xs (Err e) → LayerGives (out-Expr x) (Err e)
  fails_at e (rule.of_unary op a) g = seen_at (form.Unary op a) _ (Err e) (form.outs-Unary op a) (one_of g)
  fails_at e (rule.of_binary op a b) g = seen_at (form.Binary op a b) _ (Err e) (form.outs-Binary op a b) (two_of g)
  fails_at e (rule.of_field a k) g = seen_at (form.Field a k) _ (Err e) (form.outs-Field a k) (one_of g)
  fails_at e (rule.of_has a k) g = seen_at (form.Has a k) _ (Err e) (form.outs-Has a k) (one_of g)
  fails_at e (rule.of_set xs) g = seen_at (form.Set xs) _ (Err e) (form.outs-Set xs) (member_fails g)
  fails_at e (rule.of_record xs) g = seen_at (form.Record xs) _ (Err e) (form.outs-Record xs) (field_fails g)
  fails_at e (rule.of_unary_call called a) g = seen_at (form.UnaryCall called a) _ (Err e) (form.outs-UnaryCall called a) (one_of g)
  fails_at e (rule.of_binary_call called a b) g = seen_at (form.BinaryCall called a b) _ (Err e) (form.outs-BinaryCall called a b) (two_of g)

  gives_at : {x : Expr} {r : EvaluationResult} → EvaluatesTo W q x r → LayerGives (out-Expr x) r
  gives_at (rule.gives_literal l) = seen_at (form.Literal l) _ _ (form.outs-Literal l) refl
  gives_at (rule.gives_variable x) = seen_at (form.Variable x) _ _ (form.outs-Variable x) refl
  gives_at (rule.if_true a b c {r} g h) = seen_at (form.If a b c) _ r (form.outs-If a b c) (then_gives g h)
  gives_at (rule.if_false a b c {r} g h) = seen_at (form.If a b c) _ r (form.outs-If a b c) (else_gives g h)
  gives_at (rule.if_fails a b c {e} g) = seen_at (form.If a b c) _ (Err e) (form.outs-If a b c) (test_fails g)
  gives_at (rule.and_false a b g) = seen_at (form.And a b) _ _ (form.outs-And a b) (left_false g)
  gives_at (rule.and_true a b {t} g h) = seen_at (form.And a b) _ (Ok (boolean t)) (form.outs-And a b) (both_give g h)
  gives_at (rule.and_left_fails a b {e} g) = seen_at (form.And a b) _ (Err e) (form.outs-And a b) (and_left g)
  gives_at (rule.and_right_fails a b {e} g h) = seen_at (form.And a b) _ (Err e) (form.outs-And a b) (and_right g h)
  gives_at (rule.or_true a b g) = seen_at (form.Or a b) _ _ (form.outs-Or a b) (left_true g)
  gives_at (rule.or_false a b {t} g h) = seen_at (form.Or a b) _ (Ok (boolean t)) (form.outs-Or a b) (right_gives g h)
  gives_at (rule.or_left_fails a b {e} g) = seen_at (form.Or a b) _ (Err e) (form.outs-Or a b) (or_left g)
  gives_at (rule.or_right_fails a b {e} g h) = seen_at (form.Or a b) _ (Err e) (form.outs-Or a b) (or_right g h)
  gives_at (rule.operand_fails {e} o g) = fails_at e o g
  gives_at (rule.gives_unary op a {r} g u) = seen_at (form.Unary op a) _ r (form.outs-Unary op a) (one_value g u)
  gives_at (rule.gives_binary op a b {r} g h u) = seen_at (form.Binary op a b) _ r (form.outs-Binary op a b) (two_values g h u)
  gives_at (rule.gives_field a k {r} g u) = seen_at (form.Field a k) _ r (form.outs-Field a k) (one_value g u)
  gives_at (rule.gives_has a k {r} g u) = seen_at (form.Has a k) _ r (form.outs-Has a k) (one_value g u)
  gives_at (rule.gives_set xs {s} g i) = seen_at (form.Set xs) _ (Ok (set (values_of s))) (form.outs-Set xs) (set_value g i)
  gives_at (rule.gives_record xs {vs} g) = seen_at (form.Record xs) _ (Ok (record_of (fields_of (put_each xs vs [])))) (form.outs-Record xs) (record_value g)
  gives_at (rule.gives_unary_call called a {r} g u) = seen_at (form.UnaryCall called a) _ r (form.outs-UnaryCall called a) (one_value g u)
  gives_at (rule.gives_binary_call called a b {r} g h u) = seen_at (form.BinaryCall called a b) _ r (form.outs-BinaryCall called a b) (two_values g h u)

  pub layer : {x : Expr} {r : EvaluationResult} (y : Expr-F Expr) → out-Expr x ≡ y → EvaluatesTo W q x r → LayerGives y r
  layer {r} y e g = subst (λ z. LayerGives z r) e (gives_at g)
