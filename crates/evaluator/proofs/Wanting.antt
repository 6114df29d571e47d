-- No expression gives want of memory.
use Rattle.std.specs.Prelude.{ℕ, ℤ, List, Result, Ok, Err}
use Rattle.values.specs.declared.request.Request.{Request}
use Rattle.values.specs.Values.{PlainValue}
use Rattle.grammar_core.specs.declared.operator.Unary.{Unary}
use Rattle.grammar_core.specs.declared.operator.Binary.{Binary}
use Rattle.grammar_core.specs.declared.operator.Binary.TheVariants.{Less, LessOrEqual, Add, Subtract, Multiply}
use Rattle.grammar_core.specs.declared.operator.UnaryCall.{UnaryCall}
use Rattle.grammar_core.specs.declared.operator.BinaryCall.{BinaryCall}
use Rattle.grammar_core.specs.declared.expr.Expr.{Expr}
use Rattle.evaluator_steps.specs.Attributes.{attribute, no_attribute, not_stored}
use Rattle.evaluator.specs.declared.fault.EvalFault.{EvalFault}
use Rattle.evaluator.specs.declared.fault.EvalFault.TheVariants.{EntityDoesNotExist, AttrDoesNotExist, TypeError, ArithBoundsError, ExtensionError, NoMemory}
use Rattle.evaluator.specs.Outcomes.{EvaluationResult, IsTruthOf, holds, fails, IsChecked, fits, overflows}
use Rattle.evaluator.specs.Operators as op
use Rattle.evaluator.specs.Operators.{Entities, UnaryGives, NumbersGive, BinaryGives, FieldGives, HasGives, UnaryCallGives, BinaryCallGives}
use Rattle.evaluator.specs.Evaluation as rule
use Rattle.evaluator.specs.Evaluation.{EvaluatesTo, TestFails, EachEvaluatesTo}
use Rattle.evaluator.specs.Laws.{NoOutcomeIsNoMemory}

-- an error of the language
abbrev IsError : EvalFault → Type 0
IsError EntityDoesNotExist = Unit {0}
IsError AttrDoesNotExist = Unit {0}
IsError TypeError = Unit {0}
IsError ArithBoundsError = Unit {0}
IsError ExtensionError = Unit {0}
IsError NoMemory = ⊥

-- a value, or an error of the language
abbrev IsProper : {A : Type 0} → Result A EvalFault → Type 0
IsProper (Ok v) = Unit {0}
IsProper (Err e) = IsError e

told : {P : Type 0} (r : EvaluationResult) → IsTruthOf P r → IsProper r
told _ (holds p) = tt
told _ (fails n) = tt

comes : (z : ℤ) (r : EvaluationResult) → IsChecked z r → IsProper r
comes _ _ (fits f) = tt
comes _ _ (overflows n) = tt

of_unary : (o : Unary) (v : PlainValue) (r : EvaluationResult) → UnaryGives o v r → IsProper r
of_unary _ _ _ op.negation = tt
of_unary _ _ _ (op.negation_of_other e) = tt
of_unary _ _ _ (op.opposite {z} {r} h) = comes _ r h
of_unary _ _ _ (op.opposite_of_other e) = tt
of_unary _ _ _ (op.like_text {pattern} {t} {r} h) = told r h
of_unary _ _ _ (op.like_of_other e) = tt
of_unary _ _ _ (op.is_entity {name} {u} {r} h) = told r h
of_unary _ _ _ (op.is_of_other e) = tt

of_numbers : (o : Binary) (x y : ℤ) (r : EvaluationResult) → NumbersGive o x y r → IsProper r
of_numbers Less x y r h = told r h
of_numbers LessOrEqual x y r h = told r h
of_numbers Add x y r h = comes _ r h
of_numbers Subtract x y r h = comes _ r h
of_numbers Multiply x y r h = comes _ r h
of_numbers o x y r h = absurd h

module _ (W : Entities) where
  of_binary : (o : Binary) (v w : PlainValue) (r : EvaluationResult) → BinaryGives W o v w r → IsProper r
  of_binary _ _ _ _ (op.equal {v} {w} {r} h) = told r h
  of_binary _ _ _ _ (op.of_numbers {op = o} {x} {y} {r} h) = of_numbers o x y r h
  of_binary _ _ _ _ (op.no_numbers takes h) = tt
  of_binary _ _ _ _ (op.in_entity {a} {b} {r} h) = told r h
  of_binary _ _ _ _ (op.in_set {a} {vs} {r} us e h) = told r h
  of_binary _ _ _ _ (op.in_mixed_set v c e) = tt
  of_binary _ _ _ _ (op.in_other e f) = tt
  of_binary _ _ _ _ (op.other_in e) = tt
  of_binary _ _ _ _ (op.contains {vs} {w} {r} h) = told r h
  of_binary _ _ _ _ (op.other_contains e) = tt
  of_binary _ _ _ _ (op.contains_all {vs} {ws} {r} h) = told r h
  of_binary _ _ _ _ (op.contains_any {vs} {ws} {r} h) = told r h
  of_binary _ _ _ _ (op.no_sets takes h) = tt

  of_field : (name : List ℕ) (v : PlainValue) (r : EvaluationResult) → FieldGives W name v r → IsProper r
  of_field name _ _ (op.field e) = tt
  of_field name _ _ (op.no_field e) = tt
  of_field name _ _ (op.of_entity (attribute fs s e)) = tt
  of_field name _ _ (op.of_entity (no_attribute fs s e)) = tt
  of_field name _ _ (op.of_entity (not_stored s)) = tt
  of_field name _ _ (op.field_of_other e f) = tt

  of_has : (name : List ℕ) (v : PlainValue) (r : EvaluationResult) → HasGives W name v r → IsProper r
  of_has name _ _ (op.has_field {fs} {r} h) = told r h
  of_has name _ _ (op.has_attribute {u} {r} fs s h) = told r h
  of_has name _ _ (op.none_stored s) = tt
  of_has name _ _ (op.has_of_other e f) = tt

of_unary_call : (called : UnaryCall) (v : PlainValue) (r : EvaluationResult) → UnaryCallGives called v r → IsProper r
of_unary_call _ _ _ (op.reads_decimal h) = tt
of_unary_call _ _ _ (op.no_decimal n) = tt
of_unary_call _ _ _ (op.decimal_of_other e) = tt
of_unary_call _ _ _ (op.reads_address h) = tt
of_unary_call _ _ _ (op.no_address n) = tt
of_unary_call _ _ _ (op.address_of_other e) = tt
of_unary_call _ _ _ (op.of_address {called} {n} {r} takes h) = told r h
of_unary_call _ _ _ (op.of_no_address takes e) = tt

of_binary_call : (called : BinaryCall) (v w : PlainValue) (r : EvaluationResult) → BinaryCallGives called v w r → IsProper r
of_binary_call _ _ _ _ (op.of_decimals {called} {x} {y} {r} takes h) = told r h
of_binary_call _ _ _ _ (op.in_range {m} {n} {r} h) = told r h
of_binary_call _ _ _ _ (op.no_decimals takes h) = tt
of_binary_call _ _ _ _ (op.no_addresses h) = tt

module _ (W : Entities) (q : Request) where
  mutual
    proper : (x : Expr) (r : EvaluationResult) → EvaluatesTo W q x r → IsProper r
    proper _ _ (rule.gives_literal l) = tt
    proper _ _ (rule.gives_variable x) = tt
    proper _ _ (rule.if_true a b c {r} g h) = proper b r h
    proper _ _ (rule.if_false a b c {r} g h) = proper c r h
    proper _ _ (rule.if_fails a b c {e} f) = no_test a e f
    proper _ _ (rule.and_false a b g) = tt
    proper _ _ (rule.and_true a b {t} g h) = tt
    proper _ _ (rule.and_left_fails a b {e} f) = no_test a e f
    proper _ _ (rule.and_right_fails a b {e} g f) = no_test b e f
    proper _ _ (rule.or_true a b g) = tt
    proper _ _ (rule.or_false a b {t} g h) = tt
    proper _ _ (rule.or_left_fails a b {e} f) = no_test a e f
    proper _ _ (rule.or_right_fails a b {e} g f) = no_test b e f
    proper _ _ (rule.operand_fails {x} {xs} {e} has g) = proper_each xs (Err e) g
    proper _ _ (rule.gives_unary o a {v} {r} g u) = of_unary o v r u
    proper _ _ (rule.gives_binary o a b {v} {w} {r} g h u) = of_binary W o v w r u
    proper _ _ (rule.gives_field a name {v} {r} g u) = of_field W name v r u
    proper _ _ (rule.gives_has a name {v} {r} g u) = of_has W name v r u
    proper _ _ (rule.gives_set xs g h) = tt
    proper _ _ (rule.gives_record xs g) = tt
    proper _ _ (rule.gives_unary_call called a {v} {r} g u) = of_unary_call called v r u
    proper _ _ (rule.gives_binary_call called a b {v} {w} {r} g h u) = of_binary_call called v w r u

    no_test : (x : Expr) (e : EvalFault) → TestFails W q x e → IsError e
    no_test _ _ (rule.test_errs {a} {e} g) = proper a (Err e) g
    no_test _ _ (rule.no_boolean g n) = tt

    proper_each : (xs : List Expr) (r : Result (List PlainValue) EvalFault) → EachEvaluatesTo W q xs r → IsProper r
    proper_each _ _ rule.each_none = tt
    proper_each _ _ (rule.each_more g h) = tt
    proper_each _ _ (rule.each_fails {x} {xs} {e} g) = proper x (Err e) g
    proper_each _ _ (rule.each_fails_later {x} {xs} {v} {e} g h) = proper_each xs (Err e) h

pub no_outcome_is_no_memory : NoOutcomeIsNoMemory
no_outcome_is_no_memory W q x g = proper W q x (Err NoMemory) g
