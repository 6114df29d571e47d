-- What an expression computes is what its rules give, where a test decides who is above whom; so each expression has exactly one outcome.
use Rattle.std.specs.Prelude.{◌≡◌, ℕ, List, [], ◌∷◌, map, Bool, true, false, None, Result, Ok, Err, if◌then◌else◌, refl}
use Rattle.std.proofs.Common.{sym, ap, ◌∙◌, subst}
use Rattle.values.specs.declared.entity_uid.EntityUid.{EntityUid}
use Rattle.values.specs.declared.request.Request.{Request}
use Rattle.values.specs.Fields.{Field, put}
use Rattle.values.specs.Sets.{set_list}
use Rattle.values.specs.Values.{PlainValue, boolean, long, text, entity, set, record_of, decimal, ipaddr, values_of, fields_of}
use Rattle.ancestor_search.specs.Decided.{Decides}
use Rattle.grammar_core.proofs.Forms.{Every, Cases, by_forms, fold_literal, fold_variable, fold_if, fold_and, fold_or, fold_unary, fold_binary, fold_field, fold_has, fold_set, fold_record, fold_unary_call, fold_binary_call}
use Rattle.grammar_core.specs.declared.leaf.Literal.{Literal}
use Rattle.grammar_core.specs.declared.leaf.Variable.{Variable}
use Rattle.grammar_core.specs.declared.operator.Unary.{Unary}
use Rattle.grammar_core.specs.declared.operator.Binary.{Binary}
use Rattle.grammar_core.specs.declared.operator.UnaryCall.{UnaryCall}
use Rattle.grammar_core.specs.declared.operator.BinaryCall.{BinaryCall}
use Rattle.grammar_core.specs.declared.expr.Named.{Named}
use Rattle.grammar_core.specs.declared.expr.Expr.{Expr}
use Rattle.grammar_core.specs.declared.expr.Expr.TheVariants as form
use Rattle.evaluator.specs.declared.fault.EvalFault.{EvalFault}
use Rattle.evaluator.specs.declared.fault.EvalFault.TheVariants.{TypeError}
use Rattle.evaluator.specs.Outcomes.{EvaluationResult, boolean_in}
use Rattle.evaluator.specs.Operators.{Entities}
use Rattle.evaluator.specs.Evaluation as rule
use Rattle.evaluator.specs.Evaluation.{literal_value, variable_value, HasOperands, put_each, EvaluatesTo, TestFails, EachEvaluatesTo, IsSoundEvaluation, IsCompleteEvaluation}
use Rattle.evaluator.specs.Laws.{HasOneOutcome}
use Rattle.evaluator.specs.inner.Meanings.{GivesOnly, MeaningIsOutcome}
use Rattle.evaluator.specs.inner.Computing.{DecidedEntities, decided_entities, and_then, demanded, truth, as_test, apply_unary, apply_binary, field_of, has_field, apply_unary_call, apply_binary_call, each, each_field, meaning, meaning_step, named_meaning, Answers}
use Rattle.evaluator.proofs.Applied.{LawsBelow, unary_exists, unary_is, binary_exists, binary_is, field_exists, field_is, has_exists, has_is}
use Rattle.evaluator.proofs.AppliedCalls.{unary_call_exists, unary_call_is, binary_call_exists, binary_call_is}

-- the values as a set
to_set : List PlainValue → EvaluationResult
to_set vs = Ok (set (values_of (set_list vs)))

to_record : List Field → EvaluationResult
to_record fs = Ok (record_of (fields_of fs))

-- where the operands err, so does what goes on with their values
one_errs : (f : PlainValue → EvaluationResult) (m : EvaluationResult) (e : EvalFault) → each (m ∷ []) ≡ Err e → and_then m f ≡ Err e
one_errs f (Ok v) e h = absurd (cc)
one_errs f (Err d) e h = let same : d ≡ e = cc in ap (λ g. Err g) same

two_err : (f : PlainValue → PlainValue → EvaluationResult) (m n : EvaluationResult) (e : EvalFault) → each (m ∷ n ∷ []) ≡ Err e → and_then m (λ v. and_then n (f v)) ≡ Err e
two_err f (Ok v) (Ok w) e h = absurd (cc)
two_err f (Ok v) (Err d) e h = let same : d ≡ e = cc in ap (λ g. Err g) same
two_err f (Err d) n e h = let same : d ≡ e = cc in ap (λ g. Err g) same

-- what goes on alike with each value goes on alike
goes_on : {A B : Type 0} (m : Result A EvalFault) (f g : A → Result B EvalFault) → ((v : A) → f v ≡ g v) → and_then m f ≡ and_then m g
goes_on (Ok v) f g h = h v
goes_on (Err e) f g h = refl

-- a field's value, and then those of the others
one_field : (x : Named Expr) (xs : List (Named Expr)) (done : List Field) (m : EvaluationResult) (n : Result (List PlainValue) EvalFault) →
    and_then m (λ v. and_then n (λ vs. Ok (put_each xs vs (put x.name v done)))) ≡ and_then (and_then m (λ v. and_then n (λ vs. Ok (v ∷ vs)))) (λ vs. Ok (put_each (x ∷ xs) vs done))
one_field x xs done (Ok v) (Ok vs) = refl
one_field x xs done (Ok v) (Err e) = refl
one_field x xs done (Err e) n = refl

module _ (L : LawsBelow) (W : Entities) (ancestor_test : EntityUid → EntityUid → Bool) (D : Decides W.parents ancestor_test) (q : Request) where
  abbrev E : DecidedEntities
  E = decided_entities W.stored ancestor_test

  abbrev gives : Expr → EvaluationResult
  gives = meaning q E

  at_literal : (l : Literal) → gives (form.Literal l) ≡ Ok (literal_value l)
  at_literal = fold_literal EvaluationResult (meaning_step q E)

  at_variable : (x : Variable) → gives (form.Variable x) ≡ Ok (variable_value x q)
  at_variable = fold_variable EvaluationResult (meaning_step q E)

  at_if : (a b c : Expr) → gives (form.If a b c) ≡ and_then (as_test (gives a)) (λ t. if t then gives b else gives c)
  at_if = fold_if EvaluationResult (meaning_step q E)

  at_and : (a b : Expr) → gives (form.And a b) ≡ and_then (as_test (gives a)) (λ t. if t then and_then (as_test (gives b)) truth else truth false)
  at_and = fold_and EvaluationResult (meaning_step q E)

  at_or : (a b : Expr) → gives (form.Or a b) ≡ and_then (as_test (gives a)) (λ t. if t then truth true else and_then (as_test (gives b)) truth)
  at_or = fold_or EvaluationResult (meaning_step q E)

  at_unary : (op : Unary) (a : Expr) → gives (form.Unary op a) ≡ and_then (gives a) (apply_unary op)
  at_unary = fold_unary EvaluationResult (meaning_step q E)

  at_binary : (op : Binary) (a b : Expr) → gives (form.Binary op a b) ≡ and_then (gives a) (λ v. and_then (gives b) (apply_binary E op v))
  at_binary = fold_binary EvaluationResult (meaning_step q E)

  at_field : (a : Expr) (name : List ℕ) → gives (form.Field a name) ≡ and_then (gives a) (field_of E name)
  at_field = fold_field EvaluationResult (meaning_step q E)

  at_has : (a : Expr) (name : List ℕ) → gives (form.Has a name) ≡ and_then (gives a) (has_field E name)
  at_has = fold_has EvaluationResult (meaning_step q E)

  at_set : (xs : List Expr) → gives (form.Set xs) ≡ and_then (each (map gives xs)) to_set
  unfolding to_set
  at_set = fold_set EvaluationResult (meaning_step q E)

  at_record : (xs : List (Named Expr)) → gives (form.Record xs) ≡ and_then (each_field (map (named_meaning q E) xs) []) to_record
  unfolding to_record
  at_record = fold_record EvaluationResult (meaning_step q E)

  at_unary_call : (called : UnaryCall) (a : Expr) → gives (form.UnaryCall called a) ≡ and_then (gives a) (apply_unary_call called)
  at_unary_call = fold_unary_call EvaluationResult (meaning_step q E)

  at_binary_call : (called : BinaryCall) (a b : Expr) → gives (form.BinaryCall called a b) ≡ and_then (gives a) (λ v. and_then (gives b) (apply_binary_call called v))
  at_binary_call = fold_binary_call EvaluationResult (meaning_step q E)

  values : List (Named Expr) → Result (List PlainValue) EvalFault
  values xs = each (map gives (map (λ x. x.value) xs))

  -- the fields, by their values
  fields_by_values : (xs : List (Named Expr)) (done : List Field) → each_field (map (named_meaning q E) xs) done ≡ and_then (values xs) (λ vs. Ok (put_each xs vs done))
  unfolding values
  fields_by_values [] done = refl
  fields_by_values (x ∷ xs) done =
      goes_on (gives x.value) (λ v. each_field (map (named_meaning q E) xs) (put x.name v done)) (λ v. and_then (values xs) (λ vs. Ok (put_each xs vs (put x.name v done))))
      (λ v. fields_by_values xs (put x.name v done))
      ∙ one_field x xs done (gives x.value) (values xs)

  at_record_of_values : (xs : List (Named Expr)) → gives (form.Record xs) ≡ and_then (and_then (values xs) (λ vs. Ok (put_each xs vs []))) to_record
  at_record_of_values xs = at_record xs ∙ ap (λ m. and_then m to_record) (fields_by_values xs [])

  -- where the operands of a form err, so does the form
  operands_err : (x : Expr) (xs : List Expr) (e : EvalFault) → HasOperands x xs → each (map gives xs) ≡ Err e → gives x ≡ Err e
  unfolding to_set to_record values
  operands_err _ _ e (rule.of_unary op a) h = at_unary op a ∙ one_errs (apply_unary op) (gives a) e h
  operands_err _ _ e (rule.of_binary op a b) h = at_binary op a b ∙ two_err (apply_binary E op) (gives a) (gives b) e h
  operands_err _ _ e (rule.of_field a name) h = at_field a name ∙ one_errs (field_of E name) (gives a) e h
  operands_err _ _ e (rule.of_has a name) h = at_has a name ∙ one_errs (has_field E name) (gives a) e h
  operands_err _ _ e (rule.of_set xs) h = at_set xs ∙ ap (λ m. and_then m to_set) h
  operands_err _ _ e (rule.of_record xs) h = at_record_of_values xs ∙ ap (λ m. and_then (and_then m (λ vs. Ok (put_each xs vs []))) to_record) h
  operands_err _ _ e (rule.of_unary_call called a) h = at_unary_call called a ∙ one_errs (apply_unary_call called) (gives a) e h
  operands_err _ _ e (rule.of_binary_call called a b) h = at_binary_call called a b ∙ two_err (apply_binary_call called) (gives a) (gives b) e h

  -- ---- what the relation gives, the function computes

  no_boolean_is : (v : PlainValue) → boolean_in v ≡ None → demanded (boolean_in v) ≡ Err TypeError
  no_boolean_is v e = ap demanded e

  mutual
    unfolding to_set to_record values

    computes : (x : Expr) (r : EvaluationResult) → EvaluatesTo W q x r → gives x ≡ r
    computes _ _ (rule.gives_literal l) = at_literal l
    computes _ _ (rule.gives_variable x) = at_variable x
    computes _ _ (rule.if_true a b c {r} g h) = at_if a b c ∙ (ap (λ m. and_then (as_test m) (λ t. if t then gives b else gives c)) (computes a _ g) ∙ computes b r h)
    computes _ _ (rule.if_false a b c {r} g h) = at_if a b c ∙ (ap (λ m. and_then (as_test m) (λ t. if t then gives b else gives c)) (computes a _ g) ∙ computes c r h)
    computes _ _ (rule.if_fails a b c {e} g) = at_if a b c ∙ ap (λ m. and_then m (λ t. if t then gives b else gives c)) (test_computes a e g)
    computes _ _ (rule.and_false a b g) = at_and a b ∙ ap (λ m. and_then (as_test m) (λ t. if t then and_then (as_test (gives b)) truth else truth false)) (computes a _ g)
    computes _ _ (rule.and_true a b {t} g h) = at_and a b ∙ (ap (λ m. and_then (as_test m) (λ t. if t then and_then (as_test (gives b)) truth else truth false)) (computes a _ g) ∙ ap (λ m. and_then (as_test m) truth) (computes b _ h))
    computes _ _ (rule.and_left_fails a b {e} g) = at_and a b ∙ ap (λ m. and_then m (λ t. if t then and_then (as_test (gives b)) truth else truth false)) (test_computes a e g)
    computes _ _ (rule.and_right_fails a b {e} g h) = at_and a b ∙ (ap (λ m. and_then (as_test m) (λ t. if t then and_then (as_test (gives b)) truth else truth false)) (computes a _ g) ∙ ap (λ m. and_then m truth) (test_computes b e h))
    computes _ _ (rule.or_true a b g) = at_or a b ∙ ap (λ m. and_then (as_test m) (λ t. if t then truth true else and_then (as_test (gives b)) truth)) (computes a _ g)
    computes _ _ (rule.or_false a b {t} g h) = at_or a b ∙ (ap (λ m. and_then (as_test m) (λ t. if t then truth true else and_then (as_test (gives b)) truth)) (computes a _ g) ∙ ap (λ m. and_then (as_test m) truth) (computes b _ h))
    computes _ _ (rule.or_left_fails a b {e} g) = at_or a b ∙ ap (λ m. and_then m (λ t. if t then truth true else and_then (as_test (gives b)) truth)) (test_computes a e g)
    computes _ _ (rule.or_right_fails a b {e} g h) = at_or a b ∙ (ap (λ m. and_then (as_test m) (λ t. if t then truth true else and_then (as_test (gives b)) truth)) (computes a _ g) ∙ ap (λ m. and_then m truth) (test_computes b e h))
    computes _ _ (rule.operand_fails {x} {xs} {e} has g) = operands_err x xs e has (each_computes xs (Err e) g)
    computes _ _ (rule.gives_unary op a {v} {r} g u) = at_unary op a ∙ (ap (λ m. and_then m (apply_unary op)) (computes a _ g) ∙ unary_is op v r u)
    computes _ _ (rule.gives_binary op a b {v} {w} {r} g h u) = at_binary op a b ∙ (ap (λ m. and_then m (λ v. and_then (gives b) (apply_binary E op v))) (computes a _ g) ∙ (ap (λ m. and_then m (apply_binary E op v)) (computes b _ h) ∙ binary_is W ancestor_test D L op v w r u))
    computes _ _ (rule.gives_field a name {v} {r} g u) = at_field a name ∙ (ap (λ m. and_then m (field_of E name)) (computes a _ g) ∙ field_is W ancestor_test D name v r u)
    computes _ _ (rule.gives_has a name {v} {r} g u) = at_has a name ∙ (ap (λ m. and_then m (has_field E name)) (computes a _ g) ∙ has_is W ancestor_test D name v r u)
    computes _ _ (rule.gives_set xs {vs} {s} g h) = at_set xs ∙ (ap (λ m. and_then m to_set) (each_computes xs _ g) ∙ sym (ap (λ ws. Ok (set (values_of ws))) (L.one vs s h)))
    computes _ _ (rule.gives_record xs {vs} g) = at_record_of_values xs ∙ ap (λ m. and_then (and_then m (λ vs. Ok (put_each xs vs []))) to_record) (each_computes (map (λ x. x.value) xs) _ g)
    computes _ _ (rule.gives_unary_call called a {v} {r} g u) = at_unary_call called a ∙ (ap (λ m. and_then m (apply_unary_call called)) (computes a _ g) ∙ unary_call_is L called v r u)
    computes _ _ (rule.gives_binary_call called a b {v} {w} {r} g h u) = at_binary_call called a b ∙ (ap (λ m. and_then m (λ v. and_then (gives b) (apply_binary_call called v))) (computes a _ g) ∙ (ap (λ m. and_then m (apply_binary_call called v)) (computes b _ h) ∙ binary_call_is called v w r u))

    test_computes : (x : Expr) (e : EvalFault) → TestFails W q x e → as_test (gives x) ≡ Err e
    test_computes _ _ (rule.test_errs {a} {e} g) = ap as_test (computes a _ g)
    test_computes _ _ (rule.no_boolean {a} {v} g n) = ap as_test (computes a _ g) ∙ no_boolean_is v n

    each_computes : (xs : List Expr) (r : Result (List PlainValue) EvalFault) → EachEvaluatesTo W q xs r → each (map gives xs) ≡ r
    each_computes _ _ rule.each_none = refl
    each_computes _ _ (rule.each_more {x} {xs} {v} {vs} g h) = ap (λ m. and_then m (λ v. and_then (each (map gives xs)) (λ vs. Ok (v ∷ vs)))) (computes x _ g) ∙ ap (λ m. and_then m (λ vs. Ok (v ∷ vs))) (each_computes xs _ h)
    each_computes _ _ (rule.each_fails {x} {xs} {e} g) = ap (λ m. and_then m (λ v. and_then (each (map gives xs)) (λ vs. Ok (v ∷ vs)))) (computes x _ g)
    each_computes _ _ (rule.each_fails_later {x} {xs} {v} {e} g h) = ap (λ m. and_then m (λ v. and_then (each (map gives xs)) (λ vs. Ok (v ∷ vs)))) (computes x _ g) ∙ ap (λ m. and_then m (λ vs. Ok (v ∷ vs))) (each_computes xs _ h)

  -- ---- what the function computes, the relation gives

  if_case : (a b c : Expr) (m r s : EvaluationResult) → EvaluatesTo W q a m → EvaluatesTo W q b r → EvaluatesTo W q c s → EvaluatesTo W q (form.If a b c) (and_then (as_test m) (λ t. if t then r else s))
  if_case a b c (Ok (boolean true)) r s g h k = rule.if_true a b c g h
  if_case a b c (Ok (boolean false)) r s g h k = rule.if_false a b c g k
  if_case a b c (Ok (long z)) r s g h k = rule.if_fails a b c (rule.no_boolean g refl)
  if_case a b c (Ok (text z)) r s g h k = rule.if_fails a b c (rule.no_boolean g refl)
  if_case a b c (Ok (entity z)) r s g h k = rule.if_fails a b c (rule.no_boolean g refl)
  if_case a b c (Ok (set z)) r s g h k = rule.if_fails a b c (rule.no_boolean g refl)
  if_case a b c (Ok (record_of z)) r s g h k = rule.if_fails a b c (rule.no_boolean g refl)
  if_case a b c (Ok (decimal z)) r s g h k = rule.if_fails a b c (rule.no_boolean g refl)
  if_case a b c (Ok (ipaddr z)) r s g h k = rule.if_fails a b c (rule.no_boolean g refl)
  if_case a b c (Err e) r s g h k = rule.if_fails a b c (rule.test_errs g)

  and_right_case : (a b : Expr) (m : EvaluationResult) → EvaluatesTo W q a (Ok (boolean true)) → EvaluatesTo W q b m → EvaluatesTo W q (form.And a b) (and_then (as_test m) truth)
  and_right_case a b (Ok (boolean t)) g h = rule.and_true a b g h
  and_right_case a b (Ok (long z)) g h = rule.and_right_fails a b g (rule.no_boolean h refl)
  and_right_case a b (Ok (text z)) g h = rule.and_right_fails a b g (rule.no_boolean h refl)
  and_right_case a b (Ok (entity z)) g h = rule.and_right_fails a b g (rule.no_boolean h refl)
  and_right_case a b (Ok (set z)) g h = rule.and_right_fails a b g (rule.no_boolean h refl)
  and_right_case a b (Ok (record_of z)) g h = rule.and_right_fails a b g (rule.no_boolean h refl)
  and_right_case a b (Ok (decimal z)) g h = rule.and_right_fails a b g (rule.no_boolean h refl)
  and_right_case a b (Ok (ipaddr z)) g h = rule.and_right_fails a b g (rule.no_boolean h refl)
  and_right_case a b (Err e) g h = rule.and_right_fails a b g (rule.test_errs h)

  and_case : (a b : Expr) (m n : EvaluationResult) → EvaluatesTo W q a m → EvaluatesTo W q b n → EvaluatesTo W q (form.And a b) (and_then (as_test m) (λ t. if t then and_then (as_test n) truth else truth false))
  and_case a b (Ok (boolean true)) n g h = and_right_case a b n g h
  and_case a b (Ok (boolean false)) n g h = rule.and_false a b g
  and_case a b (Ok (long z)) n g h = rule.and_left_fails a b (rule.no_boolean g refl)
  and_case a b (Ok (text z)) n g h = rule.and_left_fails a b (rule.no_boolean g refl)
  and_case a b (Ok (entity z)) n g h = rule.and_left_fails a b (rule.no_boolean g refl)
  and_case a b (Ok (set z)) n g h = rule.and_left_fails a b (rule.no_boolean g refl)
  and_case a b (Ok (record_of z)) n g h = rule.and_left_fails a b (rule.no_boolean g refl)
  and_case a b (Ok (decimal z)) n g h = rule.and_left_fails a b (rule.no_boolean g refl)
  and_case a b (Ok (ipaddr z)) n g h = rule.and_left_fails a b (rule.no_boolean g refl)
  and_case a b (Err e) n g h = rule.and_left_fails a b (rule.test_errs g)

  or_right_case : (a b : Expr) (m : EvaluationResult) → EvaluatesTo W q a (Ok (boolean false)) → EvaluatesTo W q b m → EvaluatesTo W q (form.Or a b) (and_then (as_test m) truth)
  or_right_case a b (Ok (boolean t)) g h = rule.or_false a b g h
  or_right_case a b (Ok (long z)) g h = rule.or_right_fails a b g (rule.no_boolean h refl)
  or_right_case a b (Ok (text z)) g h = rule.or_right_fails a b g (rule.no_boolean h refl)
  or_right_case a b (Ok (entity z)) g h = rule.or_right_fails a b g (rule.no_boolean h refl)
  or_right_case a b (Ok (set z)) g h = rule.or_right_fails a b g (rule.no_boolean h refl)
  or_right_case a b (Ok (record_of z)) g h = rule.or_right_fails a b g (rule.no_boolean h refl)
  or_right_case a b (Ok (decimal z)) g h = rule.or_right_fails a b g (rule.no_boolean h refl)
  or_right_case a b (Ok (ipaddr z)) g h = rule.or_right_fails a b g (rule.no_boolean h refl)
  or_right_case a b (Err e) g h = rule.or_right_fails a b g (rule.test_errs h)

  or_case : (a b : Expr) (m n : EvaluationResult) → EvaluatesTo W q a m → EvaluatesTo W q b n → EvaluatesTo W q (form.Or a b) (and_then (as_test m) (λ t. if t then truth true else and_then (as_test n) truth))
  or_case a b (Ok (boolean true)) n g h = rule.or_true a b g
  or_case a b (Ok (boolean false)) n g h = or_right_case a b n g h
  or_case a b (Ok (long z)) n g h = rule.or_left_fails a b (rule.no_boolean g refl)
  or_case a b (Ok (text z)) n g h = rule.or_left_fails a b (rule.no_boolean g refl)
  or_case a b (Ok (entity z)) n g h = rule.or_left_fails a b (rule.no_boolean g refl)
  or_case a b (Ok (set z)) n g h = rule.or_left_fails a b (rule.no_boolean g refl)
  or_case a b (Ok (record_of z)) n g h = rule.or_left_fails a b (rule.no_boolean g refl)
  or_case a b (Ok (decimal z)) n g h = rule.or_left_fails a b (rule.no_boolean g refl)
  or_case a b (Ok (ipaddr z)) n g h = rule.or_left_fails a b (rule.no_boolean g refl)
  or_case a b (Err e) n g h = rule.or_left_fails a b (rule.test_errs g)

  unary_case : (op : Unary) (a : Expr) (m : EvaluationResult) → EvaluatesTo W q a m → EvaluatesTo W q (form.Unary op a) (and_then m (apply_unary op))
  unary_case op a (Ok v) g = rule.gives_unary op a g (unary_exists op v)
  unary_case op a (Err e) g = rule.operand_fails (rule.of_unary op a) (rule.each_fails g)

  binary_case : (op : Binary) (a b : Expr) (m n : EvaluationResult) → EvaluatesTo W q a m → EvaluatesTo W q b n → EvaluatesTo W q (form.Binary op a b) (and_then m (λ v. and_then n (apply_binary E op v)))
  binary_case op a b (Ok v) (Ok w) g h = rule.gives_binary op a b g h (binary_exists W ancestor_test D L op v w)
  binary_case op a b (Ok v) (Err e) g h = rule.operand_fails (rule.of_binary op a b) (rule.each_fails_later g (rule.each_fails h))
  binary_case op a b (Err e) n g h = rule.operand_fails (rule.of_binary op a b) (rule.each_fails g)

  field_case : (a : Expr) (name : List ℕ) (m : EvaluationResult) → EvaluatesTo W q a m → EvaluatesTo W q (form.Field a name) (and_then m (field_of E name))
  field_case a name (Ok v) g = rule.gives_field a name g (field_exists W ancestor_test D name v)
  field_case a name (Err e) g = rule.operand_fails (rule.of_field a name) (rule.each_fails g)

  has_case : (a : Expr) (name : List ℕ) (m : EvaluationResult) → EvaluatesTo W q a m → EvaluatesTo W q (form.Has a name) (and_then m (has_field E name))
  has_case a name (Ok v) g = rule.gives_has a name g (has_exists W ancestor_test D name v)
  has_case a name (Err e) g = rule.operand_fails (rule.of_has a name) (rule.each_fails g)

  set_case : (xs : List Expr) (m : Result (List PlainValue) EvalFault) → EachEvaluatesTo W q xs m → EvaluatesTo W q (form.Set xs) (and_then m to_set)
  unfolding to_set
  set_case xs (Ok vs) g = rule.gives_set xs g (L.made vs)
  set_case xs (Err e) g = rule.operand_fails (rule.of_set xs) g

  record_case : (xs : List (Named Expr)) (m : Result (List PlainValue) EvalFault) → EachEvaluatesTo W q (map (λ x. x.value) xs) m →
      EvaluatesTo W q (form.Record xs) (and_then (and_then m (λ vs. Ok (put_each xs vs []))) to_record)
  unfolding to_record
  record_case xs (Ok vs) g = rule.gives_record xs g
  record_case xs (Err e) g = rule.operand_fails (rule.of_record xs) g

  unary_call_case : (called : UnaryCall) (a : Expr) (m : EvaluationResult) → EvaluatesTo W q a m → EvaluatesTo W q (form.UnaryCall called a) (and_then m (apply_unary_call called))
  unary_call_case called a (Ok v) g = rule.gives_unary_call called a g (unary_call_exists called v)
  unary_call_case called a (Err e) g = rule.operand_fails (rule.of_unary_call called a) (rule.each_fails g)

  binary_call_case : (called : BinaryCall) (a b : Expr) (m n : EvaluationResult) → EvaluatesTo W q a m → EvaluatesTo W q b n → EvaluatesTo W q (form.BinaryCall called a b) (and_then m (λ v. and_then n (apply_binary_call called v)))
  binary_call_case called a b (Ok v) (Ok w) g h = rule.gives_binary_call called a b g h (binary_call_exists called v w)
  binary_call_case called a b (Ok v) (Err e) g h = rule.operand_fails (rule.of_binary_call called a b) (rule.each_fails_later g (rule.each_fails h))
  binary_call_case called a b (Err e) n g h = rule.operand_fails (rule.of_binary_call called a b) (rule.each_fails g)

  each_case : (x : Expr) (xs : List Expr) (m : EvaluationResult) (n : Result (List PlainValue) EvalFault) → EvaluatesTo W q x m → EachEvaluatesTo W q xs n → EachEvaluatesTo W q (x ∷ xs) (and_then m (λ v. and_then n (λ vs. Ok (v ∷ vs))))
  each_case x xs (Ok v) (Ok vs) g h = rule.each_more g h
  each_case x xs (Ok v) (Err e) g h = rule.each_fails_later g h
  each_case x xs (Err e) n g h = rule.each_fails g

  Found : Expr → Type 0
  Found x = EvaluatesTo W q x (gives x)

  found_each : (xs : List Expr) → Every Found xs → EachEvaluatesTo W q xs (each (map gives xs))
  unfolding Found
  found_each [] h = rule.each_none
  found_each (x ∷ xs) h = each_case x xs (gives x) (each (map gives xs)) h.0 (found_each xs h.1)

  found_values : (xs : List (Named Expr)) → Every (λ x. Found x.value) xs → EachEvaluatesTo W q (map (λ x. x.value) xs) (values xs)
  unfolding Found values
  found_values [] h = rule.each_none
  found_values (x ∷ xs) h = each_case x.value (map (λ y. y.value) xs) (gives x.value) (values xs) h.0 (found_values xs h.1)

  by_equation : {x : Expr} {m : EvaluationResult} → gives x ≡ m → EvaluatesTo W q x m → Found x
  unfolding Found
  by_equation {x} e g = subst (λ m. EvaluatesTo W q x m) (sym e) g

  found : Cases Found
  unfolding Found
  found = record {
    literal = λ l. by_equation (at_literal l) (rule.gives_literal l);
    variable = λ x. by_equation (at_variable x) (rule.gives_variable x);
    if_form = λ a b c g h k. by_equation (at_if a b c) (if_case a b c _ _ _ g h k);
    and_form = λ a b g h. by_equation (at_and a b) (and_case a b _ _ g h);
    or_form = λ a b g h. by_equation (at_or a b) (or_case a b _ _ g h);
    unary = λ op a g. by_equation (at_unary op a) (unary_case op a _ g);
    binary = λ op a b g h. by_equation (at_binary op a b) (binary_case op a b _ _ g h);
    field = λ a name g. by_equation (at_field a name) (field_case a name _ g);
    has = λ a name g. by_equation (at_has a name) (has_case a name _ g);
    set = λ xs h. by_equation (at_set xs) (set_case xs _ (found_each xs h));
    record_form = λ xs h. by_equation (at_record_of_values xs) (record_case xs _ (found_values xs h));
    unary_call = λ called a g. by_equation (at_unary_call called a) (unary_call_case called a _ g);
    binary_call = λ called a b g h. by_equation (at_binary_call called a b) (binary_call_case called a b _ _ g h);
  }

  -- each expression gives what it computes
  given : (x : Expr) → EvaluatesTo W q x (gives x)
  unfolding Found
  given x = by_forms Found found x

  -- and nothing else
  only_given : (x : Expr) (r : EvaluationResult) → EvaluatesTo W q x r → r ≡ gives x
  only_given x r g = sym (computes x r g)

pub meaning_is_outcome : LawsBelow → MeaningIsOutcome
meaning_is_outcome L W ancestor_test D q x = record { given = given L W ancestor_test D q x; only = only_given L W ancestor_test D q x }

-- ---- so an answer is what is given

module _ (W : Entities) (q : Request) (x : Expr) (m : EvaluationResult) (gives : GivesOnly W q x m) where
  pub answers_what_is_given : (r : EvaluationResult) → Answers r m → IsSoundEvaluation W q x r
  answers_what_is_given (Ok v) h = subst (EvaluatesTo W q x) h gives.given
  answers_what_is_given (Err e) h = λ n. subst (EvaluatesTo W q x) (h n) gives.given

  pub answers_all_that_is_given : (r : EvaluationResult) → Answers r m → IsCompleteEvaluation W q x r
  answers_all_that_is_given (Ok v) h s g n = sym h ∙ sym (gives.only s g)
  answers_all_that_is_given (Err e) h s g n = sym (h (λ same. n (ap (λ f. Err f) same))) ∙ sym (gives.only s g)

  pub one_outcome : HasOneOutcome W q x
  one_outcome = (m, gives.given, gives.only)
