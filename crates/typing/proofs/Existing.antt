-- What the function does the rules judge; so each expression has exactly one judgement.
use Rattle.std.specs.Prelude.{◌≡◌, ℕ, List, [], ◌∷◌, ◌++◌, map, Bool, Option, Some, None, Result, Ok, Err, refl}
use Rattle.std.proofs.Common.{inl, inr, sym, subst}
use Rattle.grammar_core.proofs.Forms.{Every, Cases, by_forms}
use Rattle.grammar_core.specs.declared.operator.Unary.{Unary}
use Rattle.grammar_core.specs.declared.operator.Binary.{Binary}
use Rattle.grammar_core.specs.declared.operator.UnaryCall.{UnaryCall}
use Rattle.grammar_core.specs.declared.operator.UnaryCall.TheVariants as unary_call
use Rattle.grammar_core.specs.declared.operator.BinaryCall.{BinaryCall}
use Rattle.grammar_core.specs.declared.expr.Named.{Named}
use Rattle.grammar_core.specs.declared.expr.Expr.{Expr}
use Rattle.grammar_core.specs.declared.expr.Expr.TheVariants as form
use Rattle.values.specs.extensions.Decided.{Decided, is_proved}
use Rattle.evaluator.specs.Operators.{TakesAddress}
use Rattle.typing.specs.Types
use Rattle.typing.specs.Types.{StaticType, IsBoolean}
use Rattle.typing.specs.Environment.{Environment}
use Rattle.typing.specs.declared.fault.TypeFault.{TypeFault}
use Rattle.typing.specs.declared.fault.TypeFault.TheVariants as fault
use Rattle.typing.specs.Gained.{CapabilityList, has_gains}
use Rattle.typing.specs.Literals.{ReadsLiteral, TakesText}
use Rattle.typing.specs.Rows
use Rattle.typing.specs.Rows.{Row}
use Rattle.typing.specs.Typing
use Rattle.typing.specs.Typing.{Types, TypesEach}
use Rattle.typing.specs.Faults
use Rattle.typing.specs.Faults.{Faults, FaultsEach}
use Rattle.typing.specs.Judgement.{Judgement, typed, faulty, Judges}
use Rattle.typing.specs.Laws.{HaveOneJudgement}
use Rattle.typing.proofs.KnownPairs
use Rattle.typing.proofs.Tests
use Rattle.typing.proofs.Judging
use Rattle.typing.proofs.Judging.{of}
use Rattle.typing.proofs.Agreeing.{judged_is}

module _ (env : Environment) where
  abbrev all : CapabilityList → Expr → Judgement
  all = of env

  abbrev Holds : CapabilityList → Expr → Judgement → Type 0
  Holds = Judges env

  row_case : (K : CapabilityList) (x : Expr) (f : StaticType → CapabilityList) (r : Row) → ((t : StaticType) → r ≡ Ok t → Types env K x t (f t))
      → ((n : TypeFault) → r ≡ Err n → Faults env K x n) → Holds K x (Judging.row r f)
  row_case K x f (Ok t) g h = g t refl
  row_case K x f (Err n) g h = h n refl

  unary_case : (K : CapabilityList) (op : Unary) (a : Expr) (r : Judgement) → Holds K a r → Holds K (form.Unary op a) (Judging.unary_with env op r)
  unary_case K op a (typed s L) h =
      row_case K (form.Unary op a) Judging.learns_none (Rows.unary_type op s) (λ t e. Typing.types_unary op a h e) (λ n e. Faults.fault_of_unary op a h e)
  unary_case K op a (faulty n) h = Faults.fault_in_operand (Faults.of_unary op a) (Faults.fault_here h)

  field_case : (K : CapabilityList) (a : Expr) (k : List ℕ) (r : Judgement) → Holds K a r
      → Holds K (form.Field a k) (Judging.field_with env (KnownPairs.knows K (a, k)) k r)
  field_case K a k (typed s L) h =
      let d = KnownPairs.knows_holds K (a, k) in
      row_case K (form.Field a k) Judging.learns_none (Rows.field_type_of env (KnownPairs.knows K (a, k)) k s)
      (λ t e. Typing.types_field a k h d e) (λ n e. Faults.fault_of_field a k h d e)
  field_case K a k (faulty n) h = Faults.fault_in_operand (Faults.of_field a k) (Faults.fault_here h)

  has_case : (K : CapabilityList) (a : Expr) (k : List ℕ) (r : Judgement) → Holds K a r
      → Holds K (form.Has a k) (Judging.has_with env (KnownPairs.knows K (a, k)) a k r)
  has_case K a k (typed s L) h =
      let d = KnownPairs.knows_holds K (a, k) in
      row_case K (form.Has a k) (λ t. has_gains t (a, k)) (Rows.has_type env (KnownPairs.knows K (a, k)) k s)
      (λ t e. Typing.types_has a k h d e) (λ n e. Faults.fault_of_has a k h d e)
  has_case K a k (faulty n) h = Faults.fault_in_operand (Faults.of_has a k) (Faults.fault_here h)

  binary_case : (K : CapabilityList) (op : Binary) (a b : Expr) (i : Option Bool) (r p : Judgement) → Tests.settlement env op a b ≡ i
      → Holds K a r → Holds K b p → Holds K (form.Binary op a b) (Judging.settled_or i (Judging.operands_with env op r p))
  binary_case K op a b (Some i) r p e h g = Typing.types_decided op a b (Tests.settlement_holds env op a b i e)
  binary_case K op a b None (typed s L) (typed t M) e h g =
      let n = Tests.none_settled env op a b e in
      row_case K (form.Binary op a b) Judging.learns_none (Rows.binary_type env op s t)
      (λ u f. Typing.types_binary op a b n h g f) (λ m f. Faults.fault_of_binary op a b n h g f)
  binary_case K op a b None (typed s L) (faulty n) e h g = Faults.fault_in_operand (Faults.of_binary op a b (Tests.none_settled env op a b e)) (Faults.fault_later h (Faults.fault_here g))
  binary_case K op a b None (faulty n) p e h g = Faults.fault_in_operand (Faults.of_binary op a b (Tests.none_settled env op a b e)) (Faults.fault_here h)

  -- a side of `&&` or `||`, which has to be a boolean
  test_case : (K : CapabilityList) (x : Expr) (t u : StaticType) (L : CapabilityList) → (IsBoolean t → Types env K x u L)
      → (¬ IsBoolean t → Faults env K x fault.Unexpected) → Holds K x (Judging.test_of t (typed u L))
  test_case K x Types.true_type u L g h = g Types.is_true
  test_case K x Types.false_type u L g h = g Types.is_false
  test_case K x Types.boolean_type u L g h = g Types.is_either
  test_case K x t u L g h = h (λ i. elim i [ ])

  and_right_case : (K : CapabilityList) (a b : Expr) (s : StaticType) (L : CapabilityList) (r : Judgement) → Rows.MayBeTrue s → Types env K a s L
      → Holds (K ++ L) b r → Holds K (form.And a b) (Judging.and_right s L r)
  and_right_case K a b s L (typed t M) p h g =
      test_case K (form.And a b) t (Rows.and_type s t) (L ++ M) (λ i. Typing.and_of_both a b h p g i) (λ i. Faults.right_of_and_no_boolean a b h p g i)
  and_right_case K a b s L (faulty n) p h g = Faults.fault_right_of_and a b h p g

  and_left_case : (K : CapabilityList) (a b : Expr) (s : StaticType) (L : CapabilityList) (r : Judgement) → Types env K a s L → Holds (K ++ L) b r
      → Holds K (form.And a b) (Judging.and_typed s L r)
  and_left_case K a b Types.true_type L r h g = and_right_case K a b Types.true_type L r Rows.surely h g
  and_left_case K a b Types.false_type L r h g = Typing.and_of_false a b h
  and_left_case K a b Types.boolean_type L r h g = and_right_case K a b Types.boolean_type L r Rows.perhaps h g
  and_left_case K a b s L r h g = Faults.left_of_and_no_boolean a b h (λ i. elim i [ ])

  and_case : (K : CapabilityList) (a b : Expr) (r : Judgement) → Holds K a r → ((M : CapabilityList) → Holds M b (all M b))
      → Holds K (form.And a b) (Judging.and_with env K (λ M. all M b) r)
  and_case K a b (typed s L) h g = and_left_case K a b s L (all (K ++ L) b) h (g (K ++ L))
  and_case K a b (faulty n) h g = Faults.fault_left_of_and a b h

  or_false_case : (K : CapabilityList) (a b : Expr) (L : CapabilityList) (r : Judgement) → Types env K a Types.false_type L → Holds K b r
      → Holds K (form.Or a b) (Judging.or_typed Types.false_type L r)
  or_false_case K a b L (typed t M) h g =
      test_case K (form.Or a b) t t M (λ i. Typing.or_of_false a b h g i) (λ i. Faults.right_of_or_no_boolean a b h Rows.surely_not g i)
  or_false_case K a b L (faulty n) h g = Faults.fault_right_of_or a b h Rows.surely_not g

  or_both_case : (K : CapabilityList) (a b : Expr) (L : CapabilityList) (r : Judgement) → Types env K a Types.boolean_type L → Holds K b r
      → Holds K (form.Or a b) (Judging.or_typed Types.boolean_type L r)
  or_both_case K a b L (typed t M) h g =
      test_case K (form.Or a b) t (Rows.or_type t) (KnownPairs.or_learns t L M)
      (λ i. Typing.or_of_both a b h g i (KnownPairs.or_learns_holds L M i)) (λ i. Faults.right_of_or_no_boolean a b h Rows.perhaps_not g i)
  or_both_case K a b L (faulty n) h g = Faults.fault_right_of_or a b h Rows.perhaps_not g

  or_left_case : (K : CapabilityList) (a b : Expr) (s : StaticType) (L : CapabilityList) (r : Judgement) → Types env K a s L → Holds K b r
      → Holds K (form.Or a b) (Judging.or_typed s L r)
  or_left_case K a b Types.true_type L r h g = Typing.or_of_true a b h
  or_left_case K a b Types.false_type L r h g = or_false_case K a b L r h g
  or_left_case K a b Types.boolean_type L r h g = or_both_case K a b L r h g
  or_left_case K a b s L r h g = Faults.left_of_or_no_boolean a b h (λ i. elim i [ ])

  or_case : (K : CapabilityList) (a b : Expr) (r : Judgement) → Holds K a r → Holds K b (all K b) → Holds K (form.Or a b) (Judging.or_with env (all K b) r)
  or_case K a b (typed s L) h g = or_left_case K a b s L (all K b) h g
  or_case K a b (faulty n) h g = Faults.fault_left_of_or a b h

  if_true_case : (K : CapabilityList) (a b c : Expr) (L : CapabilityList) (r p : Judgement) → Types env K a Types.true_type L → Holds (K ++ L) b r
      → Holds K (form.If a b c) (Judging.if_typed Types.true_type L r p)
  if_true_case K a b c L (typed t M) p h g = Typing.if_of_true a b c h g
  if_true_case K a b c L (faulty n) p h g = Faults.fault_in_then a b c h Rows.surely g

  if_false_case : (K : CapabilityList) (a b c : Expr) (L : CapabilityList) (p : Judgement) → Types env K a Types.false_type L → Holds K c p
      → Holds K (form.If a b c) p
  if_false_case K a b c L (typed t M) h g = Typing.if_of_false a b c h g
  if_false_case K a b c L (faulty n) h g = Faults.fault_in_only_else a b c h g

  branches_case : (K : CapabilityList) (a b c : Expr) (s t : StaticType) (L M N : CapabilityList) (o : Option StaticType) → Types.common s t ≡ o
      → Types env K a Types.boolean_type L → Types env (K ++ L) b s M → Types env K c t N
      → Holds K (form.If a b c) (Judging.branches o (KnownPairs.in_both N (L ++ M)))
  branches_case K a b c s t L M N None e h g i = Faults.branches_differ a b c h g i e
  branches_case K a b c s t L M N (Some u) e h g i = Typing.if_of_both a b c h g i e (KnownPairs.in_both_holds N (L ++ M))

  if_both_case : (K : CapabilityList) (a b c : Expr) (L : CapabilityList) (r p : Judgement) → Types env K a Types.boolean_type L → Holds (K ++ L) b r
      → Holds K c p → Holds K (form.If a b c) (Judging.if_typed Types.boolean_type L r p)
  if_both_case K a b c L (typed s M) (typed t N) h g i = branches_case K a b c s t L M N (Types.common s t) refl h g i
  if_both_case K a b c L (typed s M) (faulty n) h g i = Faults.fault_in_else a b c h g i
  if_both_case K a b c L (faulty n) p h g i = Faults.fault_in_then a b c h Rows.perhaps g

  if_test_case : (K : CapabilityList) (a b c : Expr) (s : StaticType) (L : CapabilityList) (r p : Judgement) → Types env K a s L → Holds (K ++ L) b r
      → Holds K c p → Holds K (form.If a b c) (Judging.if_typed s L r p)
  if_test_case K a b c Types.true_type L r p h g i = if_true_case K a b c L r p h g
  if_test_case K a b c Types.false_type L r p h g i = if_false_case K a b c L p h i
  if_test_case K a b c Types.boolean_type L r p h g i = if_both_case K a b c L r p h g i
  if_test_case K a b c s L r p h g i = Faults.test_no_boolean a b c h (λ j. elim j [ ])

  if_case : (K : CapabilityList) (a b c : Expr) (r : Judgement) → Holds K a r → ((M : CapabilityList) → Holds M b (all M b)) → Holds K c (all K c)
      → Holds K (form.If a b c) (Judging.if_with env K (λ M. all M b) (all K c) r)
  if_case K a b c (typed s L) h g i = if_test_case K a b c s L (all (K ++ L) b) (all K c) h (g (K ++ L)) i
  if_case K a b c (faulty n) h g i = Faults.fault_in_test a b c h

  HoldsEach : CapabilityList → List Expr → Result (List StaticType) TypeFault → Type 0
  HoldsEach K xs (Ok ts) = TypesEach env K xs ts
  HoldsEach K xs (Err n) = FaultsEach env K xs n

  each_case : (K : CapabilityList) (x : Expr) (xs : List Expr) (r : Judgement) (p : Result (List StaticType) TypeFault) → Holds K x r
      → HoldsEach K xs p → HoldsEach K (x ∷ xs) (Judging.member_type r p)
  unfolding HoldsEach
  each_case K x xs (typed t L) (Ok ts) h g = Typing.types_more h g
  each_case K x xs (typed t L) (Err n) h g = Faults.fault_later h g
  each_case K x xs (faulty n) p h g = Faults.fault_here h

  set_case : (K : CapabilityList) (xs : List Expr) (p : Result (List StaticType) TypeFault) → HoldsEach K xs p
      → Holds K (form.Set xs) (Judging.members_type p)
  unfolding HoldsEach
  set_case K xs (Ok ts) h =
      row_case K (form.Set xs) Judging.learns_none (Rows.set_literal_type ts) (λ t e. Typing.types_set xs h e) (λ n e. Faults.fault_of_set xs h e)
  set_case K xs (Err n) h = Faults.fault_in_operand (Faults.of_set xs) h

  record_case : (K : CapabilityList) (xs : List (Named Expr)) (p : Result (List StaticType) TypeFault) → HoldsEach K (Judging.values env xs) p
      → Holds K (form.Record xs) (Judging.record_typed (Judging.names env xs) p)
  unfolding HoldsEach
  record_case K xs (Ok ts) h = Typing.types_record xs h
  record_case K xs (Err n) h = Faults.fault_in_operand (Faults.of_record xs) h

  reading_case : (K : CapabilityList) (called : UnaryCall) (a : Expr) (s : StaticType) (L : CapabilityList) (d : Decided (ReadsLiteral called a (Tests.type_read called)))
      → TakesText called → Types env K a s L → Holds K (form.UnaryCall called a) (Judging.row (Judging.literal_call called (is_proved d)) Judging.learns_none)
  reading_case K called a s L (inl h) i g = Typing.types_literal_call called a g h
  reading_case K called a s L (inr n) i g = Faults.no_literal called a i g (λ t h. n (subst (λ u. ReadsLiteral called a u) (sym (Tests.reading_type h)) h))

  address_case : (K : CapabilityList) (called : UnaryCall) (a : Expr) (s : StaticType) (L : CapabilityList) → TakesAddress called → Types env K a s L
      → Holds K (form.UnaryCall called a) (Judging.row (Rows.address_test_type s) Judging.learns_none)
  address_case K called a s L i h =
      row_case K (form.UnaryCall called a) Judging.learns_none (Rows.address_test_type s)
      (λ t e. Typing.types_address_test called a i h e) (λ n e. Faults.fault_of_address_test called a i h e)

  unary_call_case : (K : CapabilityList) (called : UnaryCall) (a : Expr) (r : Judgement) → Holds K a r
      → Holds K (form.UnaryCall called a) (Judging.unary_call_with env called (Tests.reads called a) r)
  unary_call_case K called a (faulty n) h = Faults.fault_in_operand (Faults.of_unary_call called a) (Faults.fault_here h)
  unary_call_case K unary_call.Ip a (typed s L) h = reading_case K unary_call.Ip a s L (Tests.reading_known unary_call.Ip a) tt h
  unary_call_case K unary_call.Decimal a (typed s L) h = reading_case K unary_call.Decimal a s L (Tests.reading_known unary_call.Decimal a) tt h
  unary_call_case K called a (typed s L) h = address_case K called a s L tt h

  call_case : (K : CapabilityList) (called : BinaryCall) (a b : Expr) (r p : Judgement) → Holds K a r → Holds K b p
      → Holds K (form.BinaryCall called a b) (Judging.call_with env called r p)
  call_case K called a b (typed s L) (typed t M) h g =
      row_case K (form.BinaryCall called a b) Judging.learns_none (Rows.call_type called s t)
      (λ u e. Typing.types_call called a b h g e) (λ n e. Faults.fault_of_call called a b h g e)
  call_case K called a b (typed s L) (faulty n) h g = Faults.fault_in_operand (Faults.of_binary_call called a b) (Faults.fault_later h (Faults.fault_here g))
  call_case K called a b (faulty n) p h g = Faults.fault_in_operand (Faults.of_binary_call called a b) (Faults.fault_here h)

  -- ---- all forms

  IsJudged : Expr → Type 0
  IsJudged x = (K : CapabilityList) → Holds K x (all K x)

  by_equation : (K : CapabilityList) (x : Expr) (r : Judgement) → all K x ≡ r → Holds K x r → Holds K x (all K x)
  by_equation K x r e h = subst (λ r. Holds K x r) (sym e) h

  each_judged : (K : CapabilityList) (xs : List Expr) → Every IsJudged xs → HoldsEach K xs (Judging.each_of env (map (all K) xs))
  unfolding IsJudged HoldsEach
  each_judged K [] h = Typing.types_none
  each_judged K (x ∷ xs) h = each_case K x xs (all K x) (Judging.each_of env (map (all K) xs)) (h.0 K) (each_judged K xs h.1)

  values_judged : (xs : List (Named Expr)) → Every (λ f. IsJudged f.value) xs → Every IsJudged (Judging.values env xs)
  values_judged [] h = tt
  values_judged (x ∷ xs) h = (h.0, values_judged xs h.1)

  judged_cases : Cases IsJudged
  unfolding IsJudged
  judged_cases = record {
    literal = λ l K. by_equation K (form.Literal l) _ (Judging.at_literal env K l) (Typing.types_literal l);
    variable = λ x K. by_equation K (form.Variable x) _ (Judging.at_variable env K x) (Typing.types_variable x);
    if_form = λ a b c f g h K. by_equation K (form.If a b c) _ (Judging.at_if env K a b c) (if_case K a b c (all K a) (f K) g (h K));
    and_form = λ a b f g K. by_equation K (form.And a b) _ (Judging.at_and env K a b) (and_case K a b (all K a) (f K) g);
    or_form = λ a b f g K. by_equation K (form.Or a b) _ (Judging.at_or env K a b) (or_case K a b (all K a) (f K) (g K));
    unary = λ op a f K. by_equation K (form.Unary op a) _ (Judging.at_unary env K op a) (unary_case K op a (all K a) (f K));
    binary = λ op a b f g K. by_equation K (form.Binary op a b) _ (Judging.at_binary env K op a b) (binary_case K op a b (Tests.settlement env op a b) (all K a) (all K b) refl (f K) (g K));
    field = λ a k f K. by_equation K (form.Field a k) _ (Judging.at_field env K a k) (field_case K a k (all K a) (f K));
    has = λ a k f K. by_equation K (form.Has a k) _ (Judging.at_has env K a k) (has_case K a k (all K a) (f K));
    set = λ xs h K. by_equation K (form.Set xs) _ (Judging.at_set env K xs) (set_case K xs (Judging.each_of env (map (all K) xs)) (each_judged K xs h));
    record_form = λ xs h K. by_equation K (form.Record xs) _ (Judging.at_record env K xs)
        (record_case K xs (Judging.each_of env (map (all K) (Judging.values env xs))) (each_judged K (Judging.values env xs) (values_judged xs h)));
    unary_call = λ o a f K. by_equation K (form.UnaryCall o a) _ (Judging.at_unary_call env K o a) (unary_call_case K o a (all K a) (f K));
    binary_call = λ o a b f g K. by_equation K (form.BinaryCall o a b) _ (Judging.at_call env K o a b) (call_case K o a b (all K a) (all K b) (f K) (g K));
  }

  -- the rules judge what the function does
  pub judges : (K : CapabilityList) (x : Expr) → Judges env K x (of env K x)
  unfolding IsJudged
  judges K x = by_forms IsJudged judged_cases x K

pub one_judgement : HaveOneJudgement
one_judgement env K x = (of env K x, judges env K x, λ s h. judged_is env K x s h)
