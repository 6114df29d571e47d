-- The typing rules as a function: an expression's type and what it learns, or its fault.
use Rattle.std.specs.Prelude.{◌≡◌, ℕ, List, [], ◌∷◌, ◌++◌, map, Bool, true, false, Option, Some, None, Result, Ok, Err}
use Rattle.std.specs.Prelude.{refl}
use Rattle.std.proofs.Common.{ap, ◌∙◌}
use Rattle.grammar_core.proofs.Forms.{Every, Cases, by_forms, fold_literal, fold_variable, fold_if}
use Rattle.grammar_core.proofs.Forms.{fold_and, fold_or, fold_unary, fold_binary, fold_field, fold_has}
use Rattle.grammar_core.proofs.Forms.{fold_set, fold_record, fold_unary_call, fold_binary_call}
use Rattle.grammar_core.specs.declared.leaf.Literal.{Literal}
use Rattle.grammar_core.specs.declared.leaf.Variable.{Variable}
use Rattle.grammar_core.specs.declared.operator.Unary.{Unary}
use Rattle.grammar_core.specs.declared.operator.Binary.{Binary}
use Rattle.grammar_core.specs.declared.operator.UnaryCall.{UnaryCall}
use Rattle.grammar_core.specs.declared.operator.UnaryCall.TheVariants as unary_call
use Rattle.grammar_core.specs.declared.operator.BinaryCall.{BinaryCall}
use Rattle.grammar_core.specs.declared.expr.Named.{Named}
use Rattle.grammar_core.specs.declared.expr.Expr.{Expr}
use Rattle.grammar_core.specs.declared.expr.Expr.TheVariants as form
use Rattle.grammar_core.specs.declared.expr.Expr.TheViews.{roll-Expr}
use Rattle.grammar_core.specs.declared.expr.Expr.TheOpen.{Expr-F}
use Rattle.grammar_core.specs.declared.expr.Expr.TheFolds.{map-Expr, fold-Expr}
use Rattle.typing.specs.Types
use Rattle.typing.specs.Types.{StaticType}
use Rattle.typing.specs.Environment.{Environment}
use Rattle.typing.specs.declared.fault.TypeFault.{TypeFault}
use Rattle.typing.specs.declared.fault.TypeFault.TheVariants as fault
use Rattle.typing.specs.Gained.{CapabilityList, has_gains}
use Rattle.typing.specs.Rows
use Rattle.typing.specs.Rows.{Row}
use Rattle.typing.specs.Judgement.{Judgement, typed, faulty}
use Rattle.typing.proofs.Same.{two, three}
use Rattle.typing.proofs.KnownPairs.{knows, in_both, or_learns}
use Rattle.typing.proofs.Tests.{settlement, type_read, reads}

abbrev pub on_typed : Judgement → (StaticType → CapabilityList → Judgement) → Judgement
on_typed (typed t L) f = f t L
on_typed (faulty n) f = faulty n

-- a row's type, which learns these pairs
abbrev pub row : Row → (StaticType → CapabilityList) → Judgement
row (Ok t) f = typed t (f t)
row (Err n) f = faulty n

abbrev pub learns_none : StaticType → CapabilityList
learns_none t = []

-- r, where t is a boolean type
abbrev pub test_of : StaticType → Judgement → Judgement
test_of Types.true_type r = r
test_of Types.false_type r = r
test_of Types.boolean_type r = r
test_of t r = faulty fault.Unexpected

abbrev pub and_right : StaticType → CapabilityList → Judgement → Judgement
and_right s L r = on_typed r (λ t M. test_of t (typed (Rows.and_type s t) (L ++ M)))

-- `&&`, by the left's type and what it learns
abbrev pub and_typed : StaticType → CapabilityList → Judgement → Judgement
and_typed Types.false_type L r = typed Types.false_type []
and_typed s L r = test_of s (and_right s L r)

abbrev pub or_typed : StaticType → CapabilityList → Judgement → Judgement
or_typed Types.true_type L r = typed Types.true_type []
or_typed Types.false_type L r = on_typed r (λ t M. test_of t (typed t M))
or_typed Types.boolean_type L r = on_typed r (λ t M. test_of t (typed (Rows.or_type t) (or_learns t L M)))
or_typed s L r = faulty fault.Unexpected

abbrev pub branches : Option StaticType → CapabilityList → Judgement
branches None L = faulty fault.NoCommonType
branches (Some u) L = typed u L

abbrev pub if_typed : StaticType → CapabilityList → Judgement → Judgement → Judgement
if_typed Types.true_type L r p = on_typed r (λ t M. typed t (L ++ M))
if_typed Types.false_type L r p = p
if_typed Types.boolean_type L r p =
    on_typed r (λ s M. on_typed p (λ t N. branches (Types.common s t) (in_both N (L ++ M))))
if_typed s L r p = faulty fault.Unexpected

-- the answer that literals settle, else by both operands
abbrev pub settled_or : Option Bool → Judgement → Judgement
settled_or (Some b) r = typed (Types.truth_type b) []
settled_or None r = r

abbrev pub members_type : Result (List StaticType) TypeFault → Judgement
members_type (Ok ts) = row (Rows.set_literal_type ts) learns_none
members_type (Err n) = faulty n

abbrev pub member_type : Judgement → Result (List StaticType) TypeFault → Result (List StaticType) TypeFault
member_type (typed t L) (Ok ts) = Ok (t ∷ ts)
member_type (typed t L) (Err n) = Err n
member_type (faulty n) r = Err n

-- a record whose fields of these names have these types
abbrev pub record_typed : List (List ℕ) → Result (List StaticType) TypeFault → Judgement
record_typed ks (Ok ts) = typed (Types.record_type (Types.put_each ks ts Types.no_field_types)) []
record_typed ks (Err n) = faulty n

abbrev pub literal_call : UnaryCall → Bool → Row
literal_call called true = Ok (type_read called)
literal_call called false = Err fault.BadExtensionLiteral

-- a call with one operand of type s, which is a literal of the extension or not
abbrev pub unary_call_type : UnaryCall → Bool → StaticType → Row
unary_call_type unary_call.Ip is_literal s = literal_call unary_call.Ip is_literal
unary_call_type unary_call.Decimal is_literal s = literal_call unary_call.Decimal is_literal
unary_call_type called is_literal s = Rows.address_test_type s

-- what is judged of an expression, by what is known
abbrev pub Judging : Type 0
Judging = CapabilityList → Judgement

-- the expression, and what is judged of it
abbrev pub Judged : Type 0
Judged = Expr × Judging

module _ (env : Environment) where
  -- ---- each form's judgement, by its operands'

  abbrev pub and_with : CapabilityList → Judging → Judgement → Judgement
  and_with K b r = on_typed r (λ s L. and_typed s L (b (K ++ L)))

  abbrev pub or_with : Judgement → Judgement → Judgement
  or_with p r = on_typed r (λ s L. or_typed s L p)

  abbrev pub if_with : CapabilityList → Judging → Judgement → Judgement → Judgement
  if_with K b p r = on_typed r (λ s L. if_typed s L (b (K ++ L)) p)

  abbrev pub unary_with : Unary → Judgement → Judgement
  unary_with op r = on_typed r (λ s L. row (Rows.unary_type op s) learns_none)

  abbrev pub operands_with : Binary → Judgement → Judgement → Judgement
  operands_with op r p = on_typed r (λ s L. on_typed p (λ t M. row (Rows.binary_type env op s t) learns_none))

  abbrev pub binary_with : Binary → Expr → Expr → Judgement → Judgement → Judgement
  binary_with op a b r p = settled_or (settlement env op a b) (operands_with op r p)

  abbrev pub field_with : Bool → List ℕ → Judgement → Judgement
  field_with is_known k r = on_typed r (λ s L. row (Rows.field_type_of env is_known k s) learns_none)

  abbrev pub has_with : Bool → Expr → List ℕ → Judgement → Judgement
  has_with is_known a k r = on_typed r (λ s L. row (Rows.has_type env is_known k s) (λ t. has_gains t (a, k)))

  abbrev pub unary_call_with : UnaryCall → Bool → Judgement → Judgement
  unary_call_with called is_literal r = on_typed r (λ s L. row (unary_call_type called is_literal s) learns_none)

  abbrev pub call_with : BinaryCall → Judgement → Judgement → Judgement
  call_with called r p = on_typed r (λ s L. on_typed p (λ t M. row (Rows.call_type called s t) learns_none))

  abbrev pub each_of : List Judgement → Result (List StaticType) TypeFault
  each_of [] = Ok []
  each_of (r ∷ rs) = member_type r (each_of rs)

  abbrev pub at : CapabilityList → Judged → Judgement
  at K a = a.1 K

  abbrev pub value_at : CapabilityList → Named Judged → Judgement
  value_at K f = f.value.1 K

  abbrev pub judging : Expr-F Judged → Judging
  judging (Expr-F.Literal l) K = typed (Rows.literal_type l) []
  judging (Expr-F.Variable x) K = typed (Rows.variable_type env x) []
  judging (Expr-F.If a b c) K = if_with K b.1 (c.1 K) (a.1 K)
  judging (Expr-F.And a b) K = and_with K b.1 (a.1 K)
  judging (Expr-F.Or a b) K = or_with (b.1 K) (a.1 K)
  judging (Expr-F.Unary op a) K = unary_with op (a.1 K)
  judging (Expr-F.Binary op a b) K = binary_with op a.0 b.0 (a.1 K) (b.1 K)
  judging (Expr-F.Field a k) K = field_with (knows K (a.0, k)) k (a.1 K)
  judging (Expr-F.Has a k) K = has_with (knows K (a.0, k)) a.0 k (a.1 K)
  judging (Expr-F.Set rs) K = members_type (each_of (map (at K) rs))
  judging (Expr-F.Record fs) K = record_typed (map (λ f. f.name) fs) (each_of (map (value_at K) fs))
  judging (Expr-F.UnaryCall called a) K = unary_call_with called (reads called a.0) (a.1 K)
  judging (Expr-F.BinaryCall called a b) K = call_with called (a.1 K) (b.1 K)

  expression : Judged → Expr
  expression a = a.0

  abbrev step : Expr-F Judged → Judged
  step y = (roll-Expr (map-Expr Judged Expr (λ a. a.0) y), judging y)

  abbrev whole : Expr → Judged
  whole = fold-Expr Judged step

  -- what is judged of an expression
  abbrev pub of : CapabilityList → Expr → Judgement
  of K x = (whole x).1 K

  -- ---- the expression stays what it is

  Stays : Expr → Type 0
  Stays x = (whole x).0 ≡ x

  each_stays : (xs : List Expr) → Every Stays xs → map {A = Judged} {B = Expr} (λ a. a.0) (map whole xs) ≡ xs
  unfolding Stays
  each_stays [] h = refl
  each_stays (x ∷ xs) h = two (λ (y : Expr) (ys : List Expr). y ∷ ys) h.0 (each_stays xs h.1)

  abbrev named : List ℕ → Expr → Named Expr
  named k x = record { name = k; value = x }

  abbrev field_whole : Named Expr → Named Judged
  field_whole f = record { name = f.name; value = whole f.value }

  fields_stay : (fs : List (Named Expr)) → Every (λ f. Stays f.value) fs
      → map {A = Named Judged} {B = Named Expr} (λ f. record { name = f.name; value = f.value.0 }) (map field_whole fs) ≡ fs
  unfolding Stays
  fields_stay [] h = refl
  fields_stay (f ∷ fs) h = two (λ (y : Named Expr) (ys : List (Named Expr)). y ∷ ys) (ap (named f.name) h.0) (fields_stay fs h.1)

  abbrev first : Judged → Expr
  first a = a.0

  stay_cases : Cases Stays
  unfolding Stays
  stay_cases = record {
    literal = λ l. ap first (fold_literal Judged step l) ∙ form.rolls-Literal l;
    variable = λ x. ap first (fold_variable Judged step x) ∙ form.rolls-Variable x;
    if_form = λ a b c f g h. ap first (fold_if Judged step a b c) ∙ (form.rolls-If _ _ _ ∙ three form.If f g h);
    and_form = λ a b f g. ap first (fold_and Judged step a b) ∙ (form.rolls-And _ _ ∙ two form.And f g);
    or_form = λ a b f g. ap first (fold_or Judged step a b) ∙ (form.rolls-Or _ _ ∙ two form.Or f g);
    unary = λ op a f. ap first (fold_unary Judged step op a) ∙ (form.rolls-Unary op _ ∙ ap (form.Unary op) f);
    binary = λ op a b f g. ap first (fold_binary Judged step op a b) ∙ (form.rolls-Binary op _ _ ∙ two (form.Binary op) f g);
    field = λ a k f. ap first (fold_field Judged step a k) ∙ (form.rolls-Field _ k ∙ ap (λ x. form.Field x k) f);
    has = λ a k f. ap first (fold_has Judged step a k) ∙ (form.rolls-Has _ k ∙ ap (λ x. form.Has x k) f);
    set = λ xs h. ap first (fold_set Judged step xs) ∙ (form.rolls-Set _ ∙ ap form.Set (each_stays xs h));
    record_form = λ fs h. ap first (fold_record Judged step fs) ∙ (form.rolls-Record _ ∙ ap form.Record (fields_stay fs h));
    unary_call = λ o a f. ap first (fold_unary_call Judged step o a) ∙ (form.rolls-UnaryCall o _ ∙ ap (form.UnaryCall o) f);
    binary_call = λ o a b f g. ap first (fold_binary_call Judged step o a b) ∙ (form.rolls-BinaryCall o _ _ ∙ two (form.BinaryCall o) f g);
  }

  stays : (x : Expr) → (whole x).0 ≡ x
  unfolding Stays
  stays x = by_forms Stays stay_cases x

  -- ---- what is judged of each form

  pub at_literal : (K : CapabilityList) (l : Literal) → of K (form.Literal l) ≡ typed (Rows.literal_type l) []
  at_literal K l = ap (λ p. p.1 K) (fold_literal Judged step l)

  pub at_variable : (K : CapabilityList) (x : Variable) → of K (form.Variable x) ≡ typed (Rows.variable_type env x) []
  at_variable K x = ap (λ p. p.1 K) (fold_variable Judged step x)

  pub at_if : (K : CapabilityList) (a b c : Expr) → of K (form.If a b c) ≡ if_with K (λ M. of M b) (of K c) (of K a)
  at_if K a b c = ap (λ p. p.1 K) (fold_if Judged step a b c)

  pub at_and : (K : CapabilityList) (a b : Expr) → of K (form.And a b) ≡ and_with K (λ M. of M b) (of K a)
  at_and K a b = ap (λ p. p.1 K) (fold_and Judged step a b)

  pub at_or : (K : CapabilityList) (a b : Expr) → of K (form.Or a b) ≡ or_with (of K b) (of K a)
  at_or K a b = ap (λ p. p.1 K) (fold_or Judged step a b)

  pub at_unary : (K : CapabilityList) (op : Unary) (a : Expr) → of K (form.Unary op a) ≡ unary_with op (of K a)
  at_unary K op a = ap (λ p. p.1 K) (fold_unary Judged step op a)

  pub at_binary : (K : CapabilityList) (op : Binary) (a b : Expr) → of K (form.Binary op a b) ≡ binary_with op a b (of K a) (of K b)
  at_binary K op a b = ap (λ p. p.1 K) (fold_binary Judged step op a b)
      ∙ two (λ x y. binary_with op x y (of K a) (of K b)) (stays a) (stays b)

  pub at_field : (K : CapabilityList) (a : Expr) (k : List ℕ) → of K (form.Field a k) ≡ field_with (knows K (a, k)) k (of K a)
  at_field K a k = ap (λ p. p.1 K) (fold_field Judged step a k) ∙ ap (λ x. field_with (knows K (x, k)) k (of K a)) (stays a)

  pub at_has : (K : CapabilityList) (a : Expr) (k : List ℕ) → of K (form.Has a k) ≡ has_with (knows K (a, k)) a k (of K a)
  at_has K a k = ap (λ p. p.1 K) (fold_has Judged step a k) ∙ ap (λ x. has_with (knows K (x, k)) x k (of K a)) (stays a)

  each_same : (K : CapabilityList) (xs : List Expr) → map (at K) (map whole xs) ≡ map (of K) xs
  each_same K [] = refl
  each_same K (x ∷ xs) = ap (λ (rs : List Judgement). of K x ∷ rs) (each_same K xs)

  abbrev pub names : List (Named Expr) → List (List ℕ)
  names fs = map (λ f. f.name) fs

  abbrev pub values : List (Named Expr) → List Expr
  values fs = map (λ f. f.value) fs

  names_same : (fs : List (Named Expr)) → map {A = Named Judged} {B = List ℕ} (λ f. f.name) (map field_whole fs) ≡ names fs
  names_same [] = refl
  names_same (f ∷ fs) = ap (λ (ks : List (List ℕ)). f.name ∷ ks) (names_same fs)

  values_same : (K : CapabilityList) (fs : List (Named Expr)) → map (value_at K) (map field_whole fs) ≡ map (of K) (values fs)
  values_same K [] = refl
  values_same K (f ∷ fs) = ap (λ (rs : List Judgement). of K f.value ∷ rs) (values_same K fs)

  pub at_set : (K : CapabilityList) (xs : List Expr) → of K (form.Set xs) ≡ members_type (each_of (map (of K) xs))
  at_set K xs = ap (λ p. p.1 K) (fold_set Judged step xs) ∙ ap (λ rs. members_type (each_of rs)) (each_same K xs)

  pub at_record : (K : CapabilityList) (fs : List (Named Expr))
      → of K (form.Record fs) ≡ record_typed (names fs) (each_of (map (of K) (values fs)))
  at_record K fs = ap (λ p. p.1 K) (fold_record Judged step fs)
      ∙ two (λ ks rs. record_typed ks (each_of rs)) (names_same fs) (values_same K fs)

  pub at_unary_call : (K : CapabilityList) (called : UnaryCall) (a : Expr)
      → of K (form.UnaryCall called a) ≡ unary_call_with called (reads called a) (of K a)
  at_unary_call K called a = ap (λ p. p.1 K) (fold_unary_call Judged step called a)
      ∙ ap (λ x. unary_call_with called (reads called x) (of K a)) (stays a)

  pub at_call : (K : CapabilityList) (called : BinaryCall) (a b : Expr)
      → of K (form.BinaryCall called a b) ≡ call_with called (of K a) (of K b)
  at_call K called a b = ap (λ p. p.1 K) (fold_binary_call Judged step called a b)
