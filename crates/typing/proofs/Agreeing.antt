-- The rules judge what the function does.
use Rattle.std.specs.Prelude.{◌≡◌, ℕ, List, ◌++◌, map, Bool, true, false, Contains, Option, Some, None, Ok, Err, refl}
use Rattle.std.specs.Bool.{Decides}
use Rattle.std.proofs.Common.{inl, inr, ap, sym, subst, ◌∙◌}
use Rattle.grammar_core.specs.declared.operator.Unary.{Unary}
use Rattle.grammar_core.specs.declared.operator.Binary.{Binary}
use Rattle.grammar_core.specs.declared.operator.UnaryCall.{UnaryCall}
use Rattle.grammar_core.specs.declared.operator.UnaryCall.TheVariants as unary_call
use Rattle.grammar_core.specs.declared.operator.BinaryCall.{BinaryCall}
use Rattle.grammar_core.specs.declared.expr.Expr.{Expr}
use Rattle.grammar_core.specs.declared.expr.Expr.TheVariants as form
use Rattle.values.specs.extensions.Decided.{Decided, is_proved}
use Rattle.evaluator.specs.Operators.{TakesAddress}
use Rattle.typing.specs.Types
use Rattle.typing.specs.Types.{StaticType, IsBoolean}
use Rattle.typing.specs.Environment.{Environment}
use Rattle.typing.specs.declared.fault.TypeFault.{TypeFault}
use Rattle.typing.specs.declared.fault.TypeFault.TheVariants as fault
use Rattle.typing.specs.Gained.{CapabilityList, has_gains}
use Rattle.typing.specs.Literals
use Rattle.typing.specs.Literals.{UndecidedByLiterals, ReadsLiteral, TakesText}
use Rattle.typing.specs.Rows
use Rattle.typing.specs.Rows.{Row}
use Rattle.typing.specs.Typing
use Rattle.typing.specs.Typing.{Types, TypesEach}
use Rattle.typing.specs.Faults
use Rattle.typing.specs.Faults.{Faults, FaultsEach}
use Rattle.typing.specs.Judgement.{Judgement, typed, faulty, Judges}
use Rattle.typing.proofs.Members.{told_not}
use Rattle.typing.proofs.KnownPairs
use Rattle.typing.proofs.Tests
use Rattle.typing.proofs.Judging
use Rattle.typing.proofs.Judging.{of}

-- ---- tests

boolean_is : {t : StaticType} → IsBoolean t → (r : Judgement) → Judging.test_of t r ≡ r
boolean_is Types.is_true r = refl
boolean_is Types.is_false r = refl
boolean_is Types.is_either r = refl

no_boolean_is : (t : StaticType) → ¬ IsBoolean t → (r : Judgement) → Judging.test_of t r ≡ faulty fault.Unexpected
no_boolean_is Types.true_type n r = absurd (n Types.is_true)
no_boolean_is Types.false_type n r = absurd (n Types.is_false)
no_boolean_is Types.boolean_type n r = absurd (n Types.is_either)
no_boolean_is t n r = refl

and_left_is : {s : StaticType} → Rows.MayBeTrue s → (L : CapabilityList) (r : Judgement) → Judging.and_typed s L r ≡ Judging.and_right s L r
and_left_is Rows.surely L r = refl
and_left_is Rows.perhaps L r = refl

and_no_left_is : (s : StaticType) → ¬ IsBoolean s → (L : CapabilityList) (r : Judgement) → Judging.and_typed s L r ≡ faulty fault.Unexpected
and_no_left_is Types.true_type n L r = absurd (n Types.is_true)
and_no_left_is Types.false_type n L r = absurd (n Types.is_false)
and_no_left_is Types.boolean_type n L r = absurd (n Types.is_either)
and_no_left_is s n L r = refl

or_no_left_is : (s : StaticType) → ¬ IsBoolean s → (L : CapabilityList) (r : Judgement) → Judging.or_typed s L r ≡ faulty fault.Unexpected
or_no_left_is Types.true_type n L r = absurd (n Types.is_true)
or_no_left_is Types.false_type n L r = absurd (n Types.is_false)
or_no_left_is Types.boolean_type n L r = absurd (n Types.is_either)
or_no_left_is s n L r = refl

or_fault_is : {s : StaticType} → Rows.MayBeFalse s → (L : CapabilityList) (n : TypeFault) → Judging.or_typed s L (faulty n) ≡ faulty n
or_fault_is Rows.surely_not L n = refl
or_fault_is Rows.perhaps_not L n = refl

or_no_right_is : {s : StaticType} (t : StaticType) → Rows.MayBeFalse s → ¬ IsBoolean t → (L M : CapabilityList)
    → Judging.or_typed s L (typed t M) ≡ faulty fault.Unexpected
or_no_right_is t Rows.surely_not b L M = no_boolean_is t b (typed t M)
or_no_right_is t Rows.perhaps_not b L M = no_boolean_is t b (typed (Rows.or_type t) (KnownPairs.or_learns t L M))

if_no_test_is : (s : StaticType) → ¬ IsBoolean s → (L : CapabilityList) (r p : Judgement) → Judging.if_typed s L r p ≡ faulty fault.Unexpected
if_no_test_is Types.true_type n L r p = absurd (n Types.is_true)
if_no_test_is Types.false_type n L r p = absurd (n Types.is_false)
if_no_test_is Types.boolean_type n L r p = absurd (n Types.is_either)
if_no_test_is s n L r p = refl

if_fault_is : {s : StaticType} → Rows.MayBeTrue s → (L : CapabilityList) (n : TypeFault) (p : Judgement) → Judging.if_typed s L (faulty n) p ≡ faulty n
if_fault_is Rows.surely L n p = refl
if_fault_is Rows.perhaps L n p = refl

-- ---- calls with one operand

told_so : {P : Type 0} (d : Decided P) → P → is_proved d ≡ true
told_so (inl p) h = refl
told_so (inr n) h = absurd (n h)

literal_read : {called : UnaryCall} {x : Expr} {t : StaticType} (s : StaticType) → ReadsLiteral called x t
    → Judging.unary_call_type called true s ≡ Ok t
literal_read s (Literals.reads_decimal h) = refl
literal_read s (Literals.reads_address h) = refl

literal_is : {called : UnaryCall} {x : Expr} {t : StaticType} (s : StaticType) → ReadsLiteral called x t
    → Judging.unary_call_type called (Tests.reads called x) s ≡ Ok t
literal_is {called} {x} {t} s h =
    ap (λ b. Judging.unary_call_type called b s)
    (told_so (Tests.reading_known called x) (subst (λ u. ReadsLiteral called x u) (sym (Tests.reading_type h)) h))
    ∙ literal_read s h

no_literal_read : (called : UnaryCall) (s : StaticType) → TakesText called
    → Judging.unary_call_type called false s ≡ Err fault.BadExtensionLiteral
no_literal_read unary_call.Ip s h = refl
no_literal_read unary_call.Decimal s h = refl
no_literal_read called s h = absurd h

no_literal_is : (called : UnaryCall) (x : Expr) (s : StaticType) → TakesText called → ((t : StaticType) → ¬ ReadsLiteral called x t)
    → Judging.unary_call_type called (Tests.reads called x) s ≡ Err fault.BadExtensionLiteral
no_literal_is called x s h n =
    ap (λ b. Judging.unary_call_type called b s) (told_not (Tests.reading_known called x) (n (Tests.type_read called))) ∙ no_literal_read called s h

address_is : (called : UnaryCall) (b : Bool) (s : StaticType) → TakesAddress called → Judging.unary_call_type called b s ≡ Rows.address_test_type s
address_is unary_call.Ip b s h = absurd h
address_is unary_call.Decimal b s h = absurd h
address_is called b s h = refl

module _ (env : Environment) where
  abbrev all : CapabilityList → Expr → Judgement
  all = of env

  abbrev typed_row : (StaticType → CapabilityList) → Row → Judgement
  typed_row f r = Judging.row r f

  -- what each form's judgement is, where its first operand's is r
  and_from : (K : CapabilityList) (a b : Expr) (r : Judgement) → all K a ≡ r → all K (form.And a b) ≡ Judging.and_with env K (λ M. all M b) r
  and_from K a b r e = Judging.at_and env K a b ∙ ap (Judging.and_with env K (λ M. all M b)) e

  or_from : (K : CapabilityList) (a b : Expr) (r : Judgement) → all K a ≡ r → all K (form.Or a b) ≡ Judging.or_with env (all K b) r
  or_from K a b r e = Judging.at_or env K a b ∙ ap (Judging.or_with env (all K b)) e

  if_from : (K : CapabilityList) (a b c : Expr) (r : Judgement) → all K a ≡ r → all K (form.If a b c) ≡ Judging.if_with env K (λ M. all M b) (all K c) r
  if_from K a b c r e = Judging.at_if env K a b c ∙ ap (Judging.if_with env K (λ M. all M b) (all K c)) e

  unary_from : (K : CapabilityList) (op : Unary) (a : Expr) (r : Judgement) → all K a ≡ r → all K (form.Unary op a) ≡ Judging.unary_with env op r
  unary_from K op a r e = Judging.at_unary env K op a ∙ ap (Judging.unary_with env op) e

  settled_from : (K : CapabilityList) (op : Binary) (a b : Expr) (i : Option Bool) → Tests.settlement env op a b ≡ i
      → all K (form.Binary op a b) ≡ Judging.settled_or i (Judging.operands_with env op (all K a) (all K b))
  settled_from K op a b i e = Judging.at_binary env K op a b ∙ ap (λ j. Judging.settled_or j (Judging.operands_with env op (all K a) (all K b))) e

  operands_from : (K : CapabilityList) (op : Binary) (a b : Expr) (r : Judgement) → UndecidedByLiterals env op a b → all K a ≡ r
      → all K (form.Binary op a b) ≡ Judging.operands_with env op r (all K b)
  operands_from K op a b r n e = settled_from K op a b None (Tests.no_settlement env n) ∙ ap (λ x. Judging.operands_with env op x (all K b)) e

  field_from : (K : CapabilityList) (a : Expr) (k : List ℕ) (is_known : Bool) (r : Judgement) → Decides is_known (Contains K (a, k)) → all K a ≡ r
      → all K (form.Field a k) ≡ Judging.field_with env is_known k r
  field_from K a k is_known r d e = Judging.at_field env K a k
      ∙ (ap (λ b. Judging.field_with env b k (all K a)) (KnownPairs.knows_is K (a, k) is_known d) ∙ ap (Judging.field_with env is_known k) e)

  has_from : (K : CapabilityList) (a : Expr) (k : List ℕ) (is_known : Bool) (r : Judgement) → Decides is_known (Contains K (a, k)) → all K a ≡ r
      → all K (form.Has a k) ≡ Judging.has_with env is_known a k r
  has_from K a k is_known r d e = Judging.at_has env K a k
      ∙ (ap (λ b. Judging.has_with env b a k (all K a)) (KnownPairs.knows_is K (a, k) is_known d) ∙ ap (Judging.has_with env is_known a k) e)

  unary_call_from : (K : CapabilityList) (called : UnaryCall) (a : Expr) (r : Judgement) → all K a ≡ r
      → all K (form.UnaryCall called a) ≡ Judging.unary_call_with env called (Tests.reads called a) r
  unary_call_from K called a r e = Judging.at_unary_call env K called a ∙ ap (Judging.unary_call_with env called (Tests.reads called a)) e

  call_from : (K : CapabilityList) (called : BinaryCall) (a b : Expr) (r : Judgement) → all K a ≡ r
      → all K (form.BinaryCall called a b) ≡ Judging.call_with env called r (all K b)
  call_from K called a b r e = Judging.at_call env K called a b ∙ ap (λ x. Judging.call_with env called x (all K b)) e

  mutual
    -- the function gives the type that the rules do
    pub types_is : {K L : CapabilityList} {x : Expr} {t : StaticType} → Types env K x t L → all K x ≡ typed t L
    types_is (Typing.types_literal {K} l) = Judging.at_literal env K l
    types_is (Typing.types_variable {K} x) = Judging.at_variable env K x
    types_is (Typing.types_unary {K} op a h e) = unary_from K op a _ (types_is h) ∙ ap (typed_row Judging.learns_none) e
    types_is (Typing.and_of_false {K} a b h) = and_from K a b _ (types_is h)
    types_is (Typing.and_of_both {K} {L} {M} a b {s} {t} h p g i) =
        and_from K a b _ (types_is h) ∙ (and_left_is p L (all (K ++ L) b) ∙ (ap (Judging.and_right s L) (types_is g) ∙ boolean_is i (typed (Rows.and_type s t) (L ++ M))))
    types_is (Typing.or_of_true {K} a b h) = or_from K a b _ (types_is h)
    types_is (Typing.or_of_false {K} {L} {M} a b {t} h g i) =
        or_from K a b _ (types_is h) ∙ (ap (Judging.or_typed Types.false_type L) (types_is g) ∙ boolean_is i (typed t M))
    types_is (Typing.or_of_both {K} {L} {M} {N} a b {t} h g i l) =
        or_from K a b _ (types_is h) ∙ (ap (Judging.or_typed Types.boolean_type L) (types_is g) ∙ (boolean_is i (typed (Rows.or_type t) (KnownPairs.or_learns t L M)) ∙ ap (typed (Rows.or_type t)) (KnownPairs.or_learns_is l)))
    types_is (Typing.if_of_true {K} {L} {M} a b c h g) = if_from K a b c _ (types_is h) ∙ ap (λ r. Judging.if_typed Types.true_type L r (all K c)) (types_is g)
    types_is (Typing.if_of_false {K} {L} {M} a b c h g) = if_from K a b c _ (types_is h) ∙ types_is g
    types_is (Typing.if_of_both {K} {L} {M} {N} {B} a b c {s} {t} {u} h g i e l) =
        if_from K a b c _ (types_is h) ∙ (ap (λ r. Judging.if_typed Types.boolean_type L r (all K c)) (types_is g) ∙ (ap (λ p. Judging.if_typed Types.boolean_type L (typed s M) p) (types_is i)
        ∙ (ap (λ o. Judging.branches o (KnownPairs.in_both N (L ++ M))) e ∙ ap (typed u) (KnownPairs.in_both_is l))))
    types_is (Typing.types_decided {K} op a b {r} e) = settled_from K op a b (Some r) (Tests.settlement_is env e)
    types_is (Typing.types_binary {K} {L} op a b {s} {t} n h g e) =
        operands_from K op a b _ n (types_is h) ∙ (ap (Judging.operands_with env op (typed s L)) (types_is g) ∙ ap (typed_row Judging.learns_none) e)
    types_is (Typing.types_field {K} a k {is_known} h d e) = field_from K a k is_known _ d (types_is h) ∙ ap (typed_row Judging.learns_none) e
    types_is (Typing.types_has {K} a k {is_known} h d e) = has_from K a k is_known _ d (types_is h) ∙ ap (typed_row (λ t. has_gains t (a, k))) e
    types_is (Typing.types_set {K} xs h e) = Judging.at_set env K xs ∙ (ap Judging.members_type (each_is h) ∙ ap (typed_row Judging.learns_none) e)
    types_is (Typing.types_record {K} xs h) = Judging.at_record env K xs ∙ ap (Judging.record_typed (Judging.names env xs)) (each_is h)
    types_is (Typing.types_literal_call {K} called a {s} h g) = unary_call_from K called a _ (types_is h) ∙ ap (typed_row Judging.learns_none) (literal_is s g)
    types_is (Typing.types_address_test {K} called a {s} i h e) =
        unary_call_from K called a _ (types_is h) ∙ ap (typed_row Judging.learns_none) (address_is called (Tests.reads called a) s i ∙ e)
    types_is (Typing.types_call {K} {L} called a b {s} h g e) =
        call_from K called a b _ (types_is h) ∙ (ap (Judging.call_with env called (typed s L)) (types_is g) ∙ ap (typed_row Judging.learns_none) e)

    each_is : {K : CapabilityList} {xs : List Expr} {ts : List StaticType} → TypesEach env K xs ts → Judging.each_of env (map (all K) xs) ≡ Ok ts
    each_is Typing.types_none = refl
    each_is (Typing.types_more {K} {L} {x} {xs} {t} h hs) =
        ap (λ r. Judging.member_type r (Judging.each_of env (map (all K) xs))) (types_is h) ∙ ap (Judging.member_type (typed t L)) (each_is hs)

  mutual
    -- the function gives the fault that the rules do
    pub faults_is : {K : CapabilityList} {x : Expr} {n : TypeFault} → Faults env K x n → all K x ≡ faulty n
    faults_is (Faults.fault_in_operand {K} (Faults.of_unary op a) (Faults.fault_here h)) = unary_from K op a _ (faults_is h)
    faults_is (Faults.fault_in_operand {K} (Faults.of_binary op a b n) (Faults.fault_here h)) = operands_from K op a b _ n (faults_is h)
    faults_is (Faults.fault_in_operand {K} (Faults.of_binary op a b n) (Faults.fault_later {L} {t = s} h (Faults.fault_here g))) =
        operands_from K op a b _ n (types_is h) ∙ ap (Judging.operands_with env op (typed s L)) (faults_is g)
    faults_is (Faults.fault_in_operand {K} (Faults.of_binary op a b n) (Faults.fault_later h (Faults.fault_later g i))) = elim i [ ]
    faults_is (Faults.fault_in_operand {K} (Faults.of_field a k) (Faults.fault_here h)) = field_from K a k (KnownPairs.knows K (a, k)) _ (KnownPairs.knows_holds K (a, k)) (faults_is h)
    faults_is (Faults.fault_in_operand {K} (Faults.of_has a k) (Faults.fault_here h)) = has_from K a k (KnownPairs.knows K (a, k)) _ (KnownPairs.knows_holds K (a, k)) (faults_is h)
    faults_is (Faults.fault_in_operand {K} (Faults.of_set xs) h) = Judging.at_set env K xs ∙ ap Judging.members_type (each_faults_is h)
    faults_is (Faults.fault_in_operand {K} (Faults.of_record xs) h) = Judging.at_record env K xs ∙ ap (Judging.record_typed (Judging.names env xs)) (each_faults_is h)
    faults_is (Faults.fault_in_operand {K} (Faults.of_unary_call called a) (Faults.fault_here h)) = unary_call_from K called a _ (faults_is h)
    faults_is (Faults.fault_in_operand {K} (Faults.of_binary_call called a b) (Faults.fault_here h)) = call_from K called a b _ (faults_is h)
    faults_is (Faults.fault_in_operand {K} (Faults.of_binary_call called a b) (Faults.fault_later {L} {t = s} h (Faults.fault_here g))) =
        call_from K called a b _ (types_is h) ∙ ap (Judging.call_with env called (typed s L)) (faults_is g)
    faults_is (Faults.fault_in_operand {K} (Faults.of_binary_call called a b) (Faults.fault_later h (Faults.fault_later g i))) = elim i [ ]
    faults_is (Faults.fault_in_operand (Faults.of_unary op a) (Faults.fault_later h g)) = elim g [ ]
    faults_is (Faults.fault_in_operand (Faults.of_field a k) (Faults.fault_later h g)) = elim g [ ]
    faults_is (Faults.fault_in_operand (Faults.of_has a k) (Faults.fault_later h g)) = elim g [ ]
    faults_is (Faults.fault_in_operand (Faults.of_unary_call called a) (Faults.fault_later h g)) = elim g [ ]
    faults_is (Faults.fault_of_unary {K} op a h e) = unary_from K op a _ (types_is h) ∙ ap (typed_row Judging.learns_none) e
    faults_is (Faults.fault_left_of_and {K} a b h) = and_from K a b _ (faults_is h)
    faults_is (Faults.left_of_and_no_boolean {K} {L} a b {s} h i) = and_from K a b _ (types_is h) ∙ and_no_left_is s i L (all (K ++ L) b)
    faults_is (Faults.fault_right_of_and {K} {L} a b {s} h p g) =
        and_from K a b _ (types_is h) ∙ (and_left_is p L (all (K ++ L) b) ∙ ap (Judging.and_right s L) (faults_is g))
    faults_is (Faults.right_of_and_no_boolean {K} {L} {M} a b {s} {t} h p g i) =
        and_from K a b _ (types_is h) ∙ (and_left_is p L (all (K ++ L) b) ∙ (ap (Judging.and_right s L) (types_is g) ∙ no_boolean_is t i (typed (Rows.and_type s t) (L ++ M))))
    faults_is (Faults.fault_left_of_or {K} a b h) = or_from K a b _ (faults_is h)
    faults_is (Faults.left_of_or_no_boolean {K} {L} a b {s} h i) = or_from K a b _ (types_is h) ∙ or_no_left_is s i L (all K b)
    faults_is (Faults.fault_right_of_or {K} {L} a b {s} {n} h p g) = or_from K a b _ (types_is h) ∙ (ap (Judging.or_typed s L) (faults_is g) ∙ or_fault_is p L n)
    faults_is (Faults.right_of_or_no_boolean {K} {L} {M} a b {s} {t} h p g i) =
        or_from K a b _ (types_is h) ∙ (ap (Judging.or_typed s L) (types_is g) ∙ or_no_right_is t p i L M)
    faults_is (Faults.fault_in_test {K} a b c h) = if_from K a b c _ (faults_is h)
    faults_is (Faults.test_no_boolean {K} {L} a b c {s} h i) = if_from K a b c _ (types_is h) ∙ if_no_test_is s i L (all (K ++ L) b) (all K c)
    faults_is (Faults.fault_in_then {K} {L} a b c {s} {n} h p g) =
        if_from K a b c _ (types_is h) ∙ (ap (λ r. Judging.if_typed s L r (all K c)) (faults_is g) ∙ if_fault_is p L n (all K c))
    faults_is (Faults.fault_in_only_else {K} a b c h g) = if_from K a b c _ (types_is h) ∙ faults_is g
    faults_is (Faults.fault_in_else {K} {L} {M} a b c {t} h g i) =
        if_from K a b c _ (types_is h) ∙ (ap (λ r. Judging.if_typed Types.boolean_type L r (all K c)) (types_is g) ∙ ap (λ p. Judging.if_typed Types.boolean_type L (typed t M) p) (faults_is i))
    faults_is (Faults.branches_differ {K} {L} {M} {N} a b c {s} {t} h g i e) =
        if_from K a b c _ (types_is h) ∙ (ap (λ r. Judging.if_typed Types.boolean_type L r (all K c)) (types_is g) ∙ (ap (λ p. Judging.if_typed Types.boolean_type L (typed s M) p) (types_is i)
        ∙ ap (λ o. Judging.branches o (KnownPairs.in_both N (L ++ M))) e))
    faults_is (Faults.fault_of_binary {K} {L} op a b {s} n h g e) =
        operands_from K op a b _ n (types_is h) ∙ (ap (Judging.operands_with env op (typed s L)) (types_is g) ∙ ap (typed_row Judging.learns_none) e)
    faults_is (Faults.fault_of_field {K} a k {is_known} h d e) = field_from K a k is_known _ d (types_is h) ∙ ap (typed_row Judging.learns_none) e
    faults_is (Faults.fault_of_has {K} a k {is_known} h d e) = has_from K a k is_known _ d (types_is h) ∙ ap (typed_row (λ t. has_gains t (a, k))) e
    faults_is (Faults.fault_of_set {K} xs h e) = Judging.at_set env K xs ∙ (ap Judging.members_type (each_is h) ∙ ap (typed_row Judging.learns_none) e)
    faults_is (Faults.no_literal {K} called a {s} i h g) = unary_call_from K called a _ (types_is h) ∙ ap (typed_row Judging.learns_none) (no_literal_is called a s i g)
    faults_is (Faults.fault_of_address_test {K} called a {s} i h e) =
        unary_call_from K called a _ (types_is h) ∙ ap (typed_row Judging.learns_none) (address_is called (Tests.reads called a) s i ∙ e)
    faults_is (Faults.fault_of_call {K} {L} called a b {s} h g e) =
        call_from K called a b _ (types_is h) ∙ (ap (Judging.call_with env called (typed s L)) (types_is g) ∙ ap (typed_row Judging.learns_none) e)

    each_faults_is : {K : CapabilityList} {xs : List Expr} {n : TypeFault} → FaultsEach env K xs n → Judging.each_of env (map (all K) xs) ≡ Err n
    each_faults_is (Faults.fault_here {K} {x} {xs} h) = ap (λ r. Judging.member_type r (Judging.each_of env (map (all K) xs))) (faults_is h)
    each_faults_is (Faults.fault_later {K} {L} {x} {xs} {t} h hs) =
        ap (λ r. Judging.member_type r (Judging.each_of env (map (all K) xs))) (types_is h) ∙ ap (Judging.member_type (typed t L)) (each_faults_is hs)

  -- what the rules judge is what the function does
  pub judged_is : (K : CapabilityList) (x : Expr) (s : Judgement) → Judges env K x s → s ≡ all K x
  judged_is K x (typed t L) h = sym (types_is h)
  judged_is K x (faulty n) h = sym (faults_is h)
