-- A typed expression goes right: it gives a value of its type or one of two errors, and where it is true what it
-- learns is present.
use Rattle.std.specs.Prelude.{◌≡◌, ℕ, List, [], ◌∷◌, ◌++◌, map, Bool, true, false, Contains, Option, Some, None, Result}
use Rattle.std.specs.Prelude.{Ok, Err, refl}
use Rattle.std.specs.Bool.{Decides}
use Rattle.std.proofs.Common.{inl, inr, ap, sym, ◌∙◌, subst}
use Rattle.values.specs.declared.request.Request.{Request}
use Rattle.values.specs.Fields.{Field, put}
use Rattle.values.specs.Sets.{IsSetOf}
use Rattle.values.specs.Values.{PlainValue, boolean, set, values_of}
use Rattle.grammar_core.specs.declared.leaf.Literal.{Literal}
use Rattle.grammar_core.specs.declared.leaf.Literal.TheVariants as literal
use Rattle.grammar_core.specs.declared.leaf.Variable.{Variable}
use Rattle.grammar_core.specs.declared.leaf.Variable.TheVariants as variable
use Rattle.grammar_core.specs.declared.expr.Named.{Named}
use Rattle.grammar_core.specs.declared.expr.Expr.{Expr}
use Rattle.grammar_core.specs.declared.expr.Expr.TheVariants as form
use Rattle.grammar_core.specs.declared.expr.Expr.TheOpen.{Expr-F}
use Rattle.evaluator.specs.declared.fault.EvalFault.{EvalFault}
use Rattle.evaluator.specs.Outcomes.{EvaluationResult, boolean_in}
use Rattle.evaluator.specs.Operators.{Entities, HasGives}
use Rattle.evaluator.specs.Evaluation as rule
use Rattle.evaluator.specs.Evaluation.{EvaluatesTo, TestFails, EachEvaluatesTo, literal_value, variable_value, put_each}
use Rattle.evaluator.specs.Laws.{HasOneOutcome}
use Rattle.typing.specs.Types
use Rattle.typing.specs.Types.{StaticType, FieldTypes, IsBoolean, common, common_of}
use Rattle.typing.specs.Membership
use Rattle.typing.specs.Membership.{Of}
use Rattle.typing.specs.Environment.{Environment}
use Rattle.typing.specs.Gained
use Rattle.typing.specs.Gained.{CapabilityList, InBoth, OrGains, has_gains}
use Rattle.typing.specs.Rows
use Rattle.typing.specs.Rows.{Row}
use Rattle.typing.specs.Typing
use Rattle.typing.specs.Typing.{Types, TypesEach}
use Rattle.typing.specs.Conforming.{Conforms, IsPermittedError, Fits, IsPresent, ArePresent, IsSoundOutcome}
use Rattle.std.proofs.lemmas.List.Elements.{Contains-append_cases}
use Rattle.plain.proofs.Members.{Contains-cases, Contains-none}
use Rattle.typing.proofs.Alike.{both_members}
use Rattle.typing.proofs.Values.{Widens, common_has, AllOf, common_of_has, set_of, FieldsFit, put_fits, record_fits}
use Rattle.typing.proofs.Fitting.{FitsRow, unary_fits, binary_fits, field_fits, has_fits, address_fits, call_fits}
use Rattle.typing.proofs.Inverting as gives
use Rattle.typing.proofs.Inverting.{IfGives, AndGives, OrGives, OneGives, TwoGive, SetGives, RecordGives, layer}
use Rattle.typing.proofs.SettledByLiterals.{none_there, never, Ok-same, settled_goes, reading_goes}

not_true : {A : Type 0} → (let m : EvaluationResult = Ok (boolean false) in m ≡ Ok (boolean true)) → A
not_true h = absurd (cc)

no_test : {v : PlainValue} {t : StaticType} {G : Type 0} → IsBoolean t → Of v t → boolean_in v ≡ None → G
no_test Types.is_true Membership.of_true e = none_there e
no_test Types.is_false Membership.of_false e = none_there e
no_test Types.is_either Membership.of_boolean e = none_there e

-- ---- booleans and types

and_fits : {s t : StaticType} {b : Bool} → Rows.MayBeTrue s → IsBoolean t → Of (boolean b) t → Of (boolean b) (Rows.and_type s t)
and_fits Rows.surely Types.is_true Membership.of_true = Membership.of_true
and_fits Rows.surely Types.is_false Membership.of_false = Membership.of_false
and_fits Rows.surely Types.is_either h = Membership.of_boolean
and_fits Rows.perhaps Types.is_true h = Membership.of_boolean
and_fits Rows.perhaps Types.is_false Membership.of_false = Membership.of_false
and_fits Rows.perhaps Types.is_either h = Membership.of_boolean

and_false_fits : {s t : StaticType} → Rows.MayBeTrue s → IsBoolean t → Of (boolean false) s → Of (boolean false) (Rows.and_type s t)
and_false_fits Rows.surely i h = elim h [ ]
and_false_fits Rows.perhaps Types.is_true h = Membership.of_boolean
and_false_fits Rows.perhaps Types.is_false h = Membership.of_false
and_false_fits Rows.perhaps Types.is_either h = Membership.of_boolean

or_fits : {t : StaticType} {b : Bool} → IsBoolean t → Of (boolean b) t → Of (boolean b) (Rows.or_type t)
or_fits Types.is_true h = h
or_fits Types.is_false h = Membership.of_boolean
or_fits Types.is_either h = Membership.of_boolean

or_true_fits : {t : StaticType} → IsBoolean t → Of (boolean true) (Rows.or_type t)
or_true_fits Types.is_true = Membership.of_true
or_true_fits Types.is_false = Membership.of_boolean
or_true_fits Types.is_either = Membership.of_boolean

may_be_boolean : {t : StaticType} → Rows.MayBeTrue t → IsBoolean t
may_be_boolean Rows.surely = Types.is_true
may_be_boolean Rows.perhaps = Types.is_either

module _ (env : Environment) (W : Entities) (q : Request) (C : Conforms env W q) (one : (x : Expr) → HasOneOutcome W q x) where
  abbrev Present : CapabilityList → Type 0
  Present K = ArePresent W q K

  abbrev Right : StaticType → CapabilityList → EvaluationResult → Type 0
  Right t L r = IsSoundOutcome W q t L r

  -- whatever the expression gives goes right
  abbrev Goes : Expr → StaticType → CapabilityList → Type 0
  Goes x t L = (r : EvaluationResult) → EvaluatesTo W q x r → Right t L r

  pub nothing : Present []
  nothing = record { each = λ p c. Contains-none p c }

  present_joined : (K L : CapabilityList) → Present K → Present L → Present (K ++ L)
  present_joined K L h g = record { each = λ p c. elim (Contains-append_cases K L p c) [ inl k ↦ h.each p k | inr l ↦ g.each p l ] }

  both_left : {L M N : CapabilityList} → InBoth L M N → Present L → Present N
  both_left h l = record { each = λ p c. l.each p (both_members h p c).0 }

  both_right : {L M N : CapabilityList} → InBoth L M N → Present M → Present N
  both_right h m = record { each = λ p c. m.each p (both_members h p c).1 }

  or_left_learns : {t : StaticType} {L M N : CapabilityList} → OrGains t L M N → Present L → Present N
  or_left_learns Gained.or_gains_none l = nothing
  or_left_learns Gained.or_gains_left l = l
  or_left_learns (Gained.or_gains_both h) l = both_left h l

  or_right_learns : {t : StaticType} {L M N : CapabilityList} → OrGains t L M N → Of (boolean true) t → Present M → Present N
  or_right_learns Gained.or_gains_none h m = nothing
  or_right_learns Gained.or_gains_left h m = elim h [ ]
  or_right_learns (Gained.or_gains_both g) h m = both_right g m

  -- one outcome
  same_outcome : {x : Expr} {r s : EvaluationResult} → EvaluatesTo W q x r → EvaluatesTo W q x s → r ≡ s
  same_outcome {x} {r} {s} g h = let o = one x in o.2 r g ∙ sym (o.2 s h)

  learns_nothing : {t : StaticType} {r : EvaluationResult} → Fits t r → Right t [] r
  learns_nothing h = record { fits = h; learned = λ e. nothing }

  harmless : {t : StaticType} {L : CapabilityList} {e : EvalFault} → IsPermittedError e → Right t L (Err e)
  harmless h = record { fits = h; learned = λ e. never e }

  is_false : {t : StaticType} {L : CapabilityList} → Of (boolean false) t → Right t L (Ok (boolean false))
  is_false h = record { fits = h; learned = λ e. not_true e }

  -- a test that fails errs harmlessly
  test_fails : {a : Expr} {s : StaticType} {L : CapabilityList} {e : EvalFault} → IsBoolean s → Goes a s L → TestFails W q a e → IsPermittedError e
  test_fails i f (rule.test_errs g) = (f _ g).fits
  test_fails i f (rule.no_boolean g n) = no_test i (f _ g).fits n

  -- ---- `&&`, `||` and `if`

  and_false_goes : {a b : Expr} {L : CapabilityList} {r : EvaluationResult} → Goes a Types.false_type L → AndGives W q a b r → Right Types.false_type [] r
  and_false_goes f (gives.left_false g) = is_false Membership.of_false
  and_false_goes f (gives.both_give g h) = let i = (f _ g).fits in elim i [ ]
  and_false_goes f (gives.and_left g) = harmless (test_fails Types.is_false f g)
  and_false_goes f (gives.and_right g h) = let i = (f _ g).fits in elim i [ ]

  and_goes : {a b : Expr} {s t : StaticType} {L M : CapabilityList} {r : EvaluationResult} → Goes a s L → Rows.MayBeTrue s → (Present L → Goes b t M) → IsBoolean t
      → AndGives W q a b r → Right (Rows.and_type s t) (L ++ M) r
  and_goes f p k i (gives.left_false g) = is_false (and_false_fits p i (f _ g).fits)
  and_goes {L} {M} f p k i (gives.both_give g h) =
      let l = (f _ g).learned refl in let b = k l _ h in record { fits = and_fits p i b.fits; learned = λ e. present_joined L M l (b.learned e) }
  and_goes f p k i (gives.and_left g) = harmless (test_fails (may_be_boolean p) f g)
  and_goes f p k i (gives.and_right g h) = harmless (test_fails i (k ((f _ g).learned refl)) h)

  or_true_goes : {a b : Expr} {L : CapabilityList} {r : EvaluationResult} → Goes a Types.true_type L → OrGives W q a b r → Right Types.true_type [] r
  or_true_goes f (gives.left_true g) = learns_nothing Membership.of_true
  or_true_goes f (gives.right_gives g h) = let i = (f _ g).fits in elim i [ ]
  or_true_goes f (gives.or_left g) = harmless (test_fails Types.is_true f g)
  or_true_goes f (gives.or_right g h) = let i = (f _ g).fits in elim i [ ]

  or_false_goes : {a b : Expr} {t : StaticType} {L M : CapabilityList} {r : EvaluationResult} → Goes a Types.false_type L → Goes b t M → IsBoolean t
      → OrGives W q a b r → Right t M r
  or_false_goes f k i (gives.left_true g) = let j = (f _ g).fits in elim j [ ]
  or_false_goes f k i (gives.right_gives g h) = k _ h
  or_false_goes f k i (gives.or_left g) = harmless (test_fails Types.is_false f g)
  or_false_goes f k i (gives.or_right g h) = harmless (test_fails i k h)

  right_true : {t : StaticType} {b : Bool} → Of (boolean b) t → (let m : EvaluationResult = Ok (boolean b) in m ≡ Ok (boolean true)) → Of (boolean true) t
  right_true {t} h e = subst (λ v. Of v t) (Ok-same e) h

  or_goes : {a b : Expr} {t : StaticType} {L M N : CapabilityList} {r : EvaluationResult} → Goes a Types.boolean_type L → Goes b t M → IsBoolean t → OrGains t L M N
      → OrGives W q a b r → Right (Rows.or_type t) N r
  or_goes f k i l (gives.left_true g) = record { fits = or_true_fits i; learned = λ e. or_left_learns l ((f _ g).learned refl) }
  or_goes f k i l (gives.right_gives g h) = let b = k _ h in record { fits = or_fits i b.fits; learned = λ e. or_right_learns l (right_true b.fits e) (b.learned e) }
  or_goes f k i l (gives.or_left g) = harmless (test_fails Types.is_either f g)
  or_goes f k i l (gives.or_right g h) = harmless (test_fails i k h)

  if_true_goes : {a b c : Expr} {t : StaticType} {L M : CapabilityList} {r : EvaluationResult} → Goes a Types.true_type L → (Present L → Goes b t M)
      → IfGives W q a b c r → Right t (L ++ M) r
  if_true_goes {L} {M} f k (gives.then_gives g h) = let l = (f _ g).learned refl in let b = k l _ h in record { fits = b.fits; learned = λ e. present_joined L M l (b.learned e) }
  if_true_goes f k (gives.else_gives g h) = let i = (f _ g).fits in elim i [ ]
  if_true_goes f k (gives.test_fails g) = harmless (test_fails Types.is_true f g)

  if_false_goes : {a b c : Expr} {t : StaticType} {L M : CapabilityList} {r : EvaluationResult} → Goes a Types.false_type L → Goes c t M
      → IfGives W q a b c r → Right t M r
  if_false_goes f k (gives.then_gives g h) = let i = (f _ g).fits in elim i [ ]
  if_false_goes f k (gives.else_gives g h) = k _ h
  if_false_goes f k (gives.test_fails g) = harmless (test_fails Types.is_false f g)

  fits_more : {s t : StaticType} (r : EvaluationResult) → Widens s t → Fits s r → Fits t r
  fits_more (Ok v) f h = f v h
  fits_more (Err e) f h = h

  if_goes : {a b c : Expr} (s t u : StaticType) {L M N B : CapabilityList} {r : EvaluationResult} → Goes a Types.boolean_type L → (Present L → Goes b s M) → Goes c t N
      → common s t ≡ Some u → InBoth N (L ++ M) B → IfGives W q a b c r → Right u B r
  if_goes s t u {L} {M} {r} f k m e i (gives.then_gives g h) =
      let l = (f _ g).learned refl in
      let b = k l r h in
      record { fits = fits_more r (common_has s t u e).0 b.fits; learned = λ j. both_right i (present_joined L M l (b.learned j)) }
  if_goes s t u {r} f k m e i (gives.else_gives g h) =
      let c = m r h in record { fits = fits_more r (common_has s t u e).1 c.fits; learned = λ j. both_left i (c.learned j) }
  if_goes s t u f k m e i (gives.test_fails g) = harmless (test_fails Types.is_either f g)

  -- ---- operands

  one_goes : {a : Expr} {R : PlainValue → EvaluationResult → Type 0} (s : StaticType) (row : Row) (t : StaticType) {L : CapabilityList} {r : EvaluationResult} → Goes a s L → row ≡ Ok t
      → ((v : PlainValue) → EvaluatesTo W q a (Ok v) → Of v s → (m : EvaluationResult) → R v m → FitsRow row m) → OneGives W q a R r → Fits t r
  one_goes s row t f e k (gives.one_value {v} {r} g u) = subst (λ x. FitsRow x r) e (k v g (f _ g).fits r u)
  one_goes s row t f e k (gives.one_fails g) = (f _ g).fits

  two_goes : {a b : Expr} {R : PlainValue → PlainValue → EvaluationResult → Type 0} (s t : StaticType) (row : Row) (u : StaticType) {L M : CapabilityList} {r : EvaluationResult} → Goes a s L → Goes b t M
      → row ≡ Ok u → ((v w : PlainValue) → Of v s → Of w t → (m : EvaluationResult) → R v w m → FitsRow row m) → TwoGive W q a b R r → Fits u r
  two_goes s t row u f h e k (gives.two_values {v} {w} {r} g i j) = subst (λ x. FitsRow x r) e (k v w (f _ g).fits (h _ i).fits r j)
  two_goes s t row u f h e k (gives.left_fails g) = (f _ g).fits
  two_goes s t row u f h e k (gives.right_fails g i) = (h _ i).fits

  -- where a pair is known, the value has the field
  value_has : {a : Expr} {v : PlainValue} {k : List ℕ} → EvaluatesTo W q a (Ok v) → OneGives W q a (HasGives W k) (Ok (boolean true)) → HasGives W k v (Ok (boolean true))
  value_has {k} g (gives.one_value h u) = subst (λ w. HasGives W k w (Ok (boolean true))) (Ok-same (same_outcome h g)) u

  known_has : {K : CapabilityList} (a : Expr) (k : List ℕ) (b : Bool) {v : PlainValue} → Present K → Decides b (Contains K (a, k)) → EvaluatesTo W q a (Ok v)
      → b ≡ true → HasGives W k v (Ok (boolean true))
  known_has a k b h d g e = value_has g (layer W q (Expr-F.Has a k) (form.outs-Has a k) (h.each (a, k) (d.0 e)))

  one_present : {a : Expr} {k : List ℕ} → IsPresent W q (a, k) → Present ((a, k) ∷ [])
  one_present {a} {k} h = record {
    each = λ p c. elim (Contains-cases (a, k) [] p c) [
      | inl e ↦ subst (IsPresent W q) e h
      | inr n ↦ Contains-none p n
    ];
  }

  pair_learned : (t : StaticType) (a : Expr) (k : List ℕ) → IsPresent W q (a, k) → Present (has_gains t (a, k))
  pair_learned Types.boolean_type a k h = one_present h
  pair_learned t a k h = nothing

  -- ---- sets and records

  EachFit : List StaticType → Result (List PlainValue) EvalFault → Type 0
  EachFit ts (Ok vs) = AllOf vs ts
  EachFit ts (Err e) = IsPermittedError e

  set_of_row : (o : Option StaticType) (r : EvaluationResult) → ((u : StaticType) → o ≡ Some u → Fits (Types.set_type u) r) → FitsRow (Rows.set_of_common o) r
  set_of_row None r f = tt
  set_of_row (Some u) r f = f u refl

  set_row : (ts : List StaticType) (vs s : List PlainValue) → AllOf vs ts → IsSetOf vs s → FitsRow (Rows.set_literal_type ts) (Ok (set (values_of s)))
  set_row [] vs s h i = tt
  set_row (t ∷ ts) [] s h i = absurd h
  set_row (t ∷ ts) (v ∷ vs) s h i = set_of_row (common_of t ts) _ (λ u e. set_of (v ∷ vs) s u i (common_of_has t ts u e v vs h.0 h.1))

  set_goes : {xs : List Expr} (ts : List StaticType) (t : StaticType) {r : EvaluationResult} → ((m : Result (List PlainValue) EvalFault) → EachEvaluatesTo W q xs m → EachFit ts m)
      → Rows.set_literal_type ts ≡ Ok t → SetGives W q xs r → Fits t r
  unfolding EachFit
  set_goes ts t f e (gives.set_value {vs} {s} g i) = subst (λ x. FitsRow x (Ok (set (values_of s)))) e (set_row ts vs s (f _ g) i)
  set_goes ts t f e (gives.member_fails g) = f _ g

  -- fields that are set to values of their types
  put_all_fit : (xs : List (Named Expr)) (vs : List PlainValue) (ts : List StaticType) → AllOf vs ts → (done : List Field) (us : FieldTypes) → FieldsFit done us
      → FieldsFit (put_each xs vs done) (Types.put_each (map (λ x. x.name) xs) ts us)
  put_all_fit [] [] [] h done us f = f
  put_all_fit [] (v ∷ vs) (t ∷ ts) h done us f = f
  put_all_fit (x ∷ xs) [] [] h done us f = f
  put_all_fit (x ∷ xs) (v ∷ vs) (t ∷ ts) h done us f = put_all_fit xs vs ts h.1 (put x.name v done) (Types.put_required x.name t us) (put_fits x.name v t done us h.0 f)
  put_all_fit xs vs ts h done us f = absurd h

  record_goes : {xs : List (Named Expr)} (ts : List StaticType) {r : EvaluationResult}
      → ((m : Result (List PlainValue) EvalFault) → EachEvaluatesTo W q (map (λ x. x.value) xs) m → EachFit ts m) → RecordGives W q xs r
      → Fits (Types.record_type (Types.put_each (map (λ x. x.name) xs) ts Types.no_field_types)) r
  unfolding EachFit
  record_goes {xs} ts f (gives.record_value {vs} g) = record_fits (put_each xs vs []) _ (put_all_fit xs vs ts (f _ g) [] Types.no_field_types (λ k. Membership.absent))
  record_goes ts f (gives.field_fails g) = f _ g

  -- ---- literals

  literal_of : (l : Literal) → Of (literal_value l) (Rows.literal_type l)
  literal_of (literal.Boolean true) = Membership.of_true
  literal_of (literal.Boolean false) = Membership.of_false
  literal_of (literal.Long z) = Membership.of_long
  literal_of (literal.Text s) = Membership.of_text
  literal_of (literal.Entity u) = Membership.of_entity refl

  variable_of : (x : Variable) → Of (variable_value x q) (Rows.variable_type env x)
  variable_of variable.Principal = Membership.of_entity C.principal
  variable_of variable.Action = Membership.of_entity (ap (λ u. u.type_name) C.action)
  variable_of variable.Resource = Membership.of_entity C.resource
  variable_of variable.Context = C.context

  value_goes : {t : StaticType} {v : PlainValue} {r : EvaluationResult} → Of v t → r ≡ Ok v → Right t [] r
  value_goes {t} h e = learns_nothing (subst (Fits t) (sym e) h)

  -- ---- all rows

  mutual
    unfolding EachFit

    -- whatever a typed expression gives goes right
    pub is_sound : {K L : CapabilityList} {x : Expr} {t : StaticType} → Present K → Types env K x t L → Goes x t L
    is_sound k (Typing.types_literal l) r g = value_goes (literal_of l) (layer W q (Expr-F.Literal l) (form.outs-Literal l) g)
    is_sound k (Typing.types_variable x) r g = value_goes (variable_of x) (layer W q (Expr-F.Variable x) (form.outs-Variable x) g)
    is_sound k (Typing.types_unary op a {s} {t} h e) r g =
        learns_nothing (one_goes s (Rows.unary_type op s) t (is_sound k h) e (λ v i f m u. unary_fits op f u) (layer W q (Expr-F.Unary op a) (form.outs-Unary op a) g))
    is_sound k (Typing.and_of_false a b h) r g = and_false_goes (is_sound k h) (layer W q (Expr-F.And a b) (form.outs-And a b) g)
    is_sound k (Typing.and_of_both {K} {L} a b h p f i) r g =
        and_goes (is_sound k h) p (λ l. is_sound (present_joined K L k l) f) i (layer W q (Expr-F.And a b) (form.outs-And a b) g)
    is_sound k (Typing.or_of_true a b h) r g = or_true_goes (is_sound k h) (layer W q (Expr-F.Or a b) (form.outs-Or a b) g)
    is_sound k (Typing.or_of_false a b h f i) r g = or_false_goes (is_sound k h) (is_sound k f) i (layer W q (Expr-F.Or a b) (form.outs-Or a b) g)
    is_sound k (Typing.or_of_both a b h f i l) r g = or_goes (is_sound k h) (is_sound k f) i l (layer W q (Expr-F.Or a b) (form.outs-Or a b) g)
    is_sound k (Typing.if_of_true {K} {L} a b c h f) r g =
        if_true_goes (is_sound k h) (λ l. is_sound (present_joined K L k l) f) (layer W q (Expr-F.If a b c) (form.outs-If a b c) g)
    is_sound k (Typing.if_of_false a b c h f) r g = if_false_goes (is_sound k h) (is_sound k f) (layer W q (Expr-F.If a b c) (form.outs-If a b c) g)
    is_sound k (Typing.if_of_both {K} {L} a b c {s} {t} {u} h f i e l) r g =
        if_goes s t u (is_sound k h) (λ p. is_sound (present_joined K L k p) f) (is_sound k i) e l (layer W q (Expr-F.If a b c) (form.outs-If a b c) g)
    is_sound k (Typing.types_decided op a b h) r g = learns_nothing (settled_goes env W q C one h (layer W q (Expr-F.Binary op a b) (form.outs-Binary op a b) g))
    is_sound k (Typing.types_binary op a b {s} {t} {u} n h f e) r g =
        learns_nothing (two_goes s t (Rows.binary_type env op s t) u (is_sound k h) (is_sound k f) e (λ v w i j m l. binary_fits env W q C op i j l)
        (layer W q (Expr-F.Binary op a b) (form.outs-Binary op a b) g))
    is_sound k (Typing.types_field a n {is_known} {s} {t} h d e) r g =
        learns_nothing (one_goes s (Rows.field_type_of env is_known n s) t (is_sound k h) e (λ v i f m u. field_fits env W q C is_known n f (known_has a n is_known k d i) u)
        (layer W q (Expr-F.Field a n) (form.outs-Field a n) g))
    is_sound k (Typing.types_has a n {is_known} {s} {t} h d e) r g = record {
      fits = one_goes s (Rows.has_type env is_known n s) t (is_sound k h) e (λ v i f m u. has_fits env W q C is_known n f (known_has a n is_known k d i) u)
          (layer W q (Expr-F.Has a n) (form.outs-Has a n) g);
      learned = λ i. pair_learned t a n (subst (λ m. EvaluatesTo W q (form.Has a n) m) i g);
    }
    is_sound k (Typing.types_set xs {ts} {t} h e) r g = learns_nothing (set_goes ts t (each_is_sound k h) e (layer W q (Expr-F.Set xs) (form.outs-Set xs) g))
    is_sound k (Typing.types_record xs {ts} h) r g = learns_nothing (record_goes ts (each_is_sound k h) (layer W q (Expr-F.Record xs) (form.outs-Record xs) g))
    is_sound k (Typing.types_literal_call called a h f) r g = learns_nothing (reading_goes env W q C one f (layer W q (Expr-F.UnaryCall called a) (form.outs-UnaryCall called a) g))
    is_sound k (Typing.types_address_test called a {s} {t} i h e) r g =
        learns_nothing (one_goes s (Rows.address_test_type s) t (is_sound k h) e (λ v j f m u. address_fits i f u)
        (layer W q (Expr-F.UnaryCall called a) (form.outs-UnaryCall called a) g))
    is_sound k (Typing.types_call called a b {s} {t} {u} h f e) r g =
        learns_nothing (two_goes s t (Rows.call_type called s t) u (is_sound k h) (is_sound k f) e (λ v w i j m l. call_fits called i j l)
        (layer W q (Expr-F.BinaryCall called a b) (form.outs-BinaryCall called a b) g))

    each_is_sound : {K : CapabilityList} {xs : List Expr} {ts : List StaticType} → Present K → TypesEach env K xs ts
        → (m : Result (List PlainValue) EvalFault) → EachEvaluatesTo W q xs m → EachFit ts m
    each_is_sound k Typing.types_none _ rule.each_none = tt
    each_is_sound k (Typing.types_more h hs) _ (rule.each_more g gs) = ((is_sound k h _ g).fits, each_is_sound k hs _ gs)
    each_is_sound k (Typing.types_more h hs) _ (rule.each_fails g) = (is_sound k h _ g).fits
    each_is_sound k (Typing.types_more h hs) _ (rule.each_fails_later g gs) = each_is_sound k hs _ gs
