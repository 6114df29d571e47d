-- What is judged of a form, by what is judged of its operands.
use Rattle.std.proofs.Common.{◌≡◌, ◌≢◌, ◌⊎◌, ◌++◌, List, [], map, Result, Ok, Err, Option, Some, None, refl, sym, subst}
use Rattle.std.proofs.Common.{inl, inr}
use Rattle.std.specs.Prelude.{Vec, IfOk, MatchResult}
use Rattle.std.specs.Option.{option_map}
use Rattle.std.specs.declared.alloc.Global.{Global}
use Rattle.grammar_core.specs.declared.operator.UnaryCall.{UnaryCall}
use Rattle.grammar_core.specs.declared.expr.Expr.{Expr}
use Rattle.grammar_core.specs.declared.expr.Expr.TheVariants as form
use Rattle.typing.specs.evaluator.Operators.{TakesAddress}
use Rattle.typing.specs.Types as types
use Rattle.typing.specs.Environment.{Environment}
use Rattle.typing.specs.Gained as gained
use Rattle.typing.specs.Gained.{CapabilityList, has_gains}
use Rattle.typing.specs.Literals.{ReadsLiteral, TakesText}
use Rattle.typing.specs.Rows as rows
use Rattle.typing.specs.Rows.{Row}
use Rattle.typing.specs.Typing as typing
use Rattle.typing.specs.Typing.{Types, TypesEach}
use Rattle.typing.specs.Faults as faults
use Rattle.typing.specs.Faults.{Faults, FaultsEach}
use Rattle.type_checker.specs.Views.{static_view, boolean_view, Answers}
use Rattle.type_checker.specs.declared.static_type.StaticType.{StaticType}
use Rattle.type_checker.specs.declared.static_type.BooleanType.{BooleanType}
use Rattle.type_checker.specs.declared.static_type.BooleanType.TheVariants as truth
use Rattle.typing.specs.declared.fault.TypeFault.{TypeFault}
use Rattle.typing.specs.declared.fault.TypeFault.TheVariants as fault
use Rattle.typing.specs.declared.fault.TypeFault.TheVariants.{NoMemory, NoCommonType}
use Rattle.type_checker.specs.declared.typed.Typed.{Typed}
use Rattle.type_checker.specs.declared.typed.Then.{Then}
use Rattle.type_checker.specs.declared.typed.Then.TheVariants as then
use Rattle.type_capabilities.specs.CapabilityList.{capabilities}
use Rattle.type_checker.specs.inner.Judged.{Judged, JudgedUnder, JudgedEach, JudgedMembers, MembersHave, ThenTyped}
use Rattle.type_checker.specs.inner.Judged.{ThenJudged, ThenIs, IsBranch, IsRow, IsHasRow, CallTyped}

pub is_boolean_view : (b : BooleanType) → types.IsBoolean (boolean_view b)
is_boolean_view truth.True = types.is_true
is_boolean_view truth.False = types.is_false
is_boolean_view truth.Either = types.is_either

pub boolean_so : {t : types.StaticType} (b : BooleanType) → t ≡ boolean_view b → types.IsBoolean t
boolean_so b e = subst types.IsBoolean (sym e) (is_boolean_view b)

-- what the common type of two branches is, and what is made of it

abbrev CommonIs : {B : Type 0} → Typed → Typed → Result (Option StaticType) B → Type 0
CommonIs s t r = IfOk r (λ o. option_map static_view o ≡ types.common (static_view s.kind) (static_view t.kind))

abbrev KindOf : {B : Type 0} → Result (Option StaticType) B → Result StaticType TypeFault → Type 0
KindOf joined kind = MatchResult kind (λ t. joined ≡ Ok (Some t)) (λ f. f ≢ NoMemory → (f ≡ NoCommonType) × (joined ≡ Ok None))

module _ (env : Environment) (K after : CapabilityList) where
  pub typed_so : (a : Expr) {r : Result Typed TypeFault} {t : Typed} → r ≡ Ok t → Judged env K a r after
      → (after ≡ K) × Types env K a (static_view t.kind) (capabilities t.gains.items)
  typed_so a e h = subst (λ r. Judged env K a r after) e h

  -- the same, of a kind that is told
  pub has_kind : (a : Expr) {r : Result Typed TypeFault} {t : Typed} {s : types.StaticType} → r ≡ Ok t → static_view t.kind ≡ s
      → Judged env K a r after → (after ≡ K) × Types env K a s (capabilities t.gains.items)
  has_kind a {t} e k h =
      let g = typed_so a e h in
      (g.0, subst (λ s. Types env K a s (capabilities t.gains.items)) k g.1)

  pub faulty_so : (a : Expr) {r : Result Typed TypeFault} {f : TypeFault} → r ≡ Err f → Judged env K a r after
      → f ≢ NoMemory → Faults env K a f
  faulty_so a e h = subst (λ r. Judged env K a r after) e h

  pub behind_so : (L : CapabilityList) (a : Expr) {r : Result Typed TypeFault} {t : Typed} → r ≡ Ok t
      → JudgedUnder env K L a r after
      → (after ≡ K) × ((M : CapabilityList) × Types env (K ++ L) a (static_view t.kind) M × (capabilities t.gains.items ≡ L ++ M))
  behind_so L a e h = subst (λ r. JudgedUnder env K L a r after) e h

  pub behind_faulty : (L : CapabilityList) (a : Expr) {r : Result Typed TypeFault} {f : TypeFault} → r ≡ Err f
      → JudgedUnder env K L a r after → f ≢ NoMemory → Faults env (K ++ L) a f
  behind_faulty L a e h = subst (λ r. JudgedUnder env K L a r after) e h

  pub each_so : (xs : List Expr) {r : Result (Vec StaticType Global) TypeFault} {ts : Vec StaticType Global} → r ≡ Ok ts
      → JudgedEach env K xs r after → (after ≡ K) × TypesEach env K xs (map static_view ts.items)
  each_so xs e h = subst (λ r. JudgedEach env K xs r after) e h

  pub members_so : (xs : List Expr) {r : Result (Vec StaticType Global) TypeFault} {ts : Vec StaticType Global} → r ≡ Ok ts
      → JudgedMembers env K xs r after → (after ≡ K) × MembersHave env K xs (map static_view ts.items)
  members_so xs e h = subst (λ r. JudgedMembers env K xs r after) e h

  pub members_faulty : (xs : List Expr) {r : Result (Vec StaticType Global) TypeFault} {f : TypeFault} → r ≡ Err f
      → JudgedMembers env K xs r after → f ≢ NoMemory → FaultsEach env K xs f
  members_faulty xs e h = subst (λ r. JudgedMembers env K xs r after) e h

  pub each_faulty : (xs : List Expr) {r : Result (Vec StaticType Global) TypeFault} {f : TypeFault} → r ≡ Err f
      → JudgedEach env K xs r after → f ≢ NoMemory → FaultsEach env K xs f
  each_faulty xs e h = subst (λ r. JudgedEach env K xs r after) e h

  -- a type that learns nothing
  pub plain_judged : (x : Expr) {t : types.StaticType} (p : Typed) → static_view p.kind ≡ t → p.gains.items ≡ []
      → after ≡ K → Types env K x t [] → Judged env K x (Ok p) after
  plain_judged x {t} p e l same h =
      (same, subst (λ u. Types env K x u (capabilities p.gains.items)) (sym e) (subst (λ ps. Types env K x t (capabilities ps)) (sym l) h))

  -- a row's type or fault
  pub row_judged : (x : Expr) (j : Row) (row : Result StaticType TypeFault) (r : Result Typed TypeFault)
      → Answers row j → IsRow row r → after ≡ K → ((t : types.StaticType) → j ≡ Ok t → Types env K x t [])
      → ((n : TypeFault) → j ≡ Err n → Faults env K x n) → Judged env K x r after
  row_judged x j row (Ok t) a (e, l) same f g =
      plain_judged x t refl l same (f (static_view t.kind) (subst (λ q. Answers q j) e a))
  row_judged x j row (Err n) a e same f g = λ h. g n (subst (λ q. Answers q j) e a h)

  pub has_judged : (x : Expr) (p : gained.Capability) (j : Row) (row : Result StaticType TypeFault)
      (r : Result Typed TypeFault) → Answers row j → IsHasRow p row r → after ≡ K
      → ((t : types.StaticType) → j ≡ Ok t → Types env K x t (has_gains t p))
      → ((n : TypeFault) → j ≡ Err n → Faults env K x n) → Judged env K x r after
  has_judged x p j row (Ok t) a (e, l) same f g =
      (same, subst (λ L. Types env K x (static_view t.kind) L) (sym l) (f (static_view t.kind) (subst (λ q. Answers q j) e a)))
  has_judged x p j row (Err n) a e same f g = λ h. g n (subst (λ q. Answers q j) (e h) a h)

  -- a call with one operand
  call_typed : (called : UnaryCall) (a : Expr) {s t : types.StaticType} {L : CapabilityList} → Types env K a s L
      → ReadsLiteral called a t ⊎ (TakesAddress called × (rows.address_test_type s ≡ Ok t))
      → Types env K (form.UnaryCall called a) t []
  call_typed called a h (inl g) = typing.types_literal_call called a h g
  call_typed called a h (inr g) = typing.types_address_test called a g.0 h g.1

  call_faulty : (called : UnaryCall) (a : Expr) {s : types.StaticType} {L : CapabilityList} (n : TypeFault)
      → Types env K a s L
      → (TakesText called × ((t : types.StaticType) → ¬ ReadsLiteral called a t) × (n ≡ fault.BadExtensionLiteral))
      ⊎ (TakesAddress called × (rows.address_test_type s ≡ Err n))
      → Faults env K (form.UnaryCall called a) n
  call_faulty called a n h (inl g) =
      subst (λ m. Faults env K (form.UnaryCall called a) m) (sym g.2) (faults.no_literal called a g.0 h g.1)
  call_faulty called a n h (inr g) = faults.fault_of_address_test called a g.0 h g.1

  pub call_judged : (called : UnaryCall) (a : Expr) (s : types.StaticType) (L : CapabilityList) (row : Result StaticType TypeFault)
      (r : Result Typed TypeFault) → CallTyped called a s row → IsRow row r → after ≡ K → Types env K a s L
      → Judged env K (form.UnaryCall called a) r after
  call_judged called a s L row (Ok t) c (e, l) same h =
      plain_judged (form.UnaryCall called a) t refl l same (call_typed called a h (subst (λ q. CallTyped called a s q) e c))
  call_judged called a s L row (Err n) c e same h =
      λ m. call_faulty called a n h (subst (λ q. CallTyped called a s q) e c m)

  -- `&&`, whose right is a boolean
  pub and_judged : (a b : Expr) {s t u : types.StaticType} {L M N : CapabilityList} → Types env K a s L → rows.MayBeTrue s
      → Types env (K ++ L) b t M → types.IsBoolean t → u ≡ rows.and_type s t → N ≡ L ++ M → Types env K (form.And a b) u N
  and_judged a b {s} {t} {u} {L} {M} {N} h m g i e f =
      subst (λ v. Types env K (form.And a b) v N) (sym e)
      (subst (λ P. Types env K (form.And a b) (rows.and_type s t) P) (sym f) (typing.and_of_both a b h m g i))

  -- `||`, whose right is a boolean
  pub or_judged : (a b : Expr) (r : BooleanType) {t u : types.StaticType} {L M N : CapabilityList}
      → Types env K a types.boolean_type L → Types env K b t M → t ≡ boolean_view r → u ≡ rows.or_type (boolean_view r)
      → gained.OrGains (boolean_view r) L M N → Types env K (form.Or a b) u N
  or_judged a b r {t} {u} {L} {M} {N} h g e f l =
      let right = subst (λ s. Types env K b s M) e g in
      subst (λ s. Types env K (form.Or a b) s N) (sym f) (typing.or_of_both a b h right (is_boolean_view r) l)

  -- `if`, whose branches have a common type
  pub if_judged : (a b c : Expr) {s t u v : types.StaticType} {L M N P B : CapabilityList} → Types env K a types.boolean_type L
      → Types env (K ++ L) b s M → Types env K c t N → v ≡ u → Some u ≡ types.common s t → P ≡ L ++ M
      → gained.InBoth N P B → Types env K (form.If a b c) v B
  if_judged a b c {s} {t} {u} {v} {L} {M} {N} {P} {B} h g i e f l k =
      subst (λ w. Types env K (form.If a b c) w B) (sym e)
      (typing.if_of_both a b c h g i (sym f) (subst (λ Q. gained.InBoth N Q B) l k))

  -- `if` behind both branches
  pub branches_judged : {B : Type 0} (a b x : Expr) (then_is other : Typed) (joined : Result (Option StaticType) B)
      (kind : Result StaticType TypeFault) (r : Result Typed TypeFault) → ThenTyped env K a b types.boolean_type then_is
      → Types env K x (static_view other.kind) (capabilities other.gains.items)
      → IfOk joined (λ o. option_map static_view o ≡ types.common (static_view then_is.kind) (static_view other.kind))
      → MatchResult kind (λ t. joined ≡ Ok (Some t)) (λ f. f ≢ NoMemory → (f ≡ NoCommonType) × (joined ≡ Ok None))
      → MatchResult r
      (λ t. (kind ≡ Ok t.kind) × gained.InBoth (capabilities other.gains.items) (capabilities then_is.gains.items) (capabilities t.gains.items))
      (λ f. f ≢ NoMemory → kind ≡ Err f) → after ≡ K → Judged env K (form.If a b x) r after
  branches_judged {B} a b x then_is other joined kind (Ok t) h g c k (e, l) same =
      let found = subst (λ q. KindOf joined q) e k in
      (same, if_judged a b x h.2 h.3 g refl (subst (λ q. CommonIs then_is other q) found c) h.4 l)
  branches_judged {B} a b x then_is other joined kind (Err f) h g c k e same = λ n.
      let none = subst (λ q. KindOf joined q) (e n) k n in
      let differ = subst (λ q. CommonIs then_is other q) none.1 c in
      subst (λ m. Faults env K (form.If a b x) m) (sym none.0) (faults.branches_differ a b x h.2 h.3 g (sym differ))

-- a boolean that is not True nor Bool
pub false_so : (b : BooleanType) → ¬ rows.MayBeTrue (boolean_view b) → boolean_view b ≡ types.false_type
false_so truth.True n = absurd (n rows.surely)
false_so truth.Either n = absurd (n rows.perhaps)
false_so truth.False n = refl

pub none_learned : (t : types.StaticType) (p : gained.Capability) → ¬ types.IsBoolean t → has_gains t p ≡ []
none_learned types.boolean_type p n = absurd (n types.is_either)
none_learned t p n = refl

-- the same of the pairs that were known before

pub moved : (env : Environment) (x : Expr) (after : CapabilityList) (r : Result Typed TypeFault) {K M : CapabilityList} → M ≡ K
    → Judged env M x r after → Judged env K x r after
moved env x after r e h = subst (λ N. Judged env N x r after) e h

pub behind_moved : (env : Environment) (x : Expr) (L after : CapabilityList) (r : Result Typed TypeFault) {K M : CapabilityList} → M ≡ K
    → JudgedUnder env M L x r after → JudgedUnder env K L x r after
behind_moved env x L after r e h = subst (λ N. JudgedUnder env N L x r after) e h

-- of an expression that is this form
pub at_form : (env : Environment) (K after : CapabilityList) (r : Result Typed TypeFault) {x y : Expr} → x ≡ y
    → Judged env K y r after → Judged env K x r after
at_form env K after r e h = subst (λ z. Judged env K z r after) (sym e) h

-- `if` behind its test

pub then_so : (env : Environment) (K after : CapabilityList) (a b : Expr) {r : Result Then TypeFault} {t : Then} → r ≡ Ok t
    → ThenJudged env K a b r after → (after ≡ K) × ThenIs env K a b t
then_so env K after a b e h = subst (λ r. ThenJudged env K a b r after) e h

pub then_faulty : (env : Environment) (K after : CapabilityList) (a b : Expr) {r : Result Then TypeFault} {f : TypeFault} → r ≡ Err f
    → ThenJudged env K a b r after → f ≢ NoMemory → (c : Expr) → Faults env K (form.If a b c) f
then_faulty env K after a b e h = subst (λ r. ThenJudged env K a b r after) e h

pub then_only : (env : Environment) (K L after : CapabilityList) (a b : Expr) (j : Result Typed TypeFault) (r : Result Then TypeFault)
    → IsBranch (λ t. then.Only t) j r → Types env K a types.true_type L → JudgedUnder env K L b j after
    → ThenJudged env K a b r after
then_only env K L after a b j (Ok t) (u, e, f) h g =
    let s = behind_so env K after L b e g in
    (s.0, subst (ThenIs env K a b) (sym f) (L, s.1.0, h, s.1.1, s.1.2))
then_only env K L after a b j (Err f) e h g = λ n c. faults.fault_in_then a b c h rows.surely (behind_faulty env K after L b e g n)

pub then_both : (env : Environment) (K L after : CapabilityList) (a b : Expr) (j : Result Typed TypeFault) (r : Result Then TypeFault)
    → IsBranch (λ t. then.Both t) j r → Types env K a types.boolean_type L → JudgedUnder env K L b j after
    → ThenJudged env K a b r after
then_both env K L after a b j (Ok t) (u, e, f) h g =
    let s = behind_so env K after L b e g in
    (s.0, subst (ThenIs env K a b) (sym f) (L, s.1.0, h, s.1.1, s.1.2))
then_both env K L after a b j (Err f) e h g = λ n c. faults.fault_in_then a b c h rows.perhaps (behind_faulty env K after L b e g n)

pub else_only : (env : Environment) (K L after : CapabilityList) (a b c : Expr) (r : Result Typed TypeFault)
    → Types env K a types.false_type L → Judged env K c r after → Judged env K (form.If a b c) r after
else_only env K L after a b c (Ok t) h g = (g.0, typing.if_of_false a b c h g.1)
else_only env K L after a b c (Err f) h g = λ n. faults.fault_in_only_else a b c h (g n)
