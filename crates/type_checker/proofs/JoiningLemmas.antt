-- What leads from the parts of a whole to the next, and to what is judged of it.
use Rattle.std.proofs.Common.{◌≡◌, ◌≢◌, ◌<◌, ◌≤◌, ◌+◌, ◌++◌, ℕ, List, [], length, get_or, drop, Option, Some, None}
use Rattle.std.proofs.Common.{Result, Ok, Err, refl, sym, subst, ap, ◌∙◌}
use Rattle.std.proofs.lemmas.List.{drop_more, drop_all}
use Rattle.std.specs.Prelude.{IfOk, IfErr, MatchResult}
use Rattle.std.specs.Option.{option_map}
use Rattle.grammar_core.specs.declared.expr.Expr.{Expr}
use Rattle.grammar_core.specs.declared.expr.Expr.TheVariants as form
use Rattle.typing.specs.Types as types
use Rattle.typing.specs.Types.{IsBoolean}
use Rattle.typing.specs.Environment.{Environment}
use Rattle.typing.specs.Gained.{CapabilityList}
use Rattle.typing.specs.Rows.{and_type, MayBeTrue}
use Rattle.typing.specs.Rows as rows
use Rattle.typing.specs.Typing as typing
use Rattle.typing.specs.Typing.{Types}
use Rattle.typing.specs.Faults as faults
use Rattle.typing.specs.Faults.{Faults}
use Rattle.type_checker.specs.Views.{boolean_view, static_view}
use Rattle.typing.specs.declared.fault.TypeFault.{TypeFault}
use Rattle.typing.specs.declared.fault.TypeFault.TheVariants.{NoMemory, Unexpected}
use Rattle.type_checker.specs.declared.static_type.BooleanType.{BooleanType}
use Rattle.type_checker.specs.declared.static_type.StaticType.{StaticType}
use Rattle.type_checker.specs.declared.typed.Typed.{Typed}
use Rattle.type_checker.specs.Conjunctions.{joined}
use Rattle.type_capabilities.specs.CapabilityList.{capabilities}
use Rattle.type_checker.specs.inner.Joining as joining
use Rattle.type_checker.specs.inner.Joining.{and_so_far, IsSide, Leads}
use Rattle.type_checker.proofs.Carrying.{boolean_so}

-- the parts from this place on, joined
pub joined_from : (parts : List Expr) (last : Expr) (i : ℕ) (x : Expr) → i < length parts → x ≡ get_or parts i x
    → joined (drop i parts) last ≡ form.And x (joined (drop (i + 1) parts) last)
joined_from parts last i x lt e =
    ap (λ xs. joined xs last) (drop_more parts i x lt) ∙ ap (λ y. form.And y (joined (drop (i + 1) parts) last)) (sym e)

and_is_boolean : (s : types.StaticType) {t : types.StaticType} → MayBeTrue s → IsBoolean t → IsBoolean (and_type s t)
and_is_boolean s rows.surely types.is_true = types.is_true
and_is_boolean s rows.surely types.is_false = types.is_false
and_is_boolean s rows.surely types.is_either = types.is_either
and_is_boolean s rows.perhaps types.is_true = types.is_either
and_is_boolean s rows.perhaps types.is_false = types.is_false
and_is_boolean s rows.perhaps types.is_either = types.is_either

and_and : (r : types.StaticType) {s t : types.StaticType} → MayBeTrue s → IsBoolean t
    → and_type r (and_type s t) ≡ and_type (and_type r s) t
and_and types.true_type rows.surely types.is_true = refl
and_and r rows.surely types.is_true = refl
and_and r rows.surely types.is_false = refl
and_and r rows.surely types.is_either = refl
and_and r rows.perhaps types.is_true = refl
and_and r rows.perhaps types.is_false = refl
and_and r rows.perhaps types.is_either = refl

module _ (env : Environment) where
  pub leads_itself : (x : Expr) → Leads env None [] x x
  leads_itself x = record {
    types = λ t L h side. (L, h);
    no_side = λ t L h n. absurd (n joining.alone);
    faults = λ n h. h;
  }

  -- one more, which may be true
  pub leads_on : (s : Option types.StaticType) (K L : CapabilityList) (x y whole : Expr) (t : types.StaticType)
      → Leads env s K (form.And x y) whole → Types env K x t L → MayBeTrue t
      → Leads env (Some (and_so_far s t)) (K ++ L) y whole
  leads_on None K L x y whole t h g m = record {
    types = on_types;
    no_side = λ u M k n. h.faults Unexpected (faults.right_of_and_no_boolean x y g m k (λ i. n (joining.behind i)));
    faults = λ n k. h.faults n (faults.fault_right_of_and x y g m k);
  }
    where
      on_types : (u : types.StaticType) (M : CapabilityList) → Types env (K ++ L) y u M → IsSide (Some t) u
          → (N : CapabilityList) × Types env [] whole (and_type t u) N
      on_types u M k (joining.behind i) = h.types (and_type t u) (L ++ M) (typing.and_of_both x y g m k i) joining.alone
  leads_on (Some s) K L x y whole t h g m = record {
    types = on_types;
    no_side = λ u M k n. h.faults Unexpected (faults.right_of_and_no_boolean x y g m k (λ i. n (joining.behind i)));
    faults = λ n k. h.faults n (faults.fault_right_of_and x y g m k);
  }
    where
      on_types : (u : types.StaticType) (M : CapabilityList) → Types env (K ++ L) y u M → IsSide (Some (and_type s t)) u
          → (N : CapabilityList) × Types env [] whole (and_type (and_type s t) u) N
      on_types u M k (joining.behind i) =
          let w = h.types (and_type t u) (L ++ M) (typing.and_of_both x y g m k i) (joining.behind (and_is_boolean t m i)) in
          (w.0, subst (λ v. Types env [] whole v w.0) (and_and s m i) w.1)

  -- one that is False: the whole is
  pub leads_to_false : (s : Option types.StaticType) (K L : CapabilityList) (x y whole : Expr) → Leads env s K (form.And x y) whole
      → Types env K x types.false_type L → (M : CapabilityList) × Types env [] whole types.false_type M
  leads_to_false None K L x y whole h g = h.types types.false_type [] (typing.and_of_false x y g) joining.alone
  leads_to_false (Some s) K L x y whole h g =
      h.types types.false_type [] (typing.and_of_false x y g) (joining.behind types.is_false)

-- which type of booleans a left of `&&` has, by its type
pub left_so : (env : Environment) (K : CapabilityList) (a : Expr) (t : Typed) (mid after : CapabilityList)
    (r : Result BooleanType TypeFault) → mid ≡ K → Types env K a (static_view t.kind) (capabilities t.gains.items)
    → MatchResult r (λ b. (static_view t.kind ≡ boolean_view b) × (after ≡ mid ++ capabilities t.gains.items))
    (λ f. f ≢ NoMemory → (f ≡ Unexpected) × ¬ IsBoolean (static_view t.kind))
    → MatchResult r (λ b. (L : CapabilityList) × Types env K a (boolean_view b) L × (after ≡ K ++ L))
    (λ f. f ≢ NoMemory → (b : Expr) → Faults env K (form.And a b) f)
left_so env K a t mid after (Ok b) same h (e, g) = (
  capabilities t.gains.items,
  subst (λ s. Types env K a s (capabilities t.gains.items)) e h,
  g ∙ ap (λ M. M ++ capabilities t.gains.items) same,
)
left_so env K a t mid after (Err f) same h g = λ n b.
    let w = g n in
    subst (λ m. Faults env K (form.And a b) m) (sym w.0) (faults.left_of_and_no_boolean a b h w.1)

-- the last one behind others
pub side_so : (o : Option BooleanType) (b c r : BooleanType) (t u : types.StaticType) → o ≡ Some b → t ≡ boolean_view c
    → boolean_view r ≡ and_type (boolean_view b) (boolean_view c) → u ≡ boolean_view r
    → IsSide (option_map boolean_view o) t × (u ≡ and_so_far (option_map boolean_view o) t)
side_so o b c r t u e f g h =
    subst (λ p. IsSide (option_map boolean_view p) t × (u ≡ and_so_far (option_map boolean_view p) t)) (sym e)
    (joining.behind (boolean_so c f), h ∙ (g ∙ ap (λ s. and_type (boolean_view b) s) (sym f)))

pub alone_so : (o : Option BooleanType) (t : types.StaticType) → o ≡ None
    → IsSide (option_map boolean_view o) t × (t ≡ and_so_far (option_map boolean_view o) t)
alone_so o t e =
    subst (λ p. IsSide (option_map boolean_view p) t × (t ≡ and_so_far (option_map boolean_view p) t)) (sym e)
    (joining.alone, refl)

module _ (env : Environment) (s : Option types.StaticType) (K : CapabilityList) (parts : List Expr) (last whole : Expr) (i : ℕ) where
  -- the loop stands at a part
  pub at_part : (x : Expr) → i < length parts → x ≡ get_or parts i x → Leads env s K (joined (drop i parts) last) whole
      → Leads env s K (form.And x (joined (drop (i + 1) parts) last)) whole
  at_part x lt e h = subst (λ y. Leads env s K y whole) (joined_from parts last i x lt e) h

  -- the loop is past the last part
  pub at_last : length parts ≤ i → Leads env s K (joined (drop i parts) last) whole → Leads env s K last whole
  at_last le h = subst (λ xs. Leads env s K (joined xs last) whole) (drop_all i parts le) h

pub last_typed : (env : Environment) (s : Option types.StaticType) (K L : CapabilityList) (x whole : Expr) (t : types.StaticType)
    (r : Result StaticType TypeFault) → Leads env s K x whole → Types env K x t L
    → MatchResult r (λ u. IsSide s t × (static_view u ≡ and_so_far s t)) (λ f. (f ≡ Unexpected) × ¬ IsSide s t)
    → IfOk r (λ u. (M : CapabilityList) × Types env [] whole (static_view u) M)
last_typed env s K L x whole t (Ok u) h g (i, e) =
    let w = h.types t L g i in
    (w.0, subst (λ v. Types env [] whole v w.0) (sym e) w.1)
last_typed env s K L x whole t (Err f) h g e = tt

pub last_faulty : (env : Environment) (s : Option types.StaticType) (K L : CapabilityList) (x whole : Expr) (t : types.StaticType)
    (r : Result StaticType TypeFault) → Leads env s K x whole → Types env K x t L
    → MatchResult r (λ u. IsSide s t × (static_view u ≡ and_so_far s t)) (λ f. (f ≡ Unexpected) × ¬ IsSide s t)
    → IfErr r (λ f. f ≢ NoMemory → Faults env [] whole f)
last_faulty env s K L x whole t (Ok u) h g e = tt
last_faulty env s K L x whole t (Err f) h g (e, n) = λ m.
    subst (λ k. Faults env [] whole k) (sym e) (h.no_side t L g n)
