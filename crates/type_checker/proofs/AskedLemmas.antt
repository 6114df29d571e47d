-- What is judged of `a is T && a in b`, by what is judged of its left.
use Rattle.std.proofs.Common.{◌≡◌, ℕ, List, [], Bool, true, false, Result, Ok, Err, refl, sym, subst, ap, ◌∙◌}
use Rattle.std.specs.Prelude.{⊤}
use Rattle.std.specs.Str.{bytes_eq}
use Rattle.std.proofs.lemmas.List.{append-nil}
use Rattle.std.proofs.lemmas.Slice.Eq.{bytes_eq-Decides}
use Rattle.grammar_core.specs.declared.operator.Unary.{Unary}
use Rattle.grammar_core.specs.declared.operator.Unary.TheVariants.{Is}
use Rattle.grammar_core.specs.declared.expr.Expr.{Expr}
use Rattle.grammar_core.specs.declared.expr.Expr.TheVariants as form
use Rattle.grammar_core.specs.declared.expr.Expr.TheViews.{out-Expr}
use Rattle.grammar_core.specs.declared.expr.Expr.TheOpen.{Expr-F}
use Rattle.typing.specs.Types as types
use Rattle.typing.specs.Environment.{Environment}
use Rattle.typing.specs.declared.fault.TypeFault.TheVariants.{Unexpected}
use Rattle.typing.specs.Gained.{CapabilityList}
use Rattle.typing.specs.Rows.{Row, MayBeTrue, unary_type}
use Rattle.typing.specs.Typing as typing
use Rattle.typing.specs.Typing.{Types}
use Rattle.typing.specs.Faults.{Faults}
use Rattle.type_checker.specs.Views.{static_view}
use Rattle.typing.specs.declared.fault.TypeFault.{TypeFault}
use Rattle.type_checker.specs.declared.typed.Typed.{Typed}
use Rattle.type_capabilities.specs.CapabilityList.{capabilities}
use Rattle.type_checker.specs.inner.Judged.{Judged, JudgedUnder}
use Rattle.type_checker.specs.inner.RepeatedOperand.{MayBeTrueResult}

-- ---- what an operator with one operand says of it

module _ (env : Environment) where
  pub record OneHas (K : CapabilityList) (op : Unary) (a : Expr) (t : types.StaticType) (L : CapabilityList) : Type 0 where
    pub kind : types.StaticType
    pub learned : CapabilityList
    pub has_type : Types env K a kind learned
    pub row : unary_type op kind ≡ Ok t
    pub nothing : L ≡ []

  abbrev LayerHas : Expr-F Expr → CapabilityList → types.StaticType → CapabilityList → Type 0
  LayerHas (Expr-F.Unary op a) K t L = OneHas K op a t L
  LayerHas y K t L = ⊤

  at_layer : (x : Expr) (y : Expr-F Expr) (K : CapabilityList) (t : types.StaticType) (L : CapabilityList) → out-Expr x ≡ y → LayerHas y K t L
      → LayerHas (out-Expr x) K t L
  at_layer x y K t L e h = subst (λ z. LayerHas z K t L) (sym e) h

  layer_has : {K L : CapabilityList} {x : Expr} {t : types.StaticType} → Types env K x t L → LayerHas (out-Expr x) K t L
  layer_has (typing.types_literal l) = at_layer (form.Literal l) _ _ _ _ (form.outs-Literal l) tt
  layer_has (typing.types_variable x) = at_layer (form.Variable x) _ _ _ _ (form.outs-Variable x) tt
  layer_has (typing.types_unary {K} {L} op a {s} {t} h e) =
      at_layer (form.Unary op a) _ K t [] (form.outs-Unary op a)
      (record { kind = s; learned = L; has_type = h; row = e; nothing = refl })
  layer_has (typing.and_of_false a b h) = at_layer (form.And a b) _ _ _ _ (form.outs-And a b) tt
  layer_has (typing.and_of_both a b h p g i) = at_layer (form.And a b) _ _ _ _ (form.outs-And a b) tt
  layer_has (typing.or_of_true a b h) = at_layer (form.Or a b) _ _ _ _ (form.outs-Or a b) tt
  layer_has (typing.or_of_false a b h g i) = at_layer (form.Or a b) _ _ _ _ (form.outs-Or a b) tt
  layer_has (typing.or_of_both a b h g i l) = at_layer (form.Or a b) _ _ _ _ (form.outs-Or a b) tt
  layer_has (typing.if_of_true a b c h g) = at_layer (form.If a b c) _ _ _ _ (form.outs-If a b c) tt
  layer_has (typing.if_of_false a b c h g) = at_layer (form.If a b c) _ _ _ _ (form.outs-If a b c) tt
  layer_has (typing.if_of_both a b c h g i e l) = at_layer (form.If a b c) _ _ _ _ (form.outs-If a b c) tt
  layer_has (typing.types_decided op a b e) = at_layer (form.Binary op a b) _ _ _ _ (form.outs-Binary op a b) tt
  layer_has (typing.types_binary op a b n h g e) = at_layer (form.Binary op a b) _ _ _ _ (form.outs-Binary op a b) tt
  layer_has (typing.types_field a k h d e) = at_layer (form.Field a k) _ _ _ _ (form.outs-Field a k) tt
  layer_has (typing.types_has a k h d e) = at_layer (form.Has a k) _ _ _ _ (form.outs-Has a k) tt
  layer_has (typing.types_set xs h e) = at_layer (form.Set xs) _ _ _ _ (form.outs-Set xs) tt
  layer_has (typing.types_record xs h) = at_layer (form.Record xs) _ _ _ _ (form.outs-Record xs) tt
  layer_has (typing.types_literal_call called a h g) = at_layer (form.UnaryCall called a) _ _ _ _ (form.outs-UnaryCall called a) tt
  layer_has (typing.types_address_test called a i h e) = at_layer (form.UnaryCall called a) _ _ _ _ (form.outs-UnaryCall called a) tt
  layer_has (typing.types_call called a b h g e) = at_layer (form.BinaryCall called a b) _ _ _ _ (form.outs-BinaryCall called a b) tt

  pub one_has : {K L : CapabilityList} {t : types.StaticType} (op : Unary) (a : Expr) → Types env K (form.Unary op a) t L → OneHas K op a t L
  one_has {K} {L} {t} op a h = subst (λ z. LayerHas z K t L) (form.outs-Unary op a) (layer_has h)

-- ---- rows

abbrev one_row : types.StaticType → Row
one_row t = Ok t

abbrev no_row : Row
no_row = Err Unexpected

-- ---- a test for the type n that may be true is True, and its operand is of that type

pub record Found (env : Environment) (K : CapabilityList) (n : List ℕ) (x : Expr) (s : types.StaticType) : Type 0 where
  pub is_true : s ≡ types.true_type
  pub learned : CapabilityList
  pub operand : Types env K x (types.entity_type n) learned

ok_is : {s t : types.StaticType} → one_row s ≡ one_row t → s ≡ t
ok_is e = cc e

no_ok : {s : types.StaticType} → no_row ≡ one_row s → ⊥
no_ok e = absurd (cc e)

no_false : {s : types.StaticType} → s ≡ types.false_type → MayBeTrue s → ⊥
no_false e m = elim (subst MayBeTrue e m) [ ]

module _ (env : Environment) (K : CapabilityList) (n : List ℕ) (x : Expr) where
  found_at : (m : List ℕ) (M : CapabilityList) (b : Bool) {s : types.StaticType} → Types env K x (types.entity_type m) M
      → bytes_eq m n ≡ b → types.truth_type b ≡ s → MayBeTrue s → Found env K n x s
  found_at m M true h i e t = record {
    is_true = sym e;
    learned = M;
    operand = subst (λ k. Types env K x (types.entity_type k) M) ((bytes_eq-Decides m n).0 i) h;
  }
  found_at m M false h i e t = absurd (no_false (sym e) t)

  found_by : (k : types.StaticType) (M : CapabilityList) {s : types.StaticType} → Types env K x k M → unary_type (Is n) k ≡ one_row s
      → MayBeTrue s → Found env K n x s
  found_by (types.entity_type m) M h e t = found_at m M (bytes_eq m n) h refl (ok_is e) t
  found_by k M h e t = absurd (no_ok e)

  pub found : {s : types.StaticType} {L : CapabilityList} → OneHas env K (Is n) x s L → MayBeTrue s → Found env K n x s
  found o t = found_by o.kind o.learned o.has_type o.row t

-- ---- the right behind it

-- the same where nothing more is known
pub behind_nothing : (env : Environment) (K after : CapabilityList) (b : Expr) (r : Result Typed TypeFault) → Judged env K b r after
    → JudgedUnder env K [] b r after
behind_nothing env K after b (Ok t) h =
    let L = capabilities t.gains.items in
    (h.0, (L, subst (λ M. Types env M b (static_view t.kind) L) (sym (append-nil K)) h.1, refl))
behind_nothing env K after b (Err f) h = λ n. subst (λ M. Faults env M b f) (sym (append-nil K)) (h n)

-- what `&&` needs of a left that asks of the operand of its right
pub record AskedSo (env : Environment) (K mid : CapabilityList) (a x : Expr) (n : List ℕ) : Type 0 where
  pub same : mid ≡ K
  pub is_true : Types env K a types.true_type []
  pub learned : CapabilityList
  pub has_type : Types env K x (types.entity_type n) learned

pub asked_so : (env : Environment) (K mid : CapabilityList) (a x : Expr) (n : List ℕ) (r : Result Typed TypeFault)
    → a ≡ form.Unary (Is n) x → MayBeTrueResult r → Judged env K a r mid → AskedSo env K mid a x n
asked_so env K mid a x n (Ok t) e m h =
    let L = capabilities t.gains.items in
    let s = static_view t.kind in
    let o = one_has env (Is n) x (subst (λ z. Types env K z s L) e h.1) in
    let f = found env K n x o m in
    record {
      same = h.0;
      is_true = subst (λ M. Types env K a types.true_type M) o.nothing (subst (λ u. Types env K a u L) f.is_true h.1);
      learned = f.learned;
      has_type = f.operand;
    }
asked_so env K mid a x n (Err f) e m h = absurd m

-- ---- the answer

-- a test, by the equation of its form
pub asks_again : {left a y z : Expr} {op : Unary} {n : List ℕ} → left ≡ form.Unary op y → op ≡ Is n → z ≡ y → z ≡ a
    → left ≡ form.Unary (Is n) a
asks_again {y} {n} e f g h = e ∙ (ap (λ o. form.Unary o y) f ∙ ap (λ x. form.Unary (Is n) x) (sym g ∙ h))
