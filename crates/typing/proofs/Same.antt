-- Whether two expressions are equal is decided.
use Rattle.std.specs.Prelude.{◌≡◌, ℕ, ℤ, List, [], ◌∷◌, Bool, true, false, refl}
use Rattle.std.proofs.Common.{inl, inr, ap, sym, ◌∙◌}
use Rattle.std.proofs.lemmas.Bool.{cases_Bool, false≢true}
use Rattle.std.proofs.lemmas.Bool.Decides.{Decides-int_eq}
use Rattle.std.specs.Ordering.{int_eq, is_eq}
use Rattle.values.specs.declared.entity_uid.EntityUid.{EntityUid}
use Rattle.values.specs.Uids.{uid_cmp, uid_cmp-IsTotalOrder, uid_cmp-IsAntisymmetric, equal-is}
use Rattle.grammar_core.proofs.Forms.{Every, Cases, by_forms}
use Rattle.grammar_core.specs.declared.leaf.Literal.{Literal}
use Rattle.grammar_core.specs.declared.leaf.Literal.TheVariants as literal
use Rattle.grammar_core.specs.declared.leaf.Variable.{Variable}
use Rattle.grammar_core.specs.declared.leaf.Variable.TheVariants as variable
use Rattle.grammar_core.specs.declared.operator.Unary.{Unary}
use Rattle.grammar_core.specs.declared.operator.Unary.TheVariants as unary
use Rattle.grammar_core.specs.declared.operator.Binary.{Binary}
use Rattle.grammar_core.specs.declared.operator.Binary.TheVariants as binary
use Rattle.grammar_core.specs.declared.operator.UnaryCall.{UnaryCall}
use Rattle.grammar_core.specs.declared.operator.UnaryCall.TheVariants as unary_call
use Rattle.grammar_core.specs.declared.operator.BinaryCall.{BinaryCall}
use Rattle.grammar_core.specs.declared.operator.BinaryCall.TheVariants as binary_call
use Rattle.grammar_core.specs.declared.expr.Named.{Named}
use Rattle.grammar_core.specs.declared.expr.Expr.{Expr}
use Rattle.grammar_core.specs.declared.expr.Expr.TheVariants as form
use Rattle.grammar_core.specs.declared.expr.Expr.TheViews.{roll-Expr, out-Expr, roll-out-Expr}
use Rattle.grammar_core.specs.declared.expr.Expr.TheOpen.{Expr-F}
use Rattle.values.specs.extensions.Decided.{Decided}
use Rattle.values.specs.extensions.inner.Deciding.{decided_as, both_decided, text_decided}

abbrev pub two : {A B C : Type 0} (f : A → B → C) {a c : A} {b d : B} → a ≡ c → b ≡ d → f a b ≡ f c d
two f {a} {c} {b} {d} p q = ap (λ x. f x b) p ∙ ap (f c) q

abbrev pub three : {A B C D : Type 0} (f : A → B → C → D) {a d : A} {b e : B} {c g : C} → a ≡ d → b ≡ e → c ≡ g
    → f a b c ≡ f d e g
three f {a} {d} {b} {e} {c} {g} p q r = ap (λ x. f x b c) p ∙ (ap (λ x. f d x c) q ∙ ap (f d e) r)

three_decided : {P Q R : Type 0} → Decided P → Decided Q → Decided R → Decided (P × Q × R)
three_decided p q r = decided_as (λ h. (h.0, h.1.0, h.1.1)) (λ h. (h.0, (h.1, h.2))) (both_decided p (both_decided q r))

-- ---- leaves

truth_decided : (a b : Bool) → Decided (a ≡ b)
truth_decided true true = inl refl
truth_decided false false = inl refl
truth_decided a b = inr (λ e. cc)

integer_decided : (x y : ℤ) → Decided (x ≡ y)
integer_decided x y = elim (cases_Bool (int_eq x y)) [
  | inl e ↦ inl ((Decides-int_eq x y).0 e)
  | inr e ↦ inr (λ same. false≢true (sym e ∙ (Decides-int_eq x y).1 same))
]

pub uid_decided : (a b : EntityUid) → Decided (a ≡ b)
uid_decided a b =
    let i = equal-is uid_cmp-IsTotalOrder uid_cmp-IsAntisymmetric a b in
    elim (cases_Bool (is_eq (uid_cmp a b))) [
      | inl e ↦ inl (i.0 e)
      | inr e ↦ inr (λ same. false≢true (sym e ∙ i.1 same))
    ]

texts_decided : (ss ts : List (List ℕ)) → Decided (ss ≡ ts)
texts_decided [] [] = inl refl
texts_decided (s ∷ ss) (t ∷ ts) =
    decided_as (λ h. two (λ (x : List ℕ) (xs : List (List ℕ)). x ∷ xs) h.0 h.1) (λ e. (cc, cc))
    (both_decided (text_decided s t) (texts_decided ss ts))
texts_decided ss ts = inr (λ e. cc)

pub literal_decided : (l m : Literal) → Decided (l ≡ m)
literal_decided (literal.Boolean a) (literal.Boolean b) =
    decided_as (λ e. ap literal.Boolean e) (λ e. cc) (truth_decided a b)
literal_decided (literal.Long x) (literal.Long y) = decided_as (λ e. ap literal.Long e) (λ e. cc) (integer_decided x y)
literal_decided (literal.Text s) (literal.Text t) = decided_as (λ e. ap literal.Text e) (λ e. cc) (text_decided s t)
literal_decided (literal.Entity a) (literal.Entity b) =
    decided_as (λ e. ap literal.Entity e) (λ e. cc) (uid_decided a b)
literal_decided l m = inr (λ e. cc)

variable_decided : (x y : Variable) → Decided (x ≡ y)
variable_decided variable.Principal variable.Principal = inl refl
variable_decided variable.Action variable.Action = inl refl
variable_decided variable.Resource variable.Resource = inl refl
variable_decided variable.Context variable.Context = inl refl
variable_decided x y = inr (λ e. cc)

unary_decided : (o p : Unary) → Decided (o ≡ p)
unary_decided unary.Not unary.Not = inl refl
unary_decided unary.Negate unary.Negate = inl refl
unary_decided (unary.Like p) (unary.Like q) = decided_as (λ e. ap unary.Like e) (λ e. cc) (texts_decided p q)
unary_decided (unary.Is m) (unary.Is n) = decided_as (λ e. ap unary.Is e) (λ e. cc) (text_decided m n)
unary_decided o p = inr (λ e. cc)

binary_decided : (o p : Binary) → Decided (o ≡ p)
binary_decided binary.Equal binary.Equal = inl refl
binary_decided binary.In binary.In = inl refl
binary_decided binary.Less binary.Less = inl refl
binary_decided binary.LessOrEqual binary.LessOrEqual = inl refl
binary_decided binary.Add binary.Add = inl refl
binary_decided binary.Subtract binary.Subtract = inl refl
binary_decided binary.Multiply binary.Multiply = inl refl
binary_decided binary.Contains binary.Contains = inl refl
binary_decided binary.ContainsAll binary.ContainsAll = inl refl
binary_decided binary.ContainsAny binary.ContainsAny = inl refl
binary_decided o p = inr (λ e. cc)

unary_call_decided : (c d : UnaryCall) → Decided (c ≡ d)
unary_call_decided unary_call.Ip unary_call.Ip = inl refl
unary_call_decided unary_call.Decimal unary_call.Decimal = inl refl
unary_call_decided unary_call.IsIpv4 unary_call.IsIpv4 = inl refl
unary_call_decided unary_call.IsIpv6 unary_call.IsIpv6 = inl refl
unary_call_decided unary_call.IsLoopback unary_call.IsLoopback = inl refl
unary_call_decided unary_call.IsMulticast unary_call.IsMulticast = inl refl
unary_call_decided c d = inr (λ e. cc)

binary_call_decided : (c d : BinaryCall) → Decided (c ≡ d)
binary_call_decided binary_call.LessThan binary_call.LessThan = inl refl
binary_call_decided binary_call.LessThanOrEqual binary_call.LessThanOrEqual = inl refl
binary_call_decided binary_call.GreaterThan binary_call.GreaterThan = inl refl
binary_call_decided binary_call.GreaterThanOrEqual binary_call.GreaterThanOrEqual = inl refl
binary_call_decided binary_call.IsInRange binary_call.IsInRange = inl refl
binary_call_decided c d = inr (λ e. cc)

-- ---- forms

-- whether any expression equals x
abbrev IsDecided : Expr → Type 0
IsDecided x = (y : Expr) → Decided (x ≡ y)

-- it is decided of the form and its parts
by_layer : (x : Expr) (l : Expr-F Expr) → out-Expr x ≡ l → ((m : Expr-F Expr) → Decided (l ≡ m)) → IsDecided x
by_layer x l e d y =
    decided_as (λ h. sym (roll-out-Expr x) ∙ (ap roll-Expr (e ∙ h) ∙ roll-out-Expr y)) (λ h. sym e ∙ ap out-Expr h)
    (d (out-Expr y))

each_decided : (xs : List Expr) → Every IsDecided xs → (ys : List Expr) → Decided (xs ≡ ys)
each_decided [] h [] = inl refl
each_decided (x ∷ xs) h (y ∷ ys) =
    decided_as (λ e. two (λ (z : Expr) (zs : List Expr). z ∷ zs) e.0 e.1) (λ e. (cc, cc))
    (both_decided (h.0 y) (each_decided xs h.1 ys))
each_decided xs h ys = inr (λ e. cc)

named : List ℕ → Expr → Named Expr
named k x = record { name = k; value = x }

named_decided : (f g : Named Expr) → IsDecided f.value → Decided (f ≡ g)
unfolding named
named_decided f g h =
    decided_as (λ e. two named e.0 e.1) (λ e. (ap (λ x. x.name) e, ap (λ x. x.value) e))
    (both_decided (text_decided f.name g.name) (h g.value))

fields_decided : (fs : List (Named Expr)) → Every (λ f. IsDecided f.value) fs → (gs : List (Named Expr)) → Decided (fs ≡ gs)
fields_decided [] h [] = inl refl
fields_decided (f ∷ fs) h (g ∷ gs) =
    decided_as (λ e. two (λ (z : Named Expr) (zs : List (Named Expr)). z ∷ zs) e.0 e.1) (λ e. (cc, cc))
    (both_decided (named_decided f g h.0) (fields_decided fs h.1 gs))
fields_decided fs h gs = inr (λ e. cc)

at_literal : (l : Literal) (m : Expr-F Expr) → Decided (Expr-F.Literal l ≡ m)
at_literal l (Expr-F.Literal m) = decided_as (λ e. ap Expr-F.Literal e) (λ e. cc) (literal_decided l m)
at_literal l m = inr (λ e. cc)

at_variable : (x : Variable) (m : Expr-F Expr) → Decided (Expr-F.Variable x ≡ m)
at_variable x (Expr-F.Variable y) = decided_as (λ e. ap Expr-F.Variable e) (λ e. cc) (variable_decided x y)
at_variable x m = inr (λ e. cc)

at_if : (a b c : Expr) → IsDecided a → IsDecided b → IsDecided c → (m : Expr-F Expr) → Decided (Expr-F.If a b c ≡ m)
at_if a b c f g h (Expr-F.If d i j) =
    decided_as (λ e. three Expr-F.If e.0 e.1 e.2) (λ e. (cc, cc, cc)) (three_decided (f d) (g i) (h j))
at_if a b c f g h m = inr (λ e. cc)

at_and : (a b : Expr) → IsDecided a → IsDecided b → (m : Expr-F Expr) → Decided (Expr-F.And a b ≡ m)
at_and a b f g (Expr-F.And c d) = decided_as (λ e. two Expr-F.And e.0 e.1) (λ e. (cc, cc)) (both_decided (f c) (g d))
at_and a b f g m = inr (λ e. cc)

at_or : (a b : Expr) → IsDecided a → IsDecided b → (m : Expr-F Expr) → Decided (Expr-F.Or a b ≡ m)
at_or a b f g (Expr-F.Or c d) = decided_as (λ e. two Expr-F.Or e.0 e.1) (λ e. (cc, cc)) (both_decided (f c) (g d))
at_or a b f g m = inr (λ e. cc)

at_unary : (o : Unary) (a : Expr) → IsDecided a → (m : Expr-F Expr) → Decided (Expr-F.Unary o a ≡ m)
at_unary o a f (Expr-F.Unary p b) =
    decided_as (λ e. two Expr-F.Unary e.0 e.1) (λ e. (cc, cc)) (both_decided (unary_decided o p) (f b))
at_unary o a f m = inr (λ e. cc)

at_binary : (o : Binary) (a b : Expr) → IsDecided a → IsDecided b → (m : Expr-F Expr) → Decided (Expr-F.Binary o a b ≡ m)
at_binary o a b f g (Expr-F.Binary p c d) =
    decided_as (λ e. three Expr-F.Binary e.0 e.1 e.2) (λ e. (cc, cc, cc))
    (three_decided (binary_decided o p) (f c) (g d))
at_binary o a b f g m = inr (λ e. cc)

at_field : (a : Expr) (k : List ℕ) → IsDecided a → (m : Expr-F Expr) → Decided (Expr-F.Field a k ≡ m)
at_field a k f (Expr-F.Field b l) =
    decided_as (λ e. two Expr-F.Field e.0 e.1) (λ e. (cc, cc)) (both_decided (f b) (text_decided k l))
at_field a k f m = inr (λ e. cc)

at_has : (a : Expr) (k : List ℕ) → IsDecided a → (m : Expr-F Expr) → Decided (Expr-F.Has a k ≡ m)
at_has a k f (Expr-F.Has b l) =
    decided_as (λ e. two Expr-F.Has e.0 e.1) (λ e. (cc, cc)) (both_decided (f b) (text_decided k l))
at_has a k f m = inr (λ e. cc)

at_set : (xs : List Expr) → Every IsDecided xs → (m : Expr-F Expr) → Decided (Expr-F.Set xs ≡ m)
at_set xs h (Expr-F.Set ys) = decided_as (λ e. ap Expr-F.Set e) (λ e. cc) (each_decided xs h ys)
at_set xs h m = inr (λ e. cc)

at_record : (fs : List (Named Expr)) → Every (λ f. IsDecided f.value) fs → (m : Expr-F Expr) → Decided (Expr-F.Record fs ≡ m)
at_record fs h (Expr-F.Record gs) = decided_as (λ e. ap Expr-F.Record e) (λ e. cc) (fields_decided fs h gs)
at_record fs h m = inr (λ e. cc)

at_unary_call : (o : UnaryCall) (a : Expr) → IsDecided a → (m : Expr-F Expr) → Decided (Expr-F.UnaryCall o a ≡ m)
at_unary_call o a f (Expr-F.UnaryCall p b) =
    decided_as (λ e. two Expr-F.UnaryCall e.0 e.1) (λ e. (cc, cc)) (both_decided (unary_call_decided o p) (f b))
at_unary_call o a f m = inr (λ e. cc)

at_binary_call : (o : BinaryCall) (a b : Expr) → IsDecided a → IsDecided b → (m : Expr-F Expr)
    → Decided (Expr-F.BinaryCall o a b ≡ m)
at_binary_call o a b f g (Expr-F.BinaryCall p c d) =
    decided_as (λ e. three Expr-F.BinaryCall e.0 e.1 e.2) (λ e. (cc, cc, cc))
    (three_decided (binary_call_decided o p) (f c) (g d))
at_binary_call o a b f g m = inr (λ e. cc)

all_cases : Cases IsDecided
all_cases = record {
  literal = λ l. by_layer (form.Literal l) _ (form.outs-Literal l) (at_literal l);
  variable = λ x. by_layer (form.Variable x) _ (form.outs-Variable x) (at_variable x);
  if_form = λ a b c f g h. by_layer (form.If a b c) _ (form.outs-If a b c) (at_if a b c f g h);
  and_form = λ a b f g. by_layer (form.And a b) _ (form.outs-And a b) (at_and a b f g);
  or_form = λ a b f g. by_layer (form.Or a b) _ (form.outs-Or a b) (at_or a b f g);
  unary = λ o a f. by_layer (form.Unary o a) _ (form.outs-Unary o a) (at_unary o a f);
  binary = λ o a b f g. by_layer (form.Binary o a b) _ (form.outs-Binary o a b) (at_binary o a b f g);
  field = λ a k f. by_layer (form.Field a k) _ (form.outs-Field a k) (at_field a k f);
  has = λ a k f. by_layer (form.Has a k) _ (form.outs-Has a k) (at_has a k f);
  set = λ xs h. by_layer (form.Set xs) _ (form.outs-Set xs) (at_set xs h);
  record_form = λ fs h. by_layer (form.Record fs) _ (form.outs-Record fs) (at_record fs h);
  unary_call = λ o a f. by_layer (form.UnaryCall o a) _ (form.outs-UnaryCall o a) (at_unary_call o a f);
  binary_call = λ o a b f g. by_layer (form.BinaryCall o a b) _ (form.outs-BinaryCall o a b) (at_binary_call o a b f g);
}

-- equality of expressions is decided
pub same_decided : (x y : Expr) → Decided (x ≡ y)
same_decided x y = by_forms IsDecided all_cases x y
