-- Operands are lower than the form that they stand in.
use Rattle.std.specs.Prelude.{◌≡◌, ℕ, ◌+◌, ◌<◌, ◌≤◌, max, List, [], ◌∷◌, ◌++◌, map, refl}
use Rattle.std.proofs.Common.{sym, ap, ◌∙◌, subst, arith}
use Rattle.grammar_core.specs.Size.{height, height_step, greatest, values_of}
use Rattle.grammar_core.specs.declared.expr.Named.{Named}
use Rattle.grammar_core.specs.declared.expr.Expr.{Expr}
use Rattle.grammar_core.specs.declared.expr.Expr.TheVariants as form
use Rattle.grammar_core.specs.declared.expr.Expr.TheOpen.{Expr-F}
use Rattle.grammar_core.specs.declared.expr.Expr.TheViews.{out-Expr}
use Rattle.grammar_core.proofs.Forms.{Cases, by_forms, field_all, fold_if, fold_and, fold_or, fold_unary, fold_binary}
use Rattle.grammar_core.proofs.Forms.{fold_field, fold_has, fold_set, fold_record, fold_unary_call, fold_binary_call}
use Rattle.typing.specs.Places.{operands_in, operands_of}

-- one of these is at most as high as the highest of them
among : (before rest : List Expr) (z : Expr) → height z ≤ greatest (map height (before ++ z ∷ rest))
among [] rest z = omega arith
among (x ∷ xs) rest z = let h = among xs rest z in omega (arith, h)

abbrev IsAbove : Expr → List Expr → Type 0
IsAbove x xs = (before rest : List Expr) (z : Expr) → xs ≡ before ++ z ∷ rest → height z < height x

is_above : (x : Expr) (xs : List Expr) → height x ≡ greatest (map height xs) + 1 → IsAbove x xs
is_above x xs h before rest z e =
    let k = among before rest z in
    let g : greatest (map height xs) ≡ greatest (map height (before ++ z ∷ rest)) = ap (λ ys. greatest (map height ys)) e in
    omega (arith, h, k, g)

-- the operands of x are those of this layer
at_layer : (x : Expr) (y : Expr-F Expr) → out-Expr x ≡ y → height x ≡ greatest (map height (operands_in y)) + 1
    → IsAbove x (operands_of x)
at_layer x y e h = subst (λ z. IsAbove x (operands_in z)) (sym e) (is_above x (operands_in y) h)

none_above : (x : Expr) (y : Expr-F Expr) → out-Expr x ≡ y → operands_in y ≡ [] → IsAbove x (operands_of x)
none_above x y e n = subst (λ z. IsAbove x (operands_in z)) (sym e) (λ before rest z h. absurd (not_none before rest z (sym n ∙ h)))
  where
    not_none : (before rest : List Expr) (z : Expr) → [] ≡ before ++ z ∷ rest → ⊥
    not_none [] rest z i = cc
    not_none (b ∷ bs) rest z i = cc

two_high : (m n : ℕ) → max m n + 1 ≡ max m (max n 0) + 1
two_high m n = omega arith

three_high : (m n k : ℕ) → max m (max n k) + 1 ≡ max m (max n (max k 0)) + 1
three_high m n k = omega arith

one_high : (m : ℕ) → m + 1 ≡ max m 0 + 1
one_high m = omega arith

values_high : (fs : List (Named Expr)) → values_of (map (field_all ℕ height_step) fs) ≡ map height (map (λ f. f.value) fs)
values_high [] = refl
values_high (f ∷ fs) = ap (λ ns. height f.value ∷ ns) (values_high fs)

lower_cases : Cases (λ x. IsAbove x (operands_of x))
lower_cases = record {
  literal = λ l. none_above (form.Literal l) (Expr-F.Literal l) (form.outs-Literal l) refl;
  variable = λ v. none_above (form.Variable v) (Expr-F.Variable v) (form.outs-Variable v) refl;
  if_form = λ a b c f g h. at_layer (form.If a b c) (Expr-F.If a b c) (form.outs-If a b c)
      (fold_if ℕ height_step a b c ∙ three_high (height a) (height b) (height c));
  and_form = λ a b f g. at_layer (form.And a b) (Expr-F.And a b) (form.outs-And a b)
      (fold_and ℕ height_step a b ∙ two_high (height a) (height b));
  or_form = λ a b f g. at_layer (form.Or a b) (Expr-F.Or a b) (form.outs-Or a b)
      (fold_or ℕ height_step a b ∙ two_high (height a) (height b));
  unary = λ op a f. at_layer (form.Unary op a) (Expr-F.Unary op a) (form.outs-Unary op a)
      (fold_unary ℕ height_step op a ∙ one_high (height a));
  binary = λ op a b f g. at_layer (form.Binary op a b) (Expr-F.Binary op a b) (form.outs-Binary op a b)
      (fold_binary ℕ height_step op a b ∙ two_high (height a) (height b));
  field = λ a k f. at_layer (form.Field a k) (Expr-F.Field a k) (form.outs-Field a k)
      (fold_field ℕ height_step a k ∙ one_high (height a));
  has = λ a k f. at_layer (form.Has a k) (Expr-F.Has a k) (form.outs-Has a k)
      (fold_has ℕ height_step a k ∙ one_high (height a));
  set = λ xs h. at_layer (form.Set xs) (Expr-F.Set xs) (form.outs-Set xs) (fold_set ℕ height_step xs);
  record_form = λ fs h. at_layer (form.Record fs) (Expr-F.Record fs) (form.outs-Record fs)
      (fold_record ℕ height_step fs ∙ ap (λ ns. greatest ns + 1) (values_high fs));
  unary_call = λ o a f. at_layer (form.UnaryCall o a) (Expr-F.UnaryCall o a) (form.outs-UnaryCall o a)
      (fold_unary_call ℕ height_step o a ∙ one_high (height a));
  binary_call = λ o a b f g. at_layer (form.BinaryCall o a b) (Expr-F.BinaryCall o a b) (form.outs-BinaryCall o a b)
      (fold_binary_call ℕ height_step o a b ∙ two_high (height a) (height b));
}

pub lower : (x : Expr) (before rest : List Expr) (z : Expr) → operands_of x ≡ before ++ z ∷ rest → height z < height x
lower x = by_forms (λ x. IsAbove x (operands_of x)) lower_cases x

-- the operands of this form
pub lower_at : (x : Expr) (y : Expr-F Expr) → out-Expr x ≡ y → (before rest : List Expr) (z : Expr)
    → operands_in y ≡ before ++ z ∷ rest → height z < height x
lower_at x y e before rest z h = lower x before rest z (ap operands_in e ∙ h)
