-- Reasoning about core expressions, one case a form: an induction, and the equations of a fold.
-- A function of expressions is a fold: `fold-Expr A step`, where `step : Expr-F A → A` says what a form gives whose
-- parts gave these. `fold-Expr` does not compute by itself; the equations below say what it is at each form.
use Rattle.std.specs.Prelude.{◌≡◌, ℕ, List, [], ◌∷◌, map}
use Rattle.std.proofs.Common.{sym, ap, ◌∙◌, subst}
use Rattle.grammar_core.specs.declared.leaf.Literal.{Literal}
use Rattle.grammar_core.specs.declared.leaf.Variable.{Variable}
use Rattle.grammar_core.specs.declared.operator.Unary.{Unary}
use Rattle.grammar_core.specs.declared.operator.Binary.{Binary}
use Rattle.grammar_core.specs.declared.operator.UnaryCall.{UnaryCall}
use Rattle.grammar_core.specs.declared.operator.BinaryCall.{BinaryCall}
use Rattle.grammar_core.specs.declared.expr.Named.{Named}
use Rattle.grammar_core.specs.declared.expr.Expr.{Expr}
use Rattle.grammar_core.specs.declared.expr.Expr.TheVariants as form
use Rattle.grammar_core.specs.declared.expr.Expr.TheViews.{roll-Expr}
use Rattle.grammar_core.specs.declared.expr.Expr.TheOpen.{Expr-F}
use Rattle.grammar_core.specs.declared.expr.Expr.TheFolds.{map-Expr, fold-Expr, fold-roll-Expr, ind-Expr}

-- P holds of each of these
abbrev pub Every : {X : Type 0} → (X → Type 0) → List X → Type 0
Every P [] = Unit {0}
Every P (x ∷ xs) = P x × Every P xs

-- P holds of each form, if it holds of the form's parts
pub record Cases (P : Expr → Type 0) : Type 0 where
  pub literal : (value : Literal) → P (form.Literal value)
  pub variable : (variable : Variable) → P (form.Variable variable)
  pub if_form : (a b c : Expr) → P a → P b → P c → P (form.If a b c)
  pub and_form : (a b : Expr) → P a → P b → P (form.And a b)
  pub or_form : (a b : Expr) → P a → P b → P (form.Or a b)
  pub unary : (operator : Unary) (a : Expr) → P a → P (form.Unary operator a)
  pub binary : (operator : Binary) (a b : Expr) → P a → P b → P (form.Binary operator a b)
  pub field : (a : Expr) (name : List ℕ) → P a → P (form.Field a name)
  pub has : (a : Expr) (name : List ℕ) → P a → P (form.Has a name)
  pub set : (xs : List Expr) → Every P xs → P (form.Set xs)
  pub record_form : (fs : List (Named Expr)) → Every (λ f. P f.value) fs → P (form.Record fs)
  pub unary_call : (called : UnaryCall) (a : Expr) → P a → P (form.UnaryCall called a)
  pub binary_call : (called : BinaryCall) (a b : Expr) → P a → P b → P (form.BinaryCall called a b)

module _ (P : Expr → Type 0) (cases : Cases P) where
  abbrev Proved : Type 0
  Proved = (x : Expr) × P x

  abbrev plain : Expr-F Proved → Expr-F Expr
  plain y = map-Expr Proved Expr (λ e. e.0) y

  every : (ys : List Proved) → Every P (map {A = Proved} {B = Expr} (λ e. e.0) ys)
  every [] = tt
  every (y ∷ ys) = (y.1, every ys)

  every_field : (ys : List (Named Proved))
      → Every (λ f. P f.value) (map {A = Named Proved} {B = Named Expr}
      (λ f. record { name = f.name; value = f.value.0 }) ys)
  every_field [] = tt
  every_field (y ∷ ys) = (y.value.1, every_field ys)

  one_form : (y : Expr-F Proved) → P (roll-Expr (plain y))
  one_form (Expr-F.Literal value) = subst P (sym (form.rolls-Literal value)) (cases.literal value)
  one_form (Expr-F.Variable variable) = subst P (sym (form.rolls-Variable variable)) (cases.variable variable)
  one_form (Expr-F.If a b c) = subst P (sym (form.rolls-If a.0 b.0 c.0)) (cases.if_form a.0 b.0 c.0 a.1 b.1 c.1)
  one_form (Expr-F.And a b) = subst P (sym (form.rolls-And a.0 b.0)) (cases.and_form a.0 b.0 a.1 b.1)
  one_form (Expr-F.Or a b) = subst P (sym (form.rolls-Or a.0 b.0)) (cases.or_form a.0 b.0 a.1 b.1)
  one_form (Expr-F.Unary operator a) = subst P (sym (form.rolls-Unary operator a.0)) (cases.unary operator a.0 a.1)
  one_form (Expr-F.Binary operator a b) =
      subst P (sym (form.rolls-Binary operator a.0 b.0)) (cases.binary operator a.0 b.0 a.1 b.1)
  one_form (Expr-F.Field a name) = subst P (sym (form.rolls-Field a.0 name)) (cases.field a.0 name a.1)
  one_form (Expr-F.Has a name) = subst P (sym (form.rolls-Has a.0 name)) (cases.has a.0 name a.1)
  one_form (Expr-F.Set ys) = subst P (sym (form.rolls-Set _)) (cases.set _ (every ys))
  one_form (Expr-F.Record ys) = subst P (sym (form.rolls-Record _)) (cases.record_form _ (every_field ys))
  one_form (Expr-F.UnaryCall called a) =
      subst P (sym (form.rolls-UnaryCall called a.0)) (cases.unary_call called a.0 a.1)
  one_form (Expr-F.BinaryCall called a b) =
      subst P (sym (form.rolls-BinaryCall called a.0 b.0)) (cases.binary_call called a.0 b.0 a.1 b.1)

  -- what holds of each form over parts of which it holds, holds of all expressions
  pub by_forms : (x : Expr) → P x
  by_forms x = ind-Expr P (λ d y e. subst (λ z. P (roll-Expr z)) e (one_form y)) x

-- a fold at each form
module _ (A : Type 0) (step : Expr-F A → A) where
  abbrev all : Expr → A
  all = fold-Expr A step

  pub fold_literal : (value : Literal) → all (form.Literal value) ≡ step (Expr-F.Literal value)
  fold_literal value = ap all (sym (form.rolls-Literal value)) ∙ fold-roll-Expr A step (Expr-F.Literal value)

  pub fold_variable : (variable : Variable) → all (form.Variable variable) ≡ step (Expr-F.Variable variable)
  fold_variable variable = ap all (sym (form.rolls-Variable variable))
      ∙ fold-roll-Expr A step (Expr-F.Variable variable)

  pub fold_if : (a b c : Expr) → all (form.If a b c) ≡ step (Expr-F.If (all a) (all b) (all c))
  fold_if a b c = ap all (sym (form.rolls-If a b c)) ∙ fold-roll-Expr A step (Expr-F.If a b c)

  pub fold_and : (a b : Expr) → all (form.And a b) ≡ step (Expr-F.And (all a) (all b))
  fold_and a b = ap all (sym (form.rolls-And a b)) ∙ fold-roll-Expr A step (Expr-F.And a b)

  pub fold_or : (a b : Expr) → all (form.Or a b) ≡ step (Expr-F.Or (all a) (all b))
  fold_or a b = ap all (sym (form.rolls-Or a b)) ∙ fold-roll-Expr A step (Expr-F.Or a b)

  pub fold_unary : (operator : Unary) (a : Expr) → all (form.Unary operator a) ≡ step (Expr-F.Unary operator (all a))
  fold_unary operator a = ap all (sym (form.rolls-Unary operator a)) ∙ fold-roll-Expr A step (Expr-F.Unary operator a)

  pub fold_binary : (operator : Binary) (a b : Expr)
      → all (form.Binary operator a b) ≡ step (Expr-F.Binary operator (all a) (all b))
  fold_binary operator a b = ap all (sym (form.rolls-Binary operator a b))
      ∙ fold-roll-Expr A step (Expr-F.Binary operator a b)

  pub fold_field : (a : Expr) (name : List ℕ) → all (form.Field a name) ≡ step (Expr-F.Field (all a) name)
  fold_field a name = ap all (sym (form.rolls-Field a name)) ∙ fold-roll-Expr A step (Expr-F.Field a name)

  pub fold_has : (a : Expr) (name : List ℕ) → all (form.Has a name) ≡ step (Expr-F.Has (all a) name)
  fold_has a name = ap all (sym (form.rolls-Has a name)) ∙ fold-roll-Expr A step (Expr-F.Has a name)

  pub fold_set : (xs : List Expr) → all (form.Set xs) ≡ step (Expr-F.Set (map all xs))
  fold_set xs = ap all (sym (form.rolls-Set xs)) ∙ fold-roll-Expr A step (Expr-F.Set xs)

  -- a field whose value was folded
  abbrev pub field_all : Named Expr → Named A
  field_all f = record { name = f.name; value = all f.value }

  pub fold_record : (fs : List (Named Expr)) → all (form.Record fs) ≡ step (Expr-F.Record (map field_all fs))
  fold_record fs = ap all (sym (form.rolls-Record fs)) ∙ fold-roll-Expr A step (Expr-F.Record fs)

  pub fold_unary_call : (called : UnaryCall) (a : Expr)
      → all (form.UnaryCall called a) ≡ step (Expr-F.UnaryCall called (all a))
  fold_unary_call called a = ap all (sym (form.rolls-UnaryCall called a))
      ∙ fold-roll-Expr A step (Expr-F.UnaryCall called a)

  pub fold_binary_call : (called : BinaryCall) (a b : Expr)
      → all (form.BinaryCall called a b) ≡ step (Expr-F.BinaryCall called (all a) (all b))
  fold_binary_call called a b = ap all (sym (form.rolls-BinaryCall called a b))
      ∙ fold-roll-Expr A step (Expr-F.BinaryCall called a b)
