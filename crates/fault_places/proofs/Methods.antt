-- What a call of a method means, by the kind of the method.
use Rattle.std.proofs.Common.{◌≡◌, ℕ, List, [], ◌∷◌, Option, Some, None, refl, sym, subst}
use Rattle.grammar_core.specs.declared.expr.Expr.{Expr}
use Rattle.grammar_core.specs.declared.expr.Expr.TheVariants as core
use Rattle.grammar_core.specs.declared.operator.Binary.{Binary}
use Rattle.grammar_core.specs.declared.operator.BinaryCall.{BinaryCall}
use Rattle.grammar_core.specs.declared.operator.UnaryCall.{UnaryCall}
use Rattle.policy_grammar.specs.grammar_desugaring.Core.{method_called, no_call}
use Rattle.grammar_core.specs.Operators.{method_of}
use Rattle.grammar_core.specs.declared.operator.Method.{Method}
use Rattle.grammar_core.specs.declared.operator.Method.TheVariants as method

-- R is a property of arguments and of what a call with them means, asked of e.
module _ (e : Expr) (R : List Expr → Expr → Type 0) (none : (ys : List Expr) → R ys no_call)
    (alone : (ys : List Expr) (call : UnaryCall) → R ys (core.UnaryCall call e))
    (two : (a : Expr) (more : List Expr) (op : Binary) → R (a ∷ more) (core.Binary op e a))
    (with_argument : (a : Expr) (more : List Expr) (call : BinaryCall) → R (a ∷ more) (core.BinaryCall call e a)) where
  operator_shows : (op : Binary) (F : List Expr → Expr) → F [] ≡ no_call
      → ((a : Expr) → F (a ∷ []) ≡ core.Binary op e a)
      → ((a b : Expr) (more : List Expr) → F (a ∷ (b ∷ more)) ≡ no_call) → (ys : List Expr) → R ys (F ys)
  operator_shows op F zero_is one_is more_is [] = subst (R []) (sym zero_is) (none [])
  operator_shows op F zero_is one_is more_is (a ∷ []) = subst (R (a ∷ [])) (sym (one_is a)) (two a [] op)
  operator_shows op F zero_is one_is more_is (a ∷ (b ∷ more)) =
      subst (R (a ∷ (b ∷ more))) (sym (more_is a b more)) (none (a ∷ (b ∷ more)))

  argument_shows : (call : BinaryCall) (F : List Expr → Expr) → F [] ≡ no_call
      → ((a : Expr) → F (a ∷ []) ≡ core.BinaryCall call e a)
      → ((a b : Expr) (more : List Expr) → F (a ∷ (b ∷ more)) ≡ no_call) → (ys : List Expr) → R ys (F ys)
  argument_shows call F zero_is one_is more_is [] = subst (R []) (sym zero_is) (none [])
  argument_shows call F zero_is one_is more_is (a ∷ []) = subst (R (a ∷ [])) (sym (one_is a)) (with_argument a [] call)
  argument_shows call F zero_is one_is more_is (a ∷ (b ∷ more)) =
      subst (R (a ∷ (b ∷ more))) (sym (more_is a b more)) (none (a ∷ (b ∷ more)))

  alone_shows : (call : UnaryCall) (F : List Expr → Expr) → F [] ≡ core.UnaryCall call e
      → ((a : Expr) (more : List Expr) → F (a ∷ more) ≡ no_call) → (ys : List Expr) → R ys (F ys)
  alone_shows call F zero_is more_is [] = subst (R []) (sym zero_is) (alone [] call)
  alone_shows call F zero_is more_is (a ∷ more) = subst (R (a ∷ more)) (sym (more_is a more)) (none (a ∷ more))

  kind_shows : (known : Method) (ys : List Expr) → R ys (method_called (Some known) e ys)
  kind_shows (method.Alone call) = alone_shows call _ refl (λ a more. refl)
  kind_shows (method.Operator op) = operator_shows op _ refl (λ a. refl) (λ a b more. refl)
  kind_shows (method.WithArgument call) = argument_shows call _ refl (λ a. refl) (λ a b more. refl)

  found_shows : (found : Option Method) (ys : List Expr) → R ys (method_called found e ys)
  found_shows None ys = none ys
  found_shows (Some known) ys = kind_shows known ys

  pub method_shows : (w : List ℕ) (ys : List Expr) → R ys (method_called (method_of w) e ys)
  method_shows w ys = found_shows (method_of w) ys
