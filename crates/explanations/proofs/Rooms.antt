-- What a form leaves of the room for nodes is what its operands leave of all but one of it.
use Rattle.std.specs.Prelude.{◌≡◌, ◌⊎◌, ℕ, ◌+◌, ◌-◌, List, map}
use Rattle.std.proofs.Common.{◌∙◌, ◌≢◌, inl, inr, ap, arith}
use Rattle.grammar_core.proofs.Forms.{fold_literal, fold_variable, fold_if, fold_and, fold_or, fold_unary, fold_binary, fold_field, fold_has, fold_set, fold_record, fold_unary_call, fold_binary_call}
use Rattle.grammar_core.specs.Size.{node_count, node_count_step, total, values_of}
use Rattle.grammar_core.specs.declared.expr.Expr.{Expr}
use Rattle.grammar_core.specs.declared.expr.Expr.TheVariants as form
use Rattle.grammar_core.specs.declared.expr.Named.{Named}
use Rattle.grammar_core.specs.declared.leaf.Literal.{Literal}
use Rattle.grammar_core.specs.declared.leaf.Variable.{Variable}
use Rattle.grammar_core.specs.declared.operator.Unary.{Unary}
use Rattle.grammar_core.specs.declared.operator.Binary.{Binary}
use Rattle.grammar_core.specs.declared.operator.UnaryCall.{UnaryCall}
use Rattle.grammar_core.specs.declared.operator.BinaryCall.{BinaryCall}
use Rattle.explanations.specs.inner.NodeLimits.{named_count}

-- forms by the number of their operands, with their nodes
none : (x : Expr) → ((value : Literal) × x ≡ form.Literal value) ⊎ ((name : Variable) × x ≡ form.Variable name) → node_count x ≡ 1
none x (inl (value, is)) = ap node_count is ∙ fold_literal ℕ node_count_step value
none x (inr (name, is)) = ap node_count is ∙ fold_variable ℕ node_count_step name

one : (x a : Expr) → ((operator : Unary) × x ≡ form.Unary operator a) ⊎ ((name : List ℕ) × x ≡ form.Field a name) ⊎ ((name : List ℕ) × x ≡ form.Has a name) ⊎ ((call : UnaryCall) × x ≡ form.UnaryCall call a)
    → node_count x ≡ node_count a + 1
one x a (inl (operator, is)) = ap node_count is ∙ fold_unary ℕ node_count_step operator a
one x a (inr (inl (name, is))) = ap node_count is ∙ fold_field ℕ node_count_step a name
one x a (inr (inr (inl (name, is)))) = ap node_count is ∙ fold_has ℕ node_count_step a name
one x a (inr (inr (inr (call, is)))) = ap node_count is ∙ fold_unary_call ℕ node_count_step call a

two : (x a b : Expr) → x ≡ form.And a b ⊎ x ≡ form.Or a b ⊎ ((operator : Binary) × x ≡ form.Binary operator a b) ⊎ ((call : BinaryCall) × x ≡ form.BinaryCall call a b)
    → node_count x ≡ node_count a + node_count b + 1
two x a b (inl is) = ap node_count is ∙ fold_and ℕ node_count_step a b
two x a b (inr (inl is)) = ap node_count is ∙ fold_or ℕ node_count_step a b
two x a b (inr (inr (inl (operator, is)))) = ap node_count is ∙ fold_binary ℕ node_count_step operator a b
two x a b (inr (inr (inr (call, is)))) = ap node_count is ∙ fold_binary_call ℕ node_count_step call a b

-- what is left of the room behind a form: the numbers alone
leaf_left : (n room : ℕ) → n ≡ 1 → room - 1 ≡ room - n
leaf_left n room is = omega arith

one_left : (n m room r : ℕ) → room ≢ 0 → n ≡ m + 1 → r ≡ room - 1 - m → r ≡ room - n
one_left n m room r some is h = omega arith

two_left : (n m k room rest r : ℕ) → room ≢ 0 → n ≡ m + k + 1 → rest ≡ room - 1 - m → r ≡ rest - k → r ≡ room - n
two_left n m k room rest r some is first second = omega arith

three_left : (n m k l room rest more r : ℕ) → room ≢ 0 → n ≡ m + k + l + 1 → rest ≡ room - 1 - m → more ≡ rest - k → r ≡ more - l → r ≡ room - n
three_left n m k l room rest more r some is first second third = omega arith

module _ (x : Expr) (room : ℕ) where
  pub of_leaf : ((value : Literal) × x ≡ form.Literal value) ⊎ ((name : Variable) × x ≡ form.Variable name) → room - 1 ≡ room - node_count x
  of_leaf is = leaf_left (node_count x) room (none x is)

module _ (x : Expr) (room r : ℕ) (some : room ≢ 0) where
  pub of_one : (a b : Expr) → ((operator : Unary) × x ≡ form.Unary operator a) ⊎ ((name : List ℕ) × x ≡ form.Field a name) ⊎ ((name : List ℕ) × x ≡ form.Has a name) ⊎ ((call : UnaryCall) × x ≡ form.UnaryCall call a)
      → b ≡ a → r ≡ room - 1 - node_count b → r ≡ room - node_count x
  of_one a b is same h = one_left (node_count x) (node_count a) room r some (one x a is) (h ∙ ap (λ u. room - 1 - node_count u) same)

  pub of_two : (a b d e : Expr) (rest : ℕ) → x ≡ form.And a b ⊎ x ≡ form.Or a b ⊎ ((operator : Binary) × x ≡ form.Binary operator a b) ⊎ ((call : BinaryCall) × x ≡ form.BinaryCall call a b)
      → d ≡ a → rest ≡ room - 1 - node_count d → e ≡ b → r ≡ rest - node_count e → r ≡ room - node_count x
  of_two a b d e rest is same h same_too h_too =
      two_left (node_count x) (node_count a) (node_count b) room rest r some (two x a b is) (h ∙ ap (λ u. room - 1 - node_count u) same)
      (h_too ∙ ap (λ u. rest - node_count u) same_too)

  pub of_if : (a b d e f g : Expr) (rest more : ℕ) → x ≡ form.If a b d → e ≡ a → rest ≡ room - 1 - node_count e → f ≡ b → more ≡ rest - node_count f
      → g ≡ d → r ≡ more - node_count g → r ≡ room - node_count x
  of_if a b d e f g rest more is first h second i third j =
      three_left (node_count x) (node_count a) (node_count b) (node_count d) room rest more r some (ap node_count is ∙ fold_if ℕ node_count_step a b d)
      (h ∙ ap (λ u. room - 1 - node_count u) first) (i ∙ ap (λ u. rest - node_count u) second) (j ∙ ap (λ u. more - node_count u) third)

  -- a list of operands
  pub of_set : (ms ns : List Expr) → x ≡ form.Set ms → ns ≡ ms → r ≡ room - 1 - total (map node_count ns) → r ≡ room - node_count x
  of_set ms ns is same h =
      one_left (node_count x) (total (map node_count ms)) room r some (ap node_count is ∙ fold_set ℕ node_count_step ms)
      (h ∙ ap (λ (us : List Expr). room - 1 - total (map node_count us)) same)

  pub of_record : (fs gs : List (Named Expr)) → x ≡ form.Record fs → gs ≡ fs → r ≡ room - 1 - total (values_of (map named_count gs)) → r ≡ room - node_count x
  of_record fs gs is same h =
      one_left (node_count x) (total (values_of (map named_count fs))) room r some (ap node_count is ∙ fold_record ℕ node_count_step fs)
      (h ∙ ap (λ (us : List (Named Expr)). room - 1 - total (values_of (map named_count us))) same)
