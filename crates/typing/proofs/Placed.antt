-- What a derivation of a fault blames is a part of the expression.
use Rattle.std.specs.Prelude.{◌≡◌, ◌+◌, ℕ, suc, List, [], ◌∷◌, Some, slice_get, refl}
use Rattle.std.proofs.Common.{sym, ap, ◌∙◌, subst, inl, inr, arith}
use Rattle.grammar_core.specs.declared.expr.Expr.{Expr}
use Rattle.grammar_core.specs.declared.expr.Expr.TheVariants as form
use Rattle.grammar_core.specs.declared.expr.Expr.TheOpen.{Expr-F}
use Rattle.grammar_core.specs.declared.expr.Expr.TheViews.{out-Expr}
use Rattle.typing.specs.Types.{StaticType}
use Rattle.typing.specs.Environment.{Environment}
use Rattle.typing.specs.declared.fault.TypeFault.{TypeFault}
use Rattle.typing.specs.Gained.{CapabilityList}
use Rattle.typing.specs.Faults as faults
use Rattle.typing.specs.Faults.{Faults, FaultsEach}
use Rattle.typing.specs.BlamedExpressions.{Blame, at_operand, under, blamed, blamed_each}
use Rattle.typing.specs.PathLaws.{IsPlaced, LeadsToOperand}
use Rattle.typing.specs.Places.{operands_in, operands_of, and_then, follow}

-- the operands by the form
at_first : (x : Expr) (y : Expr-F Expr) → out-Expr x ≡ y → (k : ℕ) (a : Expr) → slice_get (operands_in y) k ≡ Some a
    → slice_get (operands_of x) k ≡ Some a
at_first x y e k a h = subst (λ (z : Expr-F Expr). slice_get (operands_in z) k ≡ Some a) (sym e) h

to_operand : (x : Expr) (i : ℕ) (a : Expr) (ts : List StaticType) → slice_get (operands_of x) i ≡ Some a
    → LeadsToOperand x (at_operand i x ts)
to_operand x i a ts h = record { above = []; index = i; operand = a; is = refl; leads = refl; stands = h }

placed_under : (x a : Expr) (i : ℕ) (b : Blame) → slice_get (operands_of x) i ≡ Some a → IsPlaced a b
    → IsPlaced x (under i b)
placed_under x a i b there (inl e) = inl (ap (λ o. and_then o (λ y. follow b.path y)) there ∙ e)
placed_under x a i b there (inr l) = inr (record {
  above = i ∷ l.above;
  index = l.index;
  operand = l.operand;
  is = ap (λ (p : List ℕ). i ∷ p) l.is;
  leads = ap (λ o. and_then o (λ y. follow l.above y)) there ∙ l.leads;
  stands = l.stands;
})

here : (j : ℕ) → j + 0 ≡ j
here j = omega arith

start : (k : ℕ) → k ≡ 0 + k
start k = omega arith

-- the same, counted from the first operand
all_from_first : (x : Expr) (y : Expr-F Expr) → out-Expr x ≡ y → (k : ℕ) (a : Expr) → slice_get (operands_in y) k ≡ Some a
    → slice_get (operands_of x) (0 + k) ≡ Some a
all_from_first x y e k a h =
    subst (λ (i : ℕ). slice_get (operands_of x) i ≡ Some a) (start k) (at_first x y e k a h)

next : (j k : ℕ) → j + suc k ≡ suc j + k
next j k = omega arith

module _ (env : Environment) where
  mutual
    pub placed : {K : CapabilityList} {x : Expr} {n : TypeFault} (g : Faults env K x n) → IsPlaced x (blamed g)
    placed (faults.fault_in_operand (faults.of_unary op a) g) =
        placed_each (form.Unary op a) 0 (a ∷ [])
        (all_from_first (form.Unary op a) (Expr-F.Unary op a) (form.outs-Unary op a)) g
    placed (faults.fault_in_operand (faults.of_binary op a b u) g) =
        placed_each (form.Binary op a b) 0 (a ∷ b ∷ [])
        (all_from_first (form.Binary op a b) (Expr-F.Binary op a b) (form.outs-Binary op a b)) g
    placed (faults.fault_in_operand (faults.of_field a k) g) =
        placed_each (form.Field a k) 0 (a ∷ [])
        (all_from_first (form.Field a k) (Expr-F.Field a k) (form.outs-Field a k)) g
    placed (faults.fault_in_operand (faults.of_has a k) g) =
        placed_each (form.Has a k) 0 (a ∷ [])
        (all_from_first (form.Has a k) (Expr-F.Has a k) (form.outs-Has a k)) g
    placed (faults.fault_in_operand (faults.of_set xs) g) =
        placed_each (form.Set xs) 0 xs
        (all_from_first (form.Set xs) (Expr-F.Set xs) (form.outs-Set xs)) g
    placed (faults.fault_in_operand (faults.of_record xs) g) =
        placed_each (form.Record xs) 0 _
        (all_from_first (form.Record xs) (Expr-F.Record xs) (form.outs-Record xs)) g
    placed (faults.fault_in_operand (faults.of_unary_call called a) g) =
        placed_each (form.UnaryCall called a) 0 (a ∷ [])
        (all_from_first (form.UnaryCall called a) (Expr-F.UnaryCall called a) (form.outs-UnaryCall called a)) g
    placed (faults.fault_in_operand (faults.of_binary_call called a b) g) =
        placed_each (form.BinaryCall called a b) 0 (a ∷ b ∷ [])
        (all_from_first (form.BinaryCall called a b) (Expr-F.BinaryCall called a b) (form.outs-BinaryCall called a b)) g
    placed (faults.fault_of_unary op a h e) =
        inr (to_operand (form.Unary op a) 0 a _ (at_first (form.Unary op a) (Expr-F.Unary op a) (form.outs-Unary op a) 0 a refl))
    placed (faults.fault_of_binary op a b u h g e) = inl refl
    placed (faults.fault_of_field a k h d e) = inl refl
    placed (faults.fault_of_has a k h d e) =
        inr (to_operand (form.Has a k) 0 a _ (at_first (form.Has a k) (Expr-F.Has a k) (form.outs-Has a k) 0 a refl))
    placed (faults.fault_of_set xs h e) = inl refl
    placed (faults.no_literal called a i h g) = inl refl
    placed (faults.fault_of_address_test called a i h e) = inl refl
    placed (faults.fault_of_call called a b h g e) = inl refl
    placed (faults.fault_left_of_and a b g) =
        placed_under (form.And a b) a 0 (blamed g) (at_first (form.And a b) (Expr-F.And a b) (form.outs-And a b) 0 a refl)
        (placed g)
    placed (faults.left_of_and_no_boolean a b h i) =
        inr (to_operand (form.And a b) 0 a _ (at_first (form.And a b) (Expr-F.And a b) (form.outs-And a b) 0 a refl))
    placed (faults.fault_right_of_and a b h m g) =
        placed_under (form.And a b) b 1 (blamed g) (at_first (form.And a b) (Expr-F.And a b) (form.outs-And a b) 1 b refl)
        (placed g)
    placed (faults.right_of_and_no_boolean a b h m g i) =
        inr (to_operand (form.And a b) 1 b _ (at_first (form.And a b) (Expr-F.And a b) (form.outs-And a b) 1 b refl))
    placed (faults.fault_left_of_or a b g) =
        placed_under (form.Or a b) a 0 (blamed g) (at_first (form.Or a b) (Expr-F.Or a b) (form.outs-Or a b) 0 a refl)
        (placed g)
    placed (faults.left_of_or_no_boolean a b h i) =
        inr (to_operand (form.Or a b) 0 a _ (at_first (form.Or a b) (Expr-F.Or a b) (form.outs-Or a b) 0 a refl))
    placed (faults.fault_right_of_or a b h m g) =
        placed_under (form.Or a b) b 1 (blamed g) (at_first (form.Or a b) (Expr-F.Or a b) (form.outs-Or a b) 1 b refl)
        (placed g)
    placed (faults.right_of_or_no_boolean a b h m g i) =
        inr (to_operand (form.Or a b) 1 b _ (at_first (form.Or a b) (Expr-F.Or a b) (form.outs-Or a b) 1 b refl))
    placed (faults.fault_in_test a b c g) =
        placed_under (form.If a b c) a 0 (blamed g) (at_first (form.If a b c) (Expr-F.If a b c) (form.outs-If a b c) 0 a refl)
        (placed g)
    placed (faults.test_no_boolean a b c h i) =
        inr (to_operand (form.If a b c) 0 a _ (at_first (form.If a b c) (Expr-F.If a b c) (form.outs-If a b c) 0 a refl))
    placed (faults.fault_in_then a b c h m g) =
        placed_under (form.If a b c) b 1 (blamed g) (at_first (form.If a b c) (Expr-F.If a b c) (form.outs-If a b c) 1 b refl)
        (placed g)
    placed (faults.fault_in_only_else a b c h g) =
        placed_under (form.If a b c) c 2 (blamed g) (at_first (form.If a b c) (Expr-F.If a b c) (form.outs-If a b c) 2 c refl)
        (placed g)
    placed (faults.fault_in_else a b c h i g) =
        placed_under (form.If a b c) c 2 (blamed g) (at_first (form.If a b c) (Expr-F.If a b c) (form.outs-If a b c) 2 c refl)
        (placed g)
    placed (faults.branches_differ a b c h g i e) = inl refl

    -- of several operands, which stand in those of the form from this index on
    placed_each : {K : CapabilityList} {n : TypeFault} (x : Expr) (j : ℕ) (xs : List Expr)
        → ((k : ℕ) (a : Expr) → slice_get xs k ≡ Some a → slice_get (operands_of x) (j + k) ≡ Some a)
        → (g : FaultsEach env K xs n) → IsPlaced x (blamed_each j g)
    placed_each x j (y ∷ ys) stand (faults.fault_here g) =
        placed_under x y j (blamed g) (subst (λ (i : ℕ). slice_get (operands_of x) i ≡ Some y) (here j) (stand 0 y refl))
        (placed g)
    placed_each x j (y ∷ ys) stand (faults.fault_later t g) =
        placed_each x (suc j) ys
        (λ k a e. subst (λ (i : ℕ). slice_get (operands_of x) i ≡ Some a) (next j k) (stand (suc k) a e)) g
