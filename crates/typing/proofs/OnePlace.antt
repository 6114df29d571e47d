-- Whatever derivations there are of a fault, they blame one place.
use Rattle.std.specs.Prelude.{◌≡◌, ℕ, suc, List, [], ◌∷◌}
use Rattle.std.proofs.Common.{sym, ap, ◌∙◌}
use Rattle.grammar_core.specs.declared.expr.Expr.{Expr}
use Rattle.grammar_core.specs.declared.expr.Expr.TheVariants as form
use Rattle.grammar_core.specs.declared.expr.Expr.TheOpen.{Expr-F}
use Rattle.typing.specs.Types
use Rattle.typing.specs.Types.{StaticType}
use Rattle.typing.specs.Environment.{Environment}
use Rattle.typing.specs.declared.fault.TypeFault.{TypeFault}
use Rattle.typing.specs.Gained.{CapabilityList}
use Rattle.typing.specs.Typing.{types_none, types_more}
use Rattle.typing.specs.Faults as faults
use Rattle.typing.specs.Faults.{Faults, FaultsEach}
use Rattle.typing.specs.Laws.{HaveOneJudgement}
use Rattle.typing.specs.BlamedExpressions.{Blame, at_itself, at_operand, under, blamed, blamed_each}
use Rattle.typing.proofs.Layers
use Rattle.typing.proofs.Layers.{EachFaults, layer, demand}
use Rattle.typing.proofs.Going
use Rattle.typing.proofs.Going.{never, never_each, Goes, true_not_false, either_not_false, may_be_true_not_false}

module _ (one : HaveOneJudgement) (env : Environment) where
  -- where all derivations for the operands blame what g does, so do those for the form
  each_same : {K : CapabilityList} (xs : List Expr) {B : List StaticType → Blame} {m n : TypeFault} {d : Blame} (g : FaultsEach env K xs m)
      → ((h : FaultsEach env K xs n) → blamed_each 0 g ≡ blamed_each 0 h) → EachFaults env K xs B n d → blamed_each 0 g ≡ d
  each_same xs g same (Layers.in_each h q) = same h ∙ sym q
  each_same xs g same (Layers.of_each t q) = absurd (never_each one env xs t g)

  mutual
    pub one_blame : {K : CapabilityList} {x : Expr} {m n : TypeFault} (g : Faults env K x m) (h : Faults env K x n) → blamed g ≡ blamed h
    one_blame (faults.fault_in_operand (faults.of_unary op a) g) h =
        each_same (a ∷ []) g (λ k. one_each 0 g k) (layer env (Expr-F.Unary op a) (form.outs-Unary op a) h)
    one_blame (faults.fault_in_operand (faults.of_binary op a b u) g) h =
        each_same (a ∷ b ∷ []) g (λ k. one_each 0 g k) (layer env (Expr-F.Binary op a b) (form.outs-Binary op a b) h)
    one_blame (faults.fault_in_operand (faults.of_field a k) g) h =
        each_same (a ∷ []) g (λ k. one_each 0 g k) (layer env (Expr-F.Field a k) (form.outs-Field a k) h)
    one_blame (faults.fault_in_operand (faults.of_has a k) g) h =
        each_same (a ∷ []) g (λ k. one_each 0 g k) (layer env (Expr-F.Has a k) (form.outs-Has a k) h)
    one_blame (faults.fault_in_operand (faults.of_set xs) g) h =
        each_same xs g (λ k. one_each 0 g k) (layer env (Expr-F.Set xs) (form.outs-Set xs) h)
    one_blame (faults.fault_in_operand (faults.of_record xs) g) h =
        each_same _ g (λ k. one_each 0 g k) (layer env (Expr-F.Record xs) (form.outs-Record xs) h)
    one_blame (faults.fault_in_operand (faults.of_unary_call called a) g) h =
        each_same (a ∷ []) g (λ k. one_each 0 g k) (layer env (Expr-F.UnaryCall called a) (form.outs-UnaryCall called a) h)
    one_blame (faults.fault_in_operand (faults.of_binary_call called a b) g) h =
        each_same (a ∷ b ∷ []) g (λ k. one_each 0 g k) (layer env (Expr-F.BinaryCall called a b) (form.outs-BinaryCall called a b) h)
    one_blame (faults.fault_of_unary op a t e) h =
        sym (Going.each_stops one env (a ∷ []) (at_operand 0 (form.Unary op a)) (types_more t types_none)
        (layer env (Expr-F.Unary op a) (form.outs-Unary op a) h))
    one_blame (faults.fault_of_binary op a b u t s e) h =
        sym (Going.each_stops one env (a ∷ b ∷ []) (at_itself (form.Binary op a b)) (types_more t (types_more s types_none))
        (layer env (Expr-F.Binary op a b) (form.outs-Binary op a b) h))
    one_blame (faults.fault_of_field a k t d e) h =
        sym (Going.each_stops one env (a ∷ []) (at_itself (form.Field a k)) (types_more t types_none)
        (layer env (Expr-F.Field a k) (form.outs-Field a k) h))
    one_blame (faults.fault_of_has a k t d e) h =
        sym (Going.each_stops one env (a ∷ []) (at_operand 0 (form.Has a k)) (types_more t types_none)
        (layer env (Expr-F.Has a k) (form.outs-Has a k) h))
    one_blame (faults.fault_of_set xs t e) h =
        sym (Going.each_stops one env xs (at_itself (form.Set xs)) t (layer env (Expr-F.Set xs) (form.outs-Set xs) h))
    one_blame (faults.no_literal called a i t g) h =
        sym (Going.each_stops one env (a ∷ []) (at_itself (form.UnaryCall called a)) (types_more t types_none)
        (layer env (Expr-F.UnaryCall called a) (form.outs-UnaryCall called a) h))
    one_blame (faults.fault_of_address_test called a i t e) h =
        sym (Going.each_stops one env (a ∷ []) (at_itself (form.UnaryCall called a)) (types_more t types_none)
        (layer env (Expr-F.UnaryCall called a) (form.outs-UnaryCall called a) h))
    one_blame (faults.fault_of_call called a b t s e) h =
        sym (Going.each_stops one env (a ∷ b ∷ []) (at_itself (form.BinaryCall called a b))
        (types_more t (types_more s types_none)) (layer env (Expr-F.BinaryCall called a b) (form.outs-BinaryCall called a b) h))
    one_blame (faults.fault_left_of_and a b g) h =
        let k = Going.and_goes_left one env (form.And a b) a b g (layer env (Expr-F.And a b) (form.outs-And a b) h) in
        ap (under 0) (one_blame g k.0) ∙ sym k.1
    one_blame (faults.left_of_and_no_boolean a b t i) h =
        sym (Going.and_stops_left one env (form.And a b) a b t i (layer env (Expr-F.And a b) (form.outs-And a b) h))
    one_blame (faults.fault_right_of_and a b t m g) h =
        let k = Going.and_is_sound one env (form.And a b) a b t (Going.may_be_true_boolean m) g
        (layer env (Expr-F.And a b) (form.outs-And a b) h) in
        ap (under 1) (one_blame g k.0) ∙ sym k.1
    one_blame (faults.right_of_and_no_boolean a b t m s i) h =
        sym (Going.and_stops_right one env (form.And a b) a b t (Going.may_be_true_boolean m) s
        (layer env (Expr-F.And a b) (form.outs-And a b) h))
    one_blame (faults.fault_left_of_or a b g) h =
        let k = Going.or_goes_left one env (form.Or a b) a b g (layer env (Expr-F.Or a b) (form.outs-Or a b) h) in
        ap (under 0) (one_blame g k.0) ∙ sym k.1
    one_blame (faults.left_of_or_no_boolean a b t i) h =
        sym (Going.or_stops_left one env (form.Or a b) a b t i (layer env (Expr-F.Or a b) (form.outs-Or a b) h))
    one_blame (faults.fault_right_of_or a b t m g) h =
        let k = Going.or_is_sound one env (form.Or a b) a b t (Going.may_be_false_boolean m) g
        (layer env (Expr-F.Or a b) (form.outs-Or a b) h) in
        ap (under 1) (one_blame g k.0) ∙ sym k.1
    one_blame (faults.right_of_or_no_boolean a b t m s i) h =
        sym (Going.or_stops_right one env (form.Or a b) a b t (Going.may_be_false_boolean m) s
        (layer env (Expr-F.Or a b) (form.outs-Or a b) h))
    one_blame (faults.fault_in_test a b c g) h =
        let k = Going.if_goes_test one env (form.If a b c) a b c g (layer env (Expr-F.If a b c) (form.outs-If a b c) h) in
        ap (under 0) (one_blame g k.0) ∙ sym k.1
    one_blame (faults.test_no_boolean a b c t i) h =
        sym (Going.if_stops_test one env (form.If a b c) a b c t i (layer env (Expr-F.If a b c) (form.outs-If a b c) h))
    one_blame (faults.fault_in_then a b c t m g) h =
        let k = Going.if_goes_then one env (form.If a b c) a b c t (Going.may_be_true_boolean m) (may_be_true_not_false m) g
        (layer env (Expr-F.If a b c) (form.outs-If a b c) h) in
        ap (under 1) (one_blame g k.0) ∙ sym k.1
    one_blame (faults.fault_in_only_else a b c t g) h =
        let k = Going.if_goes_only_else one env (form.If a b c) a b c t (layer env (Expr-F.If a b c) (form.outs-If a b c) h) in
        ap (under 2) (one_blame g k.0) ∙ sym k.1
    one_blame (faults.fault_in_else a b c t s g) h =
        let k = Going.if_goes_else one env (form.If a b c) a b c t Types.is_either either_not_false s g
        (layer env (Expr-F.If a b c) (form.outs-If a b c) h) in
        ap (under 2) (one_blame g k.0) ∙ sym k.1
    one_blame (faults.branches_differ a b c t s u e) h =
        sym (Going.if_stops one env (form.If a b c) a b c t Types.is_either either_not_false s u
        (layer env (Expr-F.If a b c) (form.outs-If a b c) h))

    one_each : {K : CapabilityList} {xs : List Expr} {m n : TypeFault} (j : ℕ) (g : FaultsEach env K xs m) (h : FaultsEach env K xs n)
        → blamed_each j g ≡ blamed_each j h
    one_each j (faults.fault_here g) (faults.fault_here h) = ap (under j) (one_blame g h)
    one_each j (faults.fault_here g) (faults.fault_later t h) = absurd (never one env t g)
    one_each j (faults.fault_later t g) (faults.fault_here h) = absurd (never one env t h)
    one_each j (faults.fault_later t g) (faults.fault_later s h) = one_each (suc j) g h
