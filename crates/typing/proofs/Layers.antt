-- What a derivation of a fault blames, by the outermost form.
use Rattle.std.specs.Prelude.{◌≡◌, List, [], ◌∷◌, ◌++◌, refl}
use Rattle.std.proofs.Common.{sym, subst}
use Rattle.grammar_core.specs.declared.expr.Expr.{Expr}
use Rattle.grammar_core.specs.declared.expr.Expr.TheVariants as form
use Rattle.grammar_core.specs.declared.expr.Expr.TheOpen.{Expr-F}
use Rattle.grammar_core.specs.declared.expr.Expr.TheViews.{out-Expr}
use Rattle.typing.specs.Types.{StaticType, IsBoolean, false_type, boolean_type}
use Rattle.typing.specs.Environment.{Environment}
use Rattle.typing.specs.declared.fault.TypeFault.{TypeFault}
use Rattle.typing.specs.Gained.{CapabilityList}
use Rattle.typing.specs.Rows.{MayBeTrue, MayBeFalse}
use Rattle.typing.specs.Typing.{Types, TypesEach, types_none, types_more}
use Rattle.typing.specs.Faults as faults
use Rattle.typing.specs.Faults.{Faults, FaultsEach, NeedsTypes}
use Rattle.typing.specs.BlamedExpressions.{Blame, at_itself, at_operand, under, blamed, blamed_each}
use Rattle.typing.specs.Places.{operands_in}

-- what is blamed where all operands have types
abbrev pub demand : Expr-F Expr → Expr → List StaticType → Blame
demand (Expr-F.Unary op a) x ts = at_operand 0 x ts
demand (Expr-F.Has a k) x ts = at_operand 0 x ts
demand y x ts = at_itself x ts

module _ (env : Environment) where
  -- the operands in order, and then what the form demands of their types
  pub data EachFaults (K : CapabilityList) (xs : List Expr) (B : List StaticType → Blame) : TypeFault → Blame → Type 0 where
    in_each : {n : TypeFault} {d : Blame} (g : FaultsEach env K xs n) → d ≡ blamed_each 0 g → EachFaults K xs B n d
    of_each : {n : TypeFault} {d : Blame} {ts : List StaticType} → TypesEach env K xs ts → d ≡ B ts → EachFaults K xs B n d

  pub data AndFaults (K : CapabilityList) (x a b : Expr) : TypeFault → Blame → Type 0 where
    and_in_left : {n : TypeFault} {d : Blame} (g : Faults env K a n) → d ≡ under 0 (blamed g) → AndFaults K x a b n d
    and_left : {n : TypeFault} {d : Blame} {L : CapabilityList} {s : StaticType} → Types env K a s L → ¬ IsBoolean s → d ≡ at_operand 0 x (s ∷ []) → AndFaults K x a b n d
    and_in_right : {n : TypeFault} {d : Blame} {L : CapabilityList} {s : StaticType} → Types env K a s L → MayBeTrue s → (g : Faults env (K ++ L) b n) → d ≡ under 1 (blamed g) → AndFaults K x a b n d
    and_right : {n : TypeFault} {d : Blame} {L M : CapabilityList} {s t : StaticType} → Types env K a s L → MayBeTrue s → Types env (K ++ L) b t M → d ≡ at_operand 1 x (t ∷ []) → AndFaults K x a b n d

  pub data OrFaults (K : CapabilityList) (x a b : Expr) : TypeFault → Blame → Type 0 where
    or_in_left : {n : TypeFault} {d : Blame} (g : Faults env K a n) → d ≡ under 0 (blamed g) → OrFaults K x a b n d
    or_left : {n : TypeFault} {d : Blame} {L : CapabilityList} {s : StaticType} → Types env K a s L → ¬ IsBoolean s → d ≡ at_operand 0 x (s ∷ []) → OrFaults K x a b n d
    or_in_right : {n : TypeFault} {d : Blame} {L : CapabilityList} {s : StaticType} → Types env K a s L → MayBeFalse s → (g : Faults env K b n) → d ≡ under 1 (blamed g) → OrFaults K x a b n d
    or_right : {n : TypeFault} {d : Blame} {L M : CapabilityList} {s t : StaticType} → Types env K a s L → MayBeFalse s → Types env K b t M → d ≡ at_operand 1 x (t ∷ []) → OrFaults K x a b n d

  pub data IfFaults (K : CapabilityList) (x a b c : Expr) : TypeFault → Blame → Type 0 where
    if_in_test : {n : TypeFault} {d : Blame} (g : Faults env K a n) → d ≡ under 0 (blamed g) → IfFaults K x a b c n d
    if_test : {n : TypeFault} {d : Blame} {L : CapabilityList} {s : StaticType} → Types env K a s L → ¬ IsBoolean s → d ≡ at_operand 0 x (s ∷ []) → IfFaults K x a b c n d
    if_in_then : {n : TypeFault} {d : Blame} {L : CapabilityList} {s : StaticType} → Types env K a s L → MayBeTrue s → (g : Faults env (K ++ L) b n) → d ≡ under 1 (blamed g) → IfFaults K x a b c n d
    if_in_only_else : {n : TypeFault} {d : Blame} {L : CapabilityList} → Types env K a false_type L → (g : Faults env K c n) → d ≡ under 2 (blamed g) → IfFaults K x a b c n d
    if_in_else : {n : TypeFault} {d : Blame} {L M : CapabilityList} {s : StaticType} → Types env K a boolean_type L → Types env (K ++ L) b s M → (g : Faults env K c n) → d ≡ under 2 (blamed g) → IfFaults K x a b c n d
    if_branches : {n : TypeFault} {d : Blame} {L M N : CapabilityList} {s t : StaticType} → Types env K a boolean_type L → Types env (K ++ L) b s M → Types env K c t N → d ≡ at_itself x (s ∷ t ∷ []) → IfFaults K x a b c n d

  -- of an expression x that is this form
  abbrev pub LayerFaults : CapabilityList → Expr → Expr-F Expr → TypeFault → Blame → Type 0
  LayerFaults K x (Expr-F.Literal l) n d = ⊥
  LayerFaults K x (Expr-F.Variable v) n d = ⊥
  LayerFaults K x (Expr-F.If a b c) n d = IfFaults K x a b c n d
  LayerFaults K x (Expr-F.And a b) n d = AndFaults K x a b n d
  LayerFaults K x (Expr-F.Or a b) n d = OrFaults K x a b n d
  LayerFaults K x y n d = EachFaults K (operands_in y) (demand y x) n d

  seen_at : (K : CapabilityList) (x : Expr) (y : Expr-F Expr) (n : TypeFault) (d : Blame) → out-Expr x ≡ y
      → LayerFaults K x y n d → LayerFaults K x (out-Expr x) n d
  seen_at K x y n d e h = subst (λ z. LayerFaults K x z n d) (sym e) h

  in_operand : {K : CapabilityList} {x : Expr} {xs : List Expr} {n : TypeFault} → NeedsTypes env x xs
      → (g : FaultsEach env K xs n) → LayerFaults K x (out-Expr x) n (blamed_each 0 g)
  in_operand {K} {n = n} (faults.of_unary op a) g =
      seen_at K (form.Unary op a) (Expr-F.Unary op a) n (blamed_each 0 g) (form.outs-Unary op a) (in_each g refl)
  in_operand {K} {n = n} (faults.of_binary op a b u) g =
      seen_at K (form.Binary op a b) (Expr-F.Binary op a b) n (blamed_each 0 g) (form.outs-Binary op a b) (in_each g refl)
  in_operand {K} {n = n} (faults.of_field a k) g =
      seen_at K (form.Field a k) (Expr-F.Field a k) n (blamed_each 0 g) (form.outs-Field a k) (in_each g refl)
  in_operand {K} {n = n} (faults.of_has a k) g =
      seen_at K (form.Has a k) (Expr-F.Has a k) n (blamed_each 0 g) (form.outs-Has a k) (in_each g refl)
  in_operand {K} {n = n} (faults.of_set xs) g =
      seen_at K (form.Set xs) (Expr-F.Set xs) n (blamed_each 0 g) (form.outs-Set xs) (in_each g refl)
  in_operand {K} {n = n} (faults.of_record xs) g =
      seen_at K (form.Record xs) (Expr-F.Record xs) n (blamed_each 0 g) (form.outs-Record xs) (in_each g refl)
  in_operand {K} {n = n} (faults.of_unary_call called a) g =
      seen_at K (form.UnaryCall called a) (Expr-F.UnaryCall called a) n (blamed_each 0 g) (form.outs-UnaryCall called a) (in_each g refl)
  in_operand {K} {n = n} (faults.of_binary_call called a b) g =
      seen_at K (form.BinaryCall called a b) (Expr-F.BinaryCall called a b) n (blamed_each 0 g) (form.outs-BinaryCall called a b)
      (in_each g refl)

  and_at : {K : CapabilityList} (a b : Expr) {n : TypeFault} {d : Blame} → AndFaults K (form.And a b) a b n d
      → LayerFaults K (form.And a b) (out-Expr (form.And a b)) n d
  and_at {K} a b {n} {d} h = seen_at K (form.And a b) (Expr-F.And a b) n d (form.outs-And a b) h

  or_at : {K : CapabilityList} (a b : Expr) {n : TypeFault} {d : Blame} → OrFaults K (form.Or a b) a b n d
      → LayerFaults K (form.Or a b) (out-Expr (form.Or a b)) n d
  or_at {K} a b {n} {d} h = seen_at K (form.Or a b) (Expr-F.Or a b) n d (form.outs-Or a b) h

  if_at : {K : CapabilityList} (a b c : Expr) {n : TypeFault} {d : Blame} → IfFaults K (form.If a b c) a b c n d
      → LayerFaults K (form.If a b c) (out-Expr (form.If a b c)) n d
  if_at {K} a b c {n} {d} h = seen_at K (form.If a b c) (Expr-F.If a b c) n d (form.outs-If a b c) h

  one_typed : {K L : CapabilityList} {a : Expr} {s : StaticType} → Types env K a s L → TypesEach env K (a ∷ []) (s ∷ [])
  one_typed h = types_more h types_none

  two_typed : {K L M : CapabilityList} {a b : Expr} {s t : StaticType} → Types env K a s L → Types env K b t M
      → TypesEach env K (a ∷ b ∷ []) (s ∷ t ∷ [])
  two_typed h g = types_more h (types_more g types_none)

  layered : {K : CapabilityList} {x : Expr} {n : TypeFault} (h : Faults env K x n) → LayerFaults K x (out-Expr x) n (blamed h)
  layered (faults.fault_in_operand w g) = in_operand w g
  layered (faults.fault_of_unary {K} op a {s} {n} h e) =
      seen_at K (form.Unary op a) (Expr-F.Unary op a) n _ (form.outs-Unary op a) (of_each (one_typed h) refl)
  layered (faults.fault_of_binary {K} op a b {n = n} u h g e) =
      seen_at K (form.Binary op a b) (Expr-F.Binary op a b) n _ (form.outs-Binary op a b) (of_each (two_typed h g) refl)
  layered (faults.fault_of_field {K} a k {n = n} h d e) =
      seen_at K (form.Field a k) (Expr-F.Field a k) n _ (form.outs-Field a k) (of_each (one_typed h) refl)
  layered (faults.fault_of_has {K} a k {n = n} h d e) =
      seen_at K (form.Has a k) (Expr-F.Has a k) n _ (form.outs-Has a k) (of_each (one_typed h) refl)
  layered (faults.fault_of_set {K} xs {n = n} h e) =
      seen_at K (form.Set xs) (Expr-F.Set xs) n _ (form.outs-Set xs) (of_each h refl)
  layered (faults.no_literal {K} called a i h g) =
      seen_at K (form.UnaryCall called a) (Expr-F.UnaryCall called a) _ _ (form.outs-UnaryCall called a) (of_each (one_typed h) refl)
  layered (faults.fault_of_address_test {K} called a {n = n} i h e) =
      seen_at K (form.UnaryCall called a) (Expr-F.UnaryCall called a) n _ (form.outs-UnaryCall called a) (of_each (one_typed h) refl)
  layered (faults.fault_of_call {K} called a b {n = n} h g e) =
      seen_at K (form.BinaryCall called a b) (Expr-F.BinaryCall called a b) n _ (form.outs-BinaryCall called a b)
      (of_each (two_typed h g) refl)
  layered (faults.fault_left_of_and a b g) = and_at a b (and_in_left g refl)
  layered (faults.left_of_and_no_boolean a b h i) = and_at a b (and_left h i refl)
  layered (faults.fault_right_of_and a b h m g) = and_at a b (and_in_right h m g refl)
  layered (faults.right_of_and_no_boolean a b h m g i) = and_at a b (and_right h m g refl)
  layered (faults.fault_left_of_or a b g) = or_at a b (or_in_left g refl)
  layered (faults.left_of_or_no_boolean a b h i) = or_at a b (or_left h i refl)
  layered (faults.fault_right_of_or a b h m g) = or_at a b (or_in_right h m g refl)
  layered (faults.right_of_or_no_boolean a b h m g i) = or_at a b (or_right h m g refl)
  layered (faults.fault_in_test a b c g) = if_at a b c (if_in_test g refl)
  layered (faults.test_no_boolean a b c h i) = if_at a b c (if_test h i refl)
  layered (faults.fault_in_then a b c h m g) = if_at a b c (if_in_then h m g refl)
  layered (faults.fault_in_only_else a b c h g) = if_at a b c (if_in_only_else h g refl)
  layered (faults.fault_in_else a b c h i g) = if_at a b c (if_in_else h i g refl)
  layered (faults.branches_differ a b c h g i e) = if_at a b c (if_branches h g i refl)

  -- what is blamed of an expression that is this form
  pub layer : {K : CapabilityList} {x : Expr} {n : TypeFault} (y : Expr-F Expr) → out-Expr x ≡ y → (h : Faults env K x n)
      → LayerFaults K x y n (blamed h)
  layer {K} {x} {n} y e h = subst (λ z. LayerFaults K x z n (blamed h)) e (layered h)
