-- What each step down does, form by form.
use Rattle.std.specs.Prelude.{◌≡◌, ℕ, zero, suc, ◌+◌, ◌-◌, ◌<◌, List, [], ◌∷◌, ◌++◌, map, length, take, drop, Option, Some, None}
use Rattle.std.specs.Prelude.{slice_get, refl}
use Rattle.std.proofs.Common.{sym, ap, ◌∙◌, subst, append_assoc, arith}
use Rattle.std.proofs.lemmas.List.{map-append, length-append, take_at, take_all}
use Rattle.grammar_core.specs.declared.expr.Expr.{Expr}
use Rattle.grammar_core.specs.declared.expr.Expr.TheVariants as form
use Rattle.grammar_core.specs.declared.expr.Expr.TheOpen.{Expr-F}
use Rattle.grammar_core.specs.declared.expr.Expr.TheViews.{out-Expr, roll-Expr, roll-out-Expr}
use Rattle.grammar_core.specs.declared.operator.Unary.{Unary}
use Rattle.grammar_core.specs.Size.{height}
use Rattle.typing.specs.Types as types
use Rattle.typing.specs.Types.{false_type}
use Rattle.typing.specs.Environment.{Environment}
use Rattle.typing.specs.declared.fault.TypeFault.{TypeFault}
use Rattle.typing.specs.Gained.{CapabilityList}
use Rattle.typing.specs.Typing
use Rattle.typing.specs.Typing.{Types, TypesEach}
use Rattle.typing.specs.Faults.{Faults}
use Rattle.type_checker.specs.Views.{static_view, boolean_view}
use Rattle.type_checker.specs.type_capabilities.CapabilityList.{capabilities}
use Rattle.type_checker.specs.type_capabilities.declared.capability.Capability.{Capability}
use Rattle.type_checker.specs.declared.static_type.BooleanType.{BooleanType}
use Rattle.type_checker.specs.declared.static_type.BooleanType.TheVariants as truth
use Rattle.type_checker.specs.declared.static_type.StaticType.{StaticType}
use Rattle.fault_places.specs.declared.steps.Next.{Next}
use Rattle.fault_places.specs.declared.steps.Next.TheVariants as next
use Rattle.typing.specs.BlamedExpressions.{Blame, under, blamed}
use Rattle.typing.specs.Places.{operands_in, operands_of}
use Rattle.fault_places.specs.inner.Steps.{IsUntyped, IsTyped, GoesDown, StopsAt, stopped, after, after_test}
use Rattle.fault_places.proofs.FoundBlame.{boolean_so, pairs_append}
use Rattle.typing.proofs.Layers.{EachFaults, LayerFaults, demand, layer}
use Rattle.fault_places.proofs.Lists.{some_same}
use Rattle.typing.proofs.Items.{within, parted, grown, as_many, all_taken}
use Rattle.typing.proofs.Existing.{one_judgement}
use Rattle.typing.proofs.Going
use Rattle.typing.proofs.Lower.{lower}

-- what was gained is forgotten again
forgotten : {env : Environment} {ps qs : List Capability} {ts us : List StaticType} {a : Expr} {o : Option BooleanType} (n : ℕ)
    → n ≡ length ps → IsTyped env ps ts a qs us o → take n qs ≡ ps
forgotten {ps = ps} n e t = ap (take n) t.extended ∙ take_at ps t.gained n (sym e)

forgotten_both : {env : Environment} {ps qs gs : List Capability} {ts us vs ws : List StaticType} {a b : Expr} {o p : Option BooleanType}
    (n : ℕ) → n ≡ length ps → IsTyped env ps ts a qs us o → IsTyped env qs vs b gs ws p → take n gs ≡ ps
forgotten_both {ps = ps} n e t g =
    ap (take n) (g.extended ∙ (ap (λ l. l ++ g.gained) t.extended ∙ append_assoc ps t.gained g.gained))
    ∙ take_at ps (t.gained ++ g.gained) n (sym e)

-- all are kept
kept : {X : Type 0} (n : ℕ) (xs : List X) → n ≡ length xs → take n xs ≡ xs
kept n xs e = take_all n xs (omega (arith, e))

some_not_none : {X : Type 0} {a : X} → Some a ≡ None → ⊥
some_not_none e = cc

none_not_some : {X : Type 0} {a : X} → None ≡ Some a → ⊥
none_not_some e = cc

each_more : {env : Environment} {K : CapabilityList} {xs : List Expr} {ts : List types.StaticType} {x : Expr} {t : types.StaticType} {L : CapabilityList}
    → TypesEach env K xs ts → Types env K x t L → TypesEach env K (xs ++ x ∷ []) (ts ++ t ∷ [])
each_more Typing.types_none h = Typing.types_more h Typing.types_none
each_more (Typing.types_more g gs) h = Typing.types_more g (each_more gs h)

module _ (env : Environment) (ps : List Capability) where
  -- the way down under pairs that are these
  abbrev Below : Expr → ℕ → Expr → CapabilityList → Type 0
  Below x i y M = (height y < height x)
      × ((n : TypeFault) (h : Faults env (capabilities ps) x n) → (g : Faults env M y n) × (blamed h ≡ under i (blamed g)))

  -- under what the first operand gains, too
  faulty_behind : {ts us : List StaticType} {qs rs : List Capability} {a b : Expr} {o : Option BooleanType}
      (h : IsTyped env ps ts a qs us o) (u : IsUntyped env qs b rs) → Faults env (capabilities ps ++ capabilities h.gained) b u.error
  faulty_behind {qs = qs} {b = b} h u = subst (λ M. Faults env M b u.error) (pairs_append ps h.gained qs h.extended) u.has_error

  typed_behind : {ts us vs ws : List StaticType} {qs rs : List Capability} {a b : Expr} {o t : Option BooleanType}
      (h : IsTyped env ps ts a qs us o) (g : IsTyped env qs vs b rs ws t)
      → Types env (capabilities ps ++ capabilities h.gained) b (static_view g.kind) (capabilities g.gained)
  typed_behind {qs = qs} {b = b} h g =
      subst (λ M. Types env M b (static_view g.kind) (capabilities g.gained)) (pairs_append ps h.gained qs h.extended) g.typed

  known_behind : {ts us : List StaticType} {qs rs : List Capability} {a b : Expr} {o : Option BooleanType}
      (h : IsTyped env ps ts a qs us o) (u : IsUntyped env qs b rs) → capabilities rs ≡ capabilities ps ++ capabilities h.gained
  known_behind {qs = qs} h u = ap capabilities u.unchanged ∙ pairs_append ps h.gained qs h.extended

  -- the operand i of x, and those around it
  lower_there : (x : Expr) (y : Expr-F Expr) → out-Expr x ≡ y → (i : ℕ) (z : Expr) → slice_get (operands_in y) i ≡ Some z → height z < height x
  lower_there x y o i z s =
      let xs = operands_in y in
      lower x (take i xs) (drop (i + 1) xs) z (ap operands_in o ∙ parted xs i z s)

  -- ---- `&&`

  module _ (x a b : Expr) (o : out-Expr x ≡ Expr-F.And a b) where
    and_down_left : {qs : List Capability} → IsUntyped env ps a qs → GoesDown env ps x qs 0 a
    and_down_left u =
        subst (λ M. Below x 0 a M) (sym (ap capabilities u.unchanged)) (
          lower_there x (Expr-F.And a b) o 0 a refl,
          λ n h. Going.and_goes_left one_judgement env x a b u.has_error (layer env (Expr-F.And a b) o h),
        )

    and_stop_left : {us : List StaticType} {qs : List Capability} → IsTyped env ps [] a qs us None → StopsAt env ps x (Some 0) us
    and_stop_left t n h =
        Going.and_stops_left one_judgement env x a b t.typed t.boolean (layer env (Expr-F.And a b) o h)
        ∙ ap (λ vs. stopped x (Some 0) vs) (sym t.appended)

    and_down_right : {us : List StaticType} {qs rs : List Capability} {k : BooleanType}
        → IsTyped env ps [] a qs us (Some k) → IsUntyped env qs b rs → GoesDown env ps x rs 1 b
    and_down_right {k = k} t u =
        subst (λ M. Below x 1 b M) (sym (known_behind t u)) (
          lower_there x (Expr-F.And a b) o 1 b refl,
          λ n h. Going.and_is_sound one_judgement env x a b t.typed (boolean_so k t.boolean) (faulty_behind t u) (layer env (Expr-F.And a b) o h),
        )

    and_stop_right : {us ws : List StaticType} {qs rs : List Capability} {k : BooleanType} {p : Option BooleanType}
        → IsTyped env ps [] a qs us (Some k) → IsTyped env qs [] b rs ws p → StopsAt env ps x (Some 1) ws
    and_stop_right {k = k} t g n h =
        Going.and_stops_right one_judgement env x a b t.typed (boolean_so k t.boolean) (typed_behind t g) (layer env (Expr-F.And a b) o h)
        ∙ ap (λ us. stopped x (Some 1) us) (sym g.appended)

  -- ---- `||`

  module _ (x a b : Expr) (o : out-Expr x ≡ Expr-F.Or a b) where
    or_down_left : {qs : List Capability} → IsUntyped env ps a qs → GoesDown env ps x qs 0 a
    or_down_left u =
        subst (λ M. Below x 0 a M) (sym (ap capabilities u.unchanged)) (
          lower_there x (Expr-F.Or a b) o 0 a refl,
          λ n h. Going.or_goes_left one_judgement env x a b u.has_error (layer env (Expr-F.Or a b) o h),
        )

    or_stop_left : {us : List StaticType} {qs : List Capability} → IsTyped env ps [] a qs us None → StopsAt env ps x (Some 0) us
    or_stop_left t n h =
        Going.or_stops_left one_judgement env x a b t.typed t.boolean (layer env (Expr-F.Or a b) o h)
        ∙ ap (λ vs. stopped x (Some 0) vs) (sym t.appended)

    or_down_right : {us : List StaticType} {qs rs : List Capability} {k : BooleanType}
        → IsTyped env ps [] a qs us (Some k) → IsUntyped env ps b rs → GoesDown env ps x rs 1 b
    or_down_right {k = k} t u =
        subst (λ M. Below x 1 b M) (sym (ap capabilities u.unchanged)) (
          lower_there x (Expr-F.Or a b) o 1 b refl,
          λ n h. Going.or_is_sound one_judgement env x a b t.typed (boolean_so k t.boolean) u.has_error (layer env (Expr-F.Or a b) o h),
        )

    or_stop_right : {us ws : List StaticType} {qs rs : List Capability} {k : BooleanType} {p : Option BooleanType}
        → IsTyped env ps [] a qs us (Some k) → IsTyped env ps [] b rs ws p → StopsAt env ps x (Some 1) ws
    or_stop_right {k = k} t g n h =
        Going.or_stops_right one_judgement env x a b t.typed (boolean_so k t.boolean) g.typed (layer env (Expr-F.Or a b) o h)
        ∙ ap (λ us. stopped x (Some 1) us) (sym g.appended)

  -- ---- `if`

  module _ (x a b c : Expr) (o : out-Expr x ≡ Expr-F.If a b c) where
    if_down_test : {qs : List Capability} → IsUntyped env ps a qs → GoesDown env ps x qs 0 a
    if_down_test u =
        subst (λ M. Below x 0 a M) (sym (ap capabilities u.unchanged)) (
          lower_there x (Expr-F.If a b c) o 0 a refl,
          λ n h. Going.if_goes_test one_judgement env x a b c u.has_error (layer env (Expr-F.If a b c) o h),
        )

    if_stop_test : {us : List StaticType} {qs : List Capability} → IsTyped env ps [] a qs us None → StopsAt env ps x (Some 0) us
    if_stop_test t n h =
        Going.if_stops_test one_judgement env x a b c t.typed t.boolean (layer env (Expr-F.If a b c) o h)
        ∙ ap (λ vs. stopped x (Some 0) vs) (sym t.appended)

    if_down_only_else : {L : CapabilityList} {rs : List Capability} → Types env (capabilities ps) a false_type L → IsUntyped env ps c rs
        → GoesDown env ps x rs 2 c
    if_down_only_else f u =
        subst (λ M. Below x 2 c M) (sym (ap capabilities u.unchanged)) (
          lower_there x (Expr-F.If a b c) o 2 c refl,
          λ n h. Going.if_goes_only_else one_judgement env x a b c f (layer env (Expr-F.If a b c) o h),
        )

    -- only `else` is typed, and has a type, so the `if` has no error
    if_typed_else : {L : CapabilityList} {rs : List Capability} {ts us : List StaticType} {p : Option BooleanType} (vs : List StaticType)
        → Types env (capabilities ps) a false_type L → IsTyped env ps ts c rs us p → StopsAt env ps x None vs
    if_typed_else vs f t n h =
        absurd (Going.never one_judgement env t.typed (Going.if_goes_only_else one_judgement env x a b c f (layer env (Expr-F.If a b c) o h)).0)

    if_down_then : {us : List StaticType} {qs rs : List Capability} {k : BooleanType}
        → IsTyped env ps [] a qs us (Some k) → ¬ (boolean_view k ≡ false_type) → IsUntyped env qs b rs → GoesDown env ps x rs 1 b
    if_down_then {k = k} t r u =
        subst (λ M. Below x 1 b M) (sym (known_behind t u)) (
          lower_there x (Expr-F.If a b c) o 1 b refl,
          λ n h. Going.if_goes_then one_judgement env x a b c t.typed (boolean_so k t.boolean) (λ e. r (sym t.boolean ∙ e)) (faulty_behind t u)
              (layer env (Expr-F.If a b c) o h),
        )

    if_down_else : {us ws : List StaticType} {qs gs rs : List Capability} {k : BooleanType} {p : Option BooleanType}
        → IsTyped env ps [] a qs us (Some k) → ¬ (boolean_view k ≡ false_type) → IsTyped env qs [] b gs ws p
        → IsUntyped env ps c rs → GoesDown env ps x rs 2 c
    if_down_else {k = k} t r g u =
        subst (λ M. Below x 2 c M) (sym (ap capabilities u.unchanged)) (
          lower_there x (Expr-F.If a b c) o 2 c refl,
          λ n h. Going.if_goes_else one_judgement env x a b c t.typed (boolean_so k t.boolean) (λ e. r (sym t.boolean ∙ e)) (typed_behind t g)
              u.has_error (layer env (Expr-F.If a b c) o h),
        )

    if_stop : {us ws zs : List StaticType} {qs gs rs : List Capability} {k : BooleanType} {p q : Option BooleanType}
        → IsTyped env ps [] a qs us (Some k) → ¬ (boolean_view k ≡ false_type) → IsTyped env qs [] b gs ws p
        → IsTyped env ps ws c rs zs q → StopsAt env ps x None zs
    if_stop {k = k} t r g i n h =
        Going.if_stops one_judgement env x a b c t.typed (boolean_so k t.boolean) (λ e. r (sym t.boolean ∙ e)) (typed_behind t g) i.typed
        (layer env (Expr-F.If a b c) o h)
        ∙ ap (λ us. stopped x None us) (sym (i.appended ∙ ap (λ vs. vs ++ i.kind ∷ []) g.appended))

  -- ---- the other forms

  -- x is of the form y, whose demand is about the types of all operands
  abbrev DemandsAll : Expr → Expr-F Expr → Type 0
  DemandsAll x y = (n : TypeFault) (d : Blame) → LayerFaults env (capabilities ps) x y n d
      → EachFaults env (capabilities ps) (operands_in y) (demand y x) n d

  -- the first operands, as many as there are types, have these
  abbrev TypedSoFar : Expr-F Expr → List StaticType → Type 0
  TypedSoFar y ts = TypesEach env (capabilities ps) (take (length ts) (operands_in y)) (map static_view ts)

  abbrev Among : Expr-F Expr → ℕ → List Capability → List StaticType → Type 0
  Among y i ks ts = (ks ≡ ps) × ((i ≡ length ts) × TypedSoFar y ts)

  among_first : (y : Expr-F Expr) {ks : List Capability} {ts : List StaticType} → ks ≡ ps → ts ≡ [] → Among y 0 ks ts
  among_first y {ks} {ts} e f = (e, (sym (ap length f), subst (TypedSoFar y) (sym f) Typing.types_none))

  among_goes : (x : Expr) (y : Expr-F Expr) → out-Expr x ≡ y → DemandsAll x y → (i : ℕ) (ts : List StaticType) {ks qs : List Capability} {z : Expr}
      → Among y i ks ts → slice_get (operands_in y) i ≡ Some z → IsUntyped env ks z qs → GoesDown env ps x qs i z
  among_goes x y o w i ts {ks} {qs} {z} (k, (e, h)) s u =
      let xs = operands_in y in
      let t = subst (λ j. TypesEach env (capabilities ps) (take j xs) (map static_view ts)) (sym e) h in
      let f = subst (λ gs. Faults env (capabilities gs) z u.error) k u.has_error in
      let B = demand y x in
      subst (λ M. Below x i z M) (sym (ap capabilities (u.unchanged ∙ k))) (
        lower_there x y o i z s,
        λ n h.
            let each = subst (λ ys. EachFaults env (capabilities ps) ys B n (blamed h)) (parted xs i z s) (w n (blamed h) (layer env y o h)) in
            let g = Going.each_goes one_judgement env (take i xs) (drop (i + 1) xs) z B t f each in
            (g.0, g.1 ∙ ap (λ j. under j (blamed g.0)) (as_many xs i z s)),
      )

  among_ends : (x : Expr) (y : Expr-F Expr) → out-Expr x ≡ y → DemandsAll x y → (i : ℕ) (ts : List StaticType) {ks : List Capability}
      → Among y i ks ts → slice_get (operands_in y) i ≡ None → (n : TypeFault) (h : Faults env (capabilities ps) x n)
      → blamed h ≡ demand y x (map static_view ts)
  among_ends x y o w i ts (k, (e, g)) s n h =
      let xs = operands_in y in
      let t = subst (λ ys. TypesEach env (capabilities ps) ys (map static_view ts)) (all_taken xs i s)
      (subst (λ j. TypesEach env (capabilities ps) (take j xs) (map static_view ts)) (sym e) g) in
      Going.each_stops one_judgement env xs (demand y x) t (w n (blamed h) (layer env y o h))

  among_more : (y : Expr-F Expr) (i n l : ℕ) {ks qs : List Capability} {ts us : List StaticType} {z : Expr} {o : Option BooleanType}
      → n ≡ length ps → l ≡ length us → Among y i ks ts → slice_get (operands_in y) i ≡ Some z → IsTyped env ks ts z qs us o
      → Among y (i + 1) (take n qs) (take l us)
  among_more y i n l {ks} {qs} {ts} {us} {z} {o} many all (k, (e, h)) s t =
      let xs = operands_in y in
      let count : length us ≡ length ts + 1 = ap length t.appended ∙ length-append ts (t.kind ∷ []) in
      let typed = subst (λ gs. Types env (capabilities gs) z (static_view t.kind) (capabilities t.gained)) k t.typed in
      let types_are : map static_view ts ++ static_view t.kind ∷ [] ≡ map static_view us =
      sym (ap (map static_view) t.appended ∙ map-append static_view ts (t.kind ∷ [])) in
      let there = subst (λ j. slice_get xs j ≡ Some z) e s in
      let operands_are : take (length ts) xs ++ z ∷ [] ≡ take (length us) xs =
      sym (ap (λ j. take j xs) count ∙ grown xs (length ts) z there) in
      let so_far : TypedSoFar y us = subst (λ ys. TypesEach env (capabilities ps) ys (map static_view us)) operands_are
      (subst (λ vs. TypesEach env (capabilities ps) (take (length ts) xs ++ z ∷ []) vs) types_are (each_more h typed)) in (
        forgotten n (many ∙ ap length (sym k)) t ∙ k,
        subst (λ vs. (i + 1 ≡ length vs) × TypedSoFar y vs) (sym (kept l us all)) (omega (arith, count, e), so_far),
      )

  -- the form blames its only operand
  one_stops : (x : Expr) (y : Expr-F Expr) → out-Expr x ≡ y → DemandsAll x y → {a : Expr} {ks qs : List Capability} {ts us : List StaticType}
      {p : Option BooleanType} → operands_in y ≡ a ∷ [] → ks ≡ ps → ts ≡ [] → IsTyped env ks ts a qs us p
      → (n : TypeFault) (h : Faults env (capabilities ps) x n) → blamed h ≡ demand y x (map static_view us)
  one_stops x y o w {a} {ks} {qs} {ts} {us} {p} is k f t n h =
      let g = subst (λ vs. IsTyped env ps vs a qs us p) f (subst (λ gs. IsTyped env gs ts a qs us p) k t) in
      let e : TypesEach env (capabilities ps) (a ∷ []) (static_view g.kind ∷ []) = Typing.types_more g.typed Typing.types_none in
      let each = subst (λ ys. EachFaults env (capabilities ps) ys (demand y x) n (blamed h)) is (w n (blamed h) (layer env y o h)) in
      Going.each_stops one_judgement env (a ∷ []) (demand y x) e each ∙ ap (λ vs. demand y x (map static_view vs)) (sym g.appended)

  -- ---- the operands of a form, one after the other

  -- a has a boolean type, and these capabilities are known behind it
  pub record Passed (a : Expr) (ks : List Capability) : Type 0 where
    pub kinds : List StaticType
    pub truth : BooleanType
    pub left : IsTyped env ps [] a ks kinds (Some truth)

  -- the test a of an `if` is False, or it is not and b has the types ts
  pub data BeforeElse (a b : Expr) (ts : List StaticType) : Type 0 where
    test_false : {L : CapabilityList} → Types env (capabilities ps) a false_type L → BeforeElse a b ts
    then_typed : {gs hs : List Capability} {p : Option BooleanType} (t : Passed a gs) → ¬ (boolean_view t.truth ≡ false_type)
        → IsTyped env gs [] b hs ts p → BeforeElse a b ts

  -- the operands of x before the index i have types: ks are the capabilities that are known behind them, and ts are
  -- the types of those that the demand is about
  abbrev pub Standing : Expr → Expr-F Expr → ℕ → List Capability → List StaticType → Type 0
  Standing x (Expr-F.And a b) zero ks ts = (ks ≡ ps) × (ts ≡ [])
  Standing x (Expr-F.And a b) (suc zero) ks ts = Passed a ks × (ts ≡ [])
  Standing x (Expr-F.And a b) (suc (suc i)) ks ts = ⊥
  Standing x (Expr-F.Or a b) zero ks ts = (ks ≡ ps) × (ts ≡ [])
  Standing x (Expr-F.Or a b) (suc zero) ks ts = ((gs : List Capability) × Passed a gs) × ((ks ≡ ps) × (ts ≡ []))
  Standing x (Expr-F.Or a b) (suc (suc i)) ks ts = ⊥
  Standing x (Expr-F.If a b c) zero ks ts = (ks ≡ ps) × (ts ≡ [])
  Standing x (Expr-F.If a b c) (suc zero) ks ts = (t : Passed a ks) × ((¬ (boolean_view t.truth ≡ false_type)) × (ts ≡ []))
  Standing x (Expr-F.If a b c) (suc (suc zero)) ks ts = (ks ≡ ps) × BeforeElse a b ts
  Standing x (Expr-F.If a b c) (suc (suc (suc zero))) ks ts = StopsAt env ps x None ts
  Standing x (Expr-F.If a b c) (suc (suc (suc (suc i)))) ks ts = ⊥
  Standing x (Expr-F.Unary op a) zero ks ts = (ks ≡ ps) × (ts ≡ [])
  Standing x (Expr-F.Unary op a) (suc i) ks ts = ⊥
  Standing x (Expr-F.Has a k) zero ks ts = (ks ≡ ps) × (ts ≡ [])
  Standing x (Expr-F.Has a k) (suc i) ks ts = ⊥
  Standing x y i ks ts = Among y i ks ts

  untyped_at : {ks qs : List Capability} {z : Expr} → ks ≡ ps → IsUntyped env ks z qs → IsUntyped env ps z qs
  untyped_at {qs = qs} {z = z} e u = subst (λ l. IsUntyped env l z qs) e u

  typed_at : {ks qs : List Capability} {ts vs us : List StaticType} {z : Expr} {o : Option BooleanType} → ks ≡ ps → IsTyped env ks ts z qs us o
      → ts ≡ vs → IsTyped env ps vs z qs us o
  typed_at {qs = qs} {ts = ts} {us = us} {z = z} {o = o} e t f =
      subst (λ l. IsTyped env ps l z qs us o) f (subst (λ l. IsTyped env l ts z qs us o) e t)

  no_types : {ks qs : List Capability} {ts us : List StaticType} {z : Expr} {o : Option BooleanType} → ts ≡ [] → IsTyped env ks ts z qs us o
      → IsTyped env ks [] z qs us o
  no_types {ks} {qs} {us = us} {z = z} {o = o} f t = subst (λ l. IsTyped env ks l z qs us o) f t

  -- ---- the operand at hand has an error

  abbrev Goer : Expr → ℕ → List Capability → List Capability → Expr → Type 0
  Goer x i ks qs z = IsUntyped env ks z qs → GoesDown env ps x qs i z

  pub goes : (x : Expr) (y : Expr-F Expr) → out-Expr x ≡ y → (i : ℕ) (ts : List StaticType) {ks qs : List Capability} {z : Expr}
      → Standing x y i ks ts → slice_get (operands_in y) i ≡ Some z → Goer x i ks qs z
  goes x (Expr-F.And a b) o zero ts {ks} {qs} (e, f) s = subst (Goer x 0 ks qs) (some_same s) (λ u. and_down_left x a b o (untyped_at e u))
  goes x (Expr-F.And a b) o (suc zero) ts {ks} {qs} (t, f) s = subst (Goer x 1 ks qs) (some_same s) (λ u. and_down_right x a b o t.left u)
  goes x (Expr-F.And a b) o (suc (suc i)) ts h s = absurd h
  goes x (Expr-F.Or a b) o zero ts {ks} {qs} (e, f) s = subst (Goer x 0 ks qs) (some_same s) (λ u. or_down_left x a b o (untyped_at e u))
  goes x (Expr-F.Or a b) o (suc zero) ts {ks} {qs} ((gs, t), (e, f)) s =
      subst (Goer x 1 ks qs) (some_same s) (λ u. or_down_right x a b o t.left (untyped_at e u))
  goes x (Expr-F.Or a b) o (suc (suc i)) ts h s = absurd h
  goes x (Expr-F.If a b c) o zero ts {ks} {qs} (e, f) s = subst (Goer x 0 ks qs) (some_same s) (λ u. if_down_test x a b c o (untyped_at e u))
  goes x (Expr-F.If a b c) o (suc zero) ts {ks} {qs} (t, (r, f)) s =
      subst (Goer x 1 ks qs) (some_same s) (λ u. if_down_then x a b c o t.left r u)
  goes x (Expr-F.If a b c) o (suc (suc zero)) ts {ks} {qs} (e, test_false f) s =
      subst (Goer x 2 ks qs) (some_same s) (λ u. if_down_only_else x a b c o f (untyped_at e u))
  goes x (Expr-F.If a b c) o (suc (suc zero)) ts {ks} {qs} (e, then_typed t r g) s =
      subst (Goer x 2 ks qs) (some_same s) (λ u. if_down_else x a b c o t.left r g (untyped_at e u))
  goes x (Expr-F.If a b c) o (suc (suc (suc zero))) ts h s = absurd (none_not_some s)
  goes x (Expr-F.If a b c) o (suc (suc (suc (suc i)))) ts h s = absurd h
  goes x (Expr-F.Unary op a) o zero ts (e, f) s = among_goes x (Expr-F.Unary op a) o (λ n d k. k) 0 ts (among_first (Expr-F.Unary op a) e f) s
  goes x (Expr-F.Unary op a) o (suc i) ts h s = absurd h
  goes x (Expr-F.Has a k) o zero ts (e, f) s = among_goes x (Expr-F.Has a k) o (λ n d k. k) 0 ts (among_first (Expr-F.Has a k) e f) s
  goes x (Expr-F.Has a k) o (suc i) ts h s = absurd h
  goes x (Expr-F.Literal l) o i ts h s = among_goes x (Expr-F.Literal l) o (λ n d k. absurd k) i ts h s
  goes x (Expr-F.Variable v) o i ts h s = among_goes x (Expr-F.Variable v) o (λ n d k. absurd k) i ts h s
  goes x (Expr-F.Binary op a b) o i ts h s = among_goes x (Expr-F.Binary op a b) o (λ n d k. k) i ts h s
  goes x (Expr-F.Field a k) o i ts h s = among_goes x (Expr-F.Field a k) o (λ n d k. k) i ts h s
  goes x (Expr-F.Set xs) o i ts h s = among_goes x (Expr-F.Set xs) o (λ n d k. k) i ts h s
  goes x (Expr-F.Record fs) o i ts h s = among_goes x (Expr-F.Record fs) o (λ n d k. k) i ts h s
  goes x (Expr-F.UnaryCall called a) o i ts h s = among_goes x (Expr-F.UnaryCall called a) o (λ n d k. k) i ts h s
  goes x (Expr-F.BinaryCall called a b) o i ts h s = among_goes x (Expr-F.BinaryCall called a b) o (λ n d k. k) i ts h s

  -- ---- all operands have types

  pub ends : (x : Expr) (y : Expr-F Expr) → out-Expr x ≡ y → (i : ℕ) (ks : List Capability) (ts : List StaticType)
      → Standing x y i ks ts → slice_get (operands_in y) i ≡ None → StopsAt env ps x None ts
  ends x (Expr-F.And a b) o zero ks ts h s = absurd (some_not_none s)
  ends x (Expr-F.And a b) o (suc zero) ks ts h s = absurd (some_not_none s)
  ends x (Expr-F.And a b) o (suc (suc i)) ks ts h s = absurd h
  ends x (Expr-F.Or a b) o zero ks ts h s = absurd (some_not_none s)
  ends x (Expr-F.Or a b) o (suc zero) ks ts h s = absurd (some_not_none s)
  ends x (Expr-F.Or a b) o (suc (suc i)) ks ts h s = absurd h
  ends x (Expr-F.If a b c) o zero ks ts h s = absurd (some_not_none s)
  ends x (Expr-F.If a b c) o (suc zero) ks ts h s = absurd (some_not_none s)
  ends x (Expr-F.If a b c) o (suc (suc zero)) ks ts h s = absurd (some_not_none s)
  ends x (Expr-F.If a b c) o (suc (suc (suc zero))) ks ts h s = h
  ends x (Expr-F.If a b c) o (suc (suc (suc (suc i)))) ks ts h s = absurd h
  ends x (Expr-F.Unary op a) o zero ks ts h s = absurd (some_not_none s)
  ends x (Expr-F.Unary op a) o (suc i) ks ts h s = absurd h
  ends x (Expr-F.Has a k) o zero ks ts h s = absurd (some_not_none s)
  ends x (Expr-F.Has a k) o (suc i) ks ts h s = absurd h
  ends x (Expr-F.Literal l) o i ks ts h s = among_ends x (Expr-F.Literal l) o (λ n d k. absurd k) i ts h s
  ends x (Expr-F.Variable v) o i ks ts h s = among_ends x (Expr-F.Variable v) o (λ n d k. absurd k) i ts h s
  ends x (Expr-F.Binary op a b) o i ks ts h s = among_ends x (Expr-F.Binary op a b) o (λ n d k. k) i ts h s
  ends x (Expr-F.Field a k) o i ks ts h s = among_ends x (Expr-F.Field a k) o (λ n d k. k) i ts h s
  ends x (Expr-F.Set xs) o i ks ts h s = among_ends x (Expr-F.Set xs) o (λ n d k. k) i ts h s
  ends x (Expr-F.Record fs) o i ks ts h s = among_ends x (Expr-F.Record fs) o (λ n d k. k) i ts h s
  ends x (Expr-F.UnaryCall called a) o i ks ts h s = among_ends x (Expr-F.UnaryCall called a) o (λ n d k. k) i ts h s
  ends x (Expr-F.BinaryCall called a b) o i ks ts h s = among_ends x (Expr-F.BinaryCall called a b) o (λ n d k. k) i ts h s

  pub first : (x : Expr) (y : Expr-F Expr) {ks : List Capability} {ts : List StaticType} → ks ≡ ps → ts ≡ [] → Standing x y 0 ks ts
  first x (Expr-F.And a b) e f = (e, f)
  first x (Expr-F.Or a b) e f = (e, f)
  first x (Expr-F.If a b c) e f = (e, f)
  first x (Expr-F.Unary op a) e f = (e, f)
  first x (Expr-F.Has a k) e f = (e, f)
  first x (Expr-F.Literal l) e f = among_first (Expr-F.Literal l) e f
  first x (Expr-F.Variable v) e f = among_first (Expr-F.Variable v) e f
  first x (Expr-F.Binary op a b) e f = among_first (Expr-F.Binary op a b) e f
  first x (Expr-F.Field a k) e f = among_first (Expr-F.Field a k) e f
  first x (Expr-F.Set xs) e f = among_first (Expr-F.Set xs) e f
  first x (Expr-F.Record fs) e f = among_first (Expr-F.Record fs) e f
  first x (Expr-F.UnaryCall called a) e f = among_first (Expr-F.UnaryCall called a) e f
  first x (Expr-F.BinaryCall called a b) e f = among_first (Expr-F.BinaryCall called a b) e f

  -- ---- the operand at hand has a type: what comes after it

  passed : (m : ℕ) {a : Expr} {qs : List Capability} {us : List StaticType} {k : BooleanType} → m ≡ length qs
      → IsTyped env ps [] a qs us (Some k) → Passed a (take m qs)
  passed m {a} {qs} {us} {k} e t = subst (Passed a) (sym (kept m qs e)) (record { kinds = us; truth = k; left = t })

  not_false : (k : BooleanType) → ¬ (boolean_view k ≡ false_type) → (m : ℕ) {a : Expr} {qs : List Capability} {us : List StaticType}
      → m ≡ length qs → IsTyped env ps [] a qs us (Some k) → (t : Passed a (take m qs)) × (¬ (boolean_view t.truth ≡ false_type))
  not_false k r m {a} {qs} {us} e t =
      subst (λ l. (t : Passed a l) × (¬ (boolean_view t.truth ≡ false_type))) (sym (kept m qs e))
      (record { kinds = us; truth = k; left = t }, r)

  -- what follows the operand i of x
  abbrev pub IsNext : Expr → Expr-F Expr → ℕ → List Capability → List StaticType → Next → Type 0
  IsNext x y i qs us next.Blamed = StopsAt env ps x (Some i) us
  IsNext x y i qs us (next.Operand j n l) = (i < j) × Standing x y j (take n qs) (take l us)

  behind_test : (x a b c : Expr) (n m : ℕ) {qs : List Capability} {us : List StaticType} (k : BooleanType) → n ≡ length ps → m ≡ length qs
      → IsTyped env ps [] a qs us (Some k) → IsNext x (Expr-F.If a b c) 0 qs us (after_test k n m)
  behind_test x a b c n m {qs} truth.False many all t =
      let f = subst (λ s. Types env (capabilities ps) a s (capabilities t.gained)) t.boolean t.typed in
      (omega arith, (forgotten n many t, test_false f))
  behind_test x a b c n m {qs} truth.True many all t =
      let g = not_false truth.True Going.true_not_false m all t in (omega arith, (g.0, (g.1, refl)))
  behind_test x a b c n m {qs} truth.Either many all t =
      let g = not_false truth.Either Going.either_not_false m all t in (omega arith, (g.0, (g.1, refl)))

  -- `else` has a type, behind the test and `then`
  behind_else : (x a b c : Expr) → out-Expr x ≡ Expr-F.If a b c → {qs : List Capability} {ts us : List StaticType} {p : Option BooleanType}
      → BeforeElse a b ts → IsTyped env ps ts c qs us p → StopsAt env ps x None us
  behind_else x a b c o {us = us} (test_false f) t = if_typed_else x a b c o us f t
  behind_else x a b c o (then_typed u r g) t = if_stop x a b c o u.left r g t

  abbrev GoesOn : Expr → Expr-F Expr → ℕ → ℕ → ℕ → ℕ → List Capability → List StaticType → List Capability → List StaticType → Option BooleanType → Expr
      → Type 0
  GoesOn x y i n m l ks ts qs us t z =
      IsTyped env ks ts z qs us t → IsNext x y i qs us (after y i t n m l)

  pub follows : (x : Expr) (y : Expr-F Expr) → out-Expr x ≡ y → (i n m l : ℕ) {ks qs : List Capability} {ts us : List StaticType} (t : Option BooleanType)
      {z : Expr} → n ≡ length ps → m ≡ length qs → l ≡ length us → Standing x y i ks ts → slice_get (operands_in y) i ≡ Some z
      → GoesOn x y i n m l ks ts qs us t z
  follows x (Expr-F.And a b) o zero n m l {ks} {qs} {ts} {us} None many all full (e, f) s =
      subst (GoesOn x (Expr-F.And a b) 0 n m l ks ts qs us None) (some_same s) (λ t. and_stop_left x a b o (typed_at e t f))
  follows x (Expr-F.And a b) o zero n m l {ks} {qs} {ts} {us} (Some k) many all full (e, f) s =
      subst (GoesOn x (Expr-F.And a b) 0 n m l ks ts qs us (Some k)) (some_same s)
      (λ t. (omega arith, (passed m all (typed_at e t f), refl)))
  follows x (Expr-F.And a b) o (suc zero) n m l {ks} {qs} {ts} {us} None many all full (u, f) s =
      subst (GoesOn x (Expr-F.And a b) 1 n m l ks ts qs us None) (some_same s) (λ t. and_stop_right x a b o u.left (no_types f t))
  follows x (Expr-F.And a b) o (suc zero) n m l {ks} {qs} {ts} {us} (Some k) many all full (u, f) s =
      subst (GoesOn x (Expr-F.And a b) 1 n m l ks ts qs us (Some k)) (some_same s) (λ t. and_stop_right x a b o u.left (no_types f t))
  follows x (Expr-F.And a b) o (suc (suc i)) n m l t many all full h s = absurd h
  follows x (Expr-F.Or a b) o zero n m l {ks} {qs} {ts} {us} None many all full (e, f) s =
      subst (GoesOn x (Expr-F.Or a b) 0 n m l ks ts qs us None) (some_same s) (λ t. or_stop_left x a b o (typed_at e t f))
  follows x (Expr-F.Or a b) o zero n m l {ks} {qs} {ts} {us} (Some k) many all full (e, f) s =
      subst (GoesOn x (Expr-F.Or a b) 0 n m l ks ts qs us (Some k)) (some_same s) (λ t.
      let g = typed_at e t f in
      (omega arith, ((qs, record { kinds = us; truth = k; left = g }), (forgotten n many g, refl))))
  follows x (Expr-F.Or a b) o (suc zero) n m l {ks} {qs} {ts} {us} None many all full ((gs, u), (e, f)) s =
      subst (GoesOn x (Expr-F.Or a b) 1 n m l ks ts qs us None) (some_same s) (λ t. or_stop_right x a b o u.left (typed_at e t f))
  follows x (Expr-F.Or a b) o (suc zero) n m l {ks} {qs} {ts} {us} (Some k) many all full ((gs, u), (e, f)) s =
      subst (GoesOn x (Expr-F.Or a b) 1 n m l ks ts qs us (Some k)) (some_same s) (λ t. or_stop_right x a b o u.left (typed_at e t f))
  follows x (Expr-F.Or a b) o (suc (suc i)) n m l t many all full h s = absurd h
  follows x (Expr-F.If a b c) o zero n m l {ks} {qs} {ts} {us} None many all full (e, f) s =
      subst (GoesOn x (Expr-F.If a b c) 0 n m l ks ts qs us None) (some_same s) (λ t. if_stop_test x a b c o (typed_at e t f))
  follows x (Expr-F.If a b c) o zero n m l {ks} {qs} {ts} {us} (Some k) many all full (e, f) s =
      subst (GoesOn x (Expr-F.If a b c) 0 n m l ks ts qs us (Some k)) (some_same s)
      (λ t. behind_test x a b c n m k many all (typed_at e t f))
  follows x (Expr-F.If a b c) o (suc zero) n m l {ks} {qs} {ts} {us} p many all full (u, (r, f)) s =
      subst (GoesOn x (Expr-F.If a b c) 1 n m l ks ts qs us p) (some_same s) (λ t.
      let g = subst (λ vs. IsTyped env ks [] b qs vs p) (sym (kept l us full)) (no_types f t) in
      (omega arith, (forgotten_both n many u.left t, then_typed u r g)))
  follows x (Expr-F.If a b c) o (suc (suc zero)) n m l {ks} {qs} {ts} {us} p many all full (e, h) s =
      subst (GoesOn x (Expr-F.If a b c) 2 n m l ks ts qs us p) (some_same s) (λ t.
      (omega arith, subst (λ vs. StopsAt env ps x None vs) (sym (kept l us full)) (behind_else x a b c o h (typed_at e t refl))))
  follows x (Expr-F.If a b c) o (suc (suc (suc zero))) n m l t many all full h s = absurd (none_not_some s)
  follows x (Expr-F.If a b c) o (suc (suc (suc (suc i)))) n m l t many all full h s = absurd h
  follows x (Expr-F.Unary op a) o zero n m l {ks} {qs} {ts} {us} p many all full (e, f) s =
      subst (GoesOn x (Expr-F.Unary op a) 0 n m l ks ts qs us p) (some_same s)
      (λ t. one_stops x (Expr-F.Unary op a) o (λ n d k. k) refl e f t)
  follows x (Expr-F.Unary op a) o (suc i) n m l t many all full h s = absurd h
  follows x (Expr-F.Has a name) o zero n m l {ks} {qs} {ts} {us} p many all full (e, f) s =
      subst (GoesOn x (Expr-F.Has a name) 0 n m l ks ts qs us p) (some_same s)
      (λ t. one_stops x (Expr-F.Has a name) o (λ n d k. k) refl e f t)
  follows x (Expr-F.Has a name) o (suc i) n m l t many all full h s = absurd h
  follows x (Expr-F.Literal v) o i n m l p many all full h s = λ t. (omega arith, among_more (Expr-F.Literal v) i n l many full h s t)
  follows x (Expr-F.Variable v) o i n m l p many all full h s = λ t. (omega arith, among_more (Expr-F.Variable v) i n l many full h s t)
  follows x (Expr-F.Binary op a b) o i n m l p many all full h s = λ t. (omega arith, among_more (Expr-F.Binary op a b) i n l many full h s t)
  follows x (Expr-F.Field a k) o i n m l p many all full h s = λ t. (omega arith, among_more (Expr-F.Field a k) i n l many full h s t)
  follows x (Expr-F.Set xs) o i n m l p many all full h s = λ t. (omega arith, among_more (Expr-F.Set xs) i n l many full h s t)
  follows x (Expr-F.Record fs) o i n m l p many all full h s = λ t. (omega arith, among_more (Expr-F.Record fs) i n l many full h s t)
  follows x (Expr-F.UnaryCall called a) o i n m l p many all full h s =
      λ t. (omega arith, among_more (Expr-F.UnaryCall called a) i n l many full h s t)
  follows x (Expr-F.BinaryCall called a b) o i n m l p many all full h s =
      λ t. (omega arith, among_more (Expr-F.BinaryCall called a b) i n l many full h s t)

  -- what comes after it is this
  pub follows_is : (x : Expr) (i n m l : ℕ) {ks qs : List Capability} {ts us : List StaticType} {t : Option BooleanType} {z : Expr} {r : Next}
      → n ≡ length ps → m ≡ length qs → l ≡ length us → Standing x (out-Expr x) i ks ts → slice_get (operands_of x) i ≡ Some z
      → IsTyped env ks ts z qs us t → r ≡ after (out-Expr x) i t n m l
      → IsNext x (out-Expr x) i qs us r
  follows_is x i n m l {qs = qs} {us = us} {t = t} many all full h s typed is =
      subst (IsNext x (out-Expr x) i qs us) (sym is)
      (follows x (out-Expr x) refl i n m l t many all full h s typed)

  -- the next operand is this one, and so much is kept
  pub stands : (x : Expr) (i j n l : ℕ) (qs : List Capability) (us : List StaticType) {ks : List Capability} {ts : List StaticType}
      → IsNext x (out-Expr x) i qs us (next.Operand j n l) → ks ≡ take n qs → ts ≡ take l us → Standing x (out-Expr x) j ks ts
  stands x i j n l qs us {ks} {ts} h e f =
      subst (λ vs. Standing x (out-Expr x) j ks vs) (sym f) (subst (λ gs. Standing x (out-Expr x) j gs (take l us)) (sym e) h.1)

-- fewer operands are left
pub fewer : (xs : List Expr) (i j : ℕ) (z : Expr) → slice_get xs i ≡ Some z → i < j → length xs - j < length xs - i
fewer xs i j z e h = let lt = within xs i z e in omega (arith, lt, h)

-- ---- what comes after an operand, of a form that is known

module _ (x : Expr) (i : ℕ) (t : Option BooleanType) (n m l : ℕ) where
  pub after_is : {w : Expr} {y : Expr-F Expr} {j : ℕ} {p : Option BooleanType} {r : Next} → x ≡ w → out-Expr w ≡ y → i ≡ j → t ≡ p
      → r ≡ after y j p n m l → r ≡ after (out-Expr x) i t n m l
  after_is {y = y} {p = p} e f g h k =
      k
      ∙ sym (ap (λ z. after z i t n m l) (ap out-Expr e ∙ f)
      ∙ (ap (λ o. after y i o n m l) h ∙ ap (λ h. after y h p n m l) g))

  pub after_other : ((a b c : Expr) → x ≡ form.If a b c → ⊥) → ((a b : Expr) → x ≡ form.And a b → ⊥) → ((a b : Expr) → x ≡ form.Or a b → ⊥)
      → ((op : Unary) (a : Expr) → x ≡ form.Unary op a → ⊥) → ((a : Expr) (k : List ℕ) → x ≡ form.Has a k → ⊥)
      → next.Operand (i + 1) n l ≡ after (out-Expr x) i t n m l
  after_other no_if no_and no_or no_unary no_has = at (out-Expr x) refl
    where
      is : (y : Expr-F Expr) (z : Expr) → out-Expr x ≡ y → roll-Expr y ≡ z → x ≡ z
      is y z e f = sym (roll-out-Expr x) ∙ (ap roll-Expr e ∙ f)

      at : (y : Expr-F Expr) → out-Expr x ≡ y → next.Operand (i + 1) n l ≡ after y i t n m l
      at (Expr-F.If a b c) e = absurd (no_if a b c (is (Expr-F.If a b c) (form.If a b c) e (form.rolls-If a b c)))
      at (Expr-F.And a b) e = absurd (no_and a b (is (Expr-F.And a b) (form.And a b) e (form.rolls-And a b)))
      at (Expr-F.Or a b) e = absurd (no_or a b (is (Expr-F.Or a b) (form.Or a b) e (form.rolls-Or a b)))
      at (Expr-F.Unary op a) e = absurd (no_unary op a (is (Expr-F.Unary op a) (form.Unary op a) e (form.rolls-Unary op a)))
      at (Expr-F.Has a k) e = absurd (no_has a k (is (Expr-F.Has a k) (form.Has a k) e (form.rolls-Has a k)))
      at (Expr-F.Literal v) e = refl
      at (Expr-F.Variable v) e = refl
      at (Expr-F.Binary op a b) e = refl
      at (Expr-F.Field a k) e = refl
      at (Expr-F.Set xs) e = refl
      at (Expr-F.Record fs) e = refl
      at (Expr-F.UnaryCall called a) e = refl
      at (Expr-F.BinaryCall called a b) e = refl
