-- What a derivation of a fault blames, by what is judged of the operands: whatever derivation it is.
use Rattle.std.specs.Prelude.{◌≡◌, ℕ, suc, ◌+◌, List, [], ◌∷◌, ◌++◌, length, refl}
use Rattle.std.proofs.Common.{sym, ap, ◌∙◌, subst, arith}
use Rattle.grammar_core.specs.declared.expr.Expr.{Expr}
use Rattle.typing.specs.Types
use Rattle.typing.specs.Types.{StaticType, IsBoolean, true_type, false_type, boolean_type}
use Rattle.typing.specs.Environment.{Environment}
use Rattle.typing.specs.declared.fault.TypeFault.{TypeFault}
use Rattle.typing.specs.Gained.{CapabilityList}
use Rattle.typing.specs.Rows
use Rattle.typing.specs.Rows.{MayBeTrue, MayBeFalse}
use Rattle.typing.specs.Typing.{Types, TypesEach, types_none, types_more}
use Rattle.typing.specs.Faults as faults
use Rattle.typing.specs.Faults.{Faults, FaultsEach}
use Rattle.typing.specs.Judgement.{Judgement, typed, faulty, Judges}
use Rattle.typing.specs.Laws.{HaveOneJudgement}
use Rattle.typing.specs.BlamedExpressions.{Blame, at_itself, at_operand, under, blamed, blamed_each}
use Rattle.typing.proofs.Layers
use Rattle.typing.proofs.Layers.{EachFaults, AndFaults, OrFaults, IfFaults}

typed_same : {s t : StaticType} {L M : CapabilityList} → typed s L ≡ typed t M → s ≡ t
typed_same e = cc

learned_same : {s t : StaticType} {L M : CapabilityList} → typed s L ≡ typed t M → L ≡ M
learned_same e = cc

typed_not_faulty : {t : StaticType} {L : CapabilityList} {n : TypeFault} → typed t L ≡ faulty n → ⊥
typed_not_faulty e = cc

pub true_not_false : true_type ≡ false_type → ⊥
true_not_false e = cc

pub either_not_false : boolean_type ≡ false_type → ⊥
either_not_false e = cc

pub may_be_true_boolean : {s : StaticType} → MayBeTrue s → IsBoolean s
may_be_true_boolean Rows.surely = Types.is_true
may_be_true_boolean Rows.perhaps = Types.is_either

pub may_be_false_boolean : {s : StaticType} → MayBeFalse s → IsBoolean s
may_be_false_boolean Rows.surely_not = Types.is_false
may_be_false_boolean Rows.perhaps_not = Types.is_either

pub may_be_true_not_false : {s : StaticType} → MayBeTrue s → s ≡ false_type → ⊥
may_be_true_not_false Rows.surely e = true_not_false e
may_be_true_not_false Rows.perhaps e = either_not_false e

module _ (one : HaveOneJudgement) (env : Environment) where
  same_judgement : (K : CapabilityList) (x : Expr) (r q : Judgement) → Judges env K x r → Judges env K x q → r ≡ q
  same_judgement K x r q h g = let o = one env K x in o.2 r h ∙ sym (o.2 q g)

  pub same_type : {K L M : CapabilityList} {x : Expr} {s t : StaticType} → Types env K x s L → Types env K x t M → s ≡ t
  same_type {K} {L} {M} {x} {s} {t} h g = typed_same (same_judgement K x (typed s L) (typed t M) h g)

  same_learned : {K L M : CapabilityList} {x : Expr} {s t : StaticType} → Types env K x s L → Types env K x t M → L ≡ M
  same_learned {K} {L} {M} {x} {s} {t} h g = learned_same (same_judgement K x (typed s L) (typed t M) h g)

  pub never : {K L : CapabilityList} {x : Expr} {t : StaticType} {n : TypeFault} → Types env K x t L → Faults env K x n → ⊥
  never {K} {L} {x} {t} {n} h g = typed_not_faulty (same_judgement K x (typed t L) (faulty n) h g)

  -- what is blamed of derivations with d is blamed in the operand y of index i, where the pairs of J are known
  abbrev pub Goes : CapabilityList → Expr → ℕ → TypeFault → Blame → Type 0
  Goes J y i n d = (g : Faults env J y n) × (d ≡ under i (blamed g))

  -- ---- operands in order

  same_types : {K : CapabilityList} (xs : List Expr) {ts us : List StaticType} → TypesEach env K xs ts → TypesEach env K xs us → ts ≡ us
  same_types [] types_none types_none = refl
  same_types (x ∷ xs) (types_more {t} {ts} h hs) (types_more {t = u} {ts = us} g gs) =
      ap (λ v. v ∷ ts) (same_type h g) ∙ ap (λ vs. u ∷ vs) (same_types xs hs gs)

  pub never_each : {K : CapabilityList} (xs : List Expr) {ts : List StaticType} {n : TypeFault} → TypesEach env K xs ts
      → FaultsEach env K xs n → ⊥
  never_each [] h g = elim g [ ]
  never_each (x ∷ xs) (types_more h hs) (faults.fault_here g) = never h g
  never_each (x ∷ xs) (types_more h hs) (faults.fault_later g gs) = never_each xs hs gs

  -- the first one without a type is y, behind those of `before`
  first_faulty : {K : CapabilityList} (j : ℕ) (before rest : List Expr) (y : Expr) {ts : List StaticType} {m n : TypeFault}
      → TypesEach env K before ts → Faults env K y m → (h : FaultsEach env K (before ++ y ∷ rest) n)
      → Goes K y (j + length before) n (blamed_each j h)
  first_faulty j [] rest y t f (faults.fault_here g) =
      let e : j ≡ j + 0 = omega arith in (g, ap (λ k. under k (blamed g)) e)
  first_faulty j [] rest y t f (faults.fault_later h g) = absurd (never h f)
  first_faulty j (x ∷ xs) rest y (types_more t ts) f (faults.fault_here g) = absurd (never t g)
  first_faulty j (x ∷ xs) rest y (types_more t ts) f (faults.fault_later h g) =
      let k = first_faulty (suc j) xs rest y ts f g in
      let e : suc j + length xs ≡ j + suc (length xs) = omega arith in
      (k.0, k.1 ∙ ap (λ i. under i (blamed k.0)) e)

  -- those before y have types, and y has none
  split_typed : {K : CapabilityList} (before rest : List Expr) (y : Expr) {us : List StaticType} → TypesEach env K (before ++ y ∷ rest) us
      → (u : StaticType) × (L : CapabilityList) × Types env K y u L
  split_typed [] rest y (types_more {L} {t} h hs) = (t, L, h)
  split_typed (x ∷ xs) rest y (types_more h hs) = split_typed xs rest y hs

  pub each_goes : {K : CapabilityList} {n : TypeFault} {d : Blame} (before rest : List Expr) (y : Expr) (B : List StaticType → Blame)
      {ts : List StaticType} {m : TypeFault} → TypesEach env K before ts → Faults env K y m
      → EachFaults env K (before ++ y ∷ rest) B n d → Goes K y (length before) n d
  each_goes before rest y B t f (Layers.in_each g q) =
      let k = first_faulty 0 before rest y t f g in
      let e : 0 + length before ≡ length before = omega arith in
      (k.0, q ∙ (k.1 ∙ ap (λ i. under i (blamed k.0)) e))
  each_goes before rest y B t f (Layers.of_each g q) = let k = split_typed before rest y g in absurd (never k.2 f)

  pub each_stops : {K : CapabilityList} {n : TypeFault} {d : Blame} (xs : List Expr) (B : List StaticType → Blame)
      {ts : List StaticType} → TypesEach env K xs ts → EachFaults env K xs B n d → d ≡ B ts
  each_stops xs B t (Layers.in_each g q) = absurd (never_each xs t g)
  each_stops xs B t (Layers.of_each g q) = q ∙ ap B (same_types xs g t)

  -- ---- `&&`

  -- behind what it learns
  behind : {K L M : CapabilityList} {a b : Expr} {s t : StaticType} {n : TypeFault} → Types env K a s L → Types env K a t M
      → (g : Faults env (K ++ M) b n) → Goes (K ++ L) b 1 n (under 1 (blamed g))
  behind {K} {L} {M} {a} {b} {s} {t} {n} h i g = moved (same_learned h i) g
    where
      moved : {N : CapabilityList} → L ≡ N → (k : Faults env (K ++ N) b n) → Goes (K ++ L) b 1 n (under 1 (blamed k))
      moved {N} e = let P : CapabilityList → Type 0 = λ N. (k : Faults env (K ++ N) b n) → Goes (K ++ L) b 1 n (under 1 (blamed k)) in
          subst P e (λ k. (k, refl))

  never_behind : {K L M N : CapabilityList} {a b : Expr} {s t u : StaticType} {n : TypeFault} → Types env K a s L → Types env K a t M
      → Types env (K ++ L) b u N → Faults env (K ++ M) b n → ⊥
  never_behind {K} {L} {M} {N} {a} {b} {s} {t} {u} {n} h i g f =
      never g (subst (λ P. Faults env (K ++ P) b n) (sym (same_learned h i)) f)

  same_behind : {K L M N P : CapabilityList} {a b : Expr} {s t u v : StaticType} → Types env K a s L → Types env K a t M
      → Types env (K ++ L) b u N → Types env (K ++ M) b v P → u ≡ v
  same_behind {K} {L} {M} {N} {P} {a} {b} {s} {t} {u} {v} h i g f =
      same_type g (subst (λ Q. Types env (K ++ Q) b v P) (sym (same_learned h i)) f)

  module _ {K : CapabilityList} {n : TypeFault} {d : Blame} (x a b : Expr) where
    pub and_goes_left : {m : TypeFault} → Faults env K a m → AndFaults env K x a b n d → Goes K a 0 n d
    and_goes_left f (Layers.and_in_left g q) = (g, q)
    and_goes_left f (Layers.and_left h i q) = absurd (never h f)
    and_goes_left f (Layers.and_in_right h m g q) = absurd (never h f)
    and_goes_left f (Layers.and_right h m g q) = absurd (never h f)

    pub and_stops_left : {s : StaticType} {L : CapabilityList} → Types env K a s L → ¬ IsBoolean s → AndFaults env K x a b n d
        → d ≡ at_operand 0 x (s ∷ [])
    and_stops_left t i (Layers.and_in_left g q) = absurd (never t g)
    and_stops_left t i (Layers.and_left h j q) = q ∙ ap (λ u. at_operand 0 x (u ∷ [])) (same_type h t)
    and_stops_left t i (Layers.and_in_right h m g q) =
        absurd (i (subst IsBoolean (same_type h t) (may_be_true_boolean m)))
    and_stops_left t i (Layers.and_right h m g q) =
        absurd (i (subst IsBoolean (same_type h t) (may_be_true_boolean m)))

    pub and_is_sound : {s : StaticType} {L : CapabilityList} {m : TypeFault} → Types env K a s L → IsBoolean s
        → Faults env (K ++ L) b m → AndFaults env K x a b n d → Goes (K ++ L) b 1 n d
    and_is_sound t i f (Layers.and_in_left g q) = absurd (never t g)
    and_is_sound t i f (Layers.and_left h j q) = absurd (j (subst IsBoolean (same_type t h) i))
    and_is_sound t i f (Layers.and_in_right h m g q) = let k = behind t h g in (k.0, q ∙ k.1)
    and_is_sound t i f (Layers.and_right h m g q) = absurd (never_behind h t g f)

    pub and_stops_right : {s u : StaticType} {L M : CapabilityList} → Types env K a s L → IsBoolean s → Types env (K ++ L) b u M
        → AndFaults env K x a b n d → d ≡ at_operand 1 x (u ∷ [])
    and_stops_right t i g (Layers.and_in_left f q) = absurd (never t f)
    and_stops_right t i g (Layers.and_left h j q) = absurd (j (subst IsBoolean (same_type t h) i))
    and_stops_right t i g (Layers.and_in_right h m f q) = absurd (never_behind t h g f)
    and_stops_right t i g (Layers.and_right h m k q) = q ∙ ap (λ v. at_operand 1 x (v ∷ [])) (same_behind h t k g)

    -- ---- `||`

    pub or_goes_left : {m : TypeFault} → Faults env K a m → OrFaults env K x a b n d → Goes K a 0 n d
    or_goes_left f (Layers.or_in_left g q) = (g, q)
    or_goes_left f (Layers.or_left h i q) = absurd (never h f)
    or_goes_left f (Layers.or_in_right h m g q) = absurd (never h f)
    or_goes_left f (Layers.or_right h m g q) = absurd (never h f)

    pub or_stops_left : {s : StaticType} {L : CapabilityList} → Types env K a s L → ¬ IsBoolean s → OrFaults env K x a b n d
        → d ≡ at_operand 0 x (s ∷ [])
    or_stops_left t i (Layers.or_in_left g q) = absurd (never t g)
    or_stops_left t i (Layers.or_left h j q) = q ∙ ap (λ u. at_operand 0 x (u ∷ [])) (same_type h t)
    or_stops_left t i (Layers.or_in_right h m g q) =
        absurd (i (subst IsBoolean (same_type h t) (may_be_false_boolean m)))
    or_stops_left t i (Layers.or_right h m g q) =
        absurd (i (subst IsBoolean (same_type h t) (may_be_false_boolean m)))

    pub or_is_sound : {s : StaticType} {L : CapabilityList} {m : TypeFault} → Types env K a s L → IsBoolean s
        → Faults env K b m → OrFaults env K x a b n d → Goes K b 1 n d
    or_is_sound t i f (Layers.or_in_left g q) = absurd (never t g)
    or_is_sound t i f (Layers.or_left h j q) = absurd (j (subst IsBoolean (same_type t h) i))
    or_is_sound t i f (Layers.or_in_right h m g q) = (g, q)
    or_is_sound t i f (Layers.or_right h m g q) = absurd (never g f)

    pub or_stops_right : {s u : StaticType} {L M : CapabilityList} → Types env K a s L → IsBoolean s → Types env K b u M
        → OrFaults env K x a b n d → d ≡ at_operand 1 x (u ∷ [])
    or_stops_right t i g (Layers.or_in_left f q) = absurd (never t f)
    or_stops_right t i g (Layers.or_left h j q) = absurd (j (subst IsBoolean (same_type t h) i))
    or_stops_right t i g (Layers.or_in_right h m f q) = absurd (never g f)
    or_stops_right t i g (Layers.or_right h m k q) = q ∙ ap (λ v. at_operand 1 x (v ∷ [])) (same_type k g)

  -- ---- `if`

  module _ {K : CapabilityList} {n : TypeFault} {d : Blame} (x a b c : Expr) where
    pub if_goes_test : {m : TypeFault} → Faults env K a m → IfFaults env K x a b c n d → Goes K a 0 n d
    if_goes_test f (Layers.if_in_test g q) = (g, q)
    if_goes_test f (Layers.if_test h i q) = absurd (never h f)
    if_goes_test f (Layers.if_in_then h m g q) = absurd (never h f)
    if_goes_test f (Layers.if_in_only_else h g q) = absurd (never h f)
    if_goes_test f (Layers.if_in_else h i g q) = absurd (never h f)
    if_goes_test f (Layers.if_branches h g i q) = absurd (never h f)

    pub if_stops_test : {s : StaticType} {L : CapabilityList} → Types env K a s L → ¬ IsBoolean s → IfFaults env K x a b c n d
        → d ≡ at_operand 0 x (s ∷ [])
    if_stops_test t i (Layers.if_in_test g q) = absurd (never t g)
    if_stops_test t i (Layers.if_test h j q) = q ∙ ap (λ u. at_operand 0 x (u ∷ [])) (same_type h t)
    if_stops_test t i (Layers.if_in_then h m g q) = absurd (i (subst IsBoolean (same_type h t) (may_be_true_boolean m)))
    if_stops_test t i (Layers.if_in_only_else h g q) = absurd (i (subst IsBoolean (same_type h t) Types.is_false))
    if_stops_test t i (Layers.if_in_else h k g q) = absurd (i (subst IsBoolean (same_type h t) Types.is_either))
    if_stops_test t i (Layers.if_branches h g k q) = absurd (i (subst IsBoolean (same_type h t) Types.is_either))

    -- the test is False
    pub if_goes_only_else : {L : CapabilityList} → Types env K a false_type L → IfFaults env K x a b c n d → Goes K c 2 n d
    if_goes_only_else t (Layers.if_in_test g q) = absurd (never t g)
    if_goes_only_else t (Layers.if_test h j q) = absurd (j (subst IsBoolean (same_type t h) Types.is_false))
    if_goes_only_else t (Layers.if_in_then h m g q) = absurd (may_be_true_not_false m (same_type h t))
    if_goes_only_else t (Layers.if_in_only_else h g q) = (g, q)
    if_goes_only_else t (Layers.if_in_else h k g q) = (g, q)
    if_goes_only_else t (Layers.if_branches h g k q) = absurd (either_not_false (same_type h t))

    -- it may be true
    pub if_goes_then : {s : StaticType} {L : CapabilityList} {m : TypeFault} → Types env K a s L → IsBoolean s → ¬ (s ≡ false_type)
        → Faults env (K ++ L) b m → IfFaults env K x a b c n d → Goes (K ++ L) b 1 n d
    if_goes_then t i r f (Layers.if_in_test g q) = absurd (never t g)
    if_goes_then t i r f (Layers.if_test h j q) = absurd (j (subst IsBoolean (same_type t h) i))
    if_goes_then t i r f (Layers.if_in_then h m g q) = let k = behind t h g in (k.0, q ∙ k.1)
    if_goes_then t i r f (Layers.if_in_only_else h g q) = absurd (r (same_type t h))
    if_goes_then t i r f (Layers.if_in_else h k g q) = absurd (never_behind h t k f)
    if_goes_then t i r f (Layers.if_branches h k g q) = absurd (never_behind h t k f)

    pub if_goes_else : {s u : StaticType} {L M : CapabilityList} → Types env K a s L → IsBoolean s → ¬ (s ≡ false_type)
        → Types env (K ++ L) b u M → {m : TypeFault} → Faults env K c m → IfFaults env K x a b c n d → Goes K c 2 n d
    if_goes_else t i r v f (Layers.if_in_test g q) = absurd (never t g)
    if_goes_else t i r v f (Layers.if_test h j q) = absurd (j (subst IsBoolean (same_type t h) i))
    if_goes_else t i r v f (Layers.if_in_then h m g q) = absurd (never_behind t h v g)
    if_goes_else t i r v f (Layers.if_in_only_else h g q) = absurd (r (same_type t h))
    if_goes_else t i r v f (Layers.if_in_else h k g q) = (g, q)
    if_goes_else t i r v f (Layers.if_branches h k g q) = absurd (never g f)

    pub if_stops : {s u w : StaticType} {L M N : CapabilityList} → Types env K a s L → IsBoolean s → ¬ (s ≡ false_type)
        → Types env (K ++ L) b u M → Types env K c w N → IfFaults env K x a b c n d → d ≡ at_itself x (u ∷ w ∷ [])
    if_stops t i r v k (Layers.if_in_test g q) = absurd (never t g)
    if_stops t i r v k (Layers.if_test h j q) = absurd (j (subst IsBoolean (same_type t h) i))
    if_stops t i r v k (Layers.if_in_then h m g q) = absurd (never_behind t h v g)
    if_stops t i r v k (Layers.if_in_only_else h g q) = absurd (never k g)
    if_stops t i r v k (Layers.if_in_else h j g q) = absurd (never k g)
    if_stops {u = u} {w = w} t i r v k (Layers.if_branches {s = p} {t = o} h g j q) =
        q ∙ ap (λ z. at_itself x (z ∷ o ∷ [])) (same_behind h t g v) ∙ ap (λ z. at_itself x (u ∷ z ∷ [])) (same_type j k)
