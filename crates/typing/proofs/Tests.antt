-- What literals settle, and what calls read of them, as tests.
use Rattle.std.specs.Prelude.{◌≡◌, ◌⊎◌, ℕ, ℤ, List, [], ◌∷◌, Bool, true, false, IsTrue, Contains, Option, Some, None}
use Rattle.std.specs.Prelude.{refl}
use Rattle.std.specs.Bool.{Decides, one_answer}
use Rattle.std.proofs.Common.{inl, inr, ap, sym, subst, ◌∙◌}
use Rattle.std.proofs.lemmas.Bool.{false≢true}
use Rattle.values.specs.extensions.DecimalText.{IsDecimalText}
use Rattle.values.specs.extensions.Network.{Network}
use Rattle.values.specs.extensions.NetworkText.{IsNetworkText}
use Rattle.values.specs.declared.entity_uid.EntityUid.{EntityUid}
use Rattle.grammar_core.specs.declared.leaf.Literal.{Literal}
use Rattle.grammar_core.specs.declared.leaf.Literal.TheVariants as literal
use Rattle.grammar_core.specs.declared.leaf.Variable.TheVariants as variable
use Rattle.grammar_core.specs.declared.operator.Binary.{Binary}
use Rattle.grammar_core.specs.declared.operator.Binary.TheVariants as binary
use Rattle.grammar_core.specs.declared.operator.UnaryCall.{UnaryCall}
use Rattle.grammar_core.specs.declared.operator.UnaryCall.TheVariants as unary_call
use Rattle.grammar_core.specs.declared.expr.Expr.{Expr}
use Rattle.grammar_core.specs.declared.expr.Expr.TheVariants as form
use Rattle.grammar_core.specs.declared.expr.Expr.TheViews.{roll-Expr, out-Expr, roll-out-Expr}
use Rattle.grammar_core.specs.declared.expr.Expr.TheOpen.{Expr-F}
use Rattle.values.specs.extensions.Decided.{Decided, is_proved}
use Rattle.values.specs.extensions.inner.Deciding.{decided_as, both_decided, either_decided}
use Rattle.values.specs.extensions.TextsDecided.{decimal_text_decided, network_text_decided}
use Rattle.typing.specs.Types
use Rattle.typing.specs.Types.{StaticType}
use Rattle.typing.specs.Environment.{Environment}
use Rattle.typing.specs.Literals
use Rattle.typing.specs.Literals.{IsLiteral, AreEntityLiterals, ListsEntities, IsActionIn, DecidedByLiterals, UndecidedByLiterals}
use Rattle.typing.specs.Literals.{ReadsLiteral}
use Rattle.typing.proofs.Same.{two, literal_decided, uid_decided}
use Rattle.typing.proofs.Members.{told_iff, contains_decided, some_decided}

-- ---- literals

-- an expression is built anew from its layer
rebuilt : (x : Expr) (y : Expr-F Expr) → out-Expr x ≡ y → x ≡ roll-Expr y
rebuilt x y e = sym (roll-out-Expr x) ∙ ap roll-Expr e

Some-same : {A : Type 0} {a b : A} → Some a ≡ Some b → a ≡ b
Some-same e = cc

None-Some : {A G : Type 0} {a : A} → None ≡ Some a → G
None-Some e = absurd (cc)

module _ (env : Environment) where
  abbrev literal_at : Expr-F Expr → Option Literal
  literal_at (Expr-F.Literal l) = Some l
  literal_at (Expr-F.Variable variable.Action) = Some (literal.Entity env.action)
  literal_at y = None

  as_literal_is : {x : Expr} {l : Literal} → IsLiteral env x l → literal_at (out-Expr x) ≡ Some l
  as_literal_is (Literals.stated {l}) = ap literal_at (form.outs-Literal l)
  as_literal_is Literals.action = ap literal_at (form.outs-Variable variable.Action)

  literal_from : (x : Expr) (y : Expr-F Expr) → out-Expr x ≡ y → (l : Literal) → literal_at y ≡ Some l → IsLiteral env x l
  literal_from x (Expr-F.Literal m) e l h =
      subst (λ z. IsLiteral env z l) (sym (rebuilt x _ e ∙ form.rolls-Literal m))
      (subst (λ k. IsLiteral env (form.Literal m) k) (Some-same h) Literals.stated)
  literal_from x (Expr-F.Variable variable.Action) e l h =
      subst (λ z. IsLiteral env z l) (sym (rebuilt x _ e ∙ form.rolls-Variable variable.Action))
      (subst (λ k. IsLiteral env (form.Variable variable.Action) k) (Some-same h) Literals.action)
  literal_from x y e l h = None-Some h

  literal_one : {x : Expr} {l m : Literal} → IsLiteral env x l → IsLiteral env x m → l ≡ m
  literal_one h g = Some-same (sym (as_literal_is h) ∙ as_literal_is g)

  literal_case : (x : Expr) (o : Option Literal) → literal_at (out-Expr x) ≡ o → Decided ((l : Literal) × IsLiteral env x l)
  literal_case x None e = inr (λ h. None-Some (sym e ∙ as_literal_is h.1))
  literal_case x (Some l) e = inl (l, literal_from x (out-Expr x) refl l e)

  literal_known : (x : Expr) → Decided ((l : Literal) × IsLiteral env x l)
  literal_known x = literal_case x (literal_at (out-Expr x)) refl

  no_entity : {x : Expr} (l : Literal) → IsLiteral env x l → ((u : EntityUid) → l ≡ literal.Entity u → ⊥)
      → ¬ ((u : EntityUid) × IsLiteral env x (literal.Entity u))
  no_entity l h n g = n g.0 (literal_one h g.1)

  entity_case : (x : Expr) → Decided ((l : Literal) × IsLiteral env x l)
      → Decided ((u : EntityUid) × IsLiteral env x (literal.Entity u))
  entity_case x (inl (literal.Boolean b, h)) = inr (no_entity (literal.Boolean b) h (λ u e. cc))
  entity_case x (inl (literal.Long z, h)) = inr (no_entity (literal.Long z) h (λ u e. cc))
  entity_case x (inl (literal.Text t, h)) = inr (no_entity (literal.Text t) h (λ u e. cc))
  entity_case x (inl (literal.Entity u, h)) = inl (u, h)
  entity_case x (inr n) = inr (λ g. n (literal.Entity g.0, g.1))

  entity_known : (x : Expr) → Decided ((u : EntityUid) × IsLiteral env x (literal.Entity u))
  entity_known x = entity_case x (literal_known x)

  entity_one : {x : Expr} {u v : EntityUid} → IsLiteral env x (literal.Entity u) → IsLiteral env x (literal.Entity v) → u ≡ v
  entity_one h g = let e = literal_one h g in cc

  entities_before : {x : Expr} {xs : List Expr} {us : List EntityUid} → AreEntityLiterals env (x ∷ xs) us
      → ((u : EntityUid) × IsLiteral env x (literal.Entity u)) × ((vs : List EntityUid) × AreEntityLiterals env xs vs)
  entities_before (Literals.literal_before {u} {us} h hs) = ((u, h), (us, hs))

  entities_known : (xs : List Expr) → Decided ((us : List EntityUid) × AreEntityLiterals env xs us)
  entities_known [] = inl ([], Literals.no_literals)
  entities_known (x ∷ xs) =
      decided_as (λ h. (h.0.0 ∷ h.1.0, Literals.literal_before h.0.1 h.1.1)) (λ h. entities_before h.1)
      (both_decided (entity_known x) (entities_known xs))

  entities_one : {xs : List Expr} {us vs : List EntityUid} → AreEntityLiterals env xs us → AreEntityLiterals env xs vs → us ≡ vs
  entities_one Literals.no_literals Literals.no_literals = refl
  entities_one (Literals.literal_before h hs) (Literals.literal_before g gs) =
      two (λ (u : EntityUid) (us : List EntityUid). u ∷ us) (entity_one h g) (entities_one hs gs)

  -- the members of a set literal
  abbrev members_at : Expr-F Expr → Option (List Expr)
  members_at (Expr-F.Set xs) = Some xs
  members_at y = None

  record IsListed (x : Expr) (us : List EntityUid) : Type 0 where
    first : Expr
    others : List Expr
    is_set : members_at (out-Expr x) ≡ Some (first ∷ others)
    literals : AreEntityLiterals env (first ∷ others) us

  lists_cases : {x : Expr} {us : List EntityUid} → ListsEntities env x us
      → ((u : EntityUid) × IsLiteral env x (literal.Entity u) × (u ∷ [] ≡ us)) ⊎ IsListed x us
  lists_cases (Literals.alone {u} h) = inl (u, h, refl)
  lists_cases (Literals.in_set {x} {xs} h) =
      inr (record { first = x; others = xs; is_set = ap members_at (form.outs-Set (x ∷ xs)); literals = h })

  -- what is no set literal has no members, and a set literal is no literal
  both_kinds : (y : Expr-F Expr) (xs : List Expr) (l : Literal) → members_at y ≡ Some xs → literal_at y ≡ Some l → ⊥
  both_kinds (Expr-F.Set ys) xs l e h = None-Some h
  both_kinds y xs l e h = None-Some e

  listed_no_literal : {x : Expr} {us : List EntityUid} {l : Literal} → IsListed x us → IsLiteral env x l → ⊥
  listed_no_literal {x} {l} i h = both_kinds (out-Expr x) (i.first ∷ i.others) l i.is_set (as_literal_is h)

  listed_one : {x : Expr} {us vs : List EntityUid} → IsListed x us → IsListed x vs → us ≡ vs
  listed_one {us} {vs} i j =
      let same : i.first ∷ i.others ≡ j.first ∷ j.others = Some-same (sym i.is_set ∙ j.is_set) in
      entities_one i.literals (subst (λ xs. AreEntityLiterals env xs vs) (sym same) j.literals)

  lists_one : {x : Expr} {us vs : List EntityUid} → ListsEntities env x us → ListsEntities env x vs → us ≡ vs
  lists_one h g = elim (lists_cases h) [
    | inl a ↦ elim (lists_cases g) [
      | inl b ↦ sym a.2 ∙ (ap (λ u. u ∷ []) (entity_one a.1 b.1) ∙ b.2)
      | inr j ↦ absurd (listed_no_literal j a.1)
    ]
    | inr i ↦ elim (lists_cases g) [ inl b ↦ absurd (listed_no_literal i b.1) | inr j ↦ listed_one i j ]
  ]

  set_from : (x : Expr) (y : Expr-F Expr) → out-Expr x ≡ y → (xs : List Expr) → members_at y ≡ Some xs → x ≡ form.Set xs
  set_from x (Expr-F.Set ys) e xs h = (rebuilt x _ e ∙ form.rolls-Set ys) ∙ ap form.Set (Some-same h)
  set_from x y e xs h = None-Some h

  no_list : {x : Expr} → ¬ ((u : EntityUid) × IsLiteral env x (literal.Entity u))
      → ((z : Expr) (zs : List Expr) → members_at (out-Expr x) ≡ Some (z ∷ zs) → ⊥)
      → ¬ ((us : List EntityUid) × ListsEntities env x us)
  no_list n m h = elim (lists_cases h.1) [ inl a ↦ n (a.0, a.1) | inr i ↦ m i.first i.others i.is_set ]

  lists_case : (x : Expr) (o : Option (List Expr)) → members_at (out-Expr x) ≡ o
      → ¬ ((u : EntityUid) × IsLiteral env x (literal.Entity u)) → Decided ((us : List EntityUid) × ListsEntities env x us)
  lists_case x None e n = inr (no_list n (λ z zs s. None-Some (sym e ∙ s)))
  lists_case x (Some []) e n = inr (no_list n (λ z zs s. let t : [] ≡ z ∷ zs = Some-same (sym e ∙ s) in cc))
  lists_case x (Some (z ∷ zs)) e n =
      decided_as
      (λ h. (h.0, subst (λ w. ListsEntities env w h.0) (sym (set_from x (out-Expr x) refl (z ∷ zs) e)) (Literals.in_set h.1)))
      (λ h. elim (lists_cases h.1) [
        | inl a ↦ absurd (n (a.0, a.1))
        | inr i ↦ let same : i.first ∷ i.others ≡ z ∷ zs = Some-same (sym i.is_set ∙ e) in
            (h.0, subst (λ xs. AreEntityLiterals env xs h.0) same i.literals)
      ])
      (entities_known (z ∷ zs))

  lists_known : (x : Expr) → Decided ((us : List EntityUid) × ListsEntities env x us)
  lists_known x = elim (entity_known x) [
    | inl h ↦ inl (h.0 ∷ [], Literals.alone h.1)
    | inr n ↦ lists_case x (members_at (out-Expr x)) refl n
  ]

  -- ---- what literals settle

  action_in_decided : (a b : EntityUid) → Decided (IsActionIn env a b)
  action_in_decided a b = either_decided (uid_decided a b) (contains_decided uid_decided (env.action_ancestors a) b)

  in_some_decided : (a : EntityUid) (vs : List EntityUid) → Decided ((v : EntityUid) × Contains vs v × IsActionIn env a v)
  in_some_decided a vs = some_decided (IsActionIn env a) (action_in_decided a) vs

  pub settled_one : {op : Binary} {a b : Expr} {r s : Bool} → DecidedByLiterals env op a b r → DecidedByLiterals env op a b s → r ≡ s
  settled_one {r} {s} (Literals.equal_literals {l} {m} h g d) (Literals.equal_literals {l = l2} {m = m2} h2 g2 d2) =
      one_answer r s d (subst (λ n. Decides s (n ≡ m)) (literal_one h2 h) (subst (λ n. Decides s (l2 ≡ n)) (literal_one g2 g) d2))
  settled_one {r} {s} (Literals.action_in {u} {vs} h i g d) (Literals.action_in {u = u2} {vs = vs2} h2 i2 g2 d2) =
      one_answer r s d
      (subst (λ x. Decides s ((v : EntityUid) × Contains vs v × IsActionIn env x v)) (entity_one h2 h)
      (subst (λ xs. Decides s ((v : EntityUid) × Contains xs v × IsActionIn env u2 v)) (lists_one g2 g) d2))

  equal_known : (a b : Expr) → Decided ((r : Bool) × DecidedByLiterals env binary.Equal a b r)
  equal_known a b =
      decided_as
      (λ h. (is_proved (literal_decided h.0.0 h.1.0), Literals.equal_literals h.0.1 h.1.1 (told_iff (literal_decided h.0.0 h.1.0))))
      (λ h. parts h.1)
      (both_decided (literal_known a) (literal_known b))
    where
      parts : {a b : Expr} {r : Bool} → DecidedByLiterals env binary.Equal a b r
          → ((l : Literal) × IsLiteral env a l) × ((m : Literal) × IsLiteral env b m)
      parts (Literals.equal_literals {l} {m} h g d) = ((l, h), (m, g))

  abbrev IsAction : Expr → Type 0
  IsAction a = (u : EntityUid) × IsLiteral env a (literal.Entity u) × IsTrue (env.is_action_type u.type_name)

  truth_known : (b : Bool) → Decided (IsTrue b)
  truth_known true = inl refl
  truth_known false = inr (λ e. false≢true e)

  action_case : (a : Expr) → Decided ((u : EntityUid) × IsLiteral env a (literal.Entity u)) → Decided (IsAction a)
  action_case a (inl (u, h)) =
      decided_as (λ i. (u, h, i)) (λ j. subst (λ v. IsTrue (env.is_action_type v.type_name)) (entity_one j.1 h) j.2)
      (truth_known (env.is_action_type u.type_name))
  action_case a (inr n) = inr (λ j. n (j.0, j.1))

  in_known : (a b : Expr) → Decided ((r : Bool) × DecidedByLiterals env binary.In a b r)
  in_known a b =
      decided_as
      (λ h. (
        is_proved (in_some_decided h.0.0 h.1.0),
        Literals.action_in h.0.1 h.0.2 h.1.1 (told_iff (in_some_decided h.0.0 h.1.0)),
      ))
      (λ h. parts h.1)
      (both_decided (action_case a (entity_known a)) (lists_known b))
    where
      parts : {a b : Expr} {r : Bool} → DecidedByLiterals env binary.In a b r
          → IsAction a × ((us : List EntityUid) × ListsEntities env b us)
      parts (Literals.action_in {u} {vs} h i g d) = ((u, h, i), (vs, g))

  -- only `==` and `in` are settled
  no_others : {op : Binary} {a b : Expr} {r : Bool} → DecidedByLiterals env op a b r → (op ≡ binary.Equal) ⊎ (op ≡ binary.In)
  no_others (Literals.equal_literals h g d) = inl refl
  no_others (Literals.action_in h i g d) = inr refl

  unsettled : (op : Binary) (a b : Expr) → (op ≡ binary.Equal → ⊥) → (op ≡ binary.In → ⊥)
      → Decided ((r : Bool) × DecidedByLiterals env op a b r)
  unsettled op a b n m = inr (λ h. elim (no_others h.1) [ inl e ↦ n e | inr e ↦ m e ])

  pub settled_known : (op : Binary) (a b : Expr) → Decided ((r : Bool) × DecidedByLiterals env op a b r)
  settled_known binary.Equal a b = equal_known a b
  settled_known binary.In a b = in_known a b
  settled_known op a b = unsettled op a b (λ e. cc) (λ e. cc)

  abbrev pub answer_of : {op : Binary} {a b : Expr} → Decided ((r : Bool) × DecidedByLiterals env op a b r) → Option Bool
  answer_of (inl h) = Some h.0
  answer_of (inr n) = None

  -- the answer that literals settle
  abbrev pub settlement : Binary → Expr → Expr → Option Bool
  settlement op a b = answer_of (settled_known op a b)

  some_answer : {op : Binary} {a b : Expr} {r : Bool} (d : Decided ((s : Bool) × DecidedByLiterals env op a b s)) → DecidedByLiterals env op a b r
      → answer_of d ≡ Some r
  some_answer (inl (s, g)) h = ap Some (settled_one g h)
  some_answer {r} (inr n) h = absurd (n (r, h))

  no_answer : {op : Binary} {a b : Expr} (d : Decided ((s : Bool) × DecidedByLiterals env op a b s)) → UndecidedByLiterals env op a b
      → answer_of d ≡ None
  no_answer (inl (s, g)) n = absurd (n s g)
  no_answer (inr m) n = refl

  pub settlement_is : {op : Binary} {a b : Expr} {r : Bool} → DecidedByLiterals env op a b r → settlement op a b ≡ Some r
  settlement_is {op} {a} {b} h = some_answer (settled_known op a b) h

  pub no_settlement : {op : Binary} {a b : Expr} → UndecidedByLiterals env op a b → settlement op a b ≡ None
  no_settlement {op} {a} {b} n = no_answer (settled_known op a b) n

  answer_holds : {op : Binary} {a b : Expr} (d : Decided ((s : Bool) × DecidedByLiterals env op a b s)) (r : Bool) → answer_of d ≡ Some r
      → DecidedByLiterals env op a b r
  answer_holds {op} {a} {b} (inl (s, g)) r e = subst (λ t. DecidedByLiterals env op a b t) (Some-same e) g
  answer_holds (inr n) r e = None-Some e

  none_holds : {op : Binary} {a b : Expr} (d : Decided ((s : Bool) × DecidedByLiterals env op a b s)) → answer_of d ≡ None
      → UndecidedByLiterals env op a b
  none_holds (inl (s, g)) e = None-Some (sym e)
  none_holds (inr n) e = λ s g. n (s, g)

  pub settlement_holds : (op : Binary) (a b : Expr) (r : Bool) → settlement op a b ≡ Some r → DecidedByLiterals env op a b r
  settlement_holds op a b r e = answer_holds (settled_known op a b) r e

  pub none_settled : (op : Binary) (a b : Expr) → settlement op a b ≡ None → UndecidedByLiterals env op a b
  none_settled op a b e = none_holds (settled_known op a b) e

-- ---- literals of extensions

abbrev literal_text : Expr-F Expr → Option (List ℕ)
literal_text (Expr-F.Literal (literal.Text t)) = Some t
literal_text y = None

text_from : (x : Expr) (y : Expr-F Expr) → out-Expr x ≡ y → (t : List ℕ) → literal_text y ≡ Some t → x ≡ form.Literal (literal.Text t)
text_from x (Expr-F.Literal (literal.Text s)) e t h =
    (rebuilt x _ e ∙ form.rolls-Literal (literal.Text s)) ∙ ap (λ s. form.Literal (literal.Text s)) (Some-same h)
text_from x y e t h = None-Some h

-- what a text has to be for the call
Reads : UnaryCall → List ℕ → Type 0
Reads unary_call.Decimal t = (z : ℤ) × IsDecimalText t z
Reads unary_call.Ip t = (n : Network) × IsNetworkText t n
Reads called t = ⊥

abbrev pub type_read : UnaryCall → StaticType
type_read unary_call.Decimal = Types.decimal_type
type_read unary_call.Ip = Types.ipaddr_type
type_read called = Types.boolean_type

reads_decided : (called : UnaryCall) (t : List ℕ) → Decided (Reads called t)
unfolding Reads
reads_decided unary_call.Decimal t = decimal_text_decided t
reads_decided unary_call.Ip t = network_text_decided t
reads_decided called t = inr (λ h. h)

reads_from : (called : UnaryCall) (t : List ℕ) → Reads called t → ReadsLiteral called (form.Literal (literal.Text t)) (type_read called)
unfolding Reads
reads_from unary_call.Decimal t h = Literals.reads_decimal h.1
reads_from unary_call.Ip t h = Literals.reads_address h.1
reads_from called t h = absurd h

reads_parts : {called : UnaryCall} {x : Expr} {t : StaticType} → ReadsLiteral called x t
    → (s : List ℕ) × (literal_text (out-Expr x) ≡ Some s) × Reads called s × (type_read called ≡ t)
unfolding Reads
reads_parts (Literals.reads_decimal {t} {z} h) = (t, ap literal_text (form.outs-Literal (literal.Text t)), (z, h), refl)
reads_parts (Literals.reads_address {t} {n} h) = (t, ap literal_text (form.outs-Literal (literal.Text t)), (n, h), refl)

reading_case : (called : UnaryCall) (x : Expr) (o : Option (List ℕ)) → literal_text (out-Expr x) ≡ o
    → Decided (ReadsLiteral called x (type_read called))
reading_case called x None e = inr (λ h. let p = reads_parts h in None-Some (sym e ∙ p.1))
reading_case called x (Some t) e =
    decided_as
    (λ h. subst (λ y. ReadsLiteral called y (type_read called)) (sym (text_from x (out-Expr x) refl t e)) (reads_from called t h))
    (λ h. let p = reads_parts h in subst (Reads called) (Some-same (sym p.1 ∙ e)) p.2)
    (reads_decided called t)

pub reading_known : (called : UnaryCall) (x : Expr) → Decided (ReadsLiteral called x (type_read called))
reading_known called x = reading_case called x (literal_text (out-Expr x)) refl

pub reading_type : {called : UnaryCall} {x : Expr} {t : StaticType} → ReadsLiteral called x t → type_read called ≡ t
reading_type h = (reads_parts h).3

-- whether the operand is a literal of the call's extension
abbrev pub reads : UnaryCall → Expr → Bool
reads called x = is_proved (reading_known called x)
