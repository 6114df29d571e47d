-- What literals are, and what they settle.
use Rattle.std.proofs.Common.{◌≡◌, ◌⊎◌, ◌↔◌, ◌<◌, ◌++◌, ℕ, ℤ, zero, suc, List, [], ◌∷◌, length, get_or, Bool, false}
use Rattle.std.proofs.Common.{IsTrue, Option, Some, None, Contains, refl, sym, subst, ap, ◌∙◌, inl, inr, arith}
use Rattle.std.proofs.lemmas.Bool.{false≢true}
use Rattle.std.proofs.lemmas.List.Elements.{Contains-append_left, Contains-append_right, Contains-append_cases}
use Rattle.std.specs.Bool.{Decides}
use Rattle.values.specs.declared.entity_uid.EntityUid.{EntityUid}
use Rattle.values.specs.extensions.DecimalText.{IsDecimalText}
use Rattle.values.specs.extensions.Network.{Network}
use Rattle.values.specs.extensions.NetworkText.{IsNetworkText}
use Rattle.grammar_core.specs.declared.leaf.Literal.{Literal}
use Rattle.grammar_core.specs.declared.leaf.Literal.TheVariants as literal
use Rattle.grammar_core.specs.declared.leaf.Variable.{Variable}
use Rattle.grammar_core.specs.declared.leaf.Variable.TheVariants as variable
use Rattle.grammar_core.specs.declared.operator.Binary.TheVariants as binary
use Rattle.grammar_core.specs.declared.operator.UnaryCall.TheVariants as unary_call
use Rattle.grammar_core.specs.declared.expr.Expr.{Expr}
use Rattle.grammar_core.specs.declared.expr.Expr.TheVariants as form
use Rattle.grammar_core.specs.declared.expr.Expr.TheViews.{out-Expr}
use Rattle.grammar_core.specs.declared.expr.Expr.TheOpen.{Expr-F}
use Rattle.typing.specs.Types as types
use Rattle.typing.specs.Environment.{Environment}
use Rattle.typing.specs.Literals as literals
use Rattle.typing.specs.Literals.{IsLiteral, AreEntityLiterals, ListsEntities, IsActionIn, DecidedByLiterals}
use Rattle.typing.specs.Literals.{UndecidedByLiterals, ReadsLiteral}
use Rattle.grammar_core.specs.declared.operator.Binary.{Binary}
use Rattle.plain.proofs.Members.{Contains-here, Contains-cases, Contains-none}

module _ (env : Environment) where
  pub stated_as : {x : Expr} {l m : Literal} → x ≡ form.Literal l → m ≡ l → IsLiteral env x m
  stated_as {x} {l} {m} e f =
      subst (λ y. IsLiteral env y m) (sym e) (subst (λ k. IsLiteral env (form.Literal l) k) (sym f) literals.stated)

  pub action_as : {x : Expr} {v : Variable} {u : EntityUid} → x ≡ form.Variable v → v ≡ variable.Action → u ≡ env.action
      → IsLiteral env x (literal.Entity u)
  action_as {x} {u} e f g =
      subst (λ y. IsLiteral env y (literal.Entity u)) (sym (e ∙ ap form.Variable f))
      (subst (λ w. IsLiteral env (form.Variable variable.Action) (literal.Entity w)) (sym g) literals.action)

  pub no_left_equal : {a b : Expr} → ((l : Literal) → ¬ IsLiteral env a l) → UndecidedByLiterals env binary.Equal a b
  no_left_equal n r (literals.equal_literals {l} h g d) = n l h

  pub no_right_equal : {a b : Expr} → ((l : Literal) → ¬ IsLiteral env b l) → UndecidedByLiterals env binary.Equal a b
  no_right_equal n r (literals.equal_literals {m} h g d) = n m g

  pub no_left_in : {a b : Expr} → ((u : EntityUid) → ¬ IsLiteral env a (literal.Entity u)) → UndecidedByLiterals env binary.In a b
  no_left_in n r (literals.action_in {u} h i g d) = n u h

pub reads_decimal : {x : Expr} {t : List ℕ} {z : ℤ} → x ≡ form.Literal (literal.Text t) → IsDecimalText t z
    → ReadsLiteral unary_call.Decimal x types.decimal_type
reads_decimal e h = subst (λ y. ReadsLiteral unary_call.Decimal y types.decimal_type) (sym e) (literals.reads_decimal h)

pub reads_address : {x : Expr} {t : List ℕ} {n : Network} → x ≡ form.Literal (literal.Text t) → IsNetworkText t n
    → ReadsLiteral unary_call.Ip x types.ipaddr_type
reads_address e h = subst (λ y. ReadsLiteral unary_call.Ip y types.ipaddr_type) (sym e) (literals.reads_address h)

Some-same : {A : Type 0} {a b : A} → Some a ≡ Some b → a ≡ b
Some-same e = cc

None-Some : {A G : Type 0} {a : A} → None ≡ Some a → G
None-Some e = absurd (cc)

-- ---- what an expression is, by its layer

abbrev members_at : Expr-F Expr → Option (List Expr)
members_at (Expr-F.Set xs) = Some xs
members_at y = None

pub same_members : {xs ys : List Expr} → form.Set xs ≡ form.Set ys → xs ≡ ys
same_members {xs} {ys} e =
    Some-same (sym (ap members_at (form.outs-Set xs)) ∙ (ap (λ x. members_at (out-Expr x)) e ∙ ap members_at (form.outs-Set ys)))

abbrev literal_text : Expr-F Expr → Option (List ℕ)
literal_text (Expr-F.Literal (literal.Text t)) = Some t
literal_text y = None

pub same_text : {s t : List ℕ} → form.Literal (literal.Text s) ≡ form.Literal (literal.Text t) → s ≡ t
same_text {s} {t} e =
    Some-same (sym (ap literal_text (form.outs-Literal (literal.Text s)))
    ∙ (ap (λ x. literal_text (out-Expr x)) e ∙ ap literal_text (form.outs-Literal (literal.Text t))))

module _ (env : Environment) where
  abbrev literal_at : Expr-F Expr → Option Literal
  literal_at (Expr-F.Literal l) = Some l
  literal_at (Expr-F.Variable variable.Action) = Some (literal.Entity env.action)
  literal_at y = None

  as_literal_is : {x : Expr} {l : Literal} → IsLiteral env x l → literal_at (out-Expr x) ≡ Some l
  as_literal_is (literals.stated {l}) = ap literal_at (form.outs-Literal l)
  as_literal_is literals.action = ap literal_at (form.outs-Variable variable.Action)

  pub literal_one : {x : Expr} {l m : Literal} → IsLiteral env x l → IsLiteral env x m → l ≡ m
  literal_one h g = Some-same (sym (as_literal_is h) ∙ as_literal_is g)

  pub no_entity : {x : Expr} (l : Literal) → IsLiteral env x l → ((u : EntityUid) → l ≡ literal.Entity u → ⊥)
      → (u : EntityUid) → ¬ IsLiteral env x (literal.Entity u)
  no_entity l h n u g = n u (literal_one h g)

  pub entity_one : {x : Expr} {u v : EntityUid} → IsLiteral env x (literal.Entity u) → IsLiteral env x (literal.Entity v) → u ≡ v
  entity_one h g = let e = literal_one h g in cc

  set_no_literal : (xs : List Expr) (l : Literal) → ¬ IsLiteral env (form.Set xs) l
  set_no_literal xs l h = None-Some (sym (ap literal_at (form.outs-Set xs)) ∙ as_literal_is h)

  -- ---- some of these

  abbrev pub InSome : EntityUid → List EntityUid → Type 0
  InSome a us = (v : EntityUid) × Contains us v × IsActionIn env a v

  pub in_none : (a : EntityUid) → Decides false (InSome a [])
  in_none a = (λ e. absurd (false≢true e), λ h. Contains-none h.0 h.1)

  pub in_one : (a u : EntityUid) (r : Bool) → Decides r (IsActionIn env a u) → Decides r (InSome a (u ∷ []))
  in_one a u r d = (
    λ e. (u, Contains-here u [], d.0 e),
    λ h. elim (Contains-cases u [] h.0 h.1) [ inl e ↦ d.1 (subst (IsActionIn env a) (sym e) h.2) | inr c ↦ Contains-none h.0 c ],
  )

  pub in_more : (a u : EntityUid) (us : List EntityUid) (f g r : Bool) → Decides f (InSome a us)
      → Decides g (IsActionIn env a u) → IsTrue r ↔ (IsTrue f ⊎ IsTrue g) → Decides r (InSome a (us ++ u ∷ []))
  in_more a u us f g r d k e =
      let forth = λ (t : IsTrue r). from_both (e.0 t) in
      let back = λ (h : InSome a (us ++ u ∷ [])). e.1 (of_both h (Contains-append_cases us (u ∷ []) h.0 h.1)) in
      (forth, back)
    where
      from_both : IsTrue f ⊎ IsTrue g → InSome a (us ++ u ∷ [])
      from_both (inl h) = let w = d.0 h in (w.0, Contains-append_left us (u ∷ []) w.0 w.1, w.2)
      from_both (inr h) = (u, Contains-append_right us (u ∷ []) u (Contains-here u []), k.0 h)

      of_both : (h : InSome a (us ++ u ∷ [])) → Contains us h.0 ⊎ Contains (u ∷ []) h.0 → IsTrue f ⊎ IsTrue g
      of_both h (inl c) = inl (d.1 (h.0, c, h.2))
      of_both h (inr c) = inr ((in_one a u g k).1 (h.0, c, h.2))

  pub literals_more : {xs : List Expr} {us : List EntityUid} {x : Expr} {u : EntityUid} → AreEntityLiterals env xs us
      → IsLiteral env x (literal.Entity u) → AreEntityLiterals env (xs ++ x ∷ []) (us ++ u ∷ [])
  literals_more literals.no_literals h = literals.literal_before h literals.no_literals
  literals_more (literals.literal_before g gs) h = literals.literal_before g (literals_more gs h)

  pub literals_at : {xs : List Expr} {us : List EntityUid} (i : ℕ) (d : Expr) → AreEntityLiterals env xs us → i < length xs
      → (u : EntityUid) × IsLiteral env (get_or xs i d) (literal.Entity u)
  literals_at i d literals.no_literals lt = absurd (omega arith)
  literals_at zero d (literals.literal_before {u} h hs) lt = (u, h)
  literals_at (suc i) d (literals.literal_before h hs) lt = literals_at i d hs (omega arith)

  -- ---- what lists entities

  lists_cases : {x : Expr} {us : List EntityUid} → ListsEntities env x us
      → ((u : EntityUid) × IsLiteral env x (literal.Entity u))
      ⊎ ((y : Expr) × (ys : List Expr) × (x ≡ form.Set (y ∷ ys)) × AreEntityLiterals env (y ∷ ys) us)
  lists_cases (literals.alone {u} h) = inl (u, h)
  lists_cases (literals.in_set {x} {xs} h) = inr (x, xs, refl, h)

  pub lists_set : {x : Expr} {xs : List Expr} {us : List EntityUid} → x ≡ form.Set xs → ¬ (xs ≡ [])
      → AreEntityLiterals env xs us → ListsEntities env x us
  lists_set {x} {xs = []} e n h = absurd (n refl)
  lists_set {x} {xs = y ∷ ys} {us} e n h = subst (λ z. ListsEntities env z us) (sym e) (literals.in_set h)

  pub no_list_empty : {x : Expr} {xs : List Expr} → ((u : EntityUid) → ¬ IsLiteral env x (literal.Entity u))
      → x ≡ form.Set xs → xs ≡ [] → (us : List EntityUid) → ¬ ListsEntities env x us
  no_list_empty n e f us h = elim (lists_cases h) [
    | inl a ↦ n a.0 a.1
    | inr i ↦ let same : i.0 ∷ i.1 ≡ [] = sym (same_members (sym e ∙ i.2)) ∙ f in absurd (cc)
  ]

  pub no_list_members : {x : Expr} {xs : List Expr} → ((u : EntityUid) → ¬ IsLiteral env x (literal.Entity u))
      → x ≡ form.Set xs → ((us : List EntityUid) → ¬ AreEntityLiterals env xs us)
      → (us : List EntityUid) → ¬ ListsEntities env x us
  no_list_members n e m us h = elim (lists_cases h) [
    | inl a ↦ n a.0 a.1
    | inr i ↦ m us (subst (λ ys. AreEntityLiterals env ys us) (sym (same_members (sym e ∙ i.2))) i.3)
  ]

  pub no_list_other : {x : Expr} → ((u : EntityUid) → ¬ IsLiteral env x (literal.Entity u))
      → ((xs : List Expr) → ¬ (x ≡ form.Set xs)) → (us : List EntityUid) → ¬ ListsEntities env x us
  no_list_other n m us h = elim (lists_cases h) [ inl a ↦ n a.0 a.1 | inr i ↦ m (i.0 ∷ i.1) i.2 ]

  -- ---- what is not settled

  pub no_action_in : {a b : Expr} {u : EntityUid} → IsLiteral env a (literal.Entity u)
      → ¬ IsTrue (env.is_action_type u.type_name) → UndecidedByLiterals env binary.In a b
  no_action_in h n r (literals.action_in h2 i g d) =
      n (subst (λ v. IsTrue (env.is_action_type v.type_name)) (entity_one h2 h) i)

  pub no_right_in : {a b : Expr} → ((us : List EntityUid) → ¬ ListsEntities env b us) → UndecidedByLiterals env binary.In a b
  no_right_in n r (literals.action_in {vs} h i g d) = n vs g

  no_others : {op : Binary} {a b : Expr} {r : Bool} → DecidedByLiterals env op a b r → (op ≡ binary.Equal) ⊎ (op ≡ binary.In)
  no_others (literals.equal_literals h g d) = inl refl
  no_others (literals.action_in h i g d) = inr refl

  pub others_unsettled : (op : Binary) {a b : Expr} → (op ≡ binary.Equal → ⊥) → (op ≡ binary.In → ⊥)
      → UndecidedByLiterals env op a b
  others_unsettled op n m r h = elim (no_others h) [ inl e ↦ n e | inr e ↦ m e ]

-- ---- what a call reads

pub decimal_read : {x : Expr} {t : List ℕ} → x ≡ form.Literal (literal.Text t)
    → ReadsLiteral unary_call.Decimal x types.decimal_type → (z : ℤ) × IsDecimalText t z
decimal_read {x} {t} e h = let r = decimal_text h in (r.1, subst (λ s. IsDecimalText s r.1) (same_text (sym r.2 ∙ e)) r.3)
  where
    decimal_text : {y : Expr} → ReadsLiteral unary_call.Decimal y types.decimal_type
        → (s : List ℕ) × (z : ℤ) × (y ≡ form.Literal (literal.Text s)) × IsDecimalText s z
    decimal_text (literals.reads_decimal {t} {z} h) = (t, z, refl, h)

pub address_read : {x : Expr} {t : List ℕ} → x ≡ form.Literal (literal.Text t)
    → ReadsLiteral unary_call.Ip x types.ipaddr_type → (n : Network) × IsNetworkText t n
address_read {x} {t} e h = let r = address_text h in (r.1, subst (λ s. IsNetworkText s r.1) (same_text (sym r.2 ∙ e)) r.3)
  where
    address_text : {y : Expr} → ReadsLiteral unary_call.Ip y types.ipaddr_type
        → (s : List ℕ) × (n : Network) × (y ≡ form.Literal (literal.Text s)) × IsNetworkText s n
    address_text (literals.reads_address {t} {n} h) = (t, n, refl, h)

pub no_decimal : {x : Expr} → ((t : List ℕ) → ¬ (x ≡ form.Literal (literal.Text t)))
    → ¬ ReadsLiteral unary_call.Decimal x types.decimal_type
no_decimal n (literals.reads_decimal {t} h) = n t refl

pub no_address : {x : Expr} → ((t : List ℕ) → ¬ (x ≡ form.Literal (literal.Text t)))
    → ¬ ReadsLiteral unary_call.Ip x types.ipaddr_type
no_address n (literals.reads_address {t} h) = n t refl

pub decimal_kind : {x : Expr} (t : types.StaticType) → ReadsLiteral unary_call.Decimal x t
    → ReadsLiteral unary_call.Decimal x types.decimal_type
decimal_kind t (literals.reads_decimal h) = literals.reads_decimal h

pub address_kind : {x : Expr} (t : types.StaticType) → ReadsLiteral unary_call.Ip x t
    → ReadsLiteral unary_call.Ip x types.ipaddr_type
address_kind t (literals.reads_address h) = literals.reads_address h
