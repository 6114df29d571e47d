-- What literals settle goes right: whether two are equal, whether an action is in listed entities, and what a
-- call reads of a text.
use Rattle.std.specs.Prelude.{◌≡◌, ℕ, ℤ, List, [], ◌∷◌, map, Bool, Contains, IsTrue, Some, None, Ok, Err, refl}
use Rattle.std.specs.Bool.{Decides}
use Rattle.std.proofs.Common.{inl, inr, ap, sym, ◌∙◌, subst}
use Rattle.values.specs.extensions.DecimalText.{IsDecimalText}
use Rattle.values.specs.extensions.Network.{Network}
use Rattle.values.specs.extensions.NetworkText.{IsNetworkText}
use Rattle.values.specs.declared.entity_uid.EntityUid.{EntityUid}
use Rattle.values.specs.declared.request.Request.{Request}
use Rattle.values.specs.Sets.{IsSetOf}
use Rattle.values.specs.Values.{PlainValue, text, entity, set, values_of, list_of-values_of}
use Rattle.grammar_core.specs.declared.leaf.Literal.{Literal}
use Rattle.grammar_core.specs.declared.leaf.Literal.TheVariants as literal
use Rattle.grammar_core.specs.declared.leaf.Variable.TheVariants as variable
use Rattle.grammar_core.specs.declared.operator.Binary.{Binary}
use Rattle.grammar_core.specs.declared.operator.Binary.TheVariants as binary
use Rattle.grammar_core.specs.declared.operator.UnaryCall.{UnaryCall}
use Rattle.grammar_core.specs.declared.operator.UnaryCall.TheVariants as unary_call
use Rattle.grammar_core.specs.declared.expr.Expr.{Expr}
use Rattle.grammar_core.specs.declared.expr.Expr.TheVariants as form
use Rattle.grammar_core.specs.declared.expr.Expr.TheOpen.{Expr-F}
use Rattle.evaluator.specs.declared.fault.EvalFault.{EvalFault}
use Rattle.evaluator.specs.Outcomes
use Rattle.evaluator.specs.Outcomes.{EvaluationResult, IsTruthOf}
use Rattle.evaluator.specs.ancestor_search.Hierarchy.{IsIn}
use Rattle.evaluator.specs.Operators
use Rattle.evaluator.specs.Operators.{Entities, BinaryGives, UnaryCallGives}
use Rattle.evaluator.specs.Evaluation as rule
use Rattle.evaluator.specs.Evaluation.{EvaluatesTo, EachEvaluatesTo, literal_value}
use Rattle.evaluator.specs.Laws.{HasOneOutcome}
use Rattle.typing.specs.Types
use Rattle.typing.specs.Types.{StaticType, truth_type}
use Rattle.typing.specs.Membership
use Rattle.typing.specs.Environment.{Environment}
use Rattle.typing.specs.Literals
use Rattle.typing.specs.Literals.{IsLiteral, AreEntityLiterals, ListsEntities, IsActionIn, DecidedByLiterals, ReadsLiteral}
use Rattle.typing.specs.Conforming.{Conforms, Fits}
use Rattle.plain.proofs.Members.{Contains-here, Contains-cases, Contains-none}
use Rattle.typing.proofs.Members.{Contains-mapped, Contains-unmapped}
use Rattle.typing.proofs.Values.{None-Some}
use Rattle.typing.proofs.Fitting.{decided_fits}
use Rattle.typing.proofs.Inverting as gives
use Rattle.typing.proofs.Inverting.{OneGives, TwoGive, SetGives, layer}

pub none_there : {A G : Type 0} {a : A} → Some a ≡ None → G
none_there e = None-Some (sym e)

pub never : {A : Type 0} {e : EvalFault} {v : PlainValue} → (let m : EvaluationResult = Err e in m ≡ Ok v) → A
never h = absurd (cc)

pub Ok-same : {v w : PlainValue} → (let m : EvaluationResult = Ok v in m ≡ Ok w) → v ≡ w
Ok-same e = cc

module _ (env : Environment) (W : Entities) (q : Request) (C : Conforms env W q) (one : (x : Expr) → HasOneOutcome W q x) where
  literal_gives : {x : Expr} {l : Literal} {r : EvaluationResult} → IsLiteral env x l → EvaluatesTo W q x r → r ≡ Ok (literal_value l)
  literal_gives (Literals.stated {l}) g = layer W q (Expr-F.Literal l) (form.outs-Literal l) g
  literal_gives Literals.action g = layer W q (Expr-F.Variable variable.Action) (form.outs-Variable variable.Action) g ∙ ap (λ u. Ok (entity u)) C.action

  literal_is : {x : Expr} {l : Literal} {v : PlainValue} → IsLiteral env x l → EvaluatesTo W q x (Ok v) → v ≡ literal_value l
  literal_is h g = Ok-same (literal_gives h g)

  literal_errs : {x : Expr} {l : Literal} {e : EvalFault} {G : Type 0} → IsLiteral env x l → EvaluatesTo W q x (Err e) → G
  literal_errs h g = never (literal_gives h g)

  one_literal : (l m : Literal) → literal_value l ≡ literal_value m → l ≡ m
  one_literal (literal.Boolean a) (literal.Boolean b) e = cc
  one_literal (literal.Long a) (literal.Long b) e = cc
  one_literal (literal.Text a) (literal.Text b) e = cc
  one_literal (literal.Entity a) (literal.Entity b) e = cc
  one_literal l m e = absurd (cc)

  decides_as : {P Q : Type 0} {r : Bool} → (P → Q) → (Q → P) → Decides r P → Decides r Q
  decides_as f g d = (λ e. f (d.0 e), λ h. d.1 (g h))

  equal_tells : {v w : PlainValue} {r : EvaluationResult} → BinaryGives W binary.Equal v w r → IsTruthOf (v ≡ w) r
  equal_tells (Operators.equal t) = t
  equal_tells (Operators.of_numbers n) = absurd n
  equal_tells (Operators.no_numbers i e) = absurd i
  equal_tells (Operators.no_sets i e) = absurd i

  equal_goes : {a b : Expr} {l m : Literal} (b0 : Bool) {r : EvaluationResult} → IsLiteral env a l → IsLiteral env b m → Decides b0 (l ≡ m)
      → TwoGive W q a b (BinaryGives W binary.Equal) r → Fits (truth_type b0) r
  equal_goes {l} {m} b0 f h d (gives.two_values {v} {w} g i j) =
      decided_fits b0
      (decides_as (λ e. literal_is f g ∙ (ap literal_value e ∙ sym (literal_is h i))) (λ e. one_literal l m (sym (literal_is f g) ∙ (e ∙ literal_is h i))) d)
      (equal_tells j)
  equal_goes b0 f h d (gives.left_fails g) = literal_errs f g
  equal_goes b0 f h d (gives.right_fails g i) = literal_errs h i

  -- ---- actions

  action_above : (a b : EntityUid) → IsTrue (env.is_action_type a.type_name) → IsIn W.parents a b → IsActionIn env a b
  action_above a b i (inl e) = inl e
  action_above a b i (inr p) = inr ((C.actions a i b).1 p)

  above_action : (a b : EntityUid) → IsTrue (env.is_action_type a.type_name) → IsActionIn env a b → IsIn W.parents a b
  above_action a b i (inl e) = inl e
  above_action a b i (inr c) = inr ((C.actions a i b).0 c)

  abbrev InSome : EntityUid → List EntityUid → Type 0
  InSome u us = (v : EntityUid) × Contains us v × IsIn W.parents u v

  abbrev ActionInSome : EntityUid → List EntityUid → Type 0
  ActionInSome u us = (v : EntityUid) × Contains us v × IsActionIn env u v

  in_one_tells : {u v : EntityUid} {r : EvaluationResult} → BinaryGives W binary.In (entity u) (entity v) r → IsTruthOf (IsIn W.parents u v) r
  in_one_tells (Operators.in_entity t) = t
  in_one_tells (Operators.in_other i j) = none_there i
  in_one_tells (Operators.other_in i) = none_there i
  in_one_tells (Operators.no_numbers i e) = absurd i
  in_one_tells (Operators.no_sets i e) = absurd i

  in_one_goes : {u v : EntityUid} (b0 : Bool) {r : EvaluationResult} → IsTrue (env.is_action_type u.type_name) → Decides b0 (ActionInSome u (v ∷ []))
      → BinaryGives W binary.In (entity u) (entity v) r → Fits (truth_type b0) r
  in_one_goes {u} {v} b0 i d j =
      decided_fits b0
      (decides_as
      (λ h. elim (Contains-cases v [] h.0 h.1) [
        | inl e ↦ above_action u v i (subst (IsActionIn env u) (sym e) h.2)
        | inr n ↦ Contains-none h.0 n
      ])
      (λ h. (v, Contains-here v [], action_above u v i h)) d)
      (in_one_tells j)

  entity_same : {a b : EntityUid} → entity a ≡ entity b → a ≡ b
  entity_same e = cc

  unmapped : (us : List EntityUid) (v : EntityUid) → Contains (map entity us) (entity v) → Contains us v
  unmapped us v c = let h = Contains-unmapped entity us (entity v) c in subst (Contains us) (entity_same h.2) h.1

  -- the members of a set of entities
  in_some_goes : {u : EntityUid} (vs : List EntityUid) (s : List PlainValue) (b0 : Bool) {r : EvaluationResult} → IsTrue (env.is_action_type u.type_name)
      → IsSetOf (map entity vs) s → Decides b0 (ActionInSome u vs) → BinaryGives W binary.In (entity u) (set (values_of s)) r → Fits (truth_type b0) r
  in_some_goes {u} vs s b0 i is d (Operators.in_set us same t) =
      let listed : s ≡ map entity us = sym (list_of-values_of s) ∙ same in
      decided_fits b0
      (decides_as
      (λ h. (
        h.0,
        unmapped us h.0 (subst (λ ws. Contains ws (entity h.0)) listed ((is.members (entity h.0)).1 (Contains-mapped entity vs h.0 h.1))),
        above_action u h.0 i h.2,
      ))
      (λ h. (
        h.0,
        unmapped vs h.0 ((is.members (entity h.0)).0 (subst (λ ws. Contains ws (entity h.0)) (sym listed) (Contains-mapped entity us h.0 h.1))),
        action_above u h.0 i h.2,
      )) d)
      t
  in_some_goes vs s b0 i is d (Operators.in_mixed_set v c e) =
      let m = Contains-unmapped entity vs v ((is.members v).0 (subst (λ ws. Contains ws v) (list_of-values_of s) c)) in
      none_there (ap Outcomes.entity_uid_in m.2 ∙ e)
  in_some_goes vs s b0 i is d (Operators.in_other e f) = none_there f
  in_some_goes vs s b0 i is d (Operators.other_in e) = none_there e
  in_some_goes vs s b0 i is d (Operators.no_numbers e f) = absurd e
  in_some_goes vs s b0 i is d (Operators.no_sets e f) = absurd e

  entities_give : {xs : List Expr} {us : List EntityUid} {vs : List PlainValue} → AreEntityLiterals env xs us → EachEvaluatesTo W q xs (Ok vs) → vs ≡ map entity us
  entities_give Literals.no_literals rule.each_none = refl
  entities_give (Literals.literal_before {u} {us} h hs) (rule.each_more {v} {vs} g gs) =
      ap (λ w. w ∷ vs) (literal_is h g) ∙ ap (λ (ws : List PlainValue). entity u ∷ ws) (entities_give hs gs)

  entities_err : {xs : List Expr} {us : List EntityUid} {e : EvalFault} {G : Type 0} → AreEntityLiterals env xs us → EachEvaluatesTo W q xs (Err e) → G
  entities_err Literals.no_literals g = elim g [ ]
  entities_err (Literals.literal_before h hs) (rule.each_fails g) = literal_errs h g
  entities_err (Literals.literal_before h hs) (rule.each_fails_later g gs) = entities_err hs gs

  in_set_goes : {u : EntityUid} {xs : List Expr} (vs : List EntityUid) {w : PlainValue} (b0 : Bool) {r m : EvaluationResult} → IsTrue (env.is_action_type u.type_name)
      → AreEntityLiterals env xs vs → Decides b0 (ActionInSome u vs) → SetGives W q xs m → m ≡ Ok w
      → BinaryGives W binary.In (entity u) w r → Fits (truth_type b0) r
  in_set_goes {u} vs {w} b0 {r} i hs d (gives.set_value {vs = ws} {s} g is) e j =
      in_some_goes vs s b0 i (subst (λ (us : List PlainValue). IsSetOf us s) (entities_give hs g) is) d
      (subst (λ v. BinaryGives W binary.In (entity u) v r) (sym (Ok-same e)) j)
  in_set_goes vs b0 i hs d (gives.member_fails g) e j = never e

  listed_goes : {b : Expr} {u : EntityUid} {vs : List EntityUid} {w : PlainValue} (b0 : Bool) {r : EvaluationResult} → IsTrue (env.is_action_type u.type_name)
      → ListsEntities env b vs → Decides b0 (ActionInSome u vs) → EvaluatesTo W q b (Ok w) → BinaryGives W binary.In (entity u) w r → Fits (truth_type b0) r
  listed_goes {u = a} {w} b0 {r} i (Literals.alone {u = v} h) d g j =
      in_one_goes b0 i d (subst (λ x. BinaryGives W binary.In (entity a) x r) (literal_is h g) j)
  listed_goes {vs} b0 i (Literals.in_set {x} {xs} hs) d g j =
      in_set_goes vs b0 i hs d (layer W q (Expr-F.Set (x ∷ xs)) (form.outs-Set (x ∷ xs)) g) refl j

  set_errs : {xs : List Expr} {us : List EntityUid} {e : EvalFault} {m : EvaluationResult} {G : Type 0} → AreEntityLiterals env xs us → SetGives W q xs m
      → m ≡ Err e → G
  set_errs hs (gives.set_value g is) e = absurd (cc)
  set_errs hs (gives.member_fails g) e = entities_err hs g

  listed_errs : {b : Expr} {vs : List EntityUid} {e : EvalFault} {G : Type 0} → ListsEntities env b vs → EvaluatesTo W q b (Err e) → G
  listed_errs (Literals.alone h) g = literal_errs h g
  listed_errs (Literals.in_set {x} {xs} hs) g = set_errs hs (layer W q (Expr-F.Set (x ∷ xs)) (form.outs-Set (x ∷ xs)) g) refl

  in_goes : {a b : Expr} {u : EntityUid} {vs : List EntityUid} (b0 : Bool) {r : EvaluationResult} → IsLiteral env a (literal.Entity u)
      → IsTrue (env.is_action_type u.type_name) → ListsEntities env b vs → Decides b0 (ActionInSome u vs)
      → TwoGive W q a b (BinaryGives W binary.In) r → Fits (truth_type b0) r
  in_goes b0 h i l d (gives.two_values {w} {r} g k j) =
      listed_goes b0 i l d k (subst (λ x. BinaryGives W binary.In x w r) (literal_is h g) j)
  in_goes b0 h i l d (gives.left_fails g) = literal_errs h g
  in_goes b0 h i l d (gives.right_fails g k) = listed_errs l k

  pub settled_goes : {op : Binary} {a b : Expr} {b0 : Bool} {r : EvaluationResult} → DecidedByLiterals env op a b b0 → TwoGive W q a b (BinaryGives W op) r → Fits (truth_type b0) r
  settled_goes {b0} (Literals.equal_literals h g d) k = equal_goes b0 h g d k
  settled_goes {b0} (Literals.action_in h i g d) k = in_goes b0 h i g d k

  -- ---- literals of extensions

  text_value : {t : List ℕ} {v : PlainValue} → EvaluatesTo W q (form.Literal (literal.Text t)) (Ok v) → text t ≡ v
  text_value {t} g = sym (Ok-same (layer W q (Expr-F.Literal (literal.Text t)) (form.outs-Literal (literal.Text t)) g))

  text_errs : {t : List ℕ} {e : EvalFault} {G : Type 0} → EvaluatesTo W q (form.Literal (literal.Text t)) (Err e) → G
  text_errs {t} g = never (layer W q (Expr-F.Literal (literal.Text t)) (form.outs-Literal (literal.Text t)) g)

  decimal_read : {t : List ℕ} {z : ℤ} {v : PlainValue} {r : EvaluationResult} → IsDecimalText t z → text t ≡ v → UnaryCallGives unary_call.Decimal v r
      → Fits Types.decimal_type r
  decimal_read {r} h e u = reads (subst (λ w. UnaryCallGives unary_call.Decimal w r) (sym e) u) h
    where
      reads : {t : List ℕ} {z : ℤ} {r : EvaluationResult} → UnaryCallGives unary_call.Decimal (text t) r → IsDecimalText t z → Fits Types.decimal_type r
      reads (Operators.reads_decimal g) h = Membership.of_decimal
      reads {z} (Operators.no_decimal n) h = absurd (n z h)
      reads (Operators.decimal_of_other f) h = none_there f
      reads (Operators.of_no_address i f) h = absurd i

  address_read : {t : List ℕ} {n : Network} {v : PlainValue} {r : EvaluationResult} → IsNetworkText t n → text t ≡ v → UnaryCallGives unary_call.Ip v r
      → Fits Types.ipaddr_type r
  address_read {r} h e u = reads (subst (λ w. UnaryCallGives unary_call.Ip w r) (sym e) u) h
    where
      reads : {t : List ℕ} {n : Network} {r : EvaluationResult} → UnaryCallGives unary_call.Ip (text t) r → IsNetworkText t n → Fits Types.ipaddr_type r
      reads (Operators.reads_address g) h = Membership.of_ipaddr
      reads {n} (Operators.no_address m) h = absurd (m n h)
      reads (Operators.address_of_other f) h = none_there f
      reads (Operators.of_no_address i f) h = absurd i

  pub reading_goes : {called : UnaryCall} {x : Expr} {t : StaticType} {r : EvaluationResult} → ReadsLiteral called x t → OneGives W q x (UnaryCallGives called) r → Fits t r
  reading_goes (Literals.reads_decimal h) (gives.one_value g u) = decimal_read h (text_value g) u
  reading_goes (Literals.reads_decimal h) (gives.one_fails g) = text_errs g
  reading_goes (Literals.reads_address h) (gives.one_value g u) = address_read h (text_value g) u
  reading_goes (Literals.reads_address h) (gives.one_fails g) = text_errs g
