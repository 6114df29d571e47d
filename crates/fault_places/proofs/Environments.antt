-- What is told of the first environment that has a fault.
use Rattle.std.specs.Prelude.{◌≡◌, ℕ, ◌+◌, ◌<◌, ◌≤◌, suc, List, [], ◌∷◌, ◌++◌, map, length, take, drop, get_or, All, Option, Some, None}
use Rattle.std.specs.Prelude.{refl}
use Rattle.std.proofs.Common.{sym, ap, ◌∙◌, subst, inl, inr, arith}
use Rattle.std.proofs.lemmas.List.{take_more, drop_more, take-append-drop, take_all, map-append, length-map, length-take-le}
use Rattle.std.proofs.lemmas.List.Elements.{All-nil, All-cons, All-head, All-tail, All-append}
use Rattle.grammar_core.specs.declared.expr.Expr.{Expr}
use Rattle.policy_grammar.specs.declared.policy.Policy.{Policy}
use Rattle.policy_grammar.specs.PolicyExpression.{expression_of}
use Rattle.type_checker.specs.schema.declared.parts.Environment as given
use Rattle.type_checker.specs.schema.Schemas.{StatedSchema}
use Rattle.type_checker.specs.schema.Views.{environment_view}
use Rattle.type_checker.specs.FromSchemas.{typing_environment_of}
use Rattle.typing.specs.Types.{StaticType}
use Rattle.typing.specs.Environment.{Environment}
use Rattle.typing.specs.declared.fault.TypeFault.{TypeFault}
use Rattle.typing.specs.Faults.{Faults}
use Rattle.typing.specs.Laws.{HaveOneJudgement}
use Rattle.validator.specs.Passing
use Rattle.validator.specs.Passing.{environments_of, HasType, HasBooleanType, FirstFaulty}
use Rattle.validator.proofs.OutcomeLemmas.{policy_is_test, typed_or_faulty}
use Rattle.typing.specs.BlamedExpressions.{Blame, blamed}
use Rattle.fault_places.specs.FirstBlamed.{environment_blamed, blamed_there}
use Rattle.fault_places.specs.Views.{place_view}
use Rattle.fault_places.specs.FirstTypingError.{IsFirstBlame, IsTypeBlame}
use Rattle.fault_places.specs.inner.Judging.{IsBlamedAt, IsBlamedIn}
use Rattle.fault_places.specs.declared.blaming.TypeBlame.{TypeBlame}
use Rattle.typing.proofs.OnePlace.{one_blame}

module _ (one : HaveOneJudgement) (x : Expr) where
  not_both : (env : Environment) {n : TypeFault} → HasBooleanType x env → Faults env [] x n → ⊥
  not_both env {n} h g = typed_or_faulty one x env h.0 n h.2 g

  -- two derivations of the first fault
  pub one_first : (envs : List Environment) (m n : TypeFault) (g : FirstFaulty x envs m) (h : FirstFaulty x envs n)
      → (environment_blamed g ≡ environment_blamed h) × (blamed_there g ≡ blamed_there h)
  one_first [] m n g h = elim g [ ]
  one_first (env ∷ envs) m n (Passing.faulty_here g) (Passing.faulty_here h) = (refl, one_blame one env g h)
  one_first (env ∷ envs) m n (Passing.faulty_here g) (Passing.faulty_later t h) = absurd (not_both env t g)
  one_first (env ∷ envs) m n (Passing.faulty_later t g) (Passing.faulty_here h) = absurd (not_both env t h)
  one_first (env ∷ envs) m n (Passing.faulty_later t g) (Passing.faulty_later s h) =
      let k = one_first envs m n g h in (ap suc k.0, k.1)

  faulty_at : (before rest : List Environment) (env : Environment) {n : TypeFault} → All (HasBooleanType x) before
      → Faults env [] x n → FirstFaulty x (before ++ env ∷ rest) n
  faulty_at [] rest env h g = Passing.faulty_here g
  faulty_at (e ∷ es) rest env h g =
      Passing.faulty_later (All-head (HasBooleanType x) e es h) (faulty_at es rest env (All-tail (HasBooleanType x) e es h) g)

  -- it has as many environments before it, and blames what is blamed there
  said_at : (before rest : List Environment) (env : Environment) (d : Blame) {m n : TypeFault}
      → All (HasBooleanType x) before → Faults env [] x m → ((k : TypeFault) (g : Faults env [] x k) → blamed g ≡ d)
      → (h : FirstFaulty x (before ++ env ∷ rest) n) → (environment_blamed h ≡ length before) × (blamed_there h ≡ d)
  said_at [] rest env d t f u (Passing.faulty_here g) = (refl, u _ g)
  said_at [] rest env d t f u (Passing.faulty_later s g) = absurd (not_both env s f)
  said_at (e ∷ es) rest env d t f u (Passing.faulty_here g) = absurd (not_both e (All-head (HasBooleanType x) e es t) g)
  said_at (e ∷ es) rest env d t f u (Passing.faulty_later s g) =
      let k = said_at es rest env d (All-tail (HasBooleanType x) e es t) f u g in (ap suc k.0, k.1)

  first_blame : (before rest : List Environment) (env : Environment) (i : ℕ) (b : TypeBlame) → All (HasBooleanType x) before
      → length before ≡ i → IsBlamedAt env i x b → IsFirstBlame (before ++ env ∷ rest) x b
  first_blame before rest env i b t e h =
      record {
        first = faulty_at before rest env t h.1;
        environment = λ n g. (said_at before rest env (place_view b.place) t h.1 h.2 g).0 ∙ (e ∙ sym h.0);
        place = λ n g. (said_at before rest env (place_view b.place) t h.1 h.2 g).1;
      }

-- the environments of a schema, one after the other
abbrev pub envs_in : StatedSchema → List given.Environment → List Environment
envs_in s ps = map (λ p. typing_environment_of s (environment_view p)) ps

all_envs : (s : StatedSchema) (ps : List given.Environment) → map environment_view ps ≡ s.environments → envs_in s ps ≡ environments_of s
all_envs s ps e = composed ps ∙ ap (map (typing_environment_of s)) e
  where
    composed : (qs : List given.Environment) → envs_in s qs ≡ map (typing_environment_of s) (map environment_view qs)
    composed [] = refl
    composed (q ∷ qs) = ap (λ es. typing_environment_of s (environment_view q) ∷ es) (composed qs)

-- the policy has a boolean type in each of the first i of these
abbrev pub TypedIn : Policy → StatedSchema → List given.Environment → ℕ → Type 0
TypedIn policy s ps i = All (HasBooleanType (expression_of policy)) (envs_in s (take i ps))

module _ (one : HaveOneJudgement) (policy : Policy) (s : StatedSchema) (ps : List given.Environment)
    (all : map environment_view ps ≡ s.environments) where
  abbrev whole : Expr
  whole = expression_of policy

  abbrev env_of : given.Environment → Environment
  env_of p = typing_environment_of s (environment_view p)

  boolean_there : (env : Environment) → ((t : StaticType) × HasType whole t env) → HasBooleanType whole env
  boolean_there env h = elim (policy_is_test one policy env) [
    | inl b ↦ b
    | inr f ↦ absurd (typed_or_faulty one whole env h.0 f.0 h.1 f.1)
  ]

  abbrev TypedBefore : ℕ → Type 0
  TypedBefore i = TypedIn policy s ps i

  pub none_before : TypedBefore 0
  none_before = All-nil (HasBooleanType whole)

  pub one_more : (i : ℕ) (p : given.Environment) → i < length ps → p ≡ get_or ps i p → TypedBefore i
      → ((t : StaticType) × HasType whole t (env_of p)) → TypedBefore (i + 1)
  one_more i p lt is h g =
      let taken : take (i + 1) ps ≡ take i ps ++ p ∷ [] = take_more ps i p lt ∙ ap (λ q. take i ps ++ q ∷ []) (sym is) in
      let e = ap (envs_in s) taken ∙ map-append env_of (take i ps) (p ∷ []) in
      subst (All (HasBooleanType whole)) (sym e)
      (All-append (HasBooleanType whole) (envs_in s (take i ps)) (env_of p ∷ []) h
      (All-cons (HasBooleanType whole) (env_of p) [] (boolean_there (env_of p) g) (All-nil (HasBooleanType whole))))

  taken_length : (i : ℕ) → i < length ps → length (envs_in s (take i ps)) ≡ i
  taken_length i lt = length-map (take i ps) env_of ∙ length-take-le i ps (omega arith)

  pub blamed_at : (i : ℕ) (p : given.Environment) → i < length ps → p ≡ get_or ps i p → TypedBefore i → (b : TypeBlame)
      → IsBlamedAt (env_of p) i whole b → IsTypeBlame s whole b
  blamed_at i p lt is h b g =
      let parted : take i ps ++ p ∷ drop (i + 1) ps ≡ ps =
      ap (λ q. take i ps ++ q ∷ drop (i + 1) ps) is ∙ (ap (λ qs. take i ps ++ qs) (sym (drop_more ps i p lt)) ∙ take-append-drop i ps) in
      let e : envs_in s (take i ps) ++ env_of p ∷ envs_in s (drop (i + 1) ps) ≡ environments_of s =
      sym (map-append env_of (take i ps) (p ∷ drop (i + 1) ps)) ∙ (ap (envs_in s) parted ∙ all_envs s ps all) in
      subst (λ envs. IsFirstBlame envs whole b) e
      (first_blame one whole (envs_in s (take i ps)) (envs_in s (drop (i + 1) ps)) (env_of p) i b h (taken_length i lt) g)

  pub all_typed : (i : ℕ) → length ps ≤ i → TypedBefore i → All (HasBooleanType whole) (environments_of s)
  all_typed i le h =
      subst (All (HasBooleanType whole)) (ap (envs_in s) (take_all i ps le) ∙ all_envs s ps all) h

  -- of one environment after the other, where the expression at hand is the policy's
  module _ (x : Expr) (same : x ≡ whole) (i : ℕ) (p : given.Environment) (lt : i < length ps) (is : p ≡ get_or ps i p)
      (before : TypedBefore i) {o : Option TypeBlame} where
    pub typed_next : o ≡ None → IsBlamedIn (env_of p) i x o → TypedBefore (i + 1)
    typed_next e h =
        one_more i p lt is before (subst (λ y. IsBlamedIn (env_of p) i y None) same (subst (IsBlamedIn (env_of p) i x) e h))

    pub blamed_so_far : (b : TypeBlame) → o ≡ Some b → IsBlamedIn (env_of p) i x o → IsTypeBlame s whole b
    blamed_so_far b e h =
        blamed_at i p lt is before b (subst (λ y. IsBlamedIn (env_of p) i y (Some b)) same (subst (IsBlamedIn (env_of p) i x) e h))
