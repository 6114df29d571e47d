-- The result of the environments in turn, and that of a policy by its names and its environments.
use Rattle.std.specs.Prelude.{◌≡◌, ◌≢◌, ℕ, ◌+◌, ◌<◌, ◌≤◌, ◌&&◌, List, [], ◌∷◌, map, length, drop, get_or, Bool, true}
use Rattle.std.specs.Prelude.{false, Result, Ok, Err, refl}
use Rattle.std.proofs.Common.{sym, ap, ◌∙◌, subst, suc, drop-cons, add-one}
use Rattle.std.proofs.lemmas.Bool.{and_from}
use Rattle.std.proofs.lemmas.List.{drop_all}
use Rattle.std.proofs.lemmas.List.Elements.{All-nil, All-cons, All-head, All-tail}
use Rattle.grammar_core.specs.declared.expr.Expr.{Expr}
use Rattle.type_checker.specs.policy_grammar.declared.policy.Policy.{Policy}
use Rattle.type_checker.specs.policy_grammar.PolicyExpression.{expression_of}
use Rattle.type_checker.specs.schema.declared.parts.Environment as given
use Rattle.type_checker.specs.schema.Schemas.{StatedSchema}
use Rattle.type_checker.specs.schema.Views.{environment_view}
use Rattle.type_checker.specs.typing.Types.{false_type}
use Rattle.type_checker.specs.typing.Environment.{Environment}
use Rattle.type_checker.specs.FromSchemas.{typing_environment_of}
use Rattle.type_checker.specs.typing.declared.fault.TypeFault.{TypeFault}
use Rattle.type_checker.specs.typing.declared.fault.TypeFault.TheVariants.{NoMemory}
use Rattle.validator.specs.Names.{names_of}
use Rattle.validator.specs.Passing
use Rattle.validator.specs.Passing.{environments_of, HasType, HasBooleanType, IsVerdict, IsCheckRefused}
use Rattle.validator.specs.inner.Checking.{scope_parts, typing_environments, IsJudged, AreJudged}
use Rattle.validator.specs.inner.Walking.{WalkResult, names_check, parts_check}
use Rattle.validator.proofs.KnownLemmas.{ReportsNames, names_tell}
use Rattle.validator.proofs.WalkLemmas.{parts_walked}

-- ---- one environment after the other

both_true : (a b : Bool) → (a && b) ≡ true → (a ≡ true) × (b ≡ true)
both_true true true e = (refl, refl)
both_true true false e = absurd (cc)
both_true false b e = absurd (cc)

module _ (x : Expr) where
  one_more : (before d : Bool) (env : Environment) (envs : List Environment) → IsJudged env x (Ok d) → (r : Result Bool TypeFault)
      → AreJudged x (before && d) envs r → AreJudged x before (env ∷ envs) r
  one_more before d env envs h (Ok c) g = (
    All-cons (HasBooleanType x) env envs h.0 g.0,
    (
      (λ e. let k = g.1.0 e in let b = both_true before d k.0 in (b.0, All-cons (HasType x false_type) env envs (h.1.0 b.1) k.1)),
      λ k. g.1.1 (and_from before d k.0 (h.1.1 (All-head (HasType x false_type) env envs k.1)), All-tail (HasType x false_type) env envs k.1),
    ),
  )
  one_more before d env envs h (Err f) g = λ n. Passing.faulty_later h.0 (g n)

  faulty_now : (before : Bool) (env : Environment) (envs : List Environment) (f : TypeFault) → IsJudged env x (Err f)
      → AreJudged x before (env ∷ envs) (Err f)
  faulty_now before env envs f h = λ n. Passing.faulty_here (h n)

  none_left : (before : Bool) → AreJudged x before [] (Ok before)
  none_left before = (All-nil (HasBooleanType x), ((λ e. (e, All-nil (HasType x false_type))), λ k. k.0))

  turn : {X : Type 0} (xs : List X) (i : ℕ) (y : X) → i < length xs → y ≡ get_or xs i y → drop i xs ≡ y ∷ drop (i + 1) xs
  turn xs i y lt e = drop-cons xs i y lt ∙ ap (λ z. z ∷ drop (suc i) xs) (sym e) ∙ ap (λ k. y ∷ drop k xs) (sym (add-one i))

  past : {X : Type 0} (xs : List X) (i : ℕ) → length xs ≤ i → drop i xs ≡ []
  past xs i h = drop_all i xs h

  module _ (s : StatedSchema) (ps : List given.Environment) (i : ℕ) (p : given.Environment) (lt : i < length ps) (is : p ≡ get_or ps i p)
      (before : Bool) where
    pub environment_next : (d q : Bool) → q ≡ (before && d) → IsJudged (typing_environment_of s (environment_view p)) x (Ok d)
        → (r : Result Bool TypeFault) → AreJudged x q (typing_environments s (drop (i + 1) ps)) r → AreJudged x before (typing_environments s (drop i ps)) r
    environment_next d q e h r g =
        subst (λ (qs : List given.Environment). AreJudged x before (typing_environments s qs) r) (sym (turn ps i p lt is))
        (one_more before d (typing_environment_of s (environment_view p)) (typing_environments s (drop (i + 1) ps)) h r
        (subst (λ v. AreJudged x v (typing_environments s (drop (i + 1) ps)) r) e g))

    pub environment_faulty : (f : TypeFault) → IsJudged (typing_environment_of s (environment_view p)) x (Err f)
        → AreJudged x before (typing_environments s (drop i ps)) (Err f)
    environment_faulty f h =
        subst (λ (qs : List given.Environment). AreJudged x before (typing_environments s qs) (Err f)) (sym (turn ps i p lt is))
        (faulty_now before (typing_environment_of s (environment_view p)) (typing_environments s (drop (i + 1) ps)) f h)

  pub environments_end : (s : StatedSchema) (ps : List given.Environment) (i : ℕ) (before : Bool) → length ps ≤ i
      → AreJudged x before (typing_environments s (drop i ps)) (Ok before)
  environments_end s ps i before h =
      subst (λ (qs : List given.Environment). AreJudged x before (typing_environments s qs) (Ok before)) (sym (past ps i h)) (none_left before)

-- ---- the policy

mapped : {A B C : Type 0} (f : A → B) (g : B → C) (xs : List A) → map (λ x. g (f x)) xs ≡ map g (map f xs)
mapped f g [] = refl
mapped f g (x ∷ xs) = ap (λ ys. g (f x) ∷ ys) (mapped f g xs)

module _ (s : StatedSchema) (policy : Policy) (parts : List Expr) (are : parts ≡ scope_parts policy.scope) where
  told_is : parts_check s parts policy.condition ≡ names_check s (names_of policy)
  told_is = ap (λ es. parts_check s es policy.condition) are ∙ parts_walked s _ _ _ policy.condition

  names_come : (r : WalkResult) → r ≡ parts_check s parts policy.condition → ReportsNames s (names_of policy) r
  names_come r e = subst (ReportsNames s (names_of policy)) (sym (e ∙ told_is)) (names_tell s (names_of policy))

  pub name_refused : (f : TypeFault) → Err f ≡ parts_check s parts policy.condition → IsCheckRefused s policy f
  name_refused f e = Passing.for_name (names_come (Err f) e)

  module _ (ps : List given.Environment) (all : map environment_view ps ≡ s.environments) where
    environments : typing_environments s ps ≡ environments_of s
    environments = mapped environment_view (typing_environment_of s) ps ∙ ap (map (typing_environment_of s)) all

    moved : (r : Result Bool TypeFault) → AreJudged (expression_of policy) true (typing_environments s ps) r
        → AreJudged (expression_of policy) true (environments_of s) r
    moved r h = subst (λ es. AreJudged (expression_of policy) true es r) environments h

    pub type_refused : Ok tt ≡ parts_check s parts policy.condition → (f : TypeFault)
        → AreJudged (expression_of policy) true (typing_environments s ps) (Err f) → f ≢ NoMemory → IsCheckRefused s policy f
    type_refused e f h n = Passing.for_type (names_come (Ok tt) e) (moved (Err f) h n)

    pub passed : Ok tt ≡ parts_check s parts policy.condition → (b : Bool)
        → AreJudged (expression_of policy) true (typing_environments s ps) (Ok b)
        → IsVerdict s policy b
    passed e b h =
        let k = moved (Ok b) h in
        record {
          passes = record { known = names_come (Ok tt) e; typed = k.0 };
          impossible = ((λ t. (k.1.0 t).1), λ i. k.1.1 (refl, i));
        }
