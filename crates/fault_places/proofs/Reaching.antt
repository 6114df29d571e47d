-- The way down, step by step.
use Rattle.std.specs.Prelude.{◌≡◌, ℕ, List, [], ◌∷◌, ◌++◌, map, Option, refl}
use Rattle.std.proofs.Common.{sym, ap, ◌∙◌, subst, append_assoc}
use Rattle.grammar_core.specs.declared.expr.Expr.{Expr}
use Rattle.typing.specs.Environment.{Environment}
use Rattle.typing.specs.declared.fault.TypeFault.{TypeFault}
use Rattle.typing.specs.Faults.{Faults}
use Rattle.type_checker.specs.Views.{static_view}
use Rattle.type_checker.specs.type_capabilities.declared.capability.Capability.{Capability}
use Rattle.type_checker.specs.declared.static_type.StaticType.{StaticType}
use Rattle.typing.specs.BlamedExpressions.{Blame, under, blamed}
use Rattle.fault_places.specs.inner.Steps.{Reaches, GoesDown, StopsAt, below, last_of}

pub reaches_itself : (env : Environment) (x : Expr) (p : List ℕ) (ps : List Capability) → p ≡ [] → ps ≡ [] → Reaches env x p ps x
reaches_itself env x p ps e f =
    subst (λ q. Reaches env x q ps x) (sym e) (subst (λ qs. Reaches env x [] qs x) (sym f) (λ n h. (h, refl)))

below_more : (p : List ℕ) (i : ℕ) (b : Blame) → below p (under i b) ≡ below (p ++ i ∷ []) b
below_more p i b =
    let P : List ℕ → Blame = λ q. record { path = q; form = b.form; types = b.types } in
    ap P (sym (append_assoc p (i ∷ []) b.path))

module _ (env : Environment) (whole : Expr) (p : List ℕ) (ps : List Capability) (x : Expr) (r : Reaches env whole p ps x) where
  pub reaches_on : (i : ℕ) (y : Expr) (qs : List Capability) (q : List ℕ) → GoesDown env ps x qs i y → q ≡ p ++ i ∷ []
      → Reaches env whole q qs y
  reaches_on i y qs q s e n h =
      let k = r n h in
      let l = s.1 n k.0 in
      (l.0, k.1 ∙ (ap (below p) l.1 ∙ (below_more p i (blamed l.0) ∙ ap (λ z. below z (blamed l.0)) (sym e))))

  pub reaches_end : (o : Option ℕ) (ts : List StaticType) (q : List ℕ)
      → StopsAt env ps x o ts → q ≡ p ++ last_of o
      → (n : TypeFault) (h : Faults env [] whole n) → blamed h ≡ record { path = q; form = x; types = map static_view ts }
  reaches_end o ts q s e n h =
      let k = r n h in
      let P : List ℕ → Blame = λ z. record { path = z; form = x; types = map static_view ts } in
      k.1 ∙ (ap (below p) (s n k.0) ∙ ap P (sym e))
