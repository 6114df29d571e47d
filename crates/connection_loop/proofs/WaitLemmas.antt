-- The first of several times.
use Rattle.std.proofs.Common.{◌≡◌, ◌+◌, ◌⊎◌, ℕ, Some, None, inl, inr}
use Rattle.std.specs.Prelude.{Option}
use Rattle.connections.specs.Limits.{IsFirstAfter}
use Rattle.connections.specs.declared.TheConstants.{MAX_WAIT}

-- a premise that holds
pub first_where : (now : ℕ) (A : Type 0) (P : ℕ → Type 0) (wait : Option ℕ) → A → IsFirstAfter now P wait
    → IsFirstAfter now (λ t. A × P t) wait
first_where now A P None a h = λ t p. h t p.1
first_where now A P (Some wait) a h = (
  λ t from less p. h.0 t from less p.1,
  elim h.1 as (λ _. (wait ≡ MAX_WAIT) ⊎ (A × P (now + wait))) [ inl most ↦ inl most | inr p ↦ inr (a, p) ],
)
