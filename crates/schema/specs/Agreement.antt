-- Defines when a parsing function gives exactly what JSON describes, and when JSON has exactly one outcome.
use Rattle.std.specs.Prelude.{◌≡◌, ◌↔◌, ◌⊎◌, Result, Ok, Err}

-- `Gives r Describes Refuses` holds if, for each value `a`, `r` is `Ok a` if and only if `Describes a` holds and, for
-- each error `f`, `r` is `Err f` if and only if `Refuses f` holds.
pub record Gives {A F : Type 0} (r : Result A F) (Describes : A → Type 0) (Refuses : F → Type 0) : Type 0 where
  pub value : (a : A) → (r ≡ Ok a) ↔ Describes a
  pub fault : (f : F) → (r ≡ Err f) ↔ Refuses f

-- `HasOneOutcome Describes Refuses` holds if `Describes` holds of exactly one value or `Refuses` of exactly one error,
-- and never both.
pub record HasOneOutcome {A F : Type 0} (Describes : A → Type 0) (Refuses : F → Type 0) : Type 0 where
  pub one_value : (a b : A) → Describes a → Describes b → a ≡ b
  pub one_fault : (f g : F) → Refuses f → Refuses g → f ≡ g
  pub not_both : (a : A) (f : F) → Describes a → Refuses f → ⊥
  pub some : ((a : A) × Describes a) ⊎ ((f : F) × Refuses f)
