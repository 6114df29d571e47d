-- Defines the outcomes of parsing the text of an entry's body: a value or an error.
-- Rules of this product: a text is parsed as one value or rejected with one error, and never both.
use Rattle.std.specs.Prelude.{◌≡◌, ◌⊎◌, ℕ, List}
use Rattle.values.specs.declared.entity_uid.EntityUid.{EntityUid}
use Rattle.sync_format.specs.declared.bodies.BodyFault.{BodyFault}

-- `HasAtMostOneOutcome Reads Refuses` holds if a text has at most one value (`Reads`), at most one error (`Refuses`),
-- and not both.
pub record HasAtMostOneOutcome {P : Type 0} (Reads : P → Type 0) (Refuses : BodyFault → Type 0) : Type 0 where
  pub value : (p q : P) → Reads p → Reads q → p ≡ q
  pub fault : (f g : BodyFault) → Refuses f → Refuses g → f ≡ g
  pub apart : (p : P) (f : BodyFault) → Reads p → Refuses f → ⊥

-- `HasOutcome Reads Refuses` holds if a text has a value (`Reads`) or an error (`Refuses`).
abbrev pub HasOutcome : {P : Type 0} → (P → Type 0) → (BodyFault → Type 0) → Type 0
HasOutcome {P} Reads Refuses = ((p : P) × Reads p) ⊎ ((f : BodyFault) × Refuses f)

-- `BodiesHaveOneOutcome Policies NoPolicies Entities NoEntities` holds if each text has at most one outcome as a policy
-- with a given id, and at most one as an entity with a given uid. `Policies` and `Entities` give the values of texts,
-- `NoPolicies` and `NoEntities` their errors.
pub record BodiesHaveOneOutcome {P E : Type 0} (Policies : List ℕ → List ℕ → P → Type 0)
    (NoPolicies : List ℕ → List ℕ → BodyFault → Type 0) (Entities : EntityUid → List ℕ → E → Type 0)
    (NoEntities : EntityUid → List ℕ → BodyFault → Type 0) : Type 0 where
  pub policies : (id text : List ℕ) → HasAtMostOneOutcome (Policies id text) (NoPolicies id text)
  pub entities : (uid : EntityUid) (text : List ℕ) → HasAtMostOneOutcome (Entities uid text) (NoEntities uid text)
