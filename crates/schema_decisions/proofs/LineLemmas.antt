-- The JSON of a verdict has no float.
use Rattle.std.proofs.Common.{◌≡◌, ℕ, false, List, refl}
use Rattle.serde_json.specs.Written.{has_float}
use Rattle.validator.specs.Outcomes.{CheckResult, passes, refused}
use Rattle.schema_decisions.specs.Lines.{verdict_json}

pub no_float : (id : List ℕ) (outcome : CheckResult) → has_float (verdict_json id outcome) ≡ false
no_float id (passes impossible) = refl
no_float id (refused fault) = refl
