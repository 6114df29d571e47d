-- The JSON of a refusal has no float.
use Rattle.std.proofs.Common.{◌≡◌, ℕ, false, Option, Some, None, refl}
use Rattle.serde_json.specs.Written.{has_float}
use Rattle.answer_lines.specs.Refusals.{number_in}
use Rattle.answer_lines.specs.declared.refusal.Refusal.{Refusal}
use Rattle.answer_lines.specs.Refusals.{number_or_null, refusal_json}

number_has_none : (n : Option ℕ) → has_float (number_or_null n) ≡ false
number_has_none None = refl
number_has_none (Some n) = refl

pub no_float : (r : Refusal) → has_float (refusal_json r) ≡ false
no_float r = rw (number_has_none (number_in r.place), number_has_none r.within) refl
