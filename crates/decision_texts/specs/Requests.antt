-- Defines the request that a text describes.
-- Rules of this product: a text that is not JSON is rejected like a value without the form of a request.
use Rattle.std.specs.Prelude.{◌≡◌, ℕ, List, None, MatchOption}
use Rattle.json_words.specs.Json.{json_of}
use Rattle.values.specs.declared.request.Request.{Request}
use Rattle.answer_lines.specs.declared.refusal.Refusal.{Refusal}
use Rattle.answer_lines.specs.Refusals.{bad_shape}
use Rattle.decision_texts.specs.Settings.{Reading}

-- `IsRequestText r text q` holds if `text` is JSON that describes the request `q` in the setting `r`.
abbrev pub IsRequestText : Reading → List ℕ → Request → Type 0
IsRequestText r text q = MatchOption (json_of text) ⊥ (λ d. r.states d q)

-- `IsRequestRefused r text refusal` holds if `text` describes no request in the setting `r`, and `refusal` is the first
-- error.
abbrev pub IsRequestRefused : Reading → List ℕ → Refusal → Type 0
IsRequestRefused r text refusal = MatchOption (json_of text) (refusal ≡ bad_shape None) (λ d. r.faults d refusal)
