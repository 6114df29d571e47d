-- Defines what a call over texts, without a site, returns and writes.
-- Source: docs/formats.md, "The answer line" and "The lines of `check`".
-- Rules of this product: the status is 200 for an answer, for policies that all pass, and for an explanation. It is 422
-- for rejected texts, and if one of the policies does not pass. It is 503, without a body, if out of memory.
use Rattle.std.specs.Prelude.{◌≡◌, ◌⊎◌, ℕ, Bool, List, Some, codes, length, if◌then◌else◌}
use Rattle.explanations.specs.Files.{Files}
use Rattle.explanations.specs.FileExplanations.{IsExplained}
use Rattle.schema_decisions.specs.answer_lines.declared.refusal.Refusal.{Refusal}
use Rattle.schema_decisions.specs.answer_lines.Refusals.{error_line}
use Rattle.schema_decisions.specs.decision_texts.BareReading.{bare_reading}
use Rattle.schema_decisions.specs.decision_texts.Decisions as bare
use Rattle.schema_decisions.specs.Checks.{IsChecked, AreChecksRefused}
use Rattle.schema_decisions.specs.Decisions as typed
use Rattle.weirbowl.specs.Copies.{copied}
use Rattle.weirbowl.specs.declared.call_result.CallResult.{CallResult}

-- `no_memory` is the result if an allocation failed.
abbrev pub no_memory : CallResult
no_memory = record { status = 503; length = 0 }

-- `Returns status text r before after` holds if `r` is `status` and the length of `text`, and `after` is `before` with
-- `text` copied into it, if it fits (`copied`).
abbrev pub Returns : ℕ → List ℕ → CallResult → List ℕ → List ℕ → Type 0
Returns status text r before after =
    (r ≡ record { status = status; length = length text }) × (after ≡ copied text before)

-- `Rejects IsDue r before after` holds if the call returns 422 with the line of an error for which `IsDue` holds, or
-- 503 without a body.
abbrev pub Rejects : (Refusal → Type 0) → CallResult → List ℕ → List ℕ → Type 0
Rejects IsDue r before after =
    ((f : Refusal) × IsDue f × Returns 422 (error_line f) r before after) ⊎ ((r ≡ no_memory) × (after ≡ before))

-- `Decides policies entities request r before after` holds if the call may return `r` and turn the memory `before` into
-- `after`: the line of the answer without a schema, or an error.
abbrev pub Decides : List ℕ → List ℕ → List ℕ → CallResult → List ℕ → List ℕ → Type 0
Decides policies entities request r before after =
    ((line : List ℕ) × bare.IsDecided bare_reading policies entities request line × Returns 200 line r before after)
    ⊎ Rejects (bare.IsDecisionRefused bare_reading policies entities request) r before after

-- `DecidesUnder schema policies entities request r before after` is the same relation for a decision under the schema
-- `schema`, given as bytes.
abbrev pub DecidesUnder : List ℕ → List ℕ → List ℕ → List ℕ → CallResult → List ℕ → List ℕ → Type 0
DecidesUnder schema policies entities request r before after =
    ((line : List ℕ) × typed.IsDecided schema policies entities request line × Returns 200 line r before after)
    ⊎ Rejects (typed.IsSchemaDecisionRefused schema policies entities request) r before after

-- `checked_status some_rejected` is the status of checked policies: 422 if one of them does not pass, else 200.
abbrev pub checked_status : Bool → ℕ
checked_status some_rejected = if some_rejected then 422 else 200

-- `Checks schema policies r before after` holds if the call may return `r` and turn the memory `before` into `after`:
-- the lines of the checked policies, one for each, or an error.
abbrev pub Checks : List ℕ → List ℕ → CallResult → List ℕ → List ℕ → Type 0
Checks schema policies r before after =
    ((text : List ℕ) × (some_rejected : Bool) × IsChecked schema policies text some_rejected
    × Returns (checked_status some_rejected) text r before after)
    ⊎ Rejects (AreChecksRefused schema policies) r before after

-- `files_named schema policies entities request` are these texts, each under the name that an explanation of it shows.
abbrev pub files_named : List ℕ → List ℕ → List ℕ → List ℕ → Files
files_named schema policies entities request = record {
  schema = Some (record { name = codes "schema"; text = schema });
  policies = record { name = codes "policies"; text = policies };
  entities = Some (record { name = codes "entities"; text = entities });
  request = Some (record { name = codes "request"; text = request });
}

-- `Explains schema policies entities request r before after` holds if the call may return `r` and turn the memory
-- `before` into `after`: the explanation of what is rejected in these texts, or out of memory.
abbrev pub Explains : List ℕ → List ℕ → List ℕ → List ℕ → CallResult → List ℕ → List ℕ → Type 0
Explains schema policies entities request r before after =
    ((text : List ℕ) × IsExplained (files_named schema policies entities request) text
    × Returns 200 text r before after)
    ⊎ ((r ≡ no_memory) × (after ≡ before))
