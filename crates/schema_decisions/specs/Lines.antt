-- Defines the line of a policy's verdict under a schema.
-- Source: docs/formats.md.
-- Rules of this product: compact JSON, keys ascending; only the line of a rejected policy has a code.
use Rattle.std.specs.Prelude.{ℕ, Bool, true, false, List, codes}
use Rattle.serde_json.specs.Data.{Data, string, number, object, unsigned, no_members, member}
use Rattle.serde_json.specs.Written.{compact_text}
use Rattle.validator.specs.typing.Codes.{code_of}
use Rattle.validator.specs.Outcomes.{CheckResult, passes, refused}

-- `passed_json id word` is the JSON `{"id":"policy0","verdict":"accepted"}`, with `id` for `policy0` and `word` for
-- `accepted`.
abbrev pub passed_json : List ℕ → List ℕ → Data
passed_json id word =
    object (member (codes "id") (string id) (member (codes "verdict") (string word) no_members))

-- `refused_json id code` is the JSON `{"code":44,"id":"policy2","verdict":"refused"}`, with `code` for 44 and `id` for
-- `policy2`.
abbrev pub refused_json : List ℕ → ℕ → Data
refused_json id code = object (member (codes "code") (number (unsigned code))
    (member (codes "id") (string id) (member (codes "verdict") (string (codes "refused")) no_members)))

-- `verdict_word impossible` is the word for a policy that passes; `impossible` is whether the policy is impossible.
abbrev pub verdict_word : Bool → List ℕ
verdict_word true = codes "impossible"
verdict_word false = codes "accepted"

-- `verdict_json id outcome` is the JSON of the validation outcome `outcome` of the policy `id`.
abbrev pub verdict_json : List ℕ → CheckResult → Data
verdict_json id (passes impossible) = passed_json id (verdict_word impossible)
verdict_json id (refused fault) = refused_json id (code_of fault)

-- `verdict_line id outcome` is the line of the validation outcome `outcome` of the policy `id`, without a line feed.
unfoldable pub verdict_line : List ℕ → CheckResult → List ℕ
verdict_line id outcome = compact_text (verdict_json id outcome)

-- `is_refusal outcome` tests whether `outcome` is a rejection.
abbrev pub is_refusal : CheckResult → Bool
is_refusal (passes impossible) = false
is_refusal (refused fault) = true
