use Rattle.std.proofs.Common.{ap, List, ℕ}
use Rattle.serde_json.specs.Data.{string}
use Rattle.values.specs.declared.entity_uid.EntityUid.{EntityUid}
use Rattle.authoriser.specs.declared.answer.ErringPolicy.{ErringPolicy}
use Rattle.entity_uids.specs.Tokens.{tokens_of}
use Rattle.entity_uids.specs.Uids.{uid_json}
use Rattle.entity_uids.proofs.Adding.{one, then, alike, joined}
use Rattle.answer_lines.specs.Lines.{erring_json, each_json}
use Rattle.answer_lines.proofs.lines.write_answer.Goals as goal

pub returns : goal.returns
returns c =
    let cycle = alike (ap (λ (us : List EntityUid). tokens_of (each_json uid_json us)) c.as_slice.ensures) c.in_ok-write_cycle.ensures in
    let decision = alike (ap (λ (s : List ℕ). tokens_of (string s)) c.decision_word.ensures) (one c.in_ok-string.ensures) in
    let errors = alike (ap (λ (es : List ErringPolicy). tokens_of (each_json erring_json es)) c.as_slice-2.ensures) c.in_ok-write_errors.ensures in
    let reason = alike (ap (λ (ids : List (List ℕ)). tokens_of (each_json (λ id. string id) ids)) c.as_slice-3.ensures) c.in_ok-write_reason.ensures in
    joined (then (one c.in_ok-begin_object.ensures) c.in_ok-key.ensures)
    (joined cycle
    (joined (one c.in_ok-key-2.ensures)
    (joined decision
    (joined (one c.in_ok-key-3.ensures)
    (joined errors
    (joined (one c.in_ok-key-4.ensures)
    (joined reason (one c.in_ok-end_object.ensures))))))))
