-- Defines the reply, a status and a body, to each outcome of a request.
-- Source: docs/formats.md, "Routes of a site".
use Rattle.std.specs.Prelude.{◌≡◌, ◌⊎◌, ℕ, List, Option, Some, None, Result, Ok, Err}
use Rattle.std.specs.Prelude.{option_map}
use Rattle.http.specs.declared.status.StatusCode.{StatusCode}
use Rattle.site.specs.stamped_store.declared.entry.Stamp.{Stamp}
use Rattle.answer_lines.specs.authoriser.declared.answer.Answer.{Answer}
use Rattle.answer_lines.specs.Lines.{answer_line}
use Rattle.answer_lines.specs.declared.place.Place.{Place}
use Rattle.answer_lines.specs.declared.place.Place.TheVariants as place
use Rattle.site.specs.declared.fault.SiteFault.{SiteFault}
use Rattle.site.specs.declared.fault.SiteFault.TheVariants as fault
use Rattle.site.specs.declared.outcome.Put.{Put}
use Rattle.site.specs.declared.outcome.Taken.{Taken}
use Rattle.site.specs.declared.outcome.Taken.TheVariants.{All, Short}
use Rattle.site.specs.Faults.{code_of, within_of}
use Rattle.site.specs.policy_grammar.Faults as policy_faults
use Rattle.site.specs.sync_format.Faults as message_faults
use Rattle.http_replies.specs.Statuses.{refusal_status}
use Rattle.http_replies.specs.Lines.{fault_line, found_line, put_line, stamp_line, taken_line}

-- `fault_place f` is the place of the error `f`, if it has one: the byte offset in a policy's text, or the index of a
-- message's entry or stamp.
abbrev pub fault_place : SiteFault → Option Place
fault_place (fault.Policy f) = option_map place.Byte (policy_faults.place_of f)
fault_place (fault.Message f) = option_map place.Index (message_faults.place_of f)
fault_place _ = None

-- `fault_reply f` is the reply to the error `f` of the site.
abbrev pub fault_reply : SiteFault → StatusCode × List ℕ
fault_reply f = (refusal_status (code_of f), fault_line (code_of f) (fault_place f) (within_of f))

-- `status_reply s` is the reply to an error that has only the status `s`: the line of the error has `s` as its code.
abbrev pub status_reply : StatusCode → StatusCode × List ℕ
status_reply s = (s, fault_line s None None)

-- `put_reply r` is the reply to a put of a policy with the result `r`.
abbrev pub put_reply : Result Put SiteFault → StatusCode × List ℕ
put_reply (Ok put) = (200, put_line put.stamp put.impossible)
put_reply (Err f) = fault_reply f

-- `stamp_reply r` is the reply to a put of an entity, or to a deletion, with the result `r`.
abbrev pub stamp_reply : Result Stamp SiteFault → StatusCode × List ℕ
stamp_reply (Ok stamp) = (200, stamp_line stamp)
stamp_reply (Err f) = fault_reply f

-- `taken_reply r` is the reply to a message with the result `r`: the number of applied updates. If memory ran out at an
-- update, the reply is the error of code 1 with the number of applied updates as its place.
abbrev pub taken_reply : Result Taken SiteFault → StatusCode × List ℕ
taken_reply (Ok (All count)) = (200, taken_line count)
taken_reply (Ok (Short count)) = (503, fault_line 1 (Some (place.Taken count)) None)
taken_reply (Err f) = fault_reply f

-- `answer_reply r` is the reply to a request for a decision with the result `r`.
abbrev pub answer_reply : Result Answer SiteFault → StatusCode × List ℕ
answer_reply (Ok answer) = (200, answer_line answer)
answer_reply (Err f) = fault_reply f

-- `found_reply o` is the reply to a query for a policy: the policy's text and stamp in `o`, or the error `NotThere`
-- (60) if `o` is `None`.
abbrev pub found_reply : Option (List ℕ × Stamp) → StatusCode × List ℕ
found_reply (Some found) = (200, found_line found.0 found.1)
found_reply None = fault_reply fault.NotThere

-- `message_reply r` is the reply to a query for a state, a summary or a delta: the message in `r`, or its error.
abbrev pub message_reply : Result (List ℕ) SiteFault → StatusCode × List ℕ
message_reply (Ok bytes) = (200, bytes)
message_reply (Err f) = fault_reply f

-- `IsReplyOrNoMemory reply told body` holds if the status `told` and the body `body` are those of `reply`; or, if
-- `reply` has the status 200, those of the error `NoMemory`.
abbrev pub IsReplyOrNoMemory : StatusCode × List ℕ → StatusCode → List ℕ → Type 0
IsReplyOrNoMemory reply told body =
    ((told, body) ≡ reply) ⊎ ((reply.0 ≡ 200) × ((told, body) ≡ fault_reply fault.NoMemory))
