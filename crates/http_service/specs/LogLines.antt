-- Defines the line that a log gets for a request and its reply.
-- Source: RFC 8259; docs/formats.md, the log.
-- Rules of this product: each line is one compact object. Its keys are, in this order: method, target and status; for a
-- change that was made, its stamp; for a decision, the request's principal, action and resource, each as the request
-- names it, and then the members of the reply. A part that was not read or is not UTF-8 is null.
use Rattle.std.specs.Prelude.{◌≡◌, ◌⊎◌, ℕ, List, ◌++◌, drop, Option, Some, None, Ok, Err, option_and_then, codes}
use Rattle.std.specs.Prelude.{decimal, if◌then◌else◌, ◌==◌, length, nat_le}
use Rattle.std.specs.Str.{is_utf8}
use Rattle.json.specs.Print.{quoted}
use Rattle.serde_json.specs.Data.{Data}
use Rattle.serde_json.specs.Find.{as_str, get}
use Rattle.json_words.specs.Json.{json_of, text_at}
use Rattle.http.specs.declared.status.StatusCode.{StatusCode}
use Rattle.http_streams.specs.ReplyText.{error_line}
use Rattle.http_service.specs.Routes.{Asked, route_stated}
use Rattle.http_replies.specs.site.Inputs.{Input, PutPolicy, DeletePolicy, PutEntity, DeleteEntity, Authorize}

-- `string_or_null text` is `text` as a JSON string, in which control characters below U+0020 are escaped; or null for
-- `None`.
abbrev pub string_or_null : Option (List ℕ) → List ℕ
string_or_null (Some text) = quoted text
string_or_null None = codes "null"

-- `text_of bytes` is `bytes`, or `None` if they are not UTF-8.
abbrev pub text_of : List ℕ → Option (List ℕ)
text_of bytes = if is_utf8 bytes then Some bytes else None

-- `head_text method target` is the beginning of the line: {"method":"GET","target":"/v1/state"
abbrev pub head_text : Option (List ℕ) → Option (List ℕ) → List ℕ
head_text method target =
    codes "{\"method\":" ++ string_or_null method ++ codes ",\"target\":" ++ string_or_null target

-- `status_text status` is the part after the head: ,"status":200
abbrev pub status_text : StatusCode → List ℕ
status_text status = codes ",\"status\":" ++ decimal status

-- `plain_tail status` is the end of a line that reports only its status.
abbrev pub plain_tail : StatusCode → List ℕ
plain_tail status = status_text status ++ codes "}\n"

-- `stamp_tail status reply` is the end of the line of a change. Its reply has the status `status` and the body `reply`:
-- the stamp of the change and, for a put of a policy, whether the policy is impossible. An example is
-- ,"status":200,"stamp":{"count":2,"site":"1"}}
-- No reply to a change is longer than 128 bytes; the line of a longer one would end after the status.
abbrev pub stamp_tail : StatusCode → List ℕ → List ℕ
stamp_tail status reply =
    if nat_le (length reply) 128 then status_text status ++ codes ",\"stamp\":" ++ reply ++ codes "}\n"
    else plain_tail status

-- `uid_text type id` is the uid with `type` and `id`, as in the answer line: {"id":"ann","type":"User"}; null if one of
-- the two is `None`.
abbrev pub uid_text : Option (List ℕ) → Option (List ℕ) → List ℕ
uid_text (Some type) (Some id) = codes "{\"id\":" ++ quoted id ++ codes ",\"type\":" ++ quoted type ++ codes "}"
uid_text (Some type) None = codes "null"
uid_text None id = codes "null"

-- `object_text d` is the uid with the type and the id that the object `d` has as strings; null if `d` lacks one of
-- them.
abbrev pub object_text : Data → List ℕ
object_text d = uid_text (text_at (codes "type") d) (text_at (codes "id") d)

-- `inner_text d inner` is the uid in the object `inner`, the member `__entity` of `d`; if `d` has no such member
-- (`None`), the uid in `d` itself.
abbrev pub inner_text : Data → Option Data → List ℕ
inner_text d None = object_text d
inner_text d (Some inner) = object_text inner

-- `name_text d text` is how the line names the entity that a request names by the JSON `d`. If `d` is the string
-- `text`, the name is this string, as in "User::\"ann\"". Else `text` is `None`, and the name is the uid in the object
-- `d`.
abbrev pub name_text : Data → Option (List ℕ) → List ℕ
name_text d (Some text) = quoted text
name_text d None = inner_text d (get (codes "__entity") d)

-- `named_text found` is how the line names the entity that a request names by the JSON `found`; null for `None`.
abbrev pub named_text : Option Data → List ℕ
named_text (Some d) = name_text d (as_str d)
named_text None = codes "null"

-- `member_text label key json` is `label` followed by the name of the entity at `key` in the body `json`:
-- ,"principal":"User::\"ann\""
unfoldable pub member_text : List ℕ → List ℕ → Option Data → List ℕ
member_text label key json = label ++ named_text (option_and_then (get key) json)

-- `members_text json` are the members with the names in the body `json` of a request:
-- ,"principal":"User::\"ann\"","action":..,"resource":..
abbrev pub members_text : Option Data → List ℕ
members_text json =
    member_text (codes ",\"principal\":") (codes "principal") json
    ++ member_text (codes ",\"action\":") (codes "action") json
    ++ member_text (codes ",\"resource\":") (codes "resource") json

-- `decision_tail status json reply` is the end of the line of a decision on the request `json`: the status, the names
-- in the request, and the members of the object `reply`, as ,"cycle":[],"decision":"Allow","errors":[],"reason":["p"]}
abbrev pub decision_tail : StatusCode → Option Data → List ℕ → List ℕ
decision_tail status json reply = status_text status ++ members_text json ++ codes "," ++ drop 1 reply ++ codes "\n"

-- `made_tail i status reply` is the end of the line of an executed request with the input `i`, whose reply has the
-- status `status` and the body `reply`.
abbrev pub made_tail : Input → StatusCode → List ℕ → List ℕ
made_tail (Authorize body) status reply = decision_tail status (json_of body) reply
made_tail (PutPolicy id text) status reply = stamp_tail status reply
made_tail (DeletePolicy id) status reply = stamp_tail status reply
made_tail (PutEntity body) status reply = stamp_tail status reply
made_tail (DeleteEntity body) status reply = stamp_tail status reply
made_tail _ status reply = plain_tail status

-- `tail_of asked status reply` is the end of the line of a request that asks for `asked`, whose reply has the status
-- `status` and the body `reply`: `made_tail` for an input with the status 200, else only the status.
abbrev pub tail_of : Asked → StatusCode → List ℕ → List ℕ
tail_of (Ok i) status reply = if status == 200 then made_tail i status reply else plain_tail status
tail_of (Err s) status reply = plain_tail status

-- `IsDecision asked` holds if `asked` is a request for a decision.
abbrev pub IsDecision : Asked → Type 0
IsDecision (Ok (Authorize body)) = Unit {0}
IsDecision _ = ⊥

-- `log_line method target body status reply` is the line of the request with `method`, `target` and `body`, and of its
-- reply with the status `status` and the body `reply`.
abbrev pub log_line : List ℕ → List ℕ → List ℕ → StatusCode → List ℕ → List ℕ
log_line method target body status reply =
    head_text (text_of method) (text_of target) ++ tail_of (route_stated method target body) status reply

-- `unread_line status` is the line for rejected bytes, and for a request if memory ran out before anything was done:
-- {"method":null,"target":null,"status":400}
abbrev pub unread_line : StatusCode → List ℕ
unread_line status = head_text None None ++ plain_tail status

-- `IsUndone asked status reply` holds if the status `status` and the body `reply` are the reply to a request that asks
-- for `asked` if an allocation failed and nothing was done: 503 and the error line of code 1, without a place; or, if
-- there is no such operation, its status (404 or 405) and the error line of this status.
abbrev pub IsUndone : Asked → StatusCode → List ℕ → Type 0
IsUndone (Ok i) status reply = (status ≡ 503) × (reply ≡ error_line 1)
IsUndone (Err s) status reply = (status ≡ s) × (reply ≡ error_line s)

-- `IsLogLine method target body status reply line` holds if the log may get `line` for a request and its reply: their
-- `log_line`, or, if memory ran out before anything was done, the line without method and target.
abbrev pub IsLogLine : List ℕ → List ℕ → List ℕ → StatusCode → List ℕ → List ℕ → Type 0
IsLogLine method target body status reply line =
    (line ≡ log_line method target body status reply)
    ⊎ ((line ≡ unread_line status) × IsUndone (route_stated method target body) status reply)
