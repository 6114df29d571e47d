-- Defines the event that a line of a script describes.
-- Source: docs/formats.md, "Scripts of `drill`".
-- Rules of this product: a line is a JSON object, with the number of a site at `site`, an operation at `do`, and its
-- arguments at further keys. Other keys are ignored.
use Rattle.std.specs.Prelude.{◌≡◌, ℕ, ◌+◌, ◌&&◌, List, Option, Some, None, option_map, option_and_then}
use Rattle.std.specs.Prelude.{codes, nat_le, nat_lt, if◌then◌else◌}
use Rattle.std.specs.Str.{bytes_eq}
use Rattle.serde_json.specs.Data.{Data}
use Rattle.serde_json.specs.Find.{get, as_number, as_u64}
use Rattle.json_words.specs.Json.{json_of, text_at}
use Rattle.http_service.specs.site.declared.event.Operation.{Operation}
use Rattle.http_service.specs.site.declared.event.Operation.TheVariants as operation
use Rattle.http_service.specs.site.declared.event.Event.{Event}
use Rattle.program_drills.specs.declared.made.MadeCounts.{MadeCounts}

-- ---- what operations make

-- `after_operation made d` counts the messages and summaries after the operation `d`, where `made` counts those before
-- it. An offer makes a message: a state or a delta.
abbrev pub after_operation : MadeCounts → Operation → MadeCounts
after_operation made operation.Offer = record { messages = made.messages + 1; summaries = made.summaries }
after_operation made (operation.OfferDelta k) = record { messages = made.messages + 1; summaries = made.summaries }
after_operation made operation.Summary = record { messages = made.messages; summaries = made.summaries + 1 }
after_operation made _ = made

-- ---- the operation that a line asks for

-- A `ScriptOperation` is what a line asks for: the JSON of an entity to put, of the uid of an entity to delete, or of a
-- request to decide; or any other operation. An `Operation` has bytes in place of this JSON.
pub data ScriptOperation : Type 0 where
  plain : Operation → ScriptOperation
  put_entity : Data → ScriptOperation
  delete_entity : Data → ScriptOperation
  authorize : Data → ScriptOperation

-- `after_script_operation made a` counts the messages and summaries after the operation `a` of a line, where `made`
-- counts those before it.
abbrev pub after_script_operation : MadeCounts → ScriptOperation → MadeCounts
after_script_operation made (plain d) = after_operation made d
after_script_operation made _ = made

-- `within least most o` is the number `o`, if it is at least `least` and below `most`.
abbrev pub within : ℕ → ℕ → Option ℕ → Option ℕ
within least most None = None
within least most (Some k) = if nat_le least k && nat_lt k most then Some k else None

-- `number_in key least most d` is the number at `key` in the object `d`, if it is at least `least` and below `most`. It
-- must be an integer from 0 to 2^64 - 1, written without a point or an exponent.
abbrev pub number_in : List ℕ → ℕ → ℕ → Data → Option ℕ
number_in key least most d = within least most (option_and_then as_u64 (option_and_then as_number (get key d)))

-- `policy_put id text` is the put of the policy with the id `id` and the text `text`, if both are present; neither is
-- checked here.
abbrev pub policy_put : Option (List ℕ) → Option (List ℕ) → Option ScriptOperation
policy_put None text = None
policy_put (Some id) None = None
policy_put (Some id) (Some text) = Some (plain (operation.PutPolicy id text))

-- `policy_deleted id` is the deletion of the policy `id`.
abbrev pub policy_deleted : List ℕ → ScriptOperation
policy_deleted id = plain (operation.DeletePolicy id)

-- `delta_offered k` is the offer of a delta against summary `k`.
abbrev pub delta_offered : ℕ → ScriptOperation
delta_offered k = plain (operation.OfferDelta k)

-- `delivered k` is the delivery of message `k`.
abbrev pub delivered : ℕ → ScriptOperation
delivered k = plain (operation.Deliver k)

-- `operation_named made word d` is the operation that `word` names, with its arguments from the other members of the
-- line `d`, if they are valid; `made` counts the messages and summaries of earlier lines.
unfoldable pub operation_named : MadeCounts → List ℕ → Data → Option ScriptOperation
operation_named made word d =
    if bytes_eq word (codes "put_policy") then policy_put (text_at (codes "id") d) (text_at (codes "text") d)
    else if bytes_eq word (codes "delete_policy") then option_map policy_deleted (text_at (codes "id") d)
    else if bytes_eq word (codes "put_entity") then option_map put_entity (get (codes "entity") d)
    else if bytes_eq word (codes "delete_entity") then option_map delete_entity (get (codes "uid") d)
    else if bytes_eq word (codes "authorize") then option_map authorize (get (codes "request") d)
    else if bytes_eq word (codes "summary") then Some (plain operation.Summary)
    else if bytes_eq word (codes "offer") then Some (plain operation.Offer)
    else if bytes_eq word (codes "offer_delta") then
    option_map delta_offered (number_in (codes "summary") 0 made.summaries d)
    else if bytes_eq word (codes "deliver") then
    option_map delivered (number_in (codes "message") 0 made.messages d)
    else None

-- ---- a line

-- A `ScriptLine` is what a line asks for, and the number of the site.
pub record ScriptLine : Type 0 where
  pub site : ℕ
  pub script_operation : ScriptOperation

-- `script_line_by site asked` is the line with this site and this operation, if both are present.
abbrev pub script_line_by : Option ℕ → Option ScriptOperation → Option ScriptLine
script_line_by None asked = None
script_line_by (Some site) None = None
script_line_by (Some site) (Some asked) = Some (record { site = site; script_operation = asked })

-- `described_script_line n made d` is the event that the JSON `d` describes for one of `n` sites, if it describes one;
-- `made` counts the messages and summaries that earlier lines make.
unfoldable pub described_script_line : ℕ → MadeCounts → Data → Option ScriptLine
described_script_line n made d = script_line_by (number_in (codes "site") 1 (n + 1) d)
    (option_and_then (λ word. operation_named made word d) (text_at (codes "do") d))

-- `script_line_of n made line` is the event that the bytes `line` describe, if they are JSON of an event.
abbrev pub script_line_of : ℕ → MadeCounts → List ℕ → Option ScriptLine
script_line_of n made line = option_and_then (described_script_line n made) (json_of line)

-- ---- as events

-- `IsOperationOf asked d` holds if `d` is the operation `asked`, where bytes in `d` may be any JSON text of the value
-- in `asked`.
abbrev pub IsOperationOf : ScriptOperation → Operation → Type 0
IsOperationOf (plain asked) d = d ≡ asked
IsOperationOf (put_entity json) d = (bytes : List ℕ) × (d ≡ operation.PutEntity bytes) × (json_of bytes ≡ Some json)
IsOperationOf (delete_entity json) d =
    (bytes : List ℕ) × (d ≡ operation.DeleteEntity bytes) × (json_of bytes ≡ Some json)
IsOperationOf (authorize json) d = (bytes : List ℕ) × (d ≡ operation.Authorize bytes) × (json_of bytes ≡ Some json)

-- `IsEventOf said e` holds if `e` is the event that the line `said` describes.
abbrev pub IsEventOf : ScriptLine → Event → Type 0
IsEventOf said e = (e.site ≡ said.site) × IsOperationOf said.script_operation e.operation
