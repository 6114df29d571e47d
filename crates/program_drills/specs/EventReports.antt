-- Defines the line of an event: the body of the reply to it, or the number of the message or summary that it made.
-- Source: docs/formats.md, "Scripts of `drill`"; RFC 8259.
use Rattle.std.specs.Prelude.{ℕ, List, Option, Some, None, Ok, Err, codes}
use Rattle.serde_json.specs.Data.{Data, number, object, unsigned, no_members, member}
use Rattle.serde_json.specs.Written.{compact_text}
use Rattle.http_service.specs.http_replies.Replies.{answer_reply, fault_reply, put_reply, stamp_reply, taken_reply}
use Rattle.http_service.specs.site.SiteViews.{SiteView, schema_of, store_in}
use Rattle.http_service.specs.site.declared.reply.Reply.{Reply}
use Rattle.http_service.specs.site.declared.reply.Reply.TheVariants as reply
use Rattle.http_service.specs.site.declared.event.EventReply.{EventReply}
use Rattle.http_service.specs.site.declared.event.EventReply.TheVariants.{Unknown, Replied, Message, Summary}
use Rattle.http_service.specs.sync_format.Messages.{state_text}

-- `message_json k` is the JSON with the number of message `k`.
abbrev pub message_json : ℕ → Data
message_json k = object (member (codes "message") (number (unsigned k)) no_members)

-- `message_line k` is the line of `message_json k`, as {"message":0}
unfoldable pub message_line : ℕ → List ℕ
message_line k = compact_text (message_json k)

-- `summary_json k` is the JSON with the number of summary `k`.
abbrev pub summary_json : ℕ → Data
summary_json k = object (member (codes "summary") (number (unsigned k)) no_members)

-- `summary_line k` is the line of `summary_json k`, as {"summary":0}
unfoldable pub summary_line : ℕ → List ℕ
summary_line k = compact_text (summary_json k)

-- `reply_line r` is the line of the reply `r` to a command, a request or a message. It is `None` for any other reply,
-- which no event has.
abbrev pub reply_line : Reply → Option (List ℕ)
reply_line (reply.Put outcome) = Some (put_reply outcome).1
reply_line (reply.Stamped outcome) = Some (stamp_reply outcome).1
reply_line (reply.Taken outcome) = Some (taken_reply outcome).1
reply_line (reply.Answered outcome) = Some (answer_reply outcome).1
reply_line (reply.Found outcome) = None
reply_line (reply.Written outcome) = None

-- `event_line r` is the line of an event with the answer `r`. `Unknown` has none: the message or summary that the event
-- names was not made, because an earlier line ran out of memory.
abbrev pub event_line : EventReply → Option (List ℕ)
event_line Unknown = None
event_line (Replied answer) = reply_line answer
event_line (Message (Ok k)) = Some (message_line k)
event_line (Message (Err fault)) = Some (fault_reply fault).1
event_line (Summary (Ok k)) = Some (summary_line k)
event_line (Summary (Err fault)) = Some (fault_reply fault).1

-- `state_line site` is the line of a site at the end: its state.
abbrev pub state_line : SiteView → List ℕ
state_line site = state_text (schema_of site).label (store_in site)
