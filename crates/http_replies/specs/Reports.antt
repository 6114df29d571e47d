-- Defines how a reply of a site is reported: by a status and a body.
-- Source: docs/formats.md, "Routes of a site".
-- Rules of this product: the status and the body of each reply.
use Rattle.std.specs.Prelude.{ℕ, List, Ok, Err, option_map}
use Rattle.http.specs.declared.status.StatusCode.{StatusCode}
use Rattle.http_replies.specs.Replies.{fault_reply, put_reply, stamp_reply, taken_reply, answer_reply, found_reply}
use Rattle.http_replies.specs.Replies.{message_reply}
use Rattle.site.specs.declared.reply.Reply.{Reply}
use Rattle.site.specs.declared.reply.Reply.TheVariants as reply

-- `reported r` is the status and the body of the reply `r`.
abbrev pub reported : Reply → StatusCode × List ℕ
reported (reply.Put r) = put_reply r
reported (reply.Stamped r) = stamp_reply r
reported (reply.Taken r) = taken_reply r
reported (reply.Answered r) = answer_reply r
reported (reply.Found (Ok found)) = found_reply (option_map (λ f. (f.text, f.stamp)) found)
reported (reply.Found (Err f)) = fault_reply f
reported (reply.Written r) = message_reply r
