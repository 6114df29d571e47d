-- Defines how a reply is reported if the allocation of its body may fail.
-- Rules of this product: if the body of a query's reply cannot be allocated, the error `NoMemory` is reported instead;
-- the reply to a change, and any error, is reported without an allocation.
use Rattle.std.specs.Prelude.{◌≡◌, ◌⊎◌, ℕ, List, ◌++◌, Err}
use Rattle.http.specs.declared.status.StatusCode.{StatusCode}
use Rattle.site.specs.declared.fault.SiteFault.TheVariants as fault
use Rattle.site.specs.declared.reply.Reply.{Reply}
use Rattle.site.specs.declared.reply.Reply.TheVariants as reply
use Rattle.http_replies.specs.Reports.{reported}

-- `no_memory_reply r` is the reply in place of `r` if the body of `r` cannot be allocated: `NoMemory` for a query, and
-- `r` itself for a change.
abbrev pub no_memory_reply : Reply → Reply
no_memory_reply (reply.Put r) = reply.Put r
no_memory_reply (reply.Stamped r) = reply.Stamped r
no_memory_reply (reply.Taken r) = reply.Taken r
no_memory_reply (reply.Answered r) = reply.Answered (Err fault.NoMemory)
no_memory_reply (reply.Found r) = reply.Found (Err fault.NoMemory)
no_memory_reply (reply.Written r) = reply.Written (Err fault.NoMemory)

-- `Reports r status before after` holds if one of the replies `r` and `no_memory_reply r` has the status `status`, and
-- `after` is `before` followed by the body of that reply.
abbrev pub Reports : Reply → StatusCode → List ℕ → List ℕ → Type 0
Reports r status before after =
    (body : List ℕ) × (after ≡ before ++ body)
    × (((status, body) ≡ reported r) ⊎ ((status, body) ≡ reported (no_memory_reply r)))
