-- An input is answered: its step was reported, or memory ran out.
use Rattle.std.proofs.Common.{◌≡◌, ℕ, List, Err, refl, ap, inl, inr}
use Rattle.http.specs.declared.status.StatusCode.{StatusCode}
use Rattle.site.specs.SiteViews.{SiteView, schema_of, store_in, IsSameSite}
use Rattle.site.specs.declared.fault.SiteFault.TheVariants as fault
use Rattle.site.specs.stamped_store.Store.{Store}
use Rattle.site.specs.schema.Schemas.{StatedSchema}
use Rattle.site.specs.Runs.{Step}
use Rattle.site.specs.Inputs.{Input}
use Rattle.site.specs.Inputs as input
use Rattle.site.specs.declared.reply.Reply.{Reply}
use Rattle.site.specs.declared.reply.Reply.TheVariants as reply
use Rattle.http_replies.specs.Replies.{fault_reply}
use Rattle.http_replies.specs.inner.Reporting.{Reports, no_memory_reply}
use Rattle.http_replies.specs.Answers.{Appends, Replies}

-- a query may be answered by `NoMemory`
step_lacks : (schema : StatedSchema) (n : List ℕ) (s : Store) (i : Input) (r : Reply) (t : Store) → Step schema n s i r t
    → Step schema n s i (no_memory_reply r) t
step_lacks schema n s i (reply.Put r) t h = h
step_lacks schema n s i (reply.Stamped r) t h = h
step_lacks schema n s i (reply.Taken r) t h = h
step_lacks schema n s (input.Authorize b) (reply.Answered r) t h = (tt, h.1)
step_lacks schema n s (input.GetPolicy id) (reply.Found r) t h = (tt, h.1)
step_lacks schema n s input.State (reply.Written r) t h = (tt, h.1)
step_lacks schema n s input.Summary (reply.Written r) t h = (tt, h.1)
step_lacks schema n s (input.Delta b) (reply.Written r) t h = (tt, h.1)
step_lacks schema n s _ _ t h = absurd h

-- what the site replied is reported
pub answered : (old new : SiteView) (i : Input) (r : Reply) (status : StatusCode) (before after : List ℕ)
    → Step (schema_of old) old.name (store_in old) i r (store_in new) → IsSameSite old new
    → Reports r status before after → Appends old i status before after new
answered old new i r status before after step same (body, f, inl h) = (body, f, (r, step, same, h))
answered old new i r status before after step same (body, f, inr h) =
    (body, f, (no_memory_reply r, step_lacks (schema_of old) old.name (store_in old) i r (store_in new) step, same, h))

-- out of memory before the step: any input may be answered so
pub lacks : (old : SiteView) (i : Input) (status : StatusCode) → status ≡ (fault_reply fault.NoMemory).0
    → Replies old i status (fault_reply fault.NoMemory).1 old
lacks old i status e = by_input i (ap (λ (s : StatusCode). (s, (fault_reply fault.NoMemory).1)) e)
  where
    by_input : (i : Input) → ◌≡◌ {A = StatusCode × List ℕ} (status, (fault_reply fault.NoMemory).1) (fault_reply fault.NoMemory)
        → Replies old i status (fault_reply fault.NoMemory).1 old
    by_input (input.PutPolicy id text) is = (reply.Put (Err fault.NoMemory), refl, (refl, refl), is)
    by_input (input.DeletePolicy id) is = (reply.Stamped (Err fault.NoMemory), refl, (refl, refl), is)
    by_input (input.PutEntity body) is = (reply.Stamped (Err fault.NoMemory), refl, (refl, refl), is)
    by_input (input.DeleteEntity body) is = (reply.Stamped (Err fault.NoMemory), refl, (refl, refl), is)
    by_input (input.Take bytes) is = (reply.Taken (Err fault.NoMemory), (tt, refl), (refl, refl), is)
    by_input (input.Authorize body) is = (reply.Answered (Err fault.NoMemory), (tt, refl), (refl, refl), is)
    by_input (input.GetPolicy id) is = (reply.Found (Err fault.NoMemory), (tt, refl), (refl, refl), is)
    by_input input.State is = (reply.Written (Err fault.NoMemory), (tt, refl), (refl, refl), is)
    by_input input.Summary is = (reply.Written (Err fault.NoMemory), (tt, refl), (refl, refl), is)
    by_input (input.Delta bytes) is = (reply.Written (Err fault.NoMemory), (tt, refl), (refl, refl), is)
