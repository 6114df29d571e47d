-- What a loop says of a borrowed site and a borrowed log is said of the site in the midst of its run, and of the log.
use Rattle.std.proofs.Common.{◌≡◌, ℕ, Bool, Option, is_some, Result, List, length, refl, sym, subst}
use Rattle.connections.specs.Connections.{Connection, Entry}
use Rattle.connections.specs.Steps.{IsChain, Notes}
use Rattle.connections.specs.Stories.{AreFree}
use Rattle.connection_loop.specs.Acts.{Act}
use Rattle.connection_loop.specs.Happenings.{entries_of}
use Rattle.connection_loop.specs.Serving.{IsServedTogether, beginning}
use Rattle.connection_loop.specs.declared.course.Course.{Course}
use Rattle.connection_loop.specs.declared.limits.Limits.{Limits}
use Rattle.connection_loop.specs.declared.turn.LoopFault.{LoopFault}
use Rattle.http.specs.declared.status.StatusCode.{StatusCode}
use Rattle.http_streams.specs.Request.{IsUnfinished}
use Rattle.http_streams.specs.Stream.{Answering}
use Rattle.http_replies.specs.site.SiteViews.{SiteView, schema_of, store_in}
use Rattle.http_service.specs.RequestReplies.{answers_over}
use Rattle.http_service.specs.Serving.{ContinuesRequest, Served, before_requests}
use Rattle.http_service.specs.Together.{AreConnectionsServed, AreServed}
use Rattle.http_service.specs.Together.{IsCutOff, IsWritten, Records, TakesSteps}
use Rattle.http_service.specs.declared.site_service.SiteService.{SiteService}
use Rattle.http_service.proofs.Carried.{Carries, Running, carried_first, carry_on}
use Rattle.http_service.proofs.Chains.{Behind, IsBehind, chained, step_noted, step_taken}
use Rattle.http_service.proofs.RunLemmas.{RunsTake}

-- ---- a service

-- a table of so many slots is one of as many, and what a service takes and gives is what is behind it
pub served_by : {S L N : Type 0} {steps : S → Entry → S → Type 0} {notes : L → Entry → L → Type 0}
    {does : N → Act → N → Type 0} {clients : ℕ} {limits : Limits} {table left : List Connection} {course : Course}
    {old before new after : S} {log logged : L} {first last : N} {end result : Result (Unit {0}) LoopFault}
    → AreFree table → length table ≡ clients → old ≡ before → after ≡ new → end ≡ result
    → IsServedTogether steps notes does IsUnfinished limits
    (record { course = beginning; table = table; service = old; log = log; sockets = first })
    (record { course = course; table = left; service = new; log = logged; sockets = last }) end
    → AreServed steps notes does clients limits before after log logged first last result
served_by {S = S} {steps = steps} {notes = notes} {does = does} {clients = clients} {limits = limits} {table = table}
    {left = left} {course = course} {old = old} {new = new} {after = after} {log = log} {logged = logged} {first = first}
    {last = last} {end = end} {result = result} free slots at_first at_last is h =
    subst (λ (s : S). AreServed steps notes does clients limits s after log logged first last result) at_first
    (subst (λ (s : S). AreServed steps notes does clients limits old s log logged first last result) (sym at_last)
    (subst (λ (r : Result (Unit {0}) LoopFault). AreServed steps notes does clients limits old new log logged first last r) is
    (record { table = table; left = left; course = course; free = free; slots = slots; together = h })))

-- ---- a borrowed site

module _ {A L N Name : Type 0} (now_of : A → Option L) (name_of : A → Name) (holds : L → Option (List ℕ))
    (failures : L → ℕ) (fails : L → L → Type 0) (does : N → Act → N → Type 0) (clients : ℕ) (limits : Limits) where
  abbrev BorrowedRecords : A → Entry → A → Type 0
  BorrowedRecords =
      Notes (Behind now_of name_of (IsWritten holds failures)) (Behind now_of name_of (IsCutOff holds failures fails))

  module _ {S : Type 0} (site_of : S → SiteService) (says : Answering S)
      (over : (a b : S) (m t body : List ℕ) (status : StatusCode) (line : List ℕ) → says a m t body status line b
      → answers_over (site_of a) m t body status line (site_of b)) (law : RunsTake) (old new : S) (log logged : A)
      (first last : N) where
    served_connections : (result : Result (Unit {0}) LoopFault)
        → AreServed (TakesSteps (is_some (now_of log)) says) BorrowedRecords does clients limits old new log logged first
        last result
        → AreConnectionsServed holds failures fails does clients limits (site_of old).site.now (site_of new).site.now
        (now_of log) (now_of logged) first last result
        × ((site_of new).site.ghost_name ≡ (site_of old).site.ghost_name) × (name_of logged ≡ name_of log)
    served_connections result h =
        let start = (site_of old).site.now in
        let takes = TakesSteps (is_some (now_of log)) ContinuesRequest in
        let goes = h.together.goes in
        let entries = entries_of beginning goes.happenings in
        let meets = λ (a : S) (x : Served). Carries (site_of old) (site_of a) x in
        let steps = chained (TakesSteps (is_some (now_of log)) says) takes meets
        (step_taken (is_some (now_of log)) says ContinuesRequest meets
        (λ a b x m t body status line carries said.
        carry_on (site_of old) (site_of a) (site_of b) x m t body status line carries (over a b m t body status line said)))
        entries old new (before_requests start) (carried_first (site_of old)) goes.leads.chain in
        let lines = chained BorrowedRecords (Records holds failures fails) (IsBehind now_of name_of log)
        (step_noted now_of name_of (IsWritten holds failures) (IsCutOff holds failures fails) log)
        entries log logged (now_of log) (refl, refl) goes.leads.log in
        let ran = subst (λ (s : SiteView). Running start (record { site = s; inputs = steps.0.inputs; replies = steps.0.replies }))
        steps.2.site steps.2.running in (
          record {
            inputs = steps.0.inputs;
            replies = steps.0.replies;
            served = record {
              table = h.table;
              left = h.left;
              course = h.course;
              free = h.free;
              slots = h.slots;
              together = record {
                turns = h.together.turns;
                goes = record {
                  happenings = goes.happenings;
                  course = goes.course;
                  leads = record {
                    changes = goes.leads.changes;
                    chain = subst (λ (s : SiteView). IsChain takes entries (before_requests start)
                        (record { site = s; inputs = steps.0.inputs; replies = steps.0.replies })) steps.2.site steps.1;
                    log = subst (λ (l : Option L). IsChain (Records holds failures fails) entries (now_of log) l) lines.2.0 lines.1;
                    logged = goes.leads.logged;
                  };
                  calls = goes.calls;
                  inner = goes.inner;
                  are = goes.are;
                };
                fit = h.together.fit;
                bounded = h.together.bounded;
                ends = h.together.ends;
              };
            };
            run = ran.run;
            store = law (schema_of start) start.name (store_in start) steps.0.inputs steps.0.replies
                (store_in (site_of new).site.now) ran.run;
            same = ran.same;
          },
          steps.2.borrow,
          lines.2.1,
        )

    -- with a log or without one
    pub site_called : (has_log : Bool) → is_some (now_of log) ≡ has_log → (result : Result (Unit {0}) LoopFault)
        → AreServed (TakesSteps has_log says) BorrowedRecords does clients limits old new log logged first last result
        → AreConnectionsServed holds failures fails does clients limits (site_of old).site.now (site_of new).site.now
        (now_of log) (now_of logged) first last result
        × ((site_of new).site.ghost_name ≡ (site_of old).site.ghost_name) × (name_of logged ≡ name_of log)
    site_called has_log is result h = served_connections result
        (subst (λ (b : Bool). AreServed (TakesSteps b says) BorrowedRecords does clients limits old new log logged
        first last result) (sym is) h)
