-- What an exchange does, from what its calls do.
use Rattle.std.proofs.Common.{◌≡◌, ◌≢◌, ◌≤◌, inl, inr, ℕ, ◌+◌, List, [], ◌∷◌, ◌++◌, Option, None, Some, Result, Ok, Err, IfOk, IfErr, OnOk, OnErr, MatchResult, true, refl, sym, ap, subst, ◌∙◌, append_assoc, Bool, false}
use Rattle.std.specs.Borrow.{Bor}
use Rattle.std.specs.Prelude.{IsTrue, ◌↔◌}
use Rattle.program_drills.specs.answer_lines.declared.refusal.Refusal.{Refusal}
use Rattle.program_drills.specs.answer_lines.Refusals.{no_memory}
use Rattle.program_exchanges.specs.http_streams.declared.devices.Source.{Ghosts as Source}
use Rattle.program_exchanges.specs.http_streams.declared.devices.Sink.{Ghosts as Sink}
use Rattle.program_exchanges.specs.declared.asking.ExchangeCall.TheVariants as call
use Rattle.program_exchanges.specs.http_streams.declared.fetch.FetchFault.TheVariants as fetch
use Rattle.program_exchanges.specs.declared.fault.NetworkFault.{NetworkFault}
use Rattle.program_exchanges.specs.declared.fault.NetworkFault.TheVariants as network
use Rattle.program_exchanges.specs.declared.fault.PullFault.{PullFault}
use Rattle.program_exchanges.specs.declared.fault.PullFault.TheVariants.{Network, Refused}
use Rattle.program_exchanges.specs.Counts.{IsTakenLine}
use Rattle.program_exchanges.specs.http_streams.declared.TheConstants.{MAX_BODY}
use Rattle.program_exchanges.specs.Requests.{call_request, call_size}
use Rattle.program_exchanges.specs.Exchanges.{IsAnswered, IsRequestBegun, IsUnanswered, ReportsNoHost, ReportsTooLarge}
use Rattle.program.specs.declared.device.Link.{Link}
use Rattle.program.specs.declared.device.Stream.TheVariants.{Answers}
use Rattle.program.specs.declared.exchanging.CallFault.TheVariants as cause
use Rattle.program.specs.declared.exchanging.RoundCall.{RoundCall}
use Rattle.program.specs.Events.{Event, closed, connected, wrote, Does, Runs}
use Rattle.program.specs.Reports.{ended}
use Rattle.program.specs.Courses.{Course, GoesOnAnnounced}
use Rattle.program.specs.Pulling.{NoReadFailed, NoWriteFailed}
use Rattle.program.specs.Exchanging.{Calls, CallsIfReached, CallsOver, Direction, IsCallErrorReported, IsCallReported, IsNotCalled, WritesTaken}
use Rattle.program.specs.inner.ExchangeEvents.{IsReplied, IsRepliedOver, Never, NoCourse, WasExchanged}

module _ {L G N H : Type 0} (does : H → Event L G N → H → Type 0) where
  does_both : (xs ys : List (Event L G N)) (old mid new : H) → Does does xs old mid → Does does ys mid new → Does does (xs ++ ys) old new
  does_both [] ys old mid new first second = subst (λ (h : H). Does does ys h new) first second
  does_both (x ∷ xs) ys old mid new first second = (first.0, first.1, does_both xs ys first.0 mid new first.2 second)

  -- what was done in two parts
  pub runs_both : {P Q S : List (Event L G N) → Type 0} (old mid new : H) → ((xs ys : List (Event L G N)) → P xs → Q ys → S (xs ++ ys))
      → Runs does old mid P → Runs does mid new Q → Runs does old new S
  runs_both old mid new joined first second =
      (first.0 ++ second.0, does_both first.0 second.0 old mid new first.1 second.1, joined first.0 second.0 first.2 second.2)

-- a line that was tested
pub is_line : (line : List ℕ) (test : Bool) → (IsTrue test ↔ IsTakenLine line) → test ≡ true → IsTakenLine line
is_line line test tests is = tests.0 is

pub is_no_line : (line : List ℕ) (test : Bool) → (IsTrue test ↔ IsTakenLine line) → test ≡ false → IsTakenLine line → ⊥
is_no_line line test tests is taken = let passed = tests.1 taken in absurd cc

-- ---- one call

module _ {R W : Type 0} (reader : Source R) (writer : Sink W) (at : RoundCall) (body : List ℕ) (link left : Link R W) where
  abbrev request : List ℕ
  request = call_request at.call at.address.now body

  -- why there was no reply, from the outcome of asking
  not_called : (fault : PullFault)
      → ((r : Refusal) → fault ≡ Refused r → r ≡ no_memory)
      → ((f : NetworkFault) → fault ≡ Network f → IsUnanswered reader.left reader.reads reader.failed reader.fails writer.holds writer.failed writer.fails
      request link.reader left.reader link.writer left.writer f)
      → IsRequestBegun reader.left writer.holds request link.reader left.reader link.writer left.writer
      → ((f : NetworkFault) → fault ≡ Network f → ReportsNoHost at.address.now f)
      → ((f : NetworkFault) → fault ≡ Network f → ReportsTooLarge at.address.now (call_size at.call body) f)
      → (fault ≢ Network (network.Fetch fetch.Read) → NoReadFailed reader writer link left)
      → (fault ≢ Network (network.Fetch fetch.Write) → NoWriteFailed reader writer link left)
      → IsNotCalled reader writer at body link fault left
  not_called (Network f) refused unanswered begun host size reads writes =
      (unanswered f refl, host f refl, size f refl, λ other. reads (λ e. other cc), λ other. writes (λ e. other cc))
  not_called (Refused r) refused unanswered begun host size reads writes =
      (refused r refl, begun, reads (λ e. absurd cc), writes (λ e. absurd cc))

  module _ {G N H V E : Type 0} (does : H → Event (Link R W) G N → H → Type 0) (old next new : H) (items : V → List ℕ) (status : E → ℕ) where
    -- what was asked over a connection, which is let go
    pub called_over : (came : Result V PullFault) (result : Result V E)
        → IfOk came (λ v. IsAnswered reader.left reader.reads writer.holds request link.reader left.reader link.writer left.writer 200 (items v))
        → ((r : Refusal) → came ≡ Err (Refused r) → r ≡ no_memory)
        → ((f : NetworkFault) → came ≡ Err (Network f) → IsUnanswered reader.left reader.reads reader.failed reader.fails writer.holds writer.failed writer.fails
        request link.reader left.reader link.writer left.writer f)
        → OnErr came (IsRequestBegun reader.left writer.holds request link.reader left.reader link.writer left.writer)
        → ((f : NetworkFault) → came ≡ Err (Network f) → ReportsNoHost at.address.now f)
        → IfOk came (λ v. call_size at.call body ≤ MAX_BODY)
        → ((f : NetworkFault) → came ≡ Err (Network f) → ReportsTooLarge at.address.now (call_size at.call body) f)
        → (came ≢ Err (Network (network.Fetch fetch.Read)) → NoReadFailed reader writer link left)
        → (came ≢ Err (Network (network.Fetch fetch.Write)) → NoWriteFailed reader writer link left)
        → does old (closed left) next
        → IfOk result (λ v. came ≡ Ok v)
        → OnOk result (new ≡ next)
        → IfErr result (λ e. (fault : PullFault) × (came ≡ Err fault) × Runs does next new (λ events. IsCallErrorReported at fault events (status e)))
        → MatchResult result (λ v. Runs does old new (IsRepliedOver reader writer at body link (items v)))
        (λ e. Runs does old new (λ events. CallsOver reader writer at body Never link events (status e)))
    called_over (Ok u) (Ok v) answered refused unanswered begun host fits size reads writes gone same still told =
        let one : u ≡ v = cc in (
          closed left ∷ [],
          (next, gone, still),
          (
            left,
            (
              subst (λ (x : V). IsAnswered reader.left reader.reads writer.holds request link.reader left.reader link.writer left.writer 200 (items x)) one answered,
              reads (λ e. absurd cc),
              writes (λ e. absurd cc),
              fits,
            ),
            refl,
          ),
        )
    called_over (Ok u) (Err e) answered refused unanswered begun host fits size reads writes gone same still told =
        let no = told.1 in absurd cc
    called_over (Err f) (Ok v) answered refused unanswered begun host fits size reads writes gone same still told = absurd cc
    called_over (Err f) (Err e) answered refused unanswered begun host fits size reads writes gone same still told =
        let one : f ≡ told.0 = (let is = told.1 in cc) in (
          closed left ∷ told.2.0,
          (next, gone, told.2.1),
          inr (
            told.0,
            left,
            told.2.0,
            subst (λ (x : PullFault). IsNotCalled reader writer at body link x left) one
                (not_called f (λ r is. refused r (ap Err is)) (λ n is. unanswered n (ap Err is)) begun (λ n is. host n (ap Err is)) (λ n is. size n (ap Err is))
                (λ other. reads (λ e. other cc)) (λ other. writes (λ e. other cc))),
            refl,
            told.2.2,
          ),
        )

module _ {R W G N : Type 0} (reader : Source R) (writer : Sink W) where
  module _ {H V E : Type 0} (does : H → Event (Link R W) G N → H → Type 0) (old next new : H) (items : V → List ℕ) (status : E → ℕ) where
    -- over a connection that was opened
    pub called_at : (at : RoundCall) (body : List ℕ) (link : Link R W) (result : Result V E) → does old (connected at.address.now (Some link)) next
        → MatchResult result (λ v. Runs does next new (IsRepliedOver reader writer at body link (items v)))
        (λ e. Runs does next new (λ events. CallsOver reader writer at body Never link events (status e)))
        → MatchResult result (λ v. Runs does old new (IsReplied reader writer at body (items v)))
        (λ e. Runs does old new (λ events. Calls reader writer at body Never events (status e)))
    called_at at body link (Ok v) opened run = (
      connected at.address.now (Some link) ∷ run.0,
      (next, opened, run.1),
      (link, run.2.0, run.2.1, ap (λ (es : List (Event (Link R W) G N)). connected at.address.now (Some link) ∷ es) run.2.2),
    )
    called_at at body link (Err e) opened run =
        (connected at.address.now (Some link) ∷ run.0, (next, opened, run.1), (Some link, run.0, refl, run.2))

  -- none could be opened
  pub not_reached : {H : Type 0} (does : H → Event (Link R W) G N → H → Type 0) (old next new : H) (at : RoundCall) (body : List ℕ) (end : ℕ)
      → does old (connected at.address.now None) next → Runs does next new (λ events. IsCallReported at cause.NotReached events end)
      → Runs does old new (λ events. Calls reader writer at body Never events end)
  not_reached does old next new at body end step run =
      (connected at.address.now None ∷ run.0, (next, step, run.1), (None, run.0, refl, run.2))

  -- ---- what goes on

  replied_then : (at : RoundCall) (body reply : List ℕ) (goes_on : List ℕ → Course (Link R W) G N) (one rest : List (Event (Link R W) G N)) (end : ℕ)
      → IsReplied reader writer at body reply one → goes_on reply rest end → Calls reader writer at body goes_on (one ++ rest) end
  replied_then at body reply goes_on one rest end so on =
      (Some so.0, closed so.1 ∷ rest, ap (λ (es : List (Event (Link R W) G N)). es ++ rest) so.3, inl (reply, so.1, rest, so.2, refl, on))

  -- a call that ended the run ends it whatever would have come
  if_reached : (at : RoundCall) (body : List ℕ) (goes_on : List ℕ → Course (Link R W) G N) (came : Option (Link R W)) (events : List (Event (Link R W) G N)) (end : ℕ)
      → CallsIfReached reader writer at body Never came events end → CallsIfReached reader writer at body goes_on came events end
  if_reached at body goes_on None events end told = told
  if_reached at body goes_on (Some link) events end (inl on) = absurd on.5
  if_reached at body goes_on (Some link) events end (inr told) = inr told

  pub ended_by : (at : RoundCall) (body : List ℕ) (goes_on : List ℕ → Course (Link R W) G N) (end : ℕ) (events : List (Event (Link R W) G N))
      → Calls reader writer at body Never events end → Calls reader writer at body goes_on events end
  ended_by at body goes_on end events run = (run.0, run.1, run.2, if_reached at body goes_on run.0 run.1 end run.3)

  -- the same, going on in another way
  if_reached_as : (at : RoundCall) (body : List ℕ) (f g : List ℕ → Course (Link R W) G N) (end : ℕ)
      → ((reply : List ℕ) (events : List (Event (Link R W) G N)) → f reply events end → g reply events end)
      → (came : Option (Link R W)) (events : List (Event (Link R W) G N))
      → CallsIfReached reader writer at body f came events end → CallsIfReached reader writer at body g came events end
  if_reached_as at body f g end other None events told = told
  if_reached_as at body f g end other (Some link) events (inl on) = inl (on.0, on.1, on.2, on.3, on.4, other on.0 on.2 on.5)
  if_reached_as at body f g end other (Some link) events (inr told) = inr told

  pub calls_as : (at : RoundCall) (body : List ℕ) (f g : List ℕ → Course (Link R W) G N) (end : ℕ)
      → ((reply : List ℕ) (events : List (Event (Link R W) G N)) → f reply events end → g reply events end)
      → (events : List (Event (Link R W) G N)) → Calls reader writer at body f events end → Calls reader writer at body g events end
  calls_as at body f g end other events run = (run.0, run.1, run.2, if_reached_as at body f g end other run.0 run.1 run.3)

  -- the same behind calls that brought a reply
  pub replied_on : {H : Type 0} (does : H → Event (Link R W) G N → H → Type 0) (old next new : H) (at : RoundCall) (body reply : List ℕ)
      (goes_on : List ℕ → Course (Link R W) G N) (end : ℕ) → Runs does old next (IsReplied reader writer at body reply)
      → Runs does next new (λ events. goes_on reply events end) → Runs does old new (λ events. Calls reader writer at body goes_on events end)
  replied_on does old next new at body reply goes_on end first second =
      runs_both does old next new (λ one rest so on. replied_then at body reply goes_on one rest end so on) first second

-- ---- directions

module _ {R W : Type 0} (reader : Source R) (writer : Sink W) (first : ℕ) (to from : Bor (List ℕ)) where
  abbrev pub summary_call : RoundCall
  summary_call = record { number = first; call = call.Summary; address = to }

  abbrev pub delta_call : RoundCall
  delta_call = record { number = first + 1; call = call.Delta; address = from }

  abbrev pub merge_call : RoundCall
  merge_call = record { number = first + 2; call = call.Merge; address = to }

  abbrev pub after_merge : {G N : Type 0} → Course (Link R W) G N → List ℕ → Course (Link R W) G N
  after_merge goes_on line = WritesTaken merge_call line goes_on

  abbrev pub after_delta : {G N : Type 0} → Course (Link R W) G N → List ℕ → Course (Link R W) G N
  after_delta goes_on delta = Calls reader writer merge_call delta (after_merge goes_on)

  abbrev pub after_summary : {G N : Type 0} → Course (Link R W) G N → List ℕ → Course (Link R W) G N
  after_summary goes_on summary = Calls reader writer delta_call summary (after_delta goes_on)

  -- three calls and a line
  pub was_exchanged : {G N H : Type 0} (does : H → Event (Link R W) G N → H → Type 0) (h0 h1 h2 h3 h4 : H) (summary delta line : List ℕ)
      → Runs does h0 h1 (IsReplied reader writer summary_call [] summary) → Runs does h1 h2 (IsReplied reader writer delta_call summary delta)
      → Runs does h2 h3 (IsReplied reader writer merge_call delta line) → IsTakenLine line → does h3 (wrote Answers (ended line) true) h4
      → Runs does h0 h4 (WasExchanged reader writer first to from)
  was_exchanged does h0 h1 h2 h3 h4 summary delta line a b c taken wrote_it = (
    a.0 ++ (b.0 ++ (c.0 ++ wrote Answers (ended line) true ∷ [])),
    does_both does a.0 (b.0 ++ (c.0 ++ wrote Answers (ended line) true ∷ [])) h0 h1 h4 a.1
        (does_both does b.0 (c.0 ++ wrote Answers (ended line) true ∷ []) h1 h2 h4 b.1
        (does_both does c.0 (wrote Answers (ended line) true ∷ []) h2 h3 h4 c.1 (h4, wrote_it, refl))),
    record {
      summary = summary;
      delta = delta;
      line = line;
      one = a.0;
      two = b.0;
      three = c.0;
      asked = a.2;
      told = b.2;
      merged = c.2;
      taken = taken;
      are = refl;
    },
  )

  exchanged_then : {G N : Type 0} (goes_on : Course (Link R W) G N) (events rest : List (Event (Link R W) G N)) (end : ℕ) → WasExchanged reader writer first to from events
      → goes_on rest end → Direction reader writer first to from goes_on (events ++ rest) end
  exchanged_then {G} {N} goes_on events rest end so on =
      subst (λ (es : List (Event (Link R W) G N)). Direction reader writer first to from goes_on es end) (sym (grouped so.one so.two so.three events so.are))
      (replied_then reader writer summary_call [] so.summary (after_summary goes_on) so.one _ end so.asked
      (replied_then reader writer delta_call so.summary so.delta (after_delta goes_on) so.two _ end so.told
      (replied_then reader writer merge_call so.delta so.line (after_merge goes_on) so.three (wrote Answers (ended so.line) true ∷ rest) end so.merged
      (inl (so.taken, (true, rest, refl, on))))))
    where
      grouped : (a b c es : List (Event (Link R W) G N)) → es ≡ a ++ (b ++ (c ++ wrote Answers (ended so.line) true ∷ []))
          → es ++ rest ≡ a ++ (b ++ (c ++ wrote Answers (ended so.line) true ∷ rest))
      grouped a b c es is =
          ap (λ (t : List (Event (Link R W) G N)). t ++ rest) is
          ∙ append_assoc a (b ++ (c ++ wrote Answers (ended so.line) true ∷ [])) rest
          ∙ ap (λ (t : List (Event (Link R W) G N)). a ++ t) (append_assoc b (c ++ wrote Answers (ended so.line) true ∷ []) rest)
          ∙ ap (λ (t : List (Event (Link R W) G N)). a ++ (b ++ t)) (append_assoc c (wrote Answers (ended so.line) true ∷ []) rest)

  -- one direction, and what goes on behind it
  pub exchanged_on : {G N H : Type 0} (does : H → Event (Link R W) G N → H → Type 0) (old next new : H) (goes_on : Course (Link R W) G N) (end : ℕ)
      → Runs does old next (WasExchanged reader writer first to from) → Runs does next new (λ events. goes_on events end)
      → Runs does old new (λ events. Direction reader writer first to from goes_on events end)
  exchanged_on does old next new goes_on end one two =
      runs_both does old next new (λ events rest so on. exchanged_then goes_on events rest end so on) one two

  -- a direction that ended the run ends it whatever would have come
  announced_ended : {G N : Type 0} (done : Bool) (goes_on : Course (Link R W) G N) (events : List (Event (Link R W) G N)) (end : ℕ)
      → GoesOnAnnounced NoCourse done events end → GoesOnAnnounced goes_on done events end
  announced_ended true goes_on events end told = absurd told
  announced_ended false goes_on events end told = told

  taken_ended : {G N : Type 0} (goes_on : Course (Link R W) G N) (line : List ℕ) (events : List (Event (Link R W) G N)) (end : ℕ)
      → after_merge NoCourse line events end → after_merge goes_on line events end
  taken_ended goes_on line events end (inl told) =
      inl (told.0, (told.1.0, told.1.1, told.1.2, announced_ended told.1.0 goes_on told.1.1 end told.1.3))
  taken_ended goes_on line events end (inr told) = inr told

  pub direction_ended : {G N : Type 0} (goes_on : Course (Link R W) G N) (end : ℕ) (events : List (Event (Link R W) G N))
      → Direction reader writer first to from NoCourse events end → Direction reader writer first to from goes_on events end
  direction_ended goes_on end events run =
      calls_as reader writer summary_call [] (after_summary NoCourse) (after_summary goes_on) end (λ summary es r.
      calls_as reader writer delta_call summary (after_delta NoCourse) (after_delta goes_on) end (λ delta es r.
      calls_as reader writer merge_call delta (after_merge NoCourse) (after_merge goes_on) end (λ line es r. taken_ended goes_on line es end r) es r) es r) events run

  -- what the last of them comes to, behind the three calls
  pub told_or_ended : {G N H U E : Type 0} (does : H → Event (Link R W) G N → H → Type 0) (h0 h1 h2 h3 h4 : H) (summary delta line : List ℕ) (status : E → ℕ)
      (result : Result U E)
      → Runs does h0 h1 (IsReplied reader writer summary_call [] summary) → Runs does h1 h2 (IsReplied reader writer delta_call summary delta)
      → Runs does h2 h3 (IsReplied reader writer merge_call delta line)
      → MatchResult result (λ u. IsTakenLine line × does h3 (wrote Answers (ended line) true) h4)
      (λ e. Runs does h3 h4 (λ events. WritesTaken merge_call line NoCourse events (status e)))
      → MatchResult result (λ u. Runs does h0 h4 (WasExchanged reader writer first to from))
      (λ e. Runs does h0 h4 (λ events. Direction reader writer first to from NoCourse events (status e)))
  told_or_ended does h0 h1 h2 h3 h4 summary delta line status (Ok u) a b c told =
      was_exchanged does h0 h1 h2 h3 h4 summary delta line a b c told.0 told.1
  told_or_ended does h0 h1 h2 h3 h4 summary delta line status (Err e) a b c told =
      replied_on reader writer does h0 h1 h4 summary_call [] summary (after_summary NoCourse) (status e) a
      (replied_on reader writer does h1 h2 h4 delta_call summary delta (after_delta NoCourse) (status e) b
      (replied_on reader writer does h2 h3 h4 merge_call delta line (after_merge NoCourse) (status e) c told))

  -- the second call, or the third, ended the run
  pub second_ended : {G N H : Type 0} (does : H → Event (Link R W) G N → H → Type 0) (h0 h1 h2 : H) (summary : List ℕ) (end : ℕ)
      → Runs does h0 h1 (IsReplied reader writer summary_call [] summary)
      → Runs does h1 h2 (λ events. Calls reader writer delta_call summary Never events end)
      → Runs does h0 h2 (λ events. Direction reader writer first to from NoCourse events end)
  second_ended does h0 h1 h2 summary end a run =
      replied_on reader writer does h0 h1 h2 summary_call [] summary (after_summary NoCourse) end a
      (run.0, run.1, ended_by reader writer delta_call summary (after_delta NoCourse) end run.0 run.2)

  pub third_ended : {G N H : Type 0} (does : H → Event (Link R W) G N → H → Type 0) (h0 h1 h2 h3 : H) (summary delta : List ℕ) (end : ℕ)
      → Runs does h0 h1 (IsReplied reader writer summary_call [] summary) → Runs does h1 h2 (IsReplied reader writer delta_call summary delta)
      → Runs does h2 h3 (λ events. Calls reader writer merge_call delta Never events end)
      → Runs does h0 h3 (λ events. Direction reader writer first to from NoCourse events end)
  third_ended does h0 h1 h2 h3 summary delta end a b run =
      replied_on reader writer does h0 h1 h3 summary_call [] summary (after_summary NoCourse) end a
      (replied_on reader writer does h1 h2 h3 delta_call summary delta (after_delta NoCourse) end b
      (run.0, run.1, ended_by reader writer merge_call delta (after_merge NoCourse) end run.0 run.2))
