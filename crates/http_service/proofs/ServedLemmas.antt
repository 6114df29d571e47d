-- What a served site is said to be, in parts: each request is answered by the site, and the inputs are those asked for.
use Rattle.std.proofs.Common.{◌≡◌, ℕ, zero, suc, Bool, true, false, Option, Result, Ok, Err, List, [], ◌++◌, refl, sym}
use Rattle.std.proofs.Common.{ap, ◌∙◌, subst, inl, inr, append-nil, append_assoc}
use Rattle.std.specs.Io.KnownBytes.{Consumes}
use Rattle.http.specs.declared.status.StatusCode.{StatusCode}
use Rattle.http_streams.specs.Stream.{Closes, EndsByReply, Exchanges, RepliesInPart, AnswersAllRequests, Serves, StopsWithinReply}
use Rattle.http_streams.specs.Serving.{EndsAs, IsAnswered}
use Rattle.http_streams.specs.declared.serve.LoggedFault.{LoggedFault}
use Rattle.http_streams.specs.declared.serve.LoggedFault.TheVariants.{Stream, Log}
use Rattle.http_streams.specs.declared.serve.StreamFault.TheVariants as fault
use Rattle.http_streams.proofs.Simulated.{answered}
use Rattle.http_replies.specs.site.SiteViews.{SiteView}
use Rattle.http_replies.specs.site.Inputs.{Input}
use Rattle.http_service.specs.Routes.{Asked, route_stated}
use Rattle.http_service.specs.RequestReplies.{RepliesTo, answers}
use Rattle.http_service.specs.Streams.{inputs_of, HaveInputs, LeavesRun}
use Rattle.http_service.specs.Serving.{Served, before_requests, Continues, ContinuesRequest, IsServed}
use Rattle.http_service.proofs.RunLemmas.{RunsTake, rests_run, ends_run, stops_run}

-- ---- each request is answered by the site

replied : (a : Asked) (v w : Served) (status : StatusCode) (line : List ℕ) → Continues v a status line w
    → RepliesTo v.site a status line w.site
replied (Ok i) v w status line h = (h.0, h.1, h.2, h.3)
replied (Err s) v w status line h = h.0

pub one_answer : (v w : Served) (s : SiteView) (m t body : List ℕ) (status : StatusCode) (line : List ℕ) → v.site ≡ s
    → ContinuesRequest v m t body status line w → (u : SiteView) × answers s m t body status line u × (w.site ≡ u)
one_answer v w s m t body status line is h =
    let a = route_stated m t body in
    (w.site, subst (λ (x : SiteView). RepliesTo x a status line w.site) is (replied a v w status line h), refl)

-- ---- the inputs are those that the requests ask for

-- bytes begin with requests that ask for the inputs between two moments
record Asks (v : Served) (bytes : List ℕ) (w : Served) : Type 0 where
  pub count : ℕ
  pub rest : List ℕ
  pub inputs : List Input
  pub asks : HaveInputs count bytes rest inputs
  pub joined : w.inputs ≡ v.inputs ++ inputs

asks_none : (v w : Served) (bytes : List ℕ) → w ≡ v → Asks v bytes w
asks_none v w bytes e = record {
  count = 0;
  rest = bytes;
  inputs = [];
  asks = (refl, refl);
  joined = ap (λ (x : Served). x.inputs) e ∙ sym (append-nil v.inputs);
}

pub handed : (a : Asked) (v w : Served) (status : StatusCode) (line : List ℕ) → Continues v a status line w
    → w.inputs ≡ v.inputs ++ inputs_of a
handed (Ok i) v w status line h = h.4
handed (Err s) v w status line h = h.1 ∙ sym (append-nil v.inputs)

asks_more : (v m w : Served) (bytes after : List ℕ) (last : Bool) (out : List ℕ)
    → Exchanges ContinuesRequest v bytes last out m after → Asks m after w → Asks v bytes w
asks_more v m w bytes after last out h k =
    let a = route_stated h.head.method h.head.target h.body in
    let took = handed a v m h.status h.text h.answered in
    record {
      count = suc k.count;
      rest = k.rest;
      inputs = inputs_of a ++ k.inputs;
      asks = (h.head, h.body, after, k.inputs, h.reads, refl, k.asks);
      joined = k.joined ∙ ap (λ (is : List Input). is ++ k.inputs) took ∙ append_assoc v.inputs (inputs_of a) k.inputs;
    }

asks_then : (n : ℕ) (v m w : Served) (bytes rest out : List ℕ) → Serves ContinuesRequest n v bytes rest out m
    → Asks m rest w → Asks v bytes w
asks_then zero v m w bytes rest out h k =
    subst (λ (b : List ℕ). Asks v b w) (sym h.0) (subst (λ (x : Served). Asks x rest w) h.2 k)
asks_then (suc n) v m w bytes rest out h k =
    asks_more v h.0 w bytes h.1 false h.2 h.4 (asks_then n h.0 m w h.1 rest h.3 h.5 k)

asks_closes : (v w : Served) (bytes out : List ℕ) → Closes ContinuesRequest v bytes out w → Asks v bytes w
asks_closes v w bytes out (inl h) = asks_more v w w bytes h.0 true out h.1 (asks_none w w h.0 refl)
asks_closes v w bytes out (inr h) = asks_none v w bytes h.3

asks_halts : (v w : Served) (bytes out : List ℕ) → RepliesInPart ContinuesRequest v bytes out w → Asks v bytes w
asks_halts v w bytes out (back, some, inl h) =
    asks_more v w w bytes h.0 h.1 (out ++ back) h.2 (asks_none w w h.0 refl)
asks_halts v w bytes out (back, some, inr h) = asks_none v w bytes h.3

asks_rests : (v w : Served) (bytes out : List ℕ) → AnswersAllRequests ContinuesRequest v bytes out w → Asks v bytes w
asks_rests v w bytes out h = asks_then h.count v w w bytes h.rest out h.serves (asks_none w w h.rest refl)

asks_ends : (v w : Served) (bytes out : List ℕ) → EndsByReply ContinuesRequest v bytes out w → Asks v bytes w
asks_ends v w bytes out h =
    asks_then h.count v h.mid w bytes h.rest h.before h.serves (asks_closes h.mid w h.rest h.last h.closes)

asks_stops : (v w : Served) (bytes out : List ℕ) → StopsWithinReply ContinuesRequest v bytes out w → Asks v bytes w
asks_stops v w bytes out h =
    asks_then h.count v h.mid w bytes h.rest h.before h.serves (asks_halts h.mid w h.rest h.last h.replies_in_part)

-- ---- a call

module _ {R W : Type 0} (left : R → Option (List ℕ)) (read_failures : R → ℕ) (reads : R → ℕ → List ℕ → R → Type 0)
    (read_fails : R → R → Type 0) (holds : W → Option (List ℕ)) (write_failures : W → ℕ)
    (write_fails : W → W → Type 0) where
  abbrev Called : R → R → W → W → SiteView → SiteView → Result (Unit {0}) LoggedFault → Type 0
  Called = IsServed left read_failures reads read_fails holds write_failures write_fails

  pub site_answers : (first last : R) (before after : W) (old new : SiteView) (result : Result (Unit {0}) LoggedFault)
      → Called first last before after old new result
      → IsAnswered answers left read_failures reads read_fails holds write_failures write_fails first last before after
      old new result
  site_answers first last before after old new result h =
      let v : Served = record { site = new; inputs = h.inputs; replies = h.replies } in
      let all = answered ContinuesRequest answers (λ (x : Served) (s : SiteView). x.site ≡ s) one_answer left read_failures reads
      read_fails holds write_failures write_fails first last before after (before_requests old) v old result refl h.answered
      in
      subst (λ (s : SiteView). IsAnswered answers left read_failures reads read_fails holds write_failures write_fails first
      last before after old s result) (sym all.2) all.1

  leaves_as : RunsTake → (first last : R) (before after : W) (old new : SiteView) (bytes out : List ℕ)
      (result : Result (Unit {0}) LoggedFault)
      → EndsAs answers left read_failures reads read_fails holds write_failures write_fails first last before after old
      new bytes out result
      → LeavesRun old bytes new
  leaves_as law first last before after old new bytes out (Ok done) (inl h, read, written) =
      rests_run law old new bytes out h.0
  leaves_as law first last before after old new bytes out (Ok done) (inr h, read, written) =
      ends_run law old new bytes out h.0
  leaves_as law first last before after old new bytes out (Err (Stream fault.Read)) h = rests_run law old new bytes out h.0
  leaves_as law first last before after old new bytes out (Err (Stream fault.NoMemory)) h = rests_run law old new bytes out h.0
  leaves_as law first last before after old new bytes out (Err (Stream fault.Write)) h = stops_run law old new bytes out h.0
  leaves_as law first last before after old new bytes out (Err Log) h = stops_run law old new bytes out h.0

  pub run_left : RunsTake → (first last : R) (before after : W) (old new : SiteView)
      (result : Result (Unit {0}) LoggedFault) → Called first last before after old new result
      → (bytes : List ℕ) × Consumes (left first) (left last) bytes × LeavesRun old bytes new
  run_left law first last before after old new result h =
      let all = site_answers first last before after old new result h in (
        all.bytes,
        all.read,
        leaves_as law first last before after old new all.bytes all.out result all.ended,
      )

  asks_as : (first last : R) (before after : W) (v w : Served) (bytes out : List ℕ)
      (result : Result (Unit {0}) LoggedFault)
      → EndsAs ContinuesRequest left read_failures reads read_fails holds write_failures write_fails first last before after
      v w bytes out result
      → Asks v bytes w
  asks_as first last before after v w bytes out (Ok done) (inl h, read, written) = asks_rests v w bytes out h.0
  asks_as first last before after v w bytes out (Ok done) (inr h, read, written) = asks_ends v w bytes out h.0
  asks_as first last before after v w bytes out (Err (Stream fault.Read)) h = asks_rests v w bytes out h.0
  asks_as first last before after v w bytes out (Err (Stream fault.NoMemory)) h = asks_rests v w bytes out h.0
  asks_as first last before after v w bytes out (Err (Stream fault.Write)) h = asks_stops v w bytes out h.0
  asks_as first last before after v w bytes out (Err Log) h = asks_stops v w bytes out h.0

  pub inputs_asked : (first last : R) (before after : W) (old new : SiteView) (result : Result (Unit {0}) LoggedFault)
      (h : Called first last before after old new result)
      → (count : ℕ) × (rest : List ℕ) × HaveInputs count h.answered.bytes rest h.inputs
  inputs_asked first last before after old new result h =
      let v : Served = record { site = new; inputs = h.inputs; replies = h.replies } in
      let all = asks_as first last before after (before_requests old) v h.answered.bytes h.answered.out result h.answered.ended in
      (all.count, all.rest, subst (λ (is : List Input). HaveInputs all.count h.answered.bytes all.rest is) (sym all.joined) all.asks)
