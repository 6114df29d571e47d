-- What entries do to a site in the midst of its run they do to the site, and its inputs are those asked for.
use Rattle.std.proofs.Common.{◌≡◌, ℕ, Bool, List, [], ◌∷◌, ◌++◌, refl, sym, ap, ◌∙◌, subst, inl, inr, append-nil, append_assoc}
use Rattle.connections.specs.Connections.{Entry}
use Rattle.connections.specs.Connections.{At, Committed, Uncommitted}
use Rattle.connections.specs.Connections.{Opened, Reserved, Came, Ended, Asked, Lacked, Answered, Logged, CutOff, Took, Gone}
use Rattle.connections.specs.Steps.{IsChain}
use Rattle.http_streams.specs.FramedRequests.{AnswersBytes}
use Rattle.http_streams.proofs.TurnLemmas.{turns_are_replied}
use Rattle.http_replies.specs.site.Inputs.{Input}
use Rattle.http_replies.specs.site.SiteViews.{SiteView}
use Rattle.http_service.specs.AskedInputs.{AreAsked, AsksFor, ConnectionsLeaveRuns, IsAsked}
use Rattle.http_service.specs.RequestReplies.{answers}
use Rattle.http_service.specs.Routes.{route_stated}
use Rattle.http_service.specs.Serving.{ContinuesRequest, Served}
use Rattle.http_service.specs.Streams.{inputs_of}
use Rattle.http_service.specs.Together.{IsLineIf, TakesSteps, never, rejection_line_if, stays}
use Rattle.http_service.proofs.Chains.{chained, step_taken}
use Rattle.http_service.proofs.ServedLemmas.{handed, one_answer}

-- ---- the site replies

pub site_answers : (has_log : Bool) (entries : List Entry) (v w : Served) → IsChain (TakesSteps has_log ContinuesRequest) entries v w
    → IsChain (TakesSteps has_log answers) entries v.site w.site
site_answers has_log entries v w h =
    let all = chained (TakesSteps has_log ContinuesRequest) (TakesSteps has_log answers) (λ (x : Served) (s : SiteView). x.site ≡ s)
    (step_taken has_log ContinuesRequest answers (λ (x : Served) (s : SiteView). x.site ≡ s) one_answer) entries v w v.site refl h in
    subst (λ (s : SiteView). IsChain (TakesSteps has_log answers) entries v.site s) (sym all.2) all.1

-- ---- the inputs

none : (v w : Served) → w ≡ v → (is : List Input) × (is ≡ []) × (w.inputs ≡ v.inputs ++ is)
none v w e = ([], refl, ap (λ (x : Served). x.inputs) e ∙ sym (append-nil v.inputs))

asked_by : (v w : Served) (bytes : List ℕ) (closes : Bool) (reply : List ℕ) → AnswersBytes ContinuesRequest v bytes closes reply w
    → (is : List Input) × AsksFor bytes is × (w.inputs ≡ v.inputs ++ is)
asked_by v w bytes closes reply (inl h) =
    let a = route_stated h.head.method h.head.target h.body in
    (inputs_of a, inl (h.head, h.body, h.reads, refl), handed a v w h.status h.text h.answered)
asked_by v w bytes closes reply (inr h) =
    let same = none v w h.1.3 in (same.0, inr (h.1.0, h.1.1, same.1), same.2)

asked_at : (has_log : Bool) (v w : Served) (e : Entry) → TakesSteps has_log ContinuesRequest v e w
    → (is : List Input) × IsAsked e is × (w.inputs ≡ v.inputs ++ is)
asked_at has_log v w (At at (Opened now)) e = none v w e
asked_at has_log v w (At at (Reserved now)) e = none v w e
asked_at has_log v w (At at (Came bytes now)) e = none v w e
asked_at has_log v w (At at Ended) e = none v w e
asked_at has_log v w (At at (Asked now)) e = none v w e
asked_at has_log v w (At at (Lacked needed)) e = none v w e
asked_at has_log v w (At at (Answered request closes reply line)) h = asked_by v w request closes reply h.0
asked_at has_log v w (At at (Logged line)) e = none v w e
asked_at has_log v w (At at (CutOff line)) e = none v w e
asked_at has_log v w (At at (Took bytes now)) e = none v w e
asked_at has_log v w (At at (Gone why)) e = none v w e
asked_at has_log v w Committed e = none v w e
asked_at has_log v w Uncommitted h = absurd h

pub all_asked : (has_log : Bool) (entries : List Entry) (v w : Served) → IsChain (TakesSteps has_log ContinuesRequest) entries v w
    → (is : List Input) × AreAsked entries is × (w.inputs ≡ v.inputs ++ is)
all_asked has_log [] v w e = none v w e
all_asked has_log (e ∷ entries) v w h =
    let here = asked_at has_log v h.0 e h.1 in
    let more = all_asked has_log entries h.0 w h.2 in (
      here.0 ++ more.0,
      (here.0, more.0, here.1, more.1, refl),
      more.2 ∙ ap (λ (is : List Input). is ++ more.0) here.2 ∙ append_assoc v.inputs here.0 more.0,
    )

-- ---- the law

pub leave_runs : ConnectionsLeaveRuns
leave_runs = record {
  answered = site_answers;
  asked = all_asked;
  replied = λ has_log entries old new at chain.
      turns_are_replied answers (IsLineIf has_log) (rejection_line_if has_log) stays never entries old new at chain;
}
