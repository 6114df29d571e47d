use Rattle.std.proofs.Common.{◌≡◌, Ok, Err, ℕ, List, [], ◌++◌, length, drop, false, true, refl, ap, ◌∙◌, subst, inl, inr, arith, length-drop}
use Rattle.std.proofs.lemmas.List.{drop-drop, take_rest}
use Rattle.http_streams.specs.Request.{IsRefused}
use Rattle.http_streams.specs.Stream.{Exchanges}
use Rattle.std.proofs.KnownBytes.{Appends-nil, Appends-trans}
use Rattle.http_streams.specs.Logs.{notes}
use Rattle.http_streams.specs.inner.Sending.{fault_of}
use Rattle.http_streams.specs.declared.serve.Broken.TheVariants.{Log, Write}
use Rattle.http_streams.proofs.LogLemmas.{last_at, noted_after, noted_now, refusal_broken, refusal_noted, whole_noted}
use Rattle.http_streams.proofs.StreamLemmas.{Serves-none, Serves-push, EndsByReply-after, EndsByReply-now, StopsWithinReply-after, StopsWithinReply-now, Exchanges-at, RepliesInPart-at}
use Rattle.http_streams.proofs.LastCall.{FailsAtLast-from}
use Rattle.http_streams.proofs.serve.answer_all.Goals as goal

pub requests-init : goal.requests-init
requests-init g c = (
  omega arith,
  ([], 0, Appends-nil _, Serves-none g.S.Answers.answers _ _, 0, Serves-none (notes g.S.Service.lines g.L.Sink.holds) _ _),
  refl,
  c.requires.head,
  c.requires.room,
  refl,
  c.requires.line_room,
)

pub returns-in-Ok-clause-closed : goal.returns-in-Ok-clause-closed
returns-in-Ok-clause-closed g c _ =
    let so_far = c.requests.invariant.1 in
    let done = c.in-Ok.ensures.ok in
    let last = Exchanges-at g.S.Answers.answers (take_rest c.args.bytes.now c.requests.at) c.if-parts.true done.2 in
    let noted = Exchanges-at (notes g.S.Service.lines g.L.Sink.holds) (take_rest c.args.bytes.now c.requests.at) c.if-parts.true done.3 in (
      so_far.0 ++ done.0,
      Appends-trans _ _ _ _ _ so_far.2 done.1,
      EndsByReply-after g.S.Answers.answers so_far.1 _ _ _ _ _ _ _ so_far.3 (EndsByReply-now g.S.Answers.answers _ _ _ _ (inl (_, last))),
      noted_after g.S.Service.lines g.S.Service.refusal_line g.L.Sink.holds (Ok tt) so_far.4 _ _ _ _ _ _ _ so_far.5
          (noted_now g.S.Service.lines g.S.Service.refusal_line g.L.Sink.holds (Ok tt) _ _ _ _ (whole_noted g.S.Service.lines g.S.Service.refusal_line g.L.Sink.holds _ _ _ _ done.0 true noted)),
    )

pub requests-preserved : goal.requests-preserved
requests-preserved g c =
    let bytes = c.args.bytes.now in
    let at = c.requests.at in
    let end = c.in-Whole.parts.end in
    let so_far = c.requests.invariant.1 in
    let done = c.in-Ok-2.ensures.ok in
    let next = Exchanges-at g.S.Answers.answers (take_rest bytes at) c.if-parts.false done.2 in
    let rest = ap (drop end) (take_rest bytes at) ∙ drop-drop end at bytes in
    let last = subst (λ (t : List ℕ). Exchanges g.S.Answers.answers c.requests.service (drop at bytes) false done.0 c.answer.new.service t) rest next in
    let all = Serves-push g.S.Answers.answers so_far.1 _ _ _ _ _ _ _ _ so_far.3 last in
    let noted = Exchanges-at (notes g.S.Service.lines g.L.Sink.holds) (take_rest bytes at) c.if-parts.false done.3 in
    let line = subst (λ (t : List ℕ). Exchanges (notes g.S.Service.lines g.L.Sink.holds) c.requests.log (drop at bytes) false done.0 c.answer.new.log t) rest noted in
    let lines = Serves-push (notes g.S.Service.lines g.L.Sink.holds) so_far.4 _ _ _ _ _ _ _ _ so_far.5 line in (
      omega (arith, c.in-Whole.ensures.ordered.1, ap length (take_rest bytes at), length-drop at bytes, c.requests.invariant.0),
      (so_far.0 ++ done.0, all.0, Appends-trans _ _ _ _ _ so_far.2 done.1, all.1, lines.0, lines.1),
      c.in-Ok-2.ensures.count.0 ∙ c.requests.invariant.2,
      c.in-Ok-2.ensures.head,
      c.in-Ok-2.ensures.room,
      c.in-Ok-2.ensures.count.1 ∙ c.requests.invariant.5,
      c.in-Ok-2.ensures.line_room,
    )

pub returns-in-Err-clause-err : goal.returns-in-Err-clause-err
returns-in-Err-clause-err g c =
    let so_far = c.requests.invariant.1 in
    let done = c.in-Err.ensures.err in
    let replies_in_part = RepliesInPart-at g.S.Answers.answers _ _ _ (take_rest c.args.bytes.now c.requests.at) done.2 in
    let noted = last_at g.S.Service.lines g.S.Service.refusal_line g.L.Sink.holds (Err (fault_of c.in-Err.broken)) _ _ _ (take_rest c.args.bytes.now c.requests.at) done.3 in (
      so_far.0 ++ done.0,
      Appends-trans _ _ _ _ _ so_far.2 done.1,
      StopsWithinReply-after g.S.Answers.answers so_far.1 _ _ _ _ _ _ _ so_far.3 (StopsWithinReply-now g.S.Answers.answers _ _ _ _ replies_in_part),
      noted_after g.S.Service.lines g.S.Service.refusal_line g.L.Sink.holds (Err (fault_of c.in-Err.broken)) so_far.4 _ _ _ _ _ _ _ so_far.5 (noted_now g.S.Service.lines g.S.Service.refusal_line g.L.Sink.holds (Err (fault_of c.in-Err.broken)) _ _ _ _ noted),
    )

pub returns-in-Err-clause-write : goal.returns-in-Err-clause-write
returns-in-Err-clause-write g c is =
    let same : c.in-Err.broken ≡ Write = cc in
    let so = c.in-Err.ensures.write (ap Err same) in
    (FailsAtLast-from g.W.Sink.failed g.W.Sink.fails c.requests.invariant.2 so.0, so.1 ∙ c.requests.invariant.5)

pub returns-in-Err-clause-log : goal.returns-in-Err-clause-log
returns-in-Err-clause-log g c is =
    let same : c.in-Err.broken ≡ Log = cc in
    let so = c.in-Err.ensures.log (ap Err same) in
    (FailsAtLast-from g.L.Sink.failed g.L.Sink.fails c.requests.invariant.5 so.0, so.1 ∙ c.requests.invariant.2)

pub returns-in-Ok-refuse-clause-closed : goal.returns-in-Ok-refuse-clause-closed
returns-in-Ok-refuse-clause-closed g c _ =
    let so_far = c.requests.invariant.1 in
    let refused = subst (λ (t : List ℕ). IsRefused t c.in-Refused.status) (take_rest c.args.bytes.now c.requests.at) c.in-Refused.ensures in (
      so_far.0 ++ _,
      Appends-trans _ _ _ _ _ so_far.2 c.in-Ok-refuse.ensures.ok.1,
      EndsByReply-after g.S.Answers.answers so_far.1 _ _ _ _ _ _ _ so_far.3
          (EndsByReply-now g.S.Answers.answers _ _ _ _ (inr (c.in-Refused.status, refused, refl, refl))),
      noted_after g.S.Service.lines g.S.Service.refusal_line g.L.Sink.holds (Ok tt) so_far.4 _ _ _ _ _ _ _ so_far.5
          (noted_now g.S.Service.lines g.S.Service.refusal_line g.L.Sink.holds (Ok tt) _ _ _ _ (refusal_noted g.S.Service.lines g.S.Service.refusal_line g.L.Sink.holds _ _ _ c.in-Refused.status refused c.in-Ok-refuse.ensures.ok.0)),
    )

pub returns-in-Err-refuse-clause-err : goal.returns-in-Err-refuse-clause-err
returns-in-Err-refuse-clause-err g c =
    let so_far = c.requests.invariant.1 in
    let refused = subst (λ (t : List ℕ). IsRefused t c.in-Refused.status) (take_rest c.args.bytes.now c.requests.at) c.in-Refused.ensures in
    let done = refusal_broken g.S.Answers.answers g.S.Service.lines g.S.Service.refusal_line g.L.Sink.holds g.W.Sink.holds c.in-Err-refuse.broken c.requests.service _ _ _ _ _ c.in-Refused.status refused c.in-Err-refuse.ensures.err in (
      so_far.0 ++ done.0,
      Appends-trans _ _ _ _ _ so_far.2 done.1,
      StopsWithinReply-after g.S.Answers.answers so_far.1 _ _ _ _ _ _ _ so_far.3 (StopsWithinReply-now g.S.Answers.answers _ _ _ _ done.2),
      noted_after g.S.Service.lines g.S.Service.refusal_line g.L.Sink.holds (Err (fault_of c.in-Err-refuse.broken)) so_far.4 _ _ _ _ _ _ _ so_far.5 (noted_now g.S.Service.lines g.S.Service.refusal_line g.L.Sink.holds (Err (fault_of c.in-Err-refuse.broken)) _ _ _ _ done.3),
    )

pub returns-in-Err-refuse-clause-write : goal.returns-in-Err-refuse-clause-write
returns-in-Err-refuse-clause-write g c is =
    let same : c.in-Err-refuse.broken ≡ Write = cc in
    let so = c.in-Err-refuse.ensures.write (ap Err same) in
    (FailsAtLast-from g.W.Sink.failed g.W.Sink.fails c.requests.invariant.2 so.0, so.1 ∙ c.requests.invariant.5)

pub returns-in-Err-refuse-clause-log : goal.returns-in-Err-refuse-clause-log
returns-in-Err-refuse-clause-log g c is =
    let same : c.in-Err-refuse.broken ≡ Log = cc in
    let so = c.in-Err-refuse.ensures.log (ap Err same) in
    (FailsAtLast-from g.L.Sink.failed g.L.Sink.fails c.requests.invariant.5 so.0, so.1 ∙ c.requests.invariant.2)
