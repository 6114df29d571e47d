use Rattle.std.proofs.Common.{◌≡◌, ◌≢◌, ◌∙◌, ℕ, Err, refl, sym, ap, subst, arith}
use Rattle.program_exchanges.specs.declared.fault.NetworkFault.TheVariants as network
use Rattle.program_exchanges.specs.declared.fault.PullFault.TheVariants.{Network}
use Rattle.program_exchanges.specs.Requests.{call_request}
use Rattle.program_exchanges.specs.Exchanges.{IsAnswered, IsUnanswered}
use Rattle.program_exchanges.specs.inner.Faults.{pull_fault}
use Rattle.program_exchanges.proofs.FetchLemmas.{request_is, answered, begun, begun_part, unanswered, other_status, nothing_begun, never_of_host, never_of_size}
use Rattle.program_exchanges.proofs.asking.ask.Goals as goal

pub returns-then-status-as_u16-clause-answered : goal.returns-then-status-as_u16-clause-answered
returns-then-status-as_u16-clause-answered g c =
    let h = c.in-Ok.ensures.ok in
    let same : c.in-Ok.status ≡ 200 = search (c.if-status-as_u16, c.as_u16.ensures) in
    subst (λ (status : ℕ). IsAnswered g.R.Source.left g.R.Source.reads g.W.Sink.holds (call_request c.args.call c.args.host.now c.args.body.now) c.args.reader.now c.fetch.new.reader c.args.writer.now c.fetch.new.writer status c.in-Ok.reply.items) same
    (answered g.R.Source.left g.R.Source.reads g.R.Source.failed g.R.Source.fails g.W.Sink.holds g.W.Sink.failed g.W.Sink.fails _ _ (request_is c.args.call _ _ c.call_method-method.ensures c.call_path.ensures c.call_body.ensures) c.args.reader.now c.fetch.new.reader c.args.writer.now c.fetch.new.writer c.in-Ok.status c.in-Ok.reply.items h.0 h.1 h.2 h.3 h.4 h.5 h.6 h.7)

pub returns-in-Ok-clause-network : goal.returns-in-Ok-clause-network
returns-in-Ok-clause-network g c f e =
    let h = c.in-Ok.ensures.ok in
    let apart : c.in-Ok.status ≢ 200 = λ is. c.if-status-as_u16.false (is ∙ sym c.as_u16.ensures.value) in
    other_status g.R.Source.left g.R.Source.reads g.R.Source.failed g.R.Source.fails g.W.Sink.holds g.W.Sink.failed g.W.Sink.fails _ _ refl c.args.reader.now c.fetch.new.reader c.args.writer.now c.fetch.new.writer c.in-Ok.status c.in-Ok.reply.items apart
    (answered g.R.Source.left g.R.Source.reads g.R.Source.failed g.R.Source.fails g.W.Sink.holds g.W.Sink.failed g.W.Sink.fails _ _ (request_is c.args.call _ _ c.call_method-method.ensures c.call_path.ensures c.call_body.ensures) c.args.reader.now c.fetch.new.reader c.args.writer.now c.fetch.new.writer c.in-Ok.status c.in-Ok.reply.items h.0 h.1 h.2 h.3 h.4 h.5 h.6 h.7)
    f (cc)

pub returns-in-Ok-clause-err : goal.returns-in-Ok-clause-err
returns-in-Ok-clause-err g c =
    let h = c.in-Ok.ensures.ok in
    begun g.R.Source.left g.R.Source.reads g.R.Source.failed g.R.Source.fails g.W.Sink.holds g.W.Sink.failed g.W.Sink.fails _ _ (request_is c.args.call _ _ c.call_method-method.ensures c.call_path.ensures c.call_body.ensures) c.args.reader.now c.fetch.new.reader c.args.writer.now c.fetch.new.writer h.0 h.3 h.4

pub returns-clause-network : goal.returns-clause-network
returns-clause-network g c f e =
    let h = c.in-Err.ensures in
    let told : pull_fault c.in-Err.fault ≡ Network f = cc in
    unanswered g.R.Source.left g.R.Source.reads g.R.Source.failed g.R.Source.fails g.W.Sink.holds g.W.Sink.failed g.W.Sink.fails _ _ (request_is c.args.call _ _ c.call_method-method.ensures c.call_path.ensures c.call_body.ensures) c.args.reader.now c.fetch.new.reader c.args.writer.now c.fetch.new.writer c.in-Err.fault
    (record {
      bad = λ is. h.bad (ap Err is);
      ended = λ is. h.ended (ap Err is);
      read = λ is. h.read (ap Err is);
      write = λ is. h.write (ap Err is);
      part = h.err;
    }) f told

pub returns-clause-err : goal.returns-clause-err
returns-clause-err g c =
    begun_part g.R.Source.left g.R.Source.reads g.R.Source.failed g.R.Source.fails g.W.Sink.holds g.W.Sink.failed g.W.Sink.fails _ _ (request_is c.args.call _ _ c.call_method-method.ensures c.call_path.ensures c.call_body.ensures) c.args.reader.now c.fetch.new.reader c.args.writer.now c.fetch.new.writer c.in-Err.ensures.err

pub returns-then-not-is_host-clause-network : goal.returns-then-not-is_host-clause-network
returns-then-not-is_host-clause-network g c f e =
    let same : network.NoHost ≡ f = cc in
    subst (IsUnanswered g.R.Source.left g.R.Source.reads g.R.Source.failed g.R.Source.fails g.W.Sink.holds g.W.Sink.failed g.W.Sink.fails (call_request c.args.call c.args.host.now c.args.body.now) c.args.reader.now c.args.reader.now c.args.writer.now c.args.writer.now) same (refl, refl)

pub returns-then-not-is_host-clause-err : goal.returns-then-not-is_host-clause-err
returns-then-not-is_host-clause-err g c =
    nothing_begun g.R.Source.left g.W.Sink.holds (call_request c.args.call c.args.host.now c.args.body.now) c.args.reader.now c.args.writer.now

pub returns-then-not-is_host-clause-no_host : goal.returns-then-not-is_host-clause-no_host
returns-then-not-is_host-clause-no_host g c f e =
    let same : network.NoHost ≡ f = cc in (λ _. sym c.if-not-is_host.ensures, λ _. sym same)

pub returns-in-Ok-clause-no_host : goal.returns-in-Ok-clause-no_host
returns-in-Ok-clause-no_host g c f e = (λ is. absurd (cc), λ wrong. absurd (cc))

pub returns-clause-no_host : goal.returns-clause-no_host
returns-clause-no_host g c f e =
    let told : pull_fault c.in-Err.fault ≡ Network f = cc in
    (λ is. absurd (never_of_host c.in-Err.fault f told is), λ wrong. absurd (cc))

pub returns-then-not-is_host-clause-too_large : goal.returns-then-not-is_host-clause-too_large
returns-then-not-is_host-clause-too_large g c f e =
    let same : network.NoHost ≡ f = cc in
    let no = sym c.if-not-is_host.ensures in (λ is. absurd (cc), λ h. let yes = h.0 in absurd (cc))

pub returns-then-size-gt-MAX_BODY-clause-network : goal.returns-then-size-gt-MAX_BODY-clause-network
returns-then-size-gt-MAX_BODY-clause-network g c f e =
    let same : network.TooLarge ≡ f = cc in
    subst (IsUnanswered g.R.Source.left g.R.Source.reads g.R.Source.failed g.R.Source.fails g.W.Sink.holds g.W.Sink.failed g.W.Sink.fails (call_request c.args.call c.args.host.now c.args.body.now) c.args.reader.now c.args.reader.now c.args.writer.now c.args.writer.now) same (refl, refl)

pub returns-then-size-gt-MAX_BODY-clause-err : goal.returns-then-size-gt-MAX_BODY-clause-err
returns-then-size-gt-MAX_BODY-clause-err g c =
    nothing_begun g.R.Source.left g.W.Sink.holds (call_request c.args.call c.args.host.now c.args.body.now) c.args.reader.now c.args.writer.now

pub returns-then-size-gt-MAX_BODY-clause-no_host : goal.returns-then-size-gt-MAX_BODY-clause-no_host
returns-then-size-gt-MAX_BODY-clause-no_host g c f e =
    let same : network.TooLarge ≡ f = cc in (λ is. absurd (cc), λ wrong. absurd (cc))

pub returns-then-size-gt-MAX_BODY-clause-too_large : goal.returns-then-size-gt-MAX_BODY-clause-too_large
returns-then-size-gt-MAX_BODY-clause-too_large g c f e =
    let same : network.TooLarge ≡ f = cc in
    (λ _. (sym c.if-not-is_host.ensures, omega (arith, c.call_size-size.ensures, c.if-size-gt-MAX_BODY.true)), λ _. sym same)

pub returns-in-Ok-clause-too_large : goal.returns-in-Ok-clause-too_large
returns-in-Ok-clause-too_large g c f e =
    (λ is. absurd (cc), λ h. absurd (omega (arith, h.1, c.call_size-size.ensures, c.if-size-gt-MAX_BODY.false)))

pub returns-clause-too_large : goal.returns-clause-too_large
returns-clause-too_large g c f e =
    let told : pull_fault c.in-Err.fault ≡ Network f = cc in (
      λ is. absurd (never_of_size c.in-Err.fault f told is),
      λ h. absurd (omega (arith, h.1, c.call_size-size.ensures, c.if-size-gt-MAX_BODY.false)),
    )
