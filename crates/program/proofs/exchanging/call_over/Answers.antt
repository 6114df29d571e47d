use Rattle.std.specs.Process.{exit_status}
use Rattle.program.proofs.ExchangeLemmas.{called_over}
use Rattle.program.proofs.exchanging.call_over.Goals as goal

pub returns : goal.returns
returns g c =
    called_over g.H.Reader.Source g.H.Writer.Sink c.args.round_call.now c.args.body.now c.args.link
    (record { reader = c.ask-outcome.new.reader; writer = c.ask-outcome.new.writer }) g.H.Host.does _ _ _ (λ v. v.items) exit_status
    c.ask-outcome.result c.reply_or_end.result
    (rw c.as_bytes-address.ensures.value at c.ask-outcome.ensures.answered) c.ask-outcome.ensures.refused
    (rw c.as_bytes-address.ensures.value at c.ask-outcome.ensures.network) (rw c.as_bytes-address.ensures.value at c.ask-outcome.ensures.err)
    (rw c.as_bytes-address.ensures.value at c.ask-outcome.ensures.no_host) c.ask-outcome.ensures.fits
    (rw c.as_bytes-address.ensures.value at c.ask-outcome.ensures.too_large) c.ask-outcome.ensures.reads c.ask-outcome.ensures.writes c.close.ensures
    c.reply_or_end.ensures.reply c.reply_or_end.ensures.same c.reply_or_end.ensures.told
