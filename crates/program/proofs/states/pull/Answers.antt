use Rattle.std.proofs.Common.{option_map}
use Rattle.std.specs.Process.{exit_status}
use Rattle.program.proofs.PullLemmas.{pull_as, pulled_over}
use Rattle.program.proofs.states.pull.Goals as goal

pub returns : goal.returns
returns g c =
    let options = c.args.options.now in
    let schema = c.args.schema.now in
    let state = option_map (λ s. s.now) c.args.state in
    pulled_over g.H.Reader.Source g.H.Writer.Sink options schema state c.args.link
    (record { reader = c.pull_over-came.new.reader; writer = c.pull_over-came.new.writer }) g.H.Host.does _ _ _ c.pull_over-came.result
    (exit_status c.report_pull.result) (rw c.as_bytes-asked.ensures.value at (
    pull_as g.H.Reader.Source g.H.Writer.Sink schema state c.as_bytes-asked.result.now c.args.link
    (record { reader = c.pull_over-came.new.reader; writer = c.pull_over-came.new.writer }) c.pull_over-came.result
    c.pull_over-came.ensures.pulled c.pull_over-came.ensures.refused c.pull_over-came.ensures.network c.pull_over-came.ensures.err
    c.pull_over-came.ensures.reads c.pull_over-came.ensures.writes)) c.close.ensures c.report_pull.ensures
