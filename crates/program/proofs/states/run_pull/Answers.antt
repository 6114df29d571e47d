use Rattle.std.proofs.Common.{ℕ, List, Option, option_map}
use Rattle.std.specs.Process.{exit_status}
use Rattle.program_lines.specs.declared.line.PullOptions.{PullOptions}
use Rattle.program_exchanges.specs.http_streams.declared.devices.Source.{Ghosts as Source}
use Rattle.program_exchanges.specs.http_streams.declared.devices.Sink.{Ghosts as Sink}
use Rattle.program.specs.declared.device.Link.{Link}
use Rattle.program.specs.Courses.{Course, Connects, ReadsIfThere}
use Rattle.program.specs.Pulling.{IsPulledOver}
use Rattle.program.proofs.EventLemmas.{reads_on, reads_none, there_on, there_none, connects_on, connects_none}
use Rattle.program.proofs.states.run_pull.Goals as goal

-- what is left to do once the state is read, and once the schema is
abbrev over_state : {R W G N : Type 0} → Source R → Sink W → PullOptions → List ℕ → Option (List ℕ) → Course (Link R W) G N
over_state reader writer options schema state = Connects options.from.now (IsPulledOver reader writer options schema state)

abbrev over_schema : {R W G N : Type 0} → Source R → Sink W → PullOptions → List ℕ → Course (Link R W) G N
over_schema reader writer options schema = ReadsIfThere options.state.now (over_state reader writer options schema)

pub returns-in-Err : goal.returns-in-Err
returns-in-Err g c =
    reads_none g.H.Host.does _ _ _ (over_schema g.H.Reader.Source g.H.Writer.Sink c.args.options.now) _ c.in-Err.ensures

pub returns-in-Err-read_if_there : goal.returns-in-Err-read_if_there
returns-in-Err-read_if_there g c =
    let options = c.args.options.now in
    reads_on g.H.Host.does _ _ _ _ _ (over_schema g.H.Reader.Source g.H.Writer.Sink options) _ c.in-Ok.ensures (
    there_none g.H.Host.does _ _ _ (over_state g.H.Reader.Source g.H.Writer.Sink options c.in-Ok.bytes.items) _ c.in-Err-read_if_there.ensures)

pub returns-in-Ok-connect : goal.returns-in-Ok-connect
returns-in-Ok-connect g c =
    let options = c.args.options.now in
    let schema = c.in-Ok.bytes.items in
    let state = option_map (λ bytes. bytes.items) c.in-Ok-read_if_there.found in
    reads_on g.H.Host.does _ _ _ _ _ (over_schema g.H.Reader.Source g.H.Writer.Sink options) _ c.in-Ok.ensures (
    there_on g.H.Host.does _ _ _ _ state (over_state g.H.Reader.Source g.H.Writer.Sink options schema) _ c.in-Ok-read_if_there.ensures (
    connects_on g.H.Host.does _ _ _ options.from.now _ (IsPulledOver g.H.Reader.Source g.H.Writer.Sink options schema state)
    (exit_status c.pull.result) c.in-Ok-connect.ensures (rw (c.deref.ensures.value, c.lent.ensures) at c.pull.ensures)))

pub returns : goal.returns
returns g c =
    let options = c.args.options.now in
    let schema = c.in-Ok.bytes.items in
    let state = option_map (λ bytes. bytes.items) c.in-Ok-read_if_there.found in
    reads_on g.H.Host.does _ _ _ _ _ (over_schema g.H.Reader.Source g.H.Writer.Sink options) _ c.in-Ok.ensures (
    there_on g.H.Host.does _ _ _ _ state (over_state g.H.Reader.Source g.H.Writer.Sink options schema) _ c.in-Ok-read_if_there.ensures (
    connects_none g.H.Host.does _ _ _ options.from.now (IsPulledOver g.H.Reader.Source g.H.Writer.Sink options schema state)
    (exit_status c.report_failure.result) c.in-Err-connect.ensures c.report_failure.ensures))
