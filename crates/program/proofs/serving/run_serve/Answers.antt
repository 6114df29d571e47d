use Rattle.std.proofs.Common.{ℕ, List, option_map}
use Rattle.program_lines.specs.declared.line.ServeOptions.{ServeOptions}
use Rattle.connection_loop.specs.declared.sockets.Sockets.{Ghosts as Sockets}
use Rattle.program_exchanges.specs.http_streams.declared.devices.Sink.{Ghosts as Sink}
use Rattle.program.specs.Courses.{Course, ReadsIfNamed}
use Rattle.program.specs.Serving.{IsServedFrom}
use Rattle.program.proofs.EventLemmas.{reads_on, reads_none, named_on, named_none}
use Rattle.program.proofs.serving.run_serve.Goals as goal

-- what is left to do once the schema is read
abbrev over_schema : {L G N : Type 0} → Sink G → Sockets N → ServeOptions → List ℕ → Course L G N
over_schema log sockets options schema =
    ReadsIfNamed (option_map (λ s. s.now) options.state) (IsServedFrom log sockets options schema)

pub returns-in-Err : goal.returns-in-Err
returns-in-Err g c =
    reads_none g.H.Host.does _ _ _ (over_schema g.H.Log.Sink g.H.Sockets.Sockets c.args.options.now) _ c.in-Err.ensures

pub returns-in-Err-read_if_named : goal.returns-in-Err-read_if_named
returns-in-Err-read_if_named g c =
    let options = c.args.options.now in
    reads_on g.H.Host.does _ _ _ _ _ (over_schema g.H.Log.Sink g.H.Sockets.Sockets options) _ c.in-Ok.ensures (
    named_none g.H.Host.does _ _ (option_map (λ s. s.now) options.state)
    (IsServedFrom g.H.Log.Sink g.H.Sockets.Sockets options c.in-Ok.bytes.items) _ c.in-Err-read_if_named.ensures)

pub returns : goal.returns
returns g c =
    let options = c.args.options.now in
    let schema = c.in-Ok.bytes.items in
    let state = option_map (λ b. b.items) c.in-Ok-read_if_named.found in
    reads_on g.H.Host.does _ _ _ _ _ (over_schema g.H.Log.Sink g.H.Sockets.Sockets options) _ c.in-Ok.ensures (
    named_on g.H.Host.does _ _ _ (option_map (λ s. s.now) options.state) state
    (IsServedFrom g.H.Log.Sink g.H.Sockets.Sockets options schema) _ c.in-Ok-read_if_named.ensures (
    rw (c.deref.ensures.value, c.lent.ensures) at c.serve_contents.ensures))
