use Rattle.std.proofs.Common.{ap, option_map, Option}
use Rattle.std.specs.Process.{exit_status}
use Rattle.program_lines.specs.declared.line.ServeOptions.{ServeOptions}
use Rattle.connection_loop.specs.declared.sockets.Sockets.{Ghosts as Sockets}
use Rattle.program_exchanges.specs.http_streams.declared.devices.Sink.{Ghosts as Sink}
use Rattle.site_loading.specs.site.SiteViews.{SiteView}
use Rattle.program.specs.Courses.{ClosesAfter, Course, OpensIfNamed}
use Rattle.program.specs.Serving.{IsServedIfListening, own_stamps_line}
use Rattle.program.proofs.EventLemmas.{none_opened, not_opened, opened_on, warned_on}
use Rattle.program.proofs.serving.serve_initial_site.Goals as goal

-- what is left to do once the log is opened
abbrev over_log : {L G N : Type 0} → Sink G → Sockets N → ServeOptions → SiteView → Option G → Course L G N
over_log log sockets options site opened =
    ClosesAfter (IsServedIfListening log sockets options (record { site = site; log = opened }))

pub returns-in-Ok : goal.returns-in-Ok
returns-in-Ok g c =
    let options = c.args.options.now in
    let named = option_map (λ s. s.now) options.log in
    let goes_on = over_log g.H.Log.Sink g.H.Sockets.Sockets options c.args.site in
    warned_on g.H.Host.does _ _ _ _ (own_stamps_line options.site) (OpensIfNamed named goes_on)
    (exit_status c.serve_and_close.result) c.warn_of_own_stamps.ensures (
    opened_on g.H.Host.does _ _ _ named c.in-Some.name.now c.in-Ok.log goes_on (exit_status c.serve_and_close.result)
    (ap (option_map (λ s. s.now)) c.in-Some.is) c.in-Ok.ensures c.serve_and_close.ensures)

pub returns-in-Err : goal.returns-in-Err
returns-in-Err g c =
    let options = c.args.options.now in
    let named = option_map (λ s. s.now) options.log in
    let goes_on = over_log g.H.Log.Sink g.H.Sockets.Sockets options c.args.site in
    warned_on g.H.Host.does _ _ _ _ (own_stamps_line options.site) (OpensIfNamed named goes_on)
    (exit_status c.report_failure.result) c.warn_of_own_stamps.ensures (
    not_opened g.H.Host.does _ _ _ named c.in-Some.name.now goes_on (exit_status c.report_failure.result)
    (ap (option_map (λ s. s.now)) c.in-Some.is) c.in-Err.ensures c.report_failure.ensures)

pub returns-in-None : goal.returns-in-None
returns-in-None g c =
    let options = c.args.options.now in
    let named = option_map (λ s. s.now) options.log in
    let goes_on = over_log g.H.Log.Sink g.H.Sockets.Sockets options c.args.site in
    warned_on g.H.Host.does _ _ _ _ (own_stamps_line options.site) (OpensIfNamed named goes_on)
    (exit_status c.serve_and_close-in-None.result) c.warn_of_own_stamps.ensures (
    none_opened g.H.Host.does _ _ named goes_on (exit_status c.serve_and_close-in-None.result)
    (ap (option_map (λ s. s.now)) c.in-None.is) c.serve_and_close-in-None.ensures)
