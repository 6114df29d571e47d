use Rattle.clap.specs.Words.{found_of, rows_of}
use Rattle.program_lines.proofs.LineLemmas.{serve_lacks_clients, serve_lacks_connections, serve_lacks_idle}
use Rattle.program_lines.proofs.LineLemmas.{serve_lacks_site}
use Rattle.program_lines.proofs.line.serve_line.Goals as goal

pub returns-in_default-site_option : goal.returns-in_default-site_option
returns-in_default-site_option c = serve_lacks_site (rows_of (found_of c.args.options.now)) c.in_default-site_option.ensures

pub returns-in_default-connections_option : goal.returns-in_default-connections_option
returns-in_default-connections_option c =
    serve_lacks_connections (rows_of (found_of c.args.options.now)) c.in_default-connections_option.ensures

pub returns-in_default-clients_option : goal.returns-in_default-clients_option
returns-in_default-clients_option c =
    serve_lacks_clients (rows_of (found_of c.args.options.now)) c.in_default-clients_option.ensures

pub returns-in_default-idle_option : goal.returns-in_default-idle_option
returns-in_default-idle_option c = serve_lacks_idle (rows_of (found_of c.args.options.now)) c.in_default-idle_option.ensures
