use Rattle.std.proofs.Common.{inr}
use Rattle.sync_messages.specs.schema.Views.{schema_view}
use Rattle.stamped_store.specs.Store.{abstract_store}
use Rattle.program_exchanges.specs.Requests.{request_for}
use Rattle.program_exchanges.proofs.ToldLemmas.{err_always, begun_whole}
use Rattle.program_exchanges.proofs.pulling.pull_under.Goals as goal

pub returns-in-Ok-clause-err : goal.returns-in-Ok-clause-err
returns-in-Ok-clause-err g c =
    err_always c.pull_result.result
    (inr (begun_whole g.R.Source.left g.R.Source.reads g.W.Sink.holds (request_for c.args.host.now (schema_view c.args.schema.now) (abstract_store c.args.store))
    c.args.reader.now c.fetch_missing_entries.new.reader c.args.writer.now c.fetch_missing_entries.new.writer 200 c.in-Ok.body.items c.in-Ok.ensures.answered))
