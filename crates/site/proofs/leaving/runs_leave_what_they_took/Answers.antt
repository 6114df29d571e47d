use Rattle.site.proofs.RunLemmas.{run_took}
use Rattle.site.proofs.leaving.runs_leave_what_they_took.Goals as goal

pub returns : goal.returns
returns c = run_took
    (record { own = c.updates_have_one_store.ensures.own; grouped = c.updates_have_one_store.ensures.grouped })
