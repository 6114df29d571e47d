use Rattle.stamped_store.specs.Store.{store_of, updates}
use Rattle.journal.proofs.Compacted.{compacted_by, same_store}
use Rattle.journal.proofs.laws.compaction_loses_nothing.Goals as goal

pub returns-clause-same : goal.returns-clause-same
returns-clause-same g c = same_store

pub returns-clause-either : goal.returns-clause-either
returns-clause-either g c = λ x us bytes done m n since rest are h.
    let all = compacted_by (g.R.Replica.states x) g.R.Replica.checked us (updates (store_of us)) bytes m rest are done n since h in
    (all.either, all.replies, all.ended, all.whole)
