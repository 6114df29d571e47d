use Rattle.stamped_store.proofs.Kept.{empty_read, taken_policy_read, taken_entity_read, all_kept_read, first_kept_read}
use Rattle.stamped_store.proofs.laws.readings_are_preserved.Goals as goal

pub returns-clause-empty : goal.returns-clause-empty
returns-clause-empty g c = λ r. empty_read (g.R.Readings.reads_policy r) (g.R.Readings.reads_entity r)

pub returns-clause-policy : goal.returns-clause-policy
returns-clause-policy g c = λ r. taken_policy_read (g.R.Readings.reads_policy r) (g.R.Readings.reads_entity r)

pub returns-clause-entity : goal.returns-clause-entity
returns-clause-entity g c = λ r. taken_entity_read (g.R.Readings.reads_policy r) (g.R.Readings.reads_entity r)

pub returns-clause-merged : goal.returns-clause-merged
returns-clause-merged g c = λ r. all_kept_read (g.R.Readings.reads_policy r) (g.R.Readings.reads_entity r)

pub returns-clause-cut_short : goal.returns-clause-cut_short
returns-clause-cut_short g c = λ r n k l h m.
    all_kept_read (g.R.Readings.reads_policy r) (g.R.Readings.reads_entity r) k _ h
    (first_kept_read (g.R.Readings.reads_policy r) (g.R.Readings.reads_entity r) n l m)
