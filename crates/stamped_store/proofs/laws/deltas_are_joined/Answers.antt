use Rattle.stamped_store.proofs.Deltas.{delta_has, summary_at, delta_as_whole}
use Rattle.stamped_store.proofs.laws.deltas_are_joined.Goals as goal

pub returns-clause-news : goal.returns-clause-news
returns-clause-news c = delta_has

pub returns-clause-summary : goal.returns-clause-summary
returns-clause-summary c = summary_at

pub returns-clause-whole : goal.returns-clause-whole
returns-clause-whole c = delta_as_whole
