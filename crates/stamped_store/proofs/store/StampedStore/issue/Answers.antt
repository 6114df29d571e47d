use Rattle.std.proofs.Common.{rules}
use Rattle.stamped_store.proofs.store.StampedStore.issue.Goals as goal

-- src/policy_store.rt:103:5
pub returns : goal.returns
returns g c = search rules
