use Rattle.std.proofs.Common.{rules}
use Rattle.stamped_store.proofs.store.take_counted.Goals as goal

-- src/policy_store.rt:210:5
pub returns-in_err-take-clause-refused : goal.returns-in_err-take-clause-refused
returns-in_err-take-clause-refused g c = search rules

-- src/policy_store.rt:198:1
pub returns-clause-ok : goal.returns-clause-ok
returns-clause-ok g c = search rules
