use Rattle.std.proofs.Common.{rules}
use Rattle.stamped_store.proofs.entry.EntryOrd.cmp.Goals as goal

pub returns-in-Some-Some : goal.returns-in-Some-Some
returns-in-Some-Some g c = search rules
