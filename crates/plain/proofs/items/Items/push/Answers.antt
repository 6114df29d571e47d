use Rattle.std.proofs.Common.{rules}
use Rattle.plain.proofs.items.Items.push.Goals as goal

pub returns-clause-ok : goal.returns-clause-ok
returns-clause-ok g c = search rules
