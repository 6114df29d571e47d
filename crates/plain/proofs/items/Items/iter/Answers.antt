use Rattle.std.proofs.Common.{rules}
use Rattle.plain.proofs.items.Items.iter.Goals as goal

pub returns-clause-rest : goal.returns-clause-rest
returns-clause-rest g c = search rules
