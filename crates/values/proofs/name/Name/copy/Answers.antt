use Rattle.std.proofs.Common.{rules}
use Rattle.values.proofs.name.Name.copy.Goals as goal

pub returns-in_ok-uid-in-Entity : goal.returns-in_ok-uid-in-Entity
returns-in_ok-uid-in-Entity c = search rules
