use Rattle.std.proofs.Common.{rules}
use Rattle.schema.proofs.label.label_of.Goals as goal

pub returns : goal.returns
returns c = search rules
