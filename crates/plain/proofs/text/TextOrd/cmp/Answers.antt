use Rattle.std.proofs.Common.{rules}
use Rattle.plain.proofs.text.TextOrd.cmp.Goals as goal

pub returns : goal.returns
returns c = search rules
