use Rattle.std.proofs.Common.{rules}
use Rattle.site.proofs.commands.next_stamp.Goals as goal

pub returns : goal.returns
returns c = search rules
