use Rattle.std.proofs.Common.{rules}
use Rattle.site.proofs.checking.copy_text.Goals as goal

pub returns : goal.returns
returns c = search rules
