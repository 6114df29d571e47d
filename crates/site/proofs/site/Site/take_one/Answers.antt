use Rattle.std.proofs.Common.{rules}
use Rattle.site.proofs.site.Site.take_one.Goals as goal

pub returns-in-Policy-clause-taken : goal.returns-in-Policy-clause-taken
returns-in-Policy-clause-taken c = search rules
