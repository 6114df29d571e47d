use Rattle.std.proofs.Common.{rules}
use Rattle.site.proofs.site.Site.put_unless.Goals as goal

pub returns-in-Ok-false-clause-puts : goal.returns-in-Ok-false-clause-puts
returns-in-Ok-false-clause-puts c = search rules

pub returns-in-Ok-false-clause-others : goal.returns-in-Ok-false-clause-others
returns-in-Ok-false-clause-others c = search rules
