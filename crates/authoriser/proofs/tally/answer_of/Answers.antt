use Rattle.std.proofs.Common.{rules}
use Rattle.authoriser.proofs.tally.answer_of.Goals as goal

pub returns : goal.returns
returns c = search rules
