use Rattle.std.proofs.Common.{rules}
use Rattle.grammar_desugaring.proofs.words.joined_type.Goals as goal

pub returns : goal.returns
returns c = search rules
