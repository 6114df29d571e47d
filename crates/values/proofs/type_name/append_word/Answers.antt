use Rattle.std.proofs.Common.{rules}
use Rattle.values.proofs.type_name.append_word.Goals as goal

pub returns : goal.returns
returns c = search rules
