use Rattle.std.proofs.Common.{rules}
use Rattle.ancestor_search.proofs.lists.is_among.Goals as goal

pub returns : goal.returns
returns c = search rules
