use Rattle.std.proofs.Common.{rules}
use Rattle.schema.proofs.listed_environments.make_place.Goals as goal

pub returns : goal.returns
returns c = search rules
