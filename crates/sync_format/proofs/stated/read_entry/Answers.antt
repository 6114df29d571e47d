use Rattle.std.proofs.Common.{rules}
use Rattle.sync_format.specs.Messages.{entry_in, entry_by}
use Rattle.sync_format.proofs.stated.read_entry.Goals as goal

pub returns : goal.returns
unfolding entry_in entry_by
returns c = search rules
