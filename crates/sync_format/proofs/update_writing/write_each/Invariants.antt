use Rattle.std.proofs.Common.{map, take}
use Rattle.entity_uids.specs.Tokens.{AppendsAll}
use Rattle.sync_format.specs.Messages.{entry_json}
use Rattle.sync_format.specs.Updates.{plain_updates}
use Rattle.sync_format.proofs.update_writing.write_each.Given as goal

-- what was written so far
abbrev pub invariant-loop-update : goal.invariant-loop-update
invariant-loop-update g l = AppendsAll l.fn.out l.out (map entry_json (plain_updates (take l.update-index l.updates)))
