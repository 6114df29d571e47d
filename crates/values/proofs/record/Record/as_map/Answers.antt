use Rattle.std.proofs.Common.{subst}
use Rattle.values.specs.Fields.{AreKeysAscending}
use Rattle.values.proofs.Records.{keys_ascend}
use Rattle.values.proofs.record.Record.as_map.Goals as goal

pub returns-clause-ascending : goal.returns-clause-ascending
returns-clause-ascending c = subst AreKeysAscending c.self.view_is (keys_ascend c.self.inside.fields.entries c.len-ordered.ensures.ordered)
