use Rattle.std.proofs.Common.{◌≡◌, ◌++◌, map}
use Rattle.std.specs.Map.Iter.{deref_pair}
use Rattle.entity_uids.specs.Tokens.{AppendsAll}
use Rattle.sync_format.specs.inner.SummaryWriting.{stamps_json}
use Rattle.sync_format.proofs.summary_writing.write_each.Given as goal

-- what was written so far
abbrev pub invariant-loop-name : goal.invariant-loop-name
invariant-loop-name g l = record {
  rest : map deref_pair l.yielded ++ l.name-iterator ≡ l.fn.entries;
  written : AppendsAll l.fn.out l.out (stamps_json g.N.Lent.named (map deref_pair l.yielded));
}
