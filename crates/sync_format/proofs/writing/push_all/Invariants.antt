use Rattle.std.proofs.Common.{◌≡◌, ◌++◌, map, true}
use Rattle.std.specs.Map.Iter.{deref_pair}
use Rattle.sync_format.specs.Summaries.{ascend}
use Rattle.sync_format.specs.inner.Walking.{IsWalked}
use Rattle.sync_format.proofs.writing.push_all.Given as goal

-- how far the walk is
abbrev pub invariant-loop-name : goal.invariant-loop-name
invariant-loop-name g l = record {
  rest : map deref_pair l.yielded ++ l.name-iterator ≡ l.fn.entries;
  ascending : ascend l.left ≡ true;
  walked : IsWalked g.N.Lent.named l.known l.left l.fn.out l.out l.fn.entries (map deref_pair l.yielded) l.name-iterator;
}
