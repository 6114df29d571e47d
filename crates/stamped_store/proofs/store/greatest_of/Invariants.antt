use Rattle.std.proofs.Common.{◌≡◌, ◌++◌, map}
use Rattle.std.specs.Map.Iter.{deref_pair}
use Rattle.stamped_store.specs.Abstraction.{greatest_kept}
use Rattle.stamped_store.proofs.store.greatest_of.Given as goal

-- the greatest count so far
abbrev pub invariant-loop-entry : goal.invariant-loop-entry
invariant-loop-entry g l = record {
  rest : map deref_pair l.yielded ++ l.entry-iterator ≡ l.entries;
  counted : l.greatest ≡ greatest_kept (map deref_pair l.yielded);
}
