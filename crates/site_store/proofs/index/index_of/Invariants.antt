use Rattle.std.proofs.Common.{◌≡◌, ◌++◌, map}
use Rattle.std.specs.Map.Iter.{deref_pair}
use Rattle.site_store.specs.Indexed.{AreIndexed}
use Rattle.site_store.proofs.index.index_of.Given as goal

-- the index is that of the entries so far
abbrev pub invariant-loop-id : goal.invariant-loop-id
invariant-loop-id g l = record {
  rest : map deref_pair l.yielded ++ l.id-iterator ≡ l.store.policies;
  indexed : AreIndexed (map deref_pair l.yielded) l.index;
}
