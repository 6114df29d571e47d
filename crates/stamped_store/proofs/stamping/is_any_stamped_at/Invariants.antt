use Rattle.std.proofs.Common.{◌≡◌, ◌++◌, map}
use Rattle.std.specs.List.{list_any}
use Rattle.std.specs.Map.Iter.{deref_pair}
use Rattle.std.specs.Str.{bytes_eq}
use Rattle.stamped_store.proofs.stamping.is_any_stamped_at.Given as goal

-- whether one was so far
abbrev pub invariant-loop-entry : goal.invariant-loop-entry
invariant-loop-entry g l = record {
  rest : map deref_pair l.yielded ++ l.entry-iterator ≡ l.fn.entries;
  told : l.found ≡ list_any (λ e. bytes_eq e.1.stamp.site l.fn.site) (map deref_pair l.yielded);
}
