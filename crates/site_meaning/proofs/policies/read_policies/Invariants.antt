use Rattle.std.proofs.Common.{◌≡◌, ◌++◌, map}
use Rattle.std.specs.Map.Iter.{deref_pair}
use Rattle.entity_hierarchy.specs.authoriser.Views.{named}
use Rattle.site_meaning.specs.TextsRead.{policies_read}
use Rattle.site_meaning.proofs.policies.read_policies.Given as goal

-- what was found so far
abbrev pub invariant-loop-id : goal.invariant-loop-id
invariant-loop-id l = record {
  rest : map deref_pair l.yielded ++ l.id-iterator ≡ l.store.policies;
  found : named l.found.items ≡ policies_read (map deref_pair l.yielded);
}
