use Rattle.std.proofs.Common.{◌≡◌, ◌++◌, map}
use Rattle.std.specs.Map.Iter.{deref_pair}
use Rattle.entity_hierarchy.specs.ancestor_search.Hierarchy.{referenced}
use Rattle.site_meaning.specs.inner.Listing.{uids_with_text}
use Rattle.site_meaning.proofs.stored_entities.uids_with_text.Given as goal

-- what was found so far
abbrev pub invariant-loop-uid : goal.invariant-loop-uid
invariant-loop-uid l = record {
  rest : map deref_pair l.yielded ++ l.uid-iterator ≡ l.store.entities;
  found : referenced l.found.items ≡ uids_with_text (map deref_pair l.yielded);
}
