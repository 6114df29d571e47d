use Rattle.std.proofs.Common.{◌≡◌, length}
use Rattle.std.specs.BTreeMap.{get}
use Rattle.ancestor_search.specs.contracts.searched.SearchedAncestry.TheImpl as searched
use Rattle.values.specs.Names.{uid_cmp}
use Rattle.schema.specs.inner.Numbering.{KeepsAncestors}
use Rattle.schema.proofs.numbering.all_spans.Given as goal

-- as many were reached as were met
abbrev pub invariant-loop-uid : goal.invariant-loop-uid
invariant-loop-uid l = record {
  len : length l.reached ≡ l.uid-index;
  keeps : KeepsAncestors (searched.parents-value.it l.edges) (get uid_cmp l.numbers) l.reached;
}
