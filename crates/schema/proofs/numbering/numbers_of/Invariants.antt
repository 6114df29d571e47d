use Rattle.std.proofs.Common.{◌≡◌, ◌++◌, drop}
use Rattle.std.specs.BTreeMap.{get}
use Rattle.values.specs.Names.{uid_cmp}
use Rattle.ancestor_search.specs.Hierarchy.{referenced}
use Rattle.schema.specs.inner.Numbering.{singles}
use Rattle.schema.proofs.numbering.numbers_of.Given as goal

-- what there is, and what is left, make the whole
abbrev pub invariant-loop-uid : goal.invariant-loop-uid
invariant-loop-uid l = l.spans.items ++ singles (get uid_cmp l.numbers) (referenced (drop l.uid-index l.uids)) ≡ singles (get uid_cmp l.numbers) (referenced l.uids)
