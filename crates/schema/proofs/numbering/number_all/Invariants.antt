use Rattle.std.proofs.Common.{None, drop}
use Rattle.std.specs.BTreeMap.{get}
use Rattle.values.specs.Names.{uid_cmp}
use Rattle.ancestor_search.specs.Hierarchy.{referenced}
use Rattle.schema.specs.inner.Numbering.{Numbers, IsNumbered}
use Rattle.schema.proofs.NumberLemmas.{Gives}
use Rattle.schema.proofs.numbering.number_all.Given as goal

-- where those that are left are numbered too, all are
abbrev pub invariant-loop-uid : goal.invariant-loop-uid
invariant-loop-uid l = record {
  numbered : IsNumbered l.numbered;
  given : (last : Numbers) → Gives (referenced (drop l.uid-index l.uids)) (get uid_cmp l.numbered.numbers) last → Gives (referenced l.uids) (λ u. None) last;
}
