use Rattle.std.proofs.Common.{List, [], drop}
use Rattle.std.specs.BTreeMap.{get}
use Rattle.schema.specs.declared.spans.NumberSpan.{NumberSpan}
use Rattle.values.specs.Names.{uid_cmp}
use Rattle.schema.specs.inner.Numbering.{AddsParents}
use Rattle.schema.proofs.numbering.add_parents.Given as goal

-- where those that are left are added too, all are
abbrev pub invariant-loop-parent : goal.invariant-loop-parent
invariant-loop-parent l = (last : List NumberSpan) → AddsParents (get uid_cmp l.numbers) l.reached (drop l.parent-index l.parents) l.spans.items last
    → AddsParents (get uid_cmp l.numbers) l.reached l.parents [] last
