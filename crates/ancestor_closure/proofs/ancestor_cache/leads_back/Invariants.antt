use Rattle.std.proofs.Common.{take}
use Rattle.std.specs.Prelude.{Contains}
use Rattle.values.specs.declared.entity_uid.EntityUid.{EntityUid}
use Rattle.ancestor_search.specs.Hierarchy.{Parents}
use Rattle.ancestor_closure.specs.Lists.{IsListOf, ancestors_in}
use Rattle.ancestor_closure.proofs.Leading.{Leads}
use Rattle.ancestor_closure.proofs.ancestor_cache.leads_back.Given as goal

-- none of the parents up to here leads back
abbrev pub invariant-loop-parent : goal.invariant-loop-parent
invariant-loop-parent l = (before : Parents) → ((b : EntityUid) → IsListOf before b (ancestors_in l.relatives b)) →
    (x : EntityUid) → Contains (take l.parent-index l.parents) x → Leads before l.uid x → ⊥
