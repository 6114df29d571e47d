use Rattle.std.proofs.Common.{◌∙◌, ap, subst}
use Rattle.std.specs.Prelude.{Contains, ◌↔◌, IfOk}
use Rattle.values.specs.declared.entity_uid.EntityUid.{EntityUid}
use Rattle.ancestor_search.specs.Hierarchy.{IsAscending}
use Rattle.ancestor_closure.specs.Lists.{ancestors_in, children_in}
use Rattle.ancestor_closure.proofs.changing.parents_before.Goals as goal

pub returns-clause-all : goal.returns-clause-all
returns-clause-all c =
    subst (λ l. IfOk c.those_with_child.result (λ found. (x : EntityUid) → Contains found.items x ↔ (Contains l x × Contains (children_in c.args.relatives.now x) c.args.uid.now)))
    (c.ancestors_at.ensures ∙ ap (ancestors_in c.args.relatives.now) c.deref.ensures) c.those_with_child.ensures.all

pub returns-clause-ascending : goal.returns-clause-ascending
returns-clause-ascending c =
    subst (λ l. IfOk c.those_with_child.result (λ found. IsAscending l → IsAscending found.items))
    (c.ancestors_at.ensures ∙ ap (ancestors_in c.args.relatives.now) c.deref.ensures) c.those_with_child.ensures.ascending
