use Rattle.std.proofs.Common.{sym, subst}
use Rattle.ancestor_search.specs.Hierarchy.{IsAscending}
use Rattle.ancestor_closure.specs.Lists.{ancestors_in, children_in}
use Rattle.ancestor_closure.specs.inner.OneChange.{TakesChild, Leaves}
use Rattle.ancestor_closure.proofs.changing.undo.Goals as goal

pub take_from_all-requires : goal.take_from_all-requires
take_from_all-requires c = subst (λ l. IsAscending l) (sym c.deref-2.ensures.value) c.requires.before_ascends

pub leave_all-requires : goal.leave_all-requires
leave_all-requires c = λ q h. subst (λ l. IsAscending l) (sym (c.take_from_all.ensures.lists q)) (c.requires.ascend q)

pub returns-clause-takes : goal.returns-clause-takes
returns-clause-takes c =
    subst (λ l. TakesChild l c.args.change.now.before.items c.args.change.now.uid (children_in c.args.relatives.now) (children_in c.take_from_all.new.relatives)) c.deref.ensures.value
    (subst (λ l. TakesChild c.deref.result.now l c.args.change.now.uid (children_in c.args.relatives.now) (children_in c.take_from_all.new.relatives)) c.deref-2.ensures.value c.take_from_all.ensures.takes)

pub returns-clause-leaves : goal.returns-clause-leaves
returns-clause-leaves c =
    subst (λ l. Leaves l (ancestors_in c.take_from_all.new.relatives) c.args.cyclic.now.keys c.leave_all.new.cyclic.keys) c.deref-3.ensures.value c.leave_all.ensures
