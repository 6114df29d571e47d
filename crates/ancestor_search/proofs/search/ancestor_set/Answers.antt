use Rattle.std.proofs.Common.{ap, ◌∙◌, subst, arith}
use Rattle.ancestor_search.specs.Hierarchy.{referenced}
use Rattle.ancestor_search.proofs.Members.{referenced-push, length-referenced, referenced-none}
use Rattle.ancestor_search.proofs.Steps.{Searching, Searching-begin, Searching-step, Searching-end}
use Rattle.ancestor_search.proofs.search.ancestor_set.Goals as goal

pub loop-next-init : goal.loop-next-init
loop-next-init g c =
    let made = c.in_ok-add_parents.ensures in
    Searching-begin _ _ _ _ (rw (ap referenced c.new-seen.ensures.empty, ap referenced c.new-work.ensures.items, c.parents_of.ensures) at made.adds) (rw length-referenced made.small)

pub loop-next-preserved : goal.loop-next-preserved
loop-next-preserved g c =
    let made = c.in_ok-add_parents-2.ensures in
    Searching-step _ _ _ _ _ _ _ c.in-Some.next.now c.loop-next.invariant (ap referenced c.in-Some.ensures.items ∙ referenced-push c.pop.new.self.items _) (rw c.parents_of-in-Some.ensures at made.adds) (rw length-referenced made.small)

pub returns : goal.returns
returns g c =
    let empty = c.in_default.ensures.cases.0 in
    let none = referenced-none c.loop-next.work.items (omega (arith, empty)) in
    Searching-end _ _ _ (subst (λ w. Searching (g.G.ParentsOf.parents c.args.graph.now) c.args.uid.now (referenced c.loop-next.seen.keys) w) none c.loop-next.invariant)
