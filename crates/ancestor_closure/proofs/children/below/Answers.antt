use Rattle.std.proofs.Common.{ap, ◌∙◌, subst, arith}
use Rattle.ancestor_search.specs.Hierarchy.{referenced}
use Rattle.ancestor_search.proofs.Members.{referenced-push, length-referenced, referenced-none}
use Rattle.ancestor_search.proofs.Steps.{Searching, Searching-begin, Searching-step, Searching-end}
use Rattle.ancestor_closure.specs.Lists.{children_in}
use Rattle.ancestor_closure.proofs.children.below.Goals as goal

pub loop-next-init : goal.loop-next-init
loop-next-init c =
    let made = c.in_ok-add_children.ensures in
    Searching-begin (children_in c.args.relatives.now) _ _ _ (rw (ap referenced c.new-seen.ensures.empty, ap referenced c.new-work.ensures.items) at made.adds) (rw length-referenced made.small)

pub loop-next-preserved : goal.loop-next-preserved
loop-next-preserved c =
    let made = c.in_ok-add_children-2.ensures in
    Searching-step (children_in c.args.relatives.now) _ _ _ _ _ _ c.in-Some.next.now c.loop-next.invariant (ap referenced c.in-Some.ensures.items ∙ referenced-push c.pop.new.self.items _) made.adds (rw length-referenced made.small)

pub returns : goal.returns
returns c =
    let empty = c.in_default.ensures.cases.0 in
    let none = referenced-none c.loop-next.work.items (omega (arith, empty)) in
    Searching-end _ _ _ (subst (λ w. Searching (children_in c.args.relatives.now) c.args.uid.now (referenced c.loop-next.seen.keys) w) none c.loop-next.invariant)
