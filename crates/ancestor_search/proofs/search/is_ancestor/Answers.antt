use Rattle.std.proofs.Common.{rules, refl, ap, ◌∙◌, subst, arith}
use Rattle.std.specs.Prelude.{Contains}
use Rattle.ancestor_search.specs.Hierarchy.{referenced}
use Rattle.ancestor_search.proofs.Members.{referenced-push, length-referenced, referenced-none}
use Rattle.ancestor_search.proofs.Steps.{Searching, Searching-hit, Searching-begin, Searching-step, Searching-end}
use Rattle.ancestor_search.proofs.Sets.{found_iff}
use Rattle.ancestor_search.proofs.search.is_ancestor.Goals as goal

pub loop-next-init : goal.loop-next-init
loop-next-init g c =
    let made = c.in_ok-add_parents.ensures in
    Searching-begin _ _ _ _ (rw (ap referenced c.new-seen.ensures.empty, ap referenced c.new-work.ensures.items, c.parents_of-parents.ensures) at made.adds) (rw length-referenced made.small)

pub loop-next-preserved : goal.loop-next-preserved
loop-next-preserved g c =
    let made = c.in_ok-add_parents-2.ensures in
    Searching-step _ _ _ _ _ _ _ c.in-Some.next.now c.loop-next.invariant (ap referenced c.in-Some.ensures.items ∙ referenced-push c.pop.new.self.items _) (rw c.parents_of-further.ensures at made.adds) (rw length-referenced made.small)

pub returns-then-has : goal.returns-then-has
returns-then-has g c = search rules

pub returns-then-has-2 : goal.returns-then-has-2
returns-then-has-2 g c = (
  λ _.
      let edge = subst (λ ps. Contains ps c.args.a.now) c.parents_of-further.ensures (c.has-in-Some.ensures.0 c.if-has-2.true) in
      Searching-hit _ _ _ _ (referenced c.pop.new.self.items) c.in-Some.next.now c.args.a.now c.loop-next.invariant (ap referenced c.in-Some.ensures.items ∙ referenced-push c.pop.new.self.items _) edge,
  λ _. refl,
)

pub returns : goal.returns
returns g c =
    let empty = c.in_default.ensures.cases.0 in
    let none = referenced-none c.loop-next.work.items (omega (arith, empty)) in
    let all = Searching-end _ _ _ (subst (λ w. Searching (g.G.ParentsOf.parents c.args.graph.now) c.args.b.now (referenced c.loop-next.seen.keys) w) none c.loop-next.invariant) c.args.a.now in
    let found = found_iff c.loop-next.seen.keys c.args.a.now c.contains.result c.contains.ensures in
    (λ t. all.0 (found.0 t), λ ancestor_set. found.1 (all.1 ancestor_set))
