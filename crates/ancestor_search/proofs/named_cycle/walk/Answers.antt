use Rattle.std.proofs.Common.{◌≡◌, ◌+◌, ◌-◌, Some, ap, subst, arith}
use Rattle.ancestor_search.specs.Hierarchy.{referenced}
use Rattle.ancestor_search.specs.inner.Backwards.{dist_of, IsLeastAt}
use Rattle.ancestor_search.proofs.Members.{referenced-push}
use Rattle.ancestor_search.proofs.Walks.{Walking, Walking-step, Walking-end, IsLeastAt-there, dist_pos}
use Rattle.ancestor_search.proofs.named_cycle.walk.Goals as goal

pub loop-far-preserved-in-Some : goal.loop-far-preserved-in-Some
loop-far-preserved-in-Some g c =
    let p = g.G.ParentsOf.parents c.args.graph.now in
    let dist = dist_of c.args.distances.now in
    let found = referenced c.loop-far.found.items in
    let one_more : c.loop-far.far ≡ c.loop-far.far - 1 + 1 = omega arith in
    let w = subst (λ n. Walking p c.args.start.now dist n found c.loop-far.last.now) one_more c.loop-far.invariant in
    let is : IsLeastAt (p c.loop-far.last.now) dist (c.loop-far.far - 1) c.in-Some.next.now = subst (λ ps. IsLeastAt ps dist (c.loop-far.far - 1) c.in-Some.next.now) c.parents_of.ensures c.in-Some.ensures in
    rw (ap referenced c.in_ok-push-2.ensures.items, referenced-push) (Walking-step p c.args.start.now dist c.args.long c.requires.known c.requires.all (c.loop-far.far - 1) found c.loop-far.last.now c.in-Some.next.now w (omega arith) is)

pub loop-far-preserved : goal.loop-far-preserved
loop-far-preserved g c =
    let p = g.G.ParentsOf.parents c.args.graph.now in
    let dist = dist_of c.args.distances.now in
    let one_more : c.loop-far.far ≡ c.loop-far.far - 1 + 1 = omega arith in
    let there = IsLeastAt-there p c.args.start.now dist c.requires.known c.args.long c.requires.all c.loop-far.last.now (c.loop-far.far - 1) (subst (λ n. dist c.loop-far.last.now ≡ Some n) one_more c.loop-far.invariant.at) (omega arith) (omega arith) in
    absurd (c.in_default.ensures there.0 (rw c.parents_of.ensures there.1) there.2)

pub returns : goal.returns
returns g c =
    let p = g.G.ParentsOf.parents c.args.graph.now in
    let dist = dist_of c.args.distances.now in
    let pos = dist_pos p c.args.start.now dist c.requires.known c.loop-far.last.now c.loop-far.far c.loop-far.invariant.at in
    let one : c.loop-far.far ≡ 1 = omega (arith, pos) in
    Walking-end p c.args.start.now dist c.requires.known (referenced c.loop-far.found.items) c.loop-far.last.now (subst (λ n. Walking p c.args.start.now dist n (referenced c.loop-far.found.items) c.loop-far.last.now) one c.loop-far.invariant)
