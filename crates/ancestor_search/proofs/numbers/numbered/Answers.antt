use Rattle.std.proofs.Common.{◌+◌, [], ◌∷◌, ap, sym, subst, ◌∙◌, arith, length-append}
use Rattle.ancestor_search.specs.Hierarchy.{referenced}
use Rattle.ancestor_search.specs.inner.Numbering.{NumbersAmong}
use Rattle.ancestor_search.proofs.Members.{length-referenced}
use Rattle.ancestor_search.proofs.Bridge.{numbered-more, referenced-at}
use Rattle.ancestor_search.proofs.numbers.numbered.Goals as goal

pub loop-uid-preserved : goal.loop-uid-preserved
loop-uid-preserved g c =
    let us = referenced c.args.uids.now in
    let k = c.loop-uid.uid-index in
    let x = c.uid-item.result in
    let p = g.G.ParentsOf.parents c.args.graph.now in
    let numbers = subst (λ l. NumbersAmong us l c.in_ok-numbers.numbers.items) c.parents_of.ensures c.in_ok-numbers.ensures in
    rw c.in_ok-push.ensures.items (record {
      len = length-append c.loop-uid.edges.items (c.in_ok-numbers.numbers ∷ []) ∙ ap (λ n. n + 1) c.loop-uid.invariant.len;
      done = numbered-more p us c.loop-uid.edges.items c.in_ok-numbers.numbers k c.loop-uid.invariant.len c.loop-uid.invariant.done x.now (rw length-referenced c.loop-uid-test.true, referenced-at c.args.uids.now k x ∙ ap (λ b. b.now) (sym c.uid-item.is)) numbers;
    })

pub returns : goal.returns
returns g c = λ i x lt num. c.loop-uid.invariant.done i x (let l = length-referenced c.args.uids.now in omega (arith, l, lt, c.loop-uid-test.false)) num
