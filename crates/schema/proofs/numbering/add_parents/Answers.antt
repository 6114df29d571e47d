use Rattle.std.specs.BTreeMap.{get}
use Rattle.values.specs.Names.{uid_cmp}
use Rattle.schema.proofs.NumberLemmas.{parents_begin, parents_step, parents_end}
use Rattle.schema.proofs.numbering.add_parents.Goals as goal

pub loop-parent-init : goal.loop-parent-init
loop-parent-init c = λ last h. parents_begin (get uid_cmp c.args.numbers.now) c.args.reached.now c.args.parents.now c.new-spans.result.items last c.new-spans.ensures.items h

pub loop-parent-preserved : goal.loop-parent-preserved
loop-parent-preserved c = λ last rest. c.loop-parent.invariant last
    (parents_step (get uid_cmp c.args.numbers.now) c.args.reached.now c.args.parents.now c.loop-parent.parent-index c.parent-item.result c.loop-parent.spans.items c.add_parent.new.spans.items last
    c.loop-parent-test.true c.parent-item.is (c.in_ok-add_parent.ensures c.if-not-branch.false) rest)

pub returns : goal.returns
returns c = c.loop-parent.invariant c.loop-parent.spans.items
    (parents_end (get uid_cmp c.args.numbers.now) c.args.reached.now c.args.parents.now c.loop-parent.parent-index c.loop-parent.spans.items c.loop-parent-test.false)
