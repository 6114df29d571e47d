use Rattle.entity_uids.specs.Uids.{uid_json}
use Rattle.entity_uids.proofs.Appending.{wrote, ends}
use Rattle.entity_uids.proofs.Nested.{list_begun, list_next, list_ended}
use Rattle.entities.proofs.CanonicalLemmas.{uid_written}
use Rattle.entities.proofs.canonical.write_parents.Goals as goal

pub loop-parent-init : goal.loop-parent-init
loop-parent-init c = list_begun uid_json c.args.parents.now (wrote c.in_ok-begin_array.ensures)

pub loop-parent-preserved : goal.loop-parent-preserved
loop-parent-preserved c =
    list_next uid_json c.args.parents.now c.loop-parent.parent-index c.parent-item.result c.loop-parent-test.true c.parent-item.is c.loop-parent.invariant
    (uid_written c.parent-item.result c.in_ok-write_uid.ensures)

pub returns : goal.returns
returns c = ends c.end_array.result _ c.end_array.ensures (λ e.
    list_ended uid_json c.args.parents.now c.loop-parent.parent-index c.loop-parent-test.false c.loop-parent.invariant e)
