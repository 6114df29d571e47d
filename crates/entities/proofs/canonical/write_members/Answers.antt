use Rattle.entity_uids.proofs.Appending.{wrote, ends}
use Rattle.entities.proofs.CanonicalLemmas.{uid_written, entity_written}
use Rattle.entities.proofs.canonical.write_members.Goals as goal

pub returns : goal.returns
returns c = ends c.end_object.result _ c.end_object.ensures (λ e.
    entity_written c.args.entity.now c.members.result.now c.members.ensures.members (wrote c.in_ok-begin_object.ensures) (wrote c.in_ok-key.ensures) c.in_ok-write_record.ensures
    (wrote c.in_ok-key-2.ensures) c.in_ok-write_parents.ensures (wrote c.in_ok-key-3.ensures) (uid_written c.args.entity.now.uid c.in_ok-write_uid.ensures) e)
