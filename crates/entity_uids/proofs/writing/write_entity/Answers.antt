use Rattle.entity_uids.proofs.Adding.{one, then, joined}
use Rattle.entity_uids.proofs.writing.write_entity.Goals as goal

pub returns : goal.returns
returns c =
    joined (then (one c.in_ok-begin_object.ensures) c.in_ok-key.ensures) (joined c.in_ok-write_uid.ensures (one c.in_ok-end_object.ensures))
