use Rattle.std.proofs.Common.{rules}
use Rattle.weirbowl.proofs.Slots.{opened, not_opened, lacks}
use Rattle.weirbowl.proofs.slot_calls.open_slot.Goals as goal

pub returns-in-Ok-new : goal.returns-in-Ok-new
returns-in-Ok-new c =
    opened _ _ _ c.in-Ok.site _ (search rules) (search rules) c.in-Ok.ensures.opened

pub returns-in-Ok : goal.returns-in-Ok
returns-in-Ok c = lacks _ _ _ (search rules)

pub returns : goal.returns
returns c = not_opened _ _ _ c.in-Err.error _ (search rules) c.in-Err.ensures.failed (search rules)
