use Rattle.std.proofs.Common.{rules}
use Rattle.weirbowl.proofs.Slots.{called}
use Rattle.weirbowl.proofs.slot_calls.call_slot.Goals as goal

pub returns : goal.returns
returns c =
    called _ c.take-boxed.result.value c.call-status.new.self _ c.call-status.result _ _ _ _ (search rules) (search rules)
    (search rules) (search rules) (search rules)
