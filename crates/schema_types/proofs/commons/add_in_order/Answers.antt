use Rattle.schema_types.proofs.commons.add_in_order.Goals as goal

pub loop-place-init : goal.loop-place-init
loop-place-init c = λ commons among h. h

pub loop-place-preserved : goal.loop-place-preserved
loop-place-preserved c = λ commons among h. c.in_ok-add_at.ensures commons among (c.loop-place.invariant commons among h)
