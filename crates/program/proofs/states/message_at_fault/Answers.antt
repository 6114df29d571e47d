use Rattle.std.proofs.Common.{inl, inr, refl}
use Rattle.program.proofs.states.message_at_fault.Goals as goal

pub returns-in-Ok : goal.returns-in-Ok
returns-in-Ok c = inl ((c.in-Ok._line.items, c.in-Ok.ensures.merged.0), refl)

pub returns-in_ok-_other-in-Err : goal.returns-in_ok-_other-in-Err
returns-in_ok-_other-in-Err c = inr ((c.in-Err.refusal, c.in-Err.ensures.refused c.in_ok-_other-in-Err.ensures.other), refl)
