use Rattle.std.proofs.Common.{inl, inr, refl, arith}
use Rattle.explanations.proofs.Joining.{is_token_named, no_token_named}
use Rattle.explanations.proofs.unread.cause_at.Goals as goal
use Rattle.explanations.proofs.unread.cause_at.Goals.{in_default-via-then-code-lt11, in_default-via-else-code-lt11+else-code-lt17}

pub returns-in-11-to-16 : goal.returns-in-11-to-16
returns-in-11-to-16 c = inr (inl (is_token_named c.args.code (omega arith) (omega arith), c.if-at-text.true, c.part_of.ensures))

pub returns-in-11-to-16-2 : goal.returns-in-11-to-16-2
returns-in-11-to-16-2 c = inr (inr (is_token_named c.args.code (omega arith) (omega arith), c.if-at-text.false, refl))

pub returns-in_default : goal.returns-in_default
returns-in_default c =
    inl (no_token_named c.args.code (elim c.in_default.branch [ in_default-via-then-code-lt11 w ↦ inl (omega arith) | in_default-via-else-code-lt11+else-code-lt17 w ↦ inr (omega arith) ]), refl)
