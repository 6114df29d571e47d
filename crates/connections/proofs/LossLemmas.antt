-- A connection whose last reply was lost.
use Rattle.std.proofs.Common.{◌≡◌, Bool, true, false, inl, inr, refl}
use Rattle.connections.specs.Connections.{Change, Connection, IsChange}
use Rattle.connections.specs.Connections.{Opened, Reserved, Came, Ended, Asked, Lacked, Answered, Logged, CutOff, Took, Gone}
use Rattle.connections.specs.Losses.{LostRepliesEnd}
use Rattle.connections.specs.declared.slot.Reason.TheVariants as Reasons
use Rattle.connections.specs.declared.slot.Stage.{Stage}
use Rattle.connections.specs.declared.slot.Stage.TheVariants as Stages

not_both : (b : Bool) → b ≡ true → b ≡ false → ⊥
not_both b h g = cc

no_other : {s : Stage} → s ≡ Stages.Uncommitted → s ≡ Stages.Unlogged → ⊥
no_other h g = cc

no_log_uncommitted : {s : Stage} → s ≡ Stages.Uncommitted → s ≡ Stages.Logged → ⊥
no_log_uncommitted h g = cc

no_commit_uncommitted : {s : Stage} → s ≡ Stages.Uncommitted → s ≡ Stages.Committed → ⊥
no_commit_uncommitted h g = cc

no_log_unlogged : {s : Stage} → s ≡ Stages.Unlogged → s ≡ Stages.Logged → ⊥
no_log_unlogged h g = cc

no_commit_unlogged : {s : Stage} → s ≡ Stages.Unlogged → s ≡ Stages.Committed → ⊥
no_commit_unlogged h g = cc

uncommitted : (change : Change) (a b : Connection) → a.is_open ≡ true → a.stage ≡ Stages.Uncommitted
    → IsChange change a b → change ≡ Gone Reasons.Uncommitted
uncommitted (Opened now) a b h s i = absurd (not_both a.is_open h i.0)
uncommitted (Reserved now) a b h s i = absurd (no_log_uncommitted s i.0.answers.logged)
uncommitted (Came bytes now) a b h s i = absurd (no_log_uncommitted s i.0.answers.logged)
uncommitted Ended a b h s i = absurd (no_log_uncommitted s i.0.answers.logged)
uncommitted (Asked now) a b h s i = elim i.0 [ inl may ↦ absurd (no_log_uncommitted s may.answers.logged) | inr may ↦ absurd (no_log_uncommitted s may.1) ]
uncommitted (Lacked needed) a b h s i = absurd (no_log_uncommitted s i.0.logged)
uncommitted (Answered request closes reply line) a b h s i = absurd (no_log_uncommitted s i.0.logged)
uncommitted (Logged line) a b h s i = absurd (no_commit_uncommitted s i.0)
uncommitted (CutOff line) a b h s i = absurd (no_commit_uncommitted s i.0)
uncommitted (Took bytes now) a b h s i = absurd (no_log_uncommitted s i.1)
uncommitted (Gone Reasons.Over) a b h s i = absurd (no_log_uncommitted s i.1.logged)
uncommitted (Gone Reasons.Broken) a b h s i =
    elim i.1 [ inl may ↦ absurd (no_log_uncommitted s may.answers.logged) | inr may ↦ absurd (no_log_uncommitted s may.1) ]
uncommitted (Gone Reasons.NoMemory) a b h s i = absurd (no_log_uncommitted s i.1.answers.logged)
uncommitted (Gone Reasons.Unlogged) a b h s i = absurd (no_other s i.1)
uncommitted (Gone Reasons.Uncommitted) a b h s i = refl
uncommitted (Gone (Reasons.Expired idle)) a b h s i = absurd (no_log_uncommitted s i.1.0)
uncommitted (Gone Reasons.MadeRoom) a b h s i = absurd (no_log_uncommitted s i.1.0)
uncommitted (Gone Reasons.Crowded) a b h s i = absurd (no_log_uncommitted s i.1.0)

unlogged : (change : Change) (a b : Connection) → a.is_open ≡ true → a.stage ≡ Stages.Unlogged
    → IsChange change a b → change ≡ Gone Reasons.Unlogged
unlogged (Opened now) a b h s i = absurd (not_both a.is_open h i.0)
unlogged (Reserved now) a b h s i = absurd (no_log_unlogged s i.0.answers.logged)
unlogged (Came bytes now) a b h s i = absurd (no_log_unlogged s i.0.answers.logged)
unlogged Ended a b h s i = absurd (no_log_unlogged s i.0.answers.logged)
unlogged (Asked now) a b h s i = elim i.0 [ inl may ↦ absurd (no_log_unlogged s may.answers.logged) | inr may ↦ absurd (no_log_unlogged s may.1) ]
unlogged (Lacked needed) a b h s i = absurd (no_log_unlogged s i.0.logged)
unlogged (Answered request closes reply line) a b h s i = absurd (no_log_unlogged s i.0.logged)
unlogged (Logged line) a b h s i = absurd (no_commit_unlogged s i.0)
unlogged (CutOff line) a b h s i = absurd (no_commit_unlogged s i.0)
unlogged (Took bytes now) a b h s i = absurd (no_log_unlogged s i.1)
unlogged (Gone Reasons.Over) a b h s i = absurd (no_log_unlogged s i.1.logged)
unlogged (Gone Reasons.Broken) a b h s i =
    elim i.1 [ inl may ↦ absurd (no_log_unlogged s may.answers.logged) | inr may ↦ absurd (no_log_unlogged s may.1) ]
unlogged (Gone Reasons.NoMemory) a b h s i = absurd (no_log_unlogged s i.1.answers.logged)
unlogged (Gone Reasons.Unlogged) a b h s i = refl
unlogged (Gone Reasons.Uncommitted) a b h s i = absurd (no_other i.1 s)
unlogged (Gone (Reasons.Expired idle)) a b h s i = absurd (no_log_unlogged s i.1.0)
unlogged (Gone Reasons.MadeRoom) a b h s i = absurd (no_log_unlogged s i.1.0)
unlogged (Gone Reasons.Crowded) a b h s i = absurd (no_log_unlogged s i.1.0)

pub lost_replies_end : LostRepliesEnd
lost_replies_end = record { uncommitted = uncommitted; unlogged = unlogged }
