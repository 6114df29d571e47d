use Rattle.std.proofs.Common.{◌∙◌, ℕ, List, ◌∷◌, take, get_or, ap, arith, eq-eqb}
use Rattle.program_drills.specs.Lines.{lines}
use Rattle.program_drills.proofs.Splitting.{ended_at, never_ended, rest_of, none_left}
use Rattle.program_drills.proofs.split.first_line.Goals as goal

pub returns-then-bytes-at-eq10-clause-lines : goal.returns-then-bytes-at-eq10-clause-lines
returns-then-bytes-at-eq10-clause-lines c =
    ended_at c.args.bytes.now c.loop-at.at c.loop-at-test.true c.loop-at.invariant (eq-eqb (get_or c.args.bytes.now c.loop-at.at 0) 10 c.if-bytes-at-eq10.true)
    ∙ ap (λ (l : List ℕ). take c.loop-at.at c.args.bytes.now ∷ lines l) (rest_of c.args.bytes.now c.loop-at.at)

pub returns-clause-lines : goal.returns-clause-lines
returns-clause-lines c =
    never_ended c.args.bytes.now c.requires (λ k h. c.loop-at.invariant k (omega (arith, h, c.loop-at-test.false)))
    ∙ ap (λ (l : List ℕ). c.args.bytes.now ∷ lines l) (none_left c.args.bytes.now)
