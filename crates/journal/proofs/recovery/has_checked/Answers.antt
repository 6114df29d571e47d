use Rattle.std.proofs.Common.{sym, ◌∙◌}
use Rattle.journal.proofs.Recovered.{none_torn, one_torn, all_torn, one_right}
use Rattle.journal.proofs.recovery.has_checked.Goals as goal

pub loop-line-init : goal.loop-line-init
loop-line-init g c = none_torn g.R.Replica.checked c.args.bytes.now

pub loop-line-preserved : goal.loop-line-preserved
loop-line-preserved g c =
    one_torn g.R.Replica.checked c.args.bytes.now c.loop-line.rest.now c.in-Some.line.now c.in-Some.behind.now c.loop-line.invariant
    c.in-Some.ensures.0 c.in-Some.ensures.1 (sym c.is_checked.ensures ∙ c.if-is_checked.false)

pub returns-then-is_checked : goal.returns-then-is_checked
returns-then-is_checked g c =
    one_right g.R.Replica.checked c.args.bytes.now c.loop-line.rest.now c.in-Some.line.now c.in-Some.behind.now c.loop-line.invariant
    c.in-Some.ensures.0 c.in-Some.ensures.1 (sym c.is_checked.ensures ∙ c.if-is_checked.true)

pub returns : goal.returns
returns g c = all_torn g.R.Replica.checked c.args.bytes.now c.loop-line.rest.now c.loop-line.invariant c.in_default.ensures
