use Rattle.std.proofs.Common.{refl, ◌∙◌, arith}
use Rattle.connections.specs.Connections.{committed}
use Rattle.connections.proofs.TableLemmas.{mapped_all, mapped_more}
use Rattle.connections.proofs.table.commit_all.Goals as goal

pub loop-at-init : goal.loop-at-init
loop-at-init c = refl

pub loop-at-preserved : goal.loop-at-preserved
loop-at-preserved c =
    mapped_more committed c.loop-at.at c.args.slots.now c.loop-at.slots c.index-slots-at.result c.commit.new.self c.loop-at.invariant
    (omega (arith, c.loop-at-test.true)) c.commit.ensures

pub returns : goal.returns
returns c = c.loop-at.invariant ∙ mapped_all committed c.loop-at.at c.args.slots.now (omega (arith, c.loop-at-test.false))
