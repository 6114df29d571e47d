use Rattle.std.proofs.Common.{refl, arith, get_or, take}
use Rattle.std.proofs.lemmas.List.{set-get_or}
use Rattle.connections.specs.Connections.{Took}
use Rattle.connections.specs.Made.{MayTakeSome}
use Rattle.std.proofs.lemmas.Option.{slice_get-get_or}
use Rattle.connections.proofs.TableLemmas.{none_at, written}
use Rattle.connections.proofs.table.take.Goals as goal

pub returns-then-not-may_take_some-clause-none : goal.returns-then-not-may_take_some-clause-none
returns-then-not-may_take_some-clause-none c _ = (
  set-get_or c.args.slots.now c.args.at c.index-slots-at.result,
  none_at (MayTakeSome c.args.count) c.args.slots.now c.args.at c.index-slots-at.result (omega (arith, c.if-at-slots.false)) (λ h. c.if-not-may_take_some.ensures.may_not refl h),
)

pub returns-clause-took : goal.returns-clause-took
returns-clause-took c _ =
    let a = get_or c.args.slots.now c.args.at c.index-slots-at.result in (
      a,
      slice_get-get_or c.args.slots.now c.args.at c.index-slots-at.result (omega (arith, c.if-at-slots.false)),
      written c.args.at (Took (take c.args.count a.output) c.args.now) c.args.slots.now c.index-slots-at.result c.take.new.self (omega (arith, c.if-at-slots.false)) c.take.ensures tt,
    )
