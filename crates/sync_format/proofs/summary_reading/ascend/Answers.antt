use Rattle.std.proofs.Common.{refl, arith}
use Rattle.sync_format.proofs.Ascending.{goes_on, stops, ends}
use Rattle.sync_format.proofs.summary_reading.ascend.Goals as goal

pub loop-place-init : goal.loop-place-init
loop-place-init c = record { from = omega arith; so = refl }

pub returns-then-not-comes_before : goal.returns-then-not-comes_before
returns-then-not-comes_before c =
    stops c.args.stamps.now c.loop-place.place c.index-stamps-place.result c.index-stamps-place-in-loop-place.result c.comes_before.result
    c.loop-place.invariant.from c.loop-place-test.true c.index-stamps-place.is c.index-stamps-place-in-loop-place.is
    c.comes_before.ensures c.if-not-comes_before.true c.loop-place.invariant.so

pub loop-place-preserved : goal.loop-place-preserved
loop-place-preserved c = record {
  from = omega (arith, c.loop-place.invariant.from);
  so = goes_on c.args.stamps.now c.loop-place.place c.index-stamps-place.result c.index-stamps-place-in-loop-place.result c.comes_before.result
      c.loop-place.invariant.from c.loop-place-test.true c.index-stamps-place.is c.index-stamps-place-in-loop-place.is
      c.comes_before.ensures c.if-not-comes_before.false c.loop-place.invariant.so;
}

pub returns : goal.returns
returns c = ends c.args.stamps.now c.loop-place.place c.loop-place.invariant.from c.loop-place-test.false c.loop-place.invariant.so
