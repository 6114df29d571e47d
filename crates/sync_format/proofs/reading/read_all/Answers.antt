use Rattle.std.proofs.Common.{◌<◌, length, arith}
use Rattle.std.proofs.lemmas.Result.{err_from_is_err_and}
use Rattle.sync_format.proofs.Taking.{next, left_over, taken_more, taken_stops}
use Rattle.sync_format.proofs.reading.read_all.Goals as goal

pub returns-in_err-update-clause-refused : goal.returns-in_err-update-clause-refused
returns-in_err-update-clause-refused g c =
    let es = c.args.entries.items in
    let place = c.loop-place.place in
    let below : place < length es = omega (arith, c.args.entries.ok) in
    let p = err_from_is_err_and c.from_residual-in_err-update.result c.from_residual-in_err-update.ensures.1 in
    rw (p.1, p.2) (λ other. taken_stops (g.B.Readings.reads_policy c.args.bodies.now) (g.B.Readings.reads_entity c.args.bodies.now) (g.B.Bodies.refuses_policy c.args.bodies.now) (g.B.Bodies.refuses_entity c.args.bodies.now)
    es place c.in-Some.entry c.loop-place.updates.items c.in_err-update.field-0.0 below
    (next es c.loop-place.rest.items c.pop_front.new.self.items place c.in-Some.entry below c.loop-place.invariant.left c.in-Some.ensures.items)
    c.loop-place.invariant.taken (c.in_err-update.ensures.refused other))

pub loop-place-preserved : goal.loop-place-preserved
loop-place-preserved g c =
    let es = c.args.entries.items in
    let place = c.loop-place.place in
    let below : place < length es = omega (arith, c.args.entries.ok) in
    record {
      taken = rw c.in_ok-push.ensures.items (taken_more (g.B.Readings.reads_policy c.args.bodies.now) (g.B.Readings.reads_entity c.args.bodies.now) es place c.in-Some.entry c.loop-place.updates.items c.in_ok-update.update below
          (next es c.loop-place.rest.items c.pop_front.new.self.items place c.in-Some.entry below c.loop-place.invariant.left c.in-Some.ensures.items)
          c.loop-place.invariant.taken c.in_ok-update.ensures.read);
      left = left_over es c.loop-place.rest.items c.pop_front.new.self.items place c.in-Some.entry below c.loop-place.invariant.left c.in-Some.ensures.items;
    }
