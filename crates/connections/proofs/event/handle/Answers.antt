use Rattle.std.proofs.Common.{refl, sym, subst, List, ℕ}
use Rattle.connections.specs.Connections.{Opened, Reserved, Came, Ended, Asked, Gone, MayAsk, MayRead}
use Rattle.connections.specs.Made.{IsFree, IsMade, MayEnd, MayReadBytes, MayReserve}
use Rattle.connections.specs.Runs.{IsCause}
use Rattle.connections.specs.Steps.{Notes, Steps}
use Rattle.connections.specs.declared.event.Event.{Event}
use Rattle.connections.proofs.HandleLemmas.{gone_leads, gone_ready, made, made_ready, took, took_ready}
use Rattle.connections.proofs.event.handle.Goals as goal

pub returns-in-Accepted-clause-ok : goal.returns-in-Accepted-clause-ok
returns-in-Accepted-clause-ok g c =
    let s = g.S.Service in
    let x = made (Steps s.answers s.lines s.commits s.commit_fails) (Notes g.L.Log.writes g.L.Log.cuts) c.args.slots.now c.open.new.slots c.args.service.now c.args.log.now c.in-Accepted.at (Opened c.in-Accepted.now) IsFree c.open.result refl refl refl c.open.ensures in
    record { entries = x.0; leads = x.1; cause = subst (λ (e : Event). IsCause s.is_unfinished e c.args.slots.now x.0 c.open.new.slots) (sym c.in-Accepted.is) x.2 }

pub returns-in-Accepted-clause-ready : goal.returns-in-Accepted-clause-ready
returns-in-Accepted-clause-ready g c =
    made_ready g.S.Service.is_unfinished c.tables_are_ready.ensures c.open.result c.in-Accepted.at (Opened c.in-Accepted.now) IsFree c.args.slots.now c.open.new.slots (λ n. n) c.open.ensures c.requires

pub returns-in_ok-reserve-in-Readied-clause-ok : goal.returns-in_ok-reserve-in-Readied-clause-ok
returns-in_ok-reserve-in-Readied-clause-ok g c =
    let s = g.S.Service in
    let x = made (Steps s.answers s.lines s.commits s.commit_fails) (Notes g.L.Log.writes g.L.Log.cuts) c.args.slots.now c.reserve.new.slots c.args.service.now c.args.log.now c.in-Readied.at (Reserved c.in-Readied.now) (MayReserve c.args.slots.now) c.in_ok-reserve-in-Readied.field-0 refl refl refl c.in_ok-reserve-in-Readied.ensures.ok in
    record { entries = x.0; leads = x.1; cause = subst (λ (e : Event). IsCause s.is_unfinished e c.args.slots.now x.0 c.reserve.new.slots) (sym c.in-Readied.is) x.2 }

pub returns-in_ok-reserve-in-Readied-clause-ready : goal.returns-in_ok-reserve-in-Readied-clause-ready
returns-in_ok-reserve-in-Readied-clause-ready g c =
    made_ready g.S.Service.is_unfinished c.tables_are_ready.ensures c.in_ok-reserve-in-Readied.field-0 c.in-Readied.at (Reserved c.in-Readied.now) (MayReserve c.args.slots.now) c.args.slots.now c.reserve.new.slots (λ n. n) c.in_ok-reserve-in-Readied.ensures.ok c.requires

pub returns-in-Arrived-clause-ok : goal.returns-in-Arrived-clause-ok
returns-in-Arrived-clause-ok g c =
    let s = g.S.Service in
    let is : IsMade c.arrive.result c.in-Arrived.at (Came c.in-Arrived.bytes.items c.in-Arrived.now) (MayReadBytes c.in-Arrived.bytes.items) c.args.slots.now c.arrive.new.slots =
    subst (λ (b : List ℕ). IsMade c.arrive.result c.in-Arrived.at (Came b c.in-Arrived.now) (MayReadBytes b) c.args.slots.now c.arrive.new.slots) c.as_slice.ensures.value c.arrive.ensures in
    let x = made (Steps s.answers s.lines s.commits s.commit_fails) (Notes g.L.Log.writes g.L.Log.cuts) c.args.slots.now c.arrive.new.slots c.args.service.now c.args.log.now c.in-Arrived.at (Came c.in-Arrived.bytes.items c.in-Arrived.now) (MayReadBytes c.in-Arrived.bytes.items) c.arrive.result refl refl refl is in
    record { entries = x.0; leads = x.1; cause = subst (λ (e : Event). IsCause s.is_unfinished e c.args.slots.now x.0 c.arrive.new.slots) (sym c.in-Arrived.is) x.2 }

pub returns-in-Arrived-clause-ready : goal.returns-in-Arrived-clause-ready
returns-in-Arrived-clause-ready g c =
    made_ready g.S.Service.is_unfinished c.tables_are_ready.ensures c.arrive.result c.in-Arrived.at (Came c.as_slice.result.now c.in-Arrived.now) (MayReadBytes c.as_slice.result.now) c.args.slots.now c.arrive.new.slots (λ n. n) c.arrive.ensures c.requires

pub returns-in-Finished-clause-ok : goal.returns-in-Finished-clause-ok
returns-in-Finished-clause-ok g c =
    let s = g.S.Service in
    let x = made (Steps s.answers s.lines s.commits s.commit_fails) (Notes g.L.Log.writes g.L.Log.cuts) c.args.slots.now c.end.new.slots c.args.service.now c.args.log.now c.in-Finished.at Ended MayRead c.end.result refl refl refl c.end.ensures in
    record { entries = x.0; leads = x.1; cause = subst (λ (e : Event). IsCause s.is_unfinished e c.args.slots.now x.0 c.end.new.slots) (sym c.in-Finished.is) x.2 }

pub returns-in-Finished-clause-ready : goal.returns-in-Finished-clause-ready
returns-in-Finished-clause-ready g c =
    made_ready g.S.Service.is_unfinished c.tables_are_ready.ensures c.end.result c.in-Finished.at Ended MayRead c.args.slots.now c.end.new.slots (λ n. n) c.end.ensures c.requires

pub returns-in-Waited-clause-ok : goal.returns-in-Waited-clause-ok
returns-in-Waited-clause-ok g c =
    let s = g.S.Service in
    let x = made (Steps s.answers s.lines s.commits s.commit_fails) (Notes g.L.Log.writes g.L.Log.cuts) c.args.slots.now c.ask.new.slots c.args.service.now c.args.log.now c.in-Waited.at (Asked c.in-Waited.now) MayAsk c.ask.result refl refl refl c.ask.ensures in
    record { entries = x.0; leads = x.1; cause = subst (λ (e : Event). IsCause s.is_unfinished e c.args.slots.now x.0 c.ask.new.slots) (sym c.in-Waited.is) x.2 }

pub returns-in-Waited-clause-ready : goal.returns-in-Waited-clause-ready
returns-in-Waited-clause-ready g c =
    made_ready g.S.Service.is_unfinished c.tables_are_ready.ensures c.ask.result c.in-Waited.at (Asked c.in-Waited.now) MayAsk c.args.slots.now c.ask.new.slots (λ n. n) c.ask.ensures c.requires

pub returns-in-Writable-clause-ok : goal.returns-in-Writable-clause-ok
returns-in-Writable-clause-ok g c =
    let s = g.S.Service in
    let x = took (Steps s.answers s.lines s.commits s.commit_fails) (Notes g.L.Log.writes g.L.Log.cuts) c.args.slots.now c.take.new.slots c.args.service.now c.args.log.now c.in-Writable.at c.in-Writable.count c.in-Writable.now c.take.result (λ bytes. refl) (λ bytes. refl) c.take.ensures.took c.take.ensures.none in
    record { entries = x.0; leads = x.1; cause = subst (λ (e : Event). IsCause s.is_unfinished e c.args.slots.now x.0 c.take.new.slots) (sym c.in-Writable.is) x.2 }

pub returns-in-Writable-clause-ready : goal.returns-in-Writable-clause-ready
returns-in-Writable-clause-ready g c =
    took_ready g.S.Service.is_unfinished c.tables_are_ready.ensures c.in-Writable.at c.in-Writable.count c.in-Writable.now c.take.result c.args.slots.now c.take.new.slots c.take.ensures.took c.take.ensures.none c.requires

pub returns-in-Closed-clause-ok : goal.returns-in-Closed-clause-ok
returns-in-Closed-clause-ok g c =
    let s = g.S.Service in
    let x = made (Steps s.answers s.lines s.commits s.commit_fails) (Notes g.L.Log.writes g.L.Log.cuts) c.args.slots.now c.close.new.slots c.args.service.now c.args.log.now c.in-Closed.at (Gone c.in-Closed.why) (MayEnd c.in-Closed.why c.args.slots.now) c.close.result refl refl refl c.close.ensures in
    record { entries = x.0; leads = x.1; cause = subst (λ (e : Event). IsCause s.is_unfinished e c.args.slots.now x.0 c.close.new.slots) (sym c.in-Closed.is) x.2 }

pub returns-in-Closed-clause-ready : goal.returns-in-Closed-clause-ready
returns-in-Closed-clause-ready g c =
    made_ready g.S.Service.is_unfinished c.tables_are_ready.ensures c.close.result c.in-Closed.at (Gone c.in-Closed.why) (MayEnd c.in-Closed.why c.args.slots.now) c.args.slots.now c.close.new.slots (λ n. n) c.close.ensures c.requires

pub returns-in-Round-clause-ok : goal.returns-in-Round-clause-ok
returns-in-Round-clause-ok g c =
    let s = g.S.Service in
    let x = c.round.ensures.turns in
    record {
      entries = x.0;
      leads = x.1;
      cause = subst (λ (e : Event). IsCause s.is_unfinished e c.args.slots.now x.0 c.round.new.slots) (sym c.in-Round.is)
          (c.round.result.outcome, c.round.result.end, x.2, x.3);
    }

pub returns-in-ClosedAll-clause-ok : goal.returns-in-ClosedAll-clause-ok
returns-in-ClosedAll-clause-ok g c =
    let s = g.S.Service in
    let x = c.close_all.ensures in
    record {
      entries = x.0;
      leads = gone_leads s.answers s.lines s.commits s.commit_fails g.L.Log.writes g.L.Log.cuts c.in-ClosedAll.why x.0 c.args.slots.now c.close_all.new.slots
          c.args.service.now c.args.log.now x.1 x.2.all;
      cause = subst (λ (e : Event). IsCause s.is_unfinished e c.args.slots.now x.0 c.close_all.new.slots) (sym c.in-ClosedAll.is) x.2;
    }

pub returns-in-ClosedAll-clause-ready : goal.returns-in-ClosedAll-clause-ready
returns-in-ClosedAll-clause-ready g c =
    let x = c.close_all.ensures in
    gone_ready g.S.Service.is_unfinished c.tables_are_ready.ensures c.in-ClosedAll.why x.0 c.args.slots.now c.close_all.new.slots x.1 x.2.all c.requires
