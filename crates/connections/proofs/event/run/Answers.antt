use Rattle.std.proofs.Common.{◌+◌, append_assoc, get_or, ◌++◌, ◌∷◌, [], List, take, drop, sym, ap, subst, ◌∙◌, Ok, Err}
use Rattle.std.specs.Prelude.{Result, OnErr}
use Rattle.std.proofs.lemmas.List.{take_more, take-append-drop}
use Rattle.connections.specs.Connections.{Connection}
use Rattle.connections.specs.Runs.{IsServed}
use Rattle.connections.specs.Steps.{Notes, Steps}
use Rattle.connections.specs.declared.event.Event.{Event}
use Rattle.connections.proofs.RunLemmas.{served_none, served_more}
use Rattle.connections.proofs.event.run.Goals as goal

on_err : {A E : Type 0} {P : Type 0} (r : Result A E) → P → OnErr r P
on_err (Ok a) p = tt
on_err (Err e) p = p

pub loop-event-init : goal.loop-event-init
loop-event-init g c =
    let s = g.S.Service in record {
      served = served_none (Steps s.answers s.lines s.commits s.commit_fails) (Notes g.L.Log.writes g.L.Log.cuts) s.is_unfinished
          c.stories_fit.ensures c.tables_are_bounded.ensures c.args.slots.now c.args.service.now c.args.log.now;
      ready = c.requires;
    }

pub loop-event-preserved : goal.loop-event-preserved
loop-event-preserved g c =
    let s = g.S.Service in
    let i = c.loop-event.event-index in
    let events : List Event = c.args.events.now in
    let event : Event = c.event-item.result in
    let last = ap (λ (e : Event). take i events ++ e ∷ []) (sym c.event-item.is) in
    record {
      served = subst (λ (t : List Event). IsServed (Steps s.answers s.lines s.commits s.commit_fails) (Notes g.L.Log.writes g.L.Log.cuts) s.is_unfinished t
          c.args.slots.now c.args.service.now c.args.log.now c.handle.new.slots c.handle.new.service c.handle.new.log)
          (sym (take_more events i c.event-item.result c.loop-event-test.true ∙ last))
          (served_more (Steps s.answers s.lines s.commits s.commit_fails) (Notes g.L.Log.writes g.L.Log.cuts) s.is_unfinished
          c.stories_fit.ensures c.tables_are_bounded.ensures (take i events) event c.args.slots.now c.args.service.now c.args.log.now
          c.loop-event.slots c.loop-event.service c.loop-event.log c.handle.new.slots c.handle.new.service c.handle.new.log
          c.loop-event.invariant.served c.in_ok-handle.ensures.ok);
      ready = c.handle.ensures.ready;
    }

pub returns-in_err-handle-clause-err : goal.returns-in_err-handle-clause-err
returns-in_err-handle-clause-err g c =
    let s = g.S.Service in
    let i = c.loop-event.event-index in
    let events : List Event = c.args.events.now in
    let same = c.in_err-handle.ensures.err in
    let reading = c.in_err-handle.ensures.reading in
    on_err c.from_residual.result (
      take i events,
      drop (i + 1) events,
      reading.0,
      reading.1,
      sym (take-append-drop (i + 1) events)
          ∙ ap (λ (t : List Event). t ++ drop (i + 1) events) (take_more events i c.event-item.result c.loop-event-test.true)
          ∙ append_assoc (take i events) (get_or events i c.event-item.result ∷ []) (drop (i + 1) events)
          ∙ ap (λ (e : Event). take i events ++ e ∷ drop (i + 1) events) (sym c.event-item.is ∙ reading.2),
      subst (λ (t : List Connection). IsServed (Steps s.answers s.lines s.commits s.commit_fails) (Notes g.L.Log.writes g.L.Log.cuts) s.is_unfinished (take i events)
          c.args.slots.now c.args.service.now c.args.log.now t c.handle.new.service c.handle.new.log) (sym same.0)
          (subst (λ t. IsServed (Steps s.answers s.lines s.commits s.commit_fails) (Notes g.L.Log.writes g.L.Log.cuts) s.is_unfinished (take i events)
          c.args.slots.now c.args.service.now c.args.log.now c.loop-event.slots t c.handle.new.log) (sym same.1)
          (subst (λ t. IsServed (Steps s.answers s.lines s.commits s.commit_fails) (Notes g.L.Log.writes g.L.Log.cuts) s.is_unfinished (take i events)
          c.args.slots.now c.args.service.now c.args.log.now c.loop-event.slots c.loop-event.service t) (sym same.2)
          c.loop-event.invariant.served)),
    )
