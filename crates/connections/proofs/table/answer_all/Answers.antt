use Rattle.std.proofs.Common.{◌≡◌, ◌≤◌, ◌<◌, ◌+◌, ◌⊎◌, ◌∙◌, Bool, false, inl, inr, refl, sym, subst, length, arith}
use Rattle.std.specs.Prelude.{IsTrue, IsFalse}
use Rattle.std.proofs.lemmas.Bool.{cases_lt}
use Rattle.connections.proofs.RoundLemmas.{SoFar, start, idle_turn, idle_unsent, answered, quiet, rounded}
use Rattle.connections.proofs.table.answer_all.Goals as goal
use Rattle.connections.proofs.table.answer_all.Goals.{then-turn_at, else-turn_at}

pub loop-at-init : goal.loop-at-init
loop-at-init g c =
    let s = g.S.Service in
    record {
      so = start s.answers s.lines s.commits s.commit_fails s.is_unfinished c.args.from c.args.slots.now c.args.service.now c.requires;
      within = inl (omega arith);
      full = c.is_full-full.ensures.yes;
      not_full = c.is_full-full.ensures.no;
    }

pub turn_at-requires-clause-needs : goal.turn_at-requires-clause-needs
turn_at-requires-clause-needs g c = c.loop-at.invariant.so.needs

pub turn_at-requires-clause-room : goal.turn_at-requires-clause-room
turn_at-requires-clause-room g c = c.loop-at.invariant.not_full c.if-full.false

not_both : (b : Bool) → b ≡ false → IsTrue b → ⊥
not_both b h g = cc

pub loop-at-preserved : goal.loop-at-preserved
loop-at-preserved g c =
    let s = g.S.Service in
    let table = c.args.slots.now in
    let old = c.args.service.now in
    let was = c.loop-at.invariant in
    elim c.if-turn_at.branch [
      | then-turn_at w ↦
          let done = c.turn_at.ensures.answered w.if-turn_at.true in record {
            so = subst (λ (b : Bool). SoFar s.answers s.lines s.commits s.commit_fails s.is_unfinished c.args.from table old (c.loop-at.at + 1) b c.turn_at.new.slots c.turn_at.new.service) (sym w.any-is)
                (answered s.answers s.lines s.commits s.commit_fails s.is_unfinished c.args.from table old c.requires.settled c.loop-at.at c.loop-at.auto.at c.loop-at.any c.loop-at.slots c.turn_at.new.slots c.loop-at.service c.turn_at.new.service done.0 done.1 done.2 done.3 was.so done.4 done.5);
            within = inr (omega (arith, c.loop-at-test.true));
            full = λ is. w.is_full-full-then-turn_at.ensures.yes (subst (λ (b : Bool). IsTrue b) w.full-is is);
            not_full = λ is. w.is_full-full-then-turn_at.ensures.no (subst (λ (b : Bool). IsFalse b) w.full-is is);
          }
      | else-turn_at w ↦
          let idle = c.turn_at.ensures.idle w.if-turn_at.false in
          let next = idle_turn s.answers s.lines s.commits s.commit_fails s.is_unfinished c.args.from table old c.loop-at.at c.loop-at.auto.at c.loop-at.any c.loop-at.slots c.turn_at.new.slots c.loop-at.service idle.0.0 was.so idle.0.1 in
          record {
            so = subst (λ (b : Bool). SoFar s.answers s.lines s.commits s.commit_fails s.is_unfinished c.args.from table old (c.loop-at.at + 1) b c.turn_at.new.slots c.turn_at.new.service) (sym w.any-is)
                (subst (λ t. SoFar s.answers s.lines s.commits s.commit_fails s.is_unfinished c.args.from table old (c.loop-at.at + 1) c.loop-at.any c.turn_at.new.slots t) (sym idle.1) next);
            within = inr (omega (arith, c.loop-at-test.true));
            full = λ is. absurd (not_both c.if-turn_at.full (w.full-is ∙ c.if-full.false) is);
            not_full = λ is.
                omega (arith, idle_unsent s.is_unfinished c.loop-at.at c.loop-at.slots c.turn_at.new.slots idle.0.0 idle.0.1, was.not_full c.if-full.false);
          }
    ]

pub returns-then-full-clause-turns : goal.returns-then-full-clause-turns
returns-then-full-clause-turns g c =
    let s = g.S.Service in
    let so = c.loop-at.invariant.so in
    let at = c.loop-at.at in (
      so.entries,
      so.changes,
      so.chain,
      so.all,
      rounded s.answers s.lines s.commits s.commit_fails s.is_unfinished c.args.from c.args.slots.now c.args.service.now at at c.loop-at.any c.loop-at.slots c.loop-at.service so (omega arith) (λ k beyond. inr beyond)
          (inr (refl, omega (arith, c.loop-at-test.true), c.loop-at.invariant.full c.if-full.true)),
      so.logged,
      λ idle. (so.idle idle).0,
      so.busy,
    )

pub returns-then-full-clause-made : goal.returns-then-full-clause-made
returns-then-full-clause-made g c = c.loop-at.invariant.so.made

pub returns-then-full-clause-needs : goal.returns-then-full-clause-needs
returns-then-full-clause-needs g c = c.loop-at.invariant.so.needs

pub returns-then-full-clause-settled : goal.returns-then-full-clause-settled
returns-then-full-clause-settled g c idle = (c.loop-at.invariant.so.idle idle).1

pub returns-then-full-clause-quiet : goal.returns-then-full-clause-quiet
returns-then-full-clause-quiet g c idle zero whole =
    let s = g.S.Service in
    quiet s.answers s.lines s.commits s.commit_fails s.is_unfinished c.args.from c.args.slots.now c.args.service.now c.loop-at.at c.loop-at.any c.loop-at.slots c.loop-at.service c.loop-at.invariant.so idle zero
    (omega (arith, whole))

pub returns-clause-turns : goal.returns-clause-turns
returns-clause-turns g c =
    let s = g.S.Service in
    let so = c.loop-at.invariant.so in
    let at = c.loop-at.at in
    let from = c.args.from in
    let end = length c.loop-at.slots in (
      so.entries,
      so.changes,
      so.chain,
      so.all,
      rounded s.answers s.lines s.commits s.commit_fails s.is_unfinished from c.args.slots.now c.args.service.now at end c.loop-at.any c.loop-at.slots c.loop-at.service so (omega (arith, c.loop-at-test.false))
          (λ k beyond.
          let which : (k < from) ⊎ (at ≤ k) = elim (cases_lt k from) [
            | inl less ↦ inl less
            | inr more ↦ inr (elim c.loop-at.invariant.within [ inl a ↦ omega (arith, a) | inr a ↦ omega (arith, a) ])
          ] in which) (inl (omega arith)),
      so.logged,
      λ idle. (so.idle idle).0,
      so.busy,
    )

pub returns-clause-made : goal.returns-clause-made
returns-clause-made g c = c.loop-at.invariant.so.made

pub returns-clause-needs : goal.returns-clause-needs
returns-clause-needs g c = c.loop-at.invariant.so.needs

pub returns-clause-settled : goal.returns-clause-settled
returns-clause-settled g c idle = (c.loop-at.invariant.so.idle idle).1

pub returns-clause-quiet : goal.returns-clause-quiet
returns-clause-quiet g c idle zero whole =
    let s = g.S.Service in
    quiet s.answers s.lines s.commits s.commit_fails s.is_unfinished c.args.from c.args.slots.now c.args.service.now c.loop-at.at c.loop-at.any c.loop-at.slots c.loop-at.service c.loop-at.invariant.so idle zero
    (omega (arith, c.loop-at-test.false))
