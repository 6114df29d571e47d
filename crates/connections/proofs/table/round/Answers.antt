use Rattle.std.proofs.Common.{◌≡◌, [], List, Bool, true, false, not, refl, sym, subst}
use Rattle.std.specs.Prelude.{IsTrue, IsFalse}
use Rattle.connections.specs.Rounds.{AreNeeded, AreSettled}
use Rattle.connections.specs.Steps.{AreLogged, Line}
use Rattle.connections.specs.inner.Waiting.{AreAllCommitted, waiting}
use Rattle.connections.proofs.ReadyLemmas.{needed_after_commit, needed_after_failure, needed_after_lines}
use Rattle.connections.proofs.WaitingLemmas.{all_committed, failed_are_settled, none_waiting}
use Rattle.connections.proofs.WholeRounds.{failed_round, quiet_round, whole_round}
use Rattle.connections.proofs.table.round.Goals as goal

not_any : (b : Bool) → not b ≡ true → IsFalse b
not_any true h = absurd (cc)
not_any false h = refl

is_any : (b : Bool) → not b ≡ false → IsTrue b
is_any true h = refl
is_any false h = absurd (cc)

pub returns-then-not-turns-clause-turns : goal.returns-then-not-turns-clause-turns
returns-then-not-turns-clause-turns g c =
    let s = g.S.Service in
    let turns = c.answer_all-turns.ensures.turns in
    let none = none_waiting 0 c.answer_all-turns.new.slots (c.answer_all-turns.ensures.settled (not_any c.answer_all-turns.result.any c.if-not-turns.true)) in
    quiet_round s.answers s.lines s.commits s.commit_fails g.L.Log.writes g.L.Log.cuts s.is_unfinished c.args.from c.answer_all-turns.result.end c.args.slots.now c.args.service.now c.args.log.now
    turns.0 c.answer_all-turns.new.slots c.answer_all-turns.new.service turns.1 turns.2 turns.3 turns.4
    (subst (λ (t : List Line). AreLogged turns.0 [] t) none turns.5) (turns.6 (not_any c.answer_all-turns.result.any c.if-not-turns.true))

pub returns-then-not-turns-clause-ready : goal.returns-then-not-turns-clause-ready
returns-then-not-turns-clause-ready g c =
    record { settled = c.answer_all-turns.ensures.settled (not_any c.answer_all-turns.result.any c.if-not-turns.true); needs = c.answer_all-turns.ensures.needs }

pub returns-in_default-clause-turns : goal.returns-in_default-clause-turns
returns-in_default-clause-turns g c =
    let s = g.S.Service in
    let turns = c.answer_all-turns.ensures.turns in
    failed_round s.answers s.lines s.commits s.commit_fails g.L.Log.writes g.L.Log.cuts s.is_unfinished c.args.from c.answer_all-turns.result.end c.args.slots.now c.args.service.now c.args.log.now
    turns.0 c.answer_all-turns.new.slots c.fail_all.new.slots c.answer_all-turns.new.service c.commit.new.self (waiting 0 c.answer_all-turns.new.slots)
    turns.1 turns.2 turns.3 turns.4 turns.5 (turns.7 (is_any c.answer_all-turns.result.any c.if-not-turns.false)) c.in_default.ensures.err c.fail_all.ensures

pub returns-in_default-clause-ready : goal.returns-in_default-clause-ready
returns-in_default-clause-ready g c = record {
  settled = subst AreSettled (sym c.fail_all.ensures) (failed_are_settled c.answer_all-turns.new.slots c.answer_all-turns.ensures.made);
  needs = subst (AreNeeded g.S.Service.is_unfinished) (sym c.fail_all.ensures)
      (needed_after_failure g.S.Service.is_unfinished c.answer_all-turns.new.slots c.answer_all-turns.ensures.needs);
}

pub log_all-requires : goal.log_all-requires
log_all-requires g c = subst AreAllCommitted (sym c.commit_all.ensures) (all_committed c.answer_all-turns.new.slots)

pub returns-clause-turns : goal.returns-clause-turns
returns-clause-turns g c =
    let s = g.S.Service in
    let turns = c.answer_all-turns.ensures.turns in
    let lines = c.log_all.ensures.lines in
    whole_round s.answers s.lines s.commits s.commit_fails g.L.Log.writes g.L.Log.cuts s.is_unfinished c.args.from c.answer_all-turns.result.end c.args.slots.now c.args.service.now c.args.log.now
    turns.0 lines.0 c.answer_all-turns.new.slots c.commit_all.new.slots c.log_all.new.slots c.answer_all-turns.new.service c.commit.new.self c.log_all.new.log
    turns.1 turns.2 turns.3 turns.4 turns.5 (turns.7 (is_any c.answer_all-turns.result.any c.if-not-turns.false)) c.in-Ok.ensures.ok c.commit_all.ensures lines.1 lines.2 lines.3 lines.4

pub returns-clause-ready : goal.returns-clause-ready
returns-clause-ready g c =
    let lines = c.log_all.ensures.lines in
    record {
      settled = c.log_all.ensures.settled;
      needs = needed_after_lines g.S.Service.is_unfinished lines.0 c.commit_all.new.slots c.log_all.new.slots lines.3 lines.1
          (subst (AreNeeded g.S.Service.is_unfinished) (sym c.commit_all.ensures)
          (needed_after_commit g.S.Service.is_unfinished c.answer_all-turns.new.slots c.answer_all-turns.ensures.needs));
    }
