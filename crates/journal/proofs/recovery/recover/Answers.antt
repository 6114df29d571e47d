use Rattle.std.proofs.Common.{◌≡◌, ◌-◌, ℕ, length, true, false, refl, sym, ◌∙◌, subst, Err}
use Rattle.journal.specs.inner.LineFaults.{IsLineFault}
use Rattle.journal.proofs.Recovered.{none_so_far, one_so_far, all_found, torn_by, line_fault, torn_fault}
use Rattle.journal.proofs.recovery.recover.Goals as goal

pub loop-line-init : goal.loop-line-init
loop-line-init g c = record {
  setting = refl;
  unrecorded = refl;
  so_far = none_so_far (g.R.Replica.states (g.R.Replica.setting c.args.replica.now)) g.R.Replica.checked (g.R.Replica.store c.args.replica.now) c.args.file.now;
}

pub loop-line-preserved : goal.loop-line-preserved
loop-line-preserved g c =
    let states = g.R.Replica.states (g.R.Replica.setting c.args.replica.now) in
    let taken = c.in_default-take_line.ensures in
    let us = taken.ok.0 in
    let says : states c.in-Some.line.now us = subst (λ x. g.R.Replica.states x c.in-Some.line.now us) c.loop-line.invariant.setting taken.ok.1 in
    record {
      setting = taken.setting ∙ c.loop-line.invariant.setting;
      unrecorded = taken.unrecorded ∙ c.loop-line.invariant.unrecorded;
      so_far = one_so_far states g.R.Replica.checked _ (g.R.Replica.store c.loop-line.replica) _ c.args.file.now c.loop-line.rest.now c.in-Some.line.now
          c.in-Some.after.now us c.loop-line.invariant.so_far c.in-Some.ensures.0 c.in-Some.ensures.1 says taken.ok.2;
    }

pub returns-clause-ok : goal.returns-clause-ok
returns-clause-ok g c =
    all_found (g.R.Replica.states (g.R.Replica.setting c.args.replica.now)) g.R.Replica.checked _ _ c.args.file.now c.loop-line.rest.now
    c.loop-line.invariant.so_far c.in_default.ensures

pub returns-then-not-is_checked-clause-ok : goal.returns-then-not-is_checked-clause-ok
returns-then-not-is_checked-clause-ok g c =
    let wrong : g.R.Replica.checked c.in-Some.line.now ≡ false = sym c.is_checked.ensures ∙ c.if-not-is_checked.true in
    torn_by (g.R.Replica.states (g.R.Replica.setting c.args.replica.now)) g.R.Replica.checked c.torn_at.result _ _ c.args.file.now c.loop-line.rest.now
    c.in-Some.line.now c.in-Some.after.now _ c.loop-line.invariant.so_far c.in-Some.ensures.0 c.in-Some.ensures.1 wrong c.torn_at.ensures.ok
    c.torn_at.ensures.same refl

pub returns-then-not-is_checked-clause-refused : goal.returns-then-not-is_checked-clause-refused
returns-then-not-is_checked-clause-refused g c =
    let wrong : g.R.Replica.checked c.in-Some.line.now ≡ false = sym c.is_checked.ensures ∙ c.if-not-is_checked.true in
    torn_fault (g.R.Replica.states (g.R.Replica.setting c.args.replica.now)) g.R.Replica.checked c.torn_at.result (g.R.Replica.store c.args.replica.now)
    (g.R.Replica.store c.loop-line.replica) c.args.file.now c.loop-line.rest.now c.in-Some.line.now c.in-Some.after.now _ c.loop-line.invariant.so_far
    c.in-Some.ensures.0 c.in-Some.ensures.1 wrong c.torn_at.ensures.err refl

pub returns-in-Err-clause-refused : goal.returns-in-Err-clause-refused
returns-in-Err-clause-refused g c =
    let right : g.R.Replica.checked c.in-Some.line.now ≡ true = sym c.is_checked.ensures ∙ c.if-not-is_checked.false in
    let at : ℕ = length c.args.file.now - length c.loop-line.rest.now in
    let refused = subst (λ x. IsLineFault (g.R.Replica.states x) c.in-Some.line.now at (Err c.in-Err.fault)) c.loop-line.invariant.setting c.in-Err.ensures.refused in
    line_fault (g.R.Replica.states (g.R.Replica.setting c.args.replica.now)) g.R.Replica.checked c.in-Err.fault (g.R.Replica.store c.args.replica.now)
    (g.R.Replica.store c.loop-line.replica) c.args.file.now c.loop-line.rest.now c.in-Some.line.now c.in-Some.after.now at c.loop-line.invariant.so_far
    c.in-Some.ensures.0 c.in-Some.ensures.1 right refused refl
