use Rattle.std.proofs.Common.{◌≡◌, refl, subst, arith}
use Rattle.std.proofs.lemmas.Result.{err_from_is_err_and}
use Rattle.journal.specs.declared.fault.RecoveryFault.TheVariants.{Failed}
use Rattle.journal.specs.inner.Calls.{Begins}
use Rattle.journal.proofs.Calls.{opening_begun, opening_refused, opening_settled, opening_unsettled}
use Rattle.journal.proofs.recovery.open.Goals as goal

pub returns-in_err-end-clause-opened : goal.returns-in_err-end-clause-opened
returns-in_err-end-clause-opened g c =
    let p = err_from_is_err_and c.from_residual.result c.from_residual.ensures.1 in
    rw (p.1, p.2) (opening_refused g.D.Device.does (g.R.Replica.states (g.R.Replica.setting c.args.replica.now)) g.R.Replica.checked (g.R.Replica.store c.args.replica.now)
    (g.R.Replica.store c.recover.new.replica) c.args.file.now c.args.device.now c.args.device.now c.in_err-end.field-0.0 refl c.in_err-end.ensures.refused)

pub returns-in_err-settle-clause-opened : goal.returns-in_err-settle-clause-opened
returns-in_err-settle-clause-opened g c =
    let p = err_from_is_err_and c.from_residual-in_err-settle.result c.from_residual-in_err-settle.ensures.1 in
    rw (p.1, p.2) (opening_unsettled g.D.Device.does (g.R.Replica.states (g.R.Replica.setting c.args.replica.now)) g.R.Replica.checked (g.R.Replica.store c.args.replica.now)
    (g.R.Replica.store c.recover.new.replica) c.args.file.now c.in_ok-end.end c.in_ok-end.ensures.ok c.args.device.now c.settle.new.device Failed refl
    c.in_err-settle.ensures)

pub returns-then-end-gt0-clause-opened : goal.returns-then-end-gt0-clause-opened
returns-then-end-gt0-clause-opened g c =
    opening_settled g.D.Device.does (g.R.Replica.states (g.R.Replica.setting c.args.replica.now)) g.R.Replica.checked (g.R.Replica.store c.args.replica.now)
    (g.R.Replica.store c.recover.new.replica) c.args.file.now c.in_ok-end.end c.in_ok-end.ensures.ok c.args.device.now c.settle.new.device c.if-end-gt0.true
    c.in_ok-settle.ensures

pub returns-clause-opened : goal.returns-clause-opened
returns-clause-opened g c =
    let none : c.in_ok-end.end ≡ 0 = omega arith in
    let begins = subst (λ x. Begins (g.R.Replica.states x) g.D.Device.does c.settle.new.device c.begin.new.device c.begin.result) c.in_ok-end.ensures.setting c.begin.ensures in
    opening_begun g.D.Device.does (g.R.Replica.states (g.R.Replica.setting c.args.replica.now)) g.R.Replica.checked (g.R.Replica.store c.args.replica.now)
    (g.R.Replica.store c.recover.new.replica) c.args.file.now c.in_ok-end.end c.in_ok-end.ensures.ok c.args.device.now c.settle.new.device c.begin.new.device
    c.begin.result none c.in_ok-settle.ensures begins
