use Rattle.std.proofs.Common.{[], refl, sym, subst, true, false}
use Rattle.std.proofs.lemmas.Result.{err_from_is_err_and}
use Rattle.journal.specs.Records.{IsEntryOf}
use Rattle.journal.proofs.Calls.{commit_made}
use Rattle.journal.proofs.rounds.commit.Goals as goal

pub returns-in_err-put_entry-clause-calls : goal.returns-in_err-put_entry-clause-calls
returns-in_err-put_entry-clause-calls g c =
    let p = err_from_is_err_and c.from_residual.result c.from_residual.ensures.1 in
    rw (p.1, p.2) ([], refl, refl)

pub returns-in_err-record-clause-calls : goal.returns-in_err-record-clause-calls
returns-in_err-record-clause-calls g c =
    let p = err_from_is_err_and c.from_residual-in_err-record.result c.from_residual-in_err-record.ensures.1 in
    let states = g.R.Replica.states (g.R.Replica.setting c.args.replica.now) in
    let us = g.R.Replica.unrecorded c.args.replica.now in
    let is = subst (IsEntryOf states us) (sym c.deref.ensures.value) c.in_ok-put_entry.ensures.ok in
    rw (p.1, p.2) (commit_made g.D.Device.does states us c.deref.result.now c.args.device.now c.record.new.device false is c.in_err-record.ensures)

pub returns-clause-calls : goal.returns-clause-calls
returns-clause-calls g c =
    let states = g.R.Replica.states (g.R.Replica.setting c.args.replica.now) in
    let us = g.R.Replica.unrecorded c.args.replica.now in
    let is = subst (IsEntryOf states us) (sym c.deref.ensures.value) c.in_ok-put_entry.ensures.ok in
    commit_made g.D.Device.does states us c.deref.result.now c.args.device.now c.record.new.device true is c.in_ok-record.ensures
