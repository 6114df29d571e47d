use Rattle.std.proofs.Common.{get_or, arith}
use Rattle.std.proofs.lemmas.Option.{slice_get-get_or}
use Rattle.connections.specs.Connections.{Reserved}
use Rattle.connections.proofs.TableLemmas.{written}
use Rattle.connections.proofs.table.reserve.Goals as goal

pub returns-clause-ok : goal.returns-clause-ok
returns-clause-ok c =
    let d = c.index-slots-at.result in
    let here = slice_get-get_or c.args.slots.now c.args.at d (omega (arith, c.if-at-slots.false)) in
    let may = c.may_reserve.ensures.yes c.if-not-may_reserve.false (get_or c.args.slots.now c.args.at d) here in
    written c.args.at (Reserved c.args.now) c.args.slots.now d c.reserve.new.self (omega (arith, c.if-at-slots.false)) (c.in_ok-reserve.ensures.ok) may.1
