use Rattle.std.proofs.Common.{arith}
use Rattle.schema_types.proofs.EndsFirst.{not_new, new_at}
use Rattle.schema_types.proofs.place_order.mark.Goals as goal

pub returns-then-place-len-clause-new : goal.returns-then-place-len-clause-new
returns-then-place-len-clause-new c = not_new c.args.seen.now.items c.args.place (omega (arith, c.if-place-len.true, c.len.ensures, c.args.seen.now.ok.0, c.args.seen.now.ok.1))

pub returns-clause-new : goal.returns-clause-new
returns-clause-new c = new_at c.args.seen.now.items c.args.place c.index-was_seen.result.now (omega (arith, c.if-place-len.false, c.len.ensures, c.args.seen.now.ok.0, c.args.seen.now.ok.1)) c.index-was_seen.ensures
