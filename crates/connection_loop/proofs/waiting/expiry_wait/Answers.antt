use Rattle.std.proofs.Common.{refl}
use Rattle.connections.specs.Limits.{IsOneOver}
use Rattle.connections.specs.declared.slot.Limit.TheVariants as Over
use Rattle.connection_loop.specs.Turns.{IsLimited}
use Rattle.connection_loop.proofs.WaitLemmas.{first_where}
use Rattle.connection_loop.proofs.waiting.expiry_wait.Goals as goal

pub returns : goal.returns
returns c =
    first_where c.args.now (IsLimited c.args.limits.now c.args.slots.now) (IsOneOver (Over.Expiry c.args.limits.now.idle) c.args.slots.now) c.next_wait.result
    (c.if-not-is_limited.ensures.yes refl) c.next_wait.ensures
