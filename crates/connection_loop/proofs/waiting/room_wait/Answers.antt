use Rattle.std.proofs.Common.{◌≡◌, true}
use Rattle.connections.specs.Limits.{IsOneOver}
use Rattle.connections.specs.declared.slot.Limit.TheVariants as Over
use Rattle.connection_loop.proofs.WaitLemmas.{first_where}
use Rattle.connection_loop.proofs.waiting.room_wait.Goals as goal

pub returns : goal.returns
returns c =
    first_where c.args.course.now.clock (c.args.course.now.sought ≡ true) (IsOneOver Over.Room c.args.slots.now) c.next_wait.result
    c.if-not-course.false c.next_wait.ensures
