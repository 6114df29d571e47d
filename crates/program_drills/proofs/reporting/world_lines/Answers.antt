use Rattle.std.proofs.Common.{arith}
use Rattle.program_drills.proofs.EndedLines.{world_told}
use Rattle.program_drills.proofs.reporting.world_lines.Goals as goal

pub returns : goal.returns
returns c =
    world_told c.args.world.now.replies.items c.args.world.now.sites.items c.new-text.result.items c.append_events.new.text.items
    c.append_states.new.text.items c.pop.new.self.items c.pop.result c.new-text.ensures.items
    (rw (c.deref.ensures.value) at c.in_ok-append_events.ensures) (rw (c.deref-2.ensures.value) at c.in_ok-append_states.ensures) c.pop.ensures.items
    (λ h. c.pop.ensures.variant.1 (omega (arith, h, c.append_states.new.text.ok)))
