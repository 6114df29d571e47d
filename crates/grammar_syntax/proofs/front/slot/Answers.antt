use Rattle.std.proofs.Common.{sym}
use Rattle.grammar_syntax.proofs.Slots.{principal_found, resource_found, no_slot}
use Rattle.grammar_syntax.proofs.front.slot.Goals as goal

pub returns-then-starts_with : goal.returns-then-starts_with
returns-then-starts_with c = principal_found _ _ c.requires.1 (sym c.if-starts_with.ensures.value)

pub returns-then-starts_with-2 : goal.returns-then-starts_with-2
returns-then-starts_with-2 c = resource_found _ _ c.requires.1 (sym c.if-starts_with.ensures.value) (sym c.if-starts_with-2.ensures.value)

pub returns-else-starts_with-2 : goal.returns-else-starts_with-2
returns-else-starts_with-2 c = no_slot _ _ c.requires.1 (sym c.if-starts_with.ensures.value) (sym c.if-starts_with-2.ensures.value)
