use Rattle.std.proofs.Common.{sym}
use Rattle.grammar_syntax.proofs.GapTells.{no_blank_at_end, no_blank}
use Rattle.grammar_syntax.proofs.gaps.blank.Goals as goal

pub returns-in_default : goal.returns-in_default
returns-in_default c = no_blank_at_end _ _ c.chars.ensures.rest c.in_default.ensures.steps.0.0

pub returns-else-is_whitespace : goal.returns-else-is_whitespace
returns-else-is_whitespace c = no_blank _ _ _ _ c.chars.ensures.rest c.in-Some.ensures.steps.0 (sym c.if-is_whitespace.ensures)
