use Rattle.std.proofs.Common.{sym, ◌∙◌}
use Rattle.grammar_syntax.proofs.GapTells.{blank_found, comment_found}
use Rattle.grammar_syntax.proofs.gaps.gap.Goals as goal

pub returns-in-Some : goal.returns-in-Some
returns-in-Some c = blank_found _ _ c.in-Some.ensures

pub returns : goal.returns
returns c = comment_found _ _ _ _ _ _ (sym c.as_bytes.ensures.value ∙ c.in_ok-first.ensures.cases.0) c.in_ok-second.ensures.cases.0 c.if-first-ne47.false c.if-second-ne47.false c.line_len.ensures.is
