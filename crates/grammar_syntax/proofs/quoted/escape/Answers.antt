use Rattle.std.proofs.Common.{sym}
use Rattle.grammar_syntax.proofs.EscapeTells.{star_at, letter_at, opened}
use Rattle.grammar_syntax.proofs.quoted.escape.Goals as goal

pub returns-in-42 : goal.returns-in-42
returns-in-42 c =
    let text = opened _ _ _ _ _ _ c.requires.1 c.in_ok-rest.ensures.cases.0 c.in_ok-letter.ensures.cases.0 in
    star_at _ _ _ text c.in-42.is

pub returns-in_ok-letter_meant-in_default : goal.returns-in_ok-letter_meant-in_default
returns-in_ok-letter_meant-in_default c =
    let text = opened _ _ _ _ _ _ c.requires.1 c.in_ok-rest.ensures.cases.0 c.in_ok-letter.ensures.cases.0 in
    letter_at _ _ _ _ text (sym c.in_ok-letter_meant-in_default.ensures)
