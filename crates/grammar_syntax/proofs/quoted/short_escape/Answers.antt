use Rattle.std.proofs.Common.{◌∷◌, List, ℕ, arith, ap, ◌∙◌}
use Rattle.grammar_syntax.proofs.EscapeTells.{short_at}
use Rattle.grammar_syntax.proofs.quoted.short_escape.Goals as goal

pub returns : goal.returns
returns c =
    let h = c.in_ok-high-2.ensures in
    let l = c.in_ok-low-2.ensures in
    let a = c.in_ok-high.ensures.cases in
    let b = c.in_ok-low.ensures.cases in
    let up = c.if-high-gt7.false in
    short_at _ _ _ _ _ _ (a.0 ∙ ap (λ (x : List ℕ). c.in_ok-high.high.now ∷ x) b.0) h.1 l.1 (omega arith) l.0
