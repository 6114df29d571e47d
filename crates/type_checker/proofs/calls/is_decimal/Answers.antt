use Rattle.std.proofs.Common.{refl, sym, ap, ◌∙◌}
use Rattle.grammar_core.specs.declared.leaf.Literal.TheVariants as literal
use Rattle.grammar_core.specs.declared.expr.Expr.TheVariants as form
use Rattle.type_checker.proofs.Settling.{reads_decimal}
use Rattle.type_checker.proofs.calls.is_decimal.Goals as goal

pub returns-in-Some-parse : goal.returns-in-Some-parse
returns-in-Some-parse c =
    let e = c.in-Some.ensures ∙ ap (λ t. form.Literal (literal.Text t)) (sym c.as_str.ensures) in
    (λ _. reads_decimal e c.in-Some-parse.ensures.some, λ _. refl)
