use Rattle.std.proofs.Common.{refl, sym, ap, ◌∙◌}
use Rattle.std.proofs.lemmas.Bool.{false≢true}
use Rattle.grammar_core.specs.declared.leaf.Literal.TheVariants as literal
use Rattle.grammar_core.specs.declared.expr.Expr.TheVariants as form
use Rattle.type_checker.proofs.Settling.{reads_address, address_read}
use Rattle.type_checker.proofs.calls.is_network.Goals as goal

pub returns-in-Some-parse : goal.returns-in-Some-parse
returns-in-Some-parse c =
    let e = c.in-Some.ensures ∙ ap (λ t. form.Literal (literal.Text t)) (sym c.as_str.ensures) in
    (λ _. reads_address e c.in-Some-parse.ensures.some, λ _. refl)

pub returns-in-None-parse : goal.returns-in-None-parse
returns-in-None-parse c =
    let e = c.in-Some.ensures ∙ ap (λ t. form.Literal (literal.Text t)) (sym c.as_str.ensures) in
    (λ f. absurd (false≢true f), λ r. let w = address_read e r in absurd (c.in-None-parse.ensures.none refl w.0 w.1))
