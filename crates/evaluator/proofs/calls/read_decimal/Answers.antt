use Rattle.std.proofs.Common.{Ok, ap, sym, ◌∙◌}
use Rattle.values.specs.extensions.TextsDecided.{decimal_text_decided}
use Rattle.evaluator.proofs.AppliedCalls.{decimal_is}
use Rattle.evaluator.proofs.calls.read_decimal.Goals as goal

pub returns-in-Some : goal.returns-in-Some
returns-in-Some c =
    let text = c.args.text.now in
    ap Ok c.decimal.ensures ∙ sym (decimal_is c.decimal_is_unique.ensures text (decimal_text_decided text) c.in-Some.number c.in-Some.ensures.some)
