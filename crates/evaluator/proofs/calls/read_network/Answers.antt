use Rattle.std.proofs.Common.{Ok, ap, sym, refl, ◌∙◌}
use Rattle.values.specs.extensions.TextsDecided.{network_text_decided}
use Rattle.evaluator.proofs.AppliedCalls.{network_is, no_network_is}
use Rattle.evaluator.proofs.calls.read_network.Goals as goal

pub returns-in-Some : goal.returns-in-Some
returns-in-Some c =
    let text = c.args.text.now in
    ap Ok c.ipaddr.ensures ∙ sym (network_is c.network_is_unique.ensures text (network_text_decided text) c.in-Some.network c.in-Some.ensures.some)

pub returns-in-None : goal.returns-in-None
returns-in-None c =
    let text = c.args.text.now in
    sym (no_network_is text (network_text_decided text) (c.in-None.ensures.none refl))
