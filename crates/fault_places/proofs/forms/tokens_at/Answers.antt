use Rattle.std.proofs.Common.{Some, ap, ◌∙◌}
use Rattle.std.specs.Option.{option_map}
use Rattle.fault_places.specs.Forms.{own_tokens, up_to}
use Rattle.fault_places.proofs.forms.tokens_at.Goals as goal

pub returns-in-None : goal.returns-in-None
returns-in-None c = ap (option_map own_tokens) c.in-None.ensures

pub returns-in-Some : goal.returns-in-Some
returns-in-Some c =
    ap (λ ts. Some ts) (c.up_to.ensures ∙ ap (up_to c.in-Some.form.tokens.now) c.tokens_after_form.ensures)
    ∙ ap (option_map own_tokens) c.in-Some.ensures
