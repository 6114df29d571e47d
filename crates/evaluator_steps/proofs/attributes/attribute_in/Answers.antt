use Rattle.std.specs.Prelude.{option_map}
use Rattle.std.proofs.Common.{sym, ap, ◌∙◌}
use Rattle.evaluator_steps.specs.Attributes.{attribute, no_attribute, not_stored}
use Rattle.evaluator_steps.proofs.attributes.attribute_in.Goals as goal

pub returns-in-None : goal.returns-in-None
returns-in-None g c = not_stored (ap (option_map _) c.in-None.is)

pub returns-in-None-field : goal.returns-in-None-field
returns-in-None-field g c =
    no_attribute c.in-Some.fields.now (ap (option_map _) c.in-Some.is) (sym c.field.ensures ∙ ap (option_map _) c.in-None-field.is)

pub returns-in-Some-field : goal.returns-in-Some-field
returns-in-Some-field g c =
    attribute c.in-Some.fields.now (ap (option_map _) c.in-Some.is) (sym c.field.ensures ∙ ap (option_map _) c.in-Some-field.is)
