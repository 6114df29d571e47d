use Rattle.std.proofs.Common.{◌∙◌, ◌++◌, ap, subst, OnOk}
use Rattle.std.specs.Prelude.{codes}
use Rattle.values.specs.extensions.DecimalText.{decimal_text}
use Rattle.entity_uids.specs.Tokens.{AppendsValue}
use Rattle.entities.specs.CanonicalValues.{call_json}
use Rattle.entities.proofs.value_writing.write_decimal.Goals as goal

pub returns : goal.returns
returns c =
    subst (λ s. OnOk c.write_call.result (AppendsValue c.args.out.now c.write_call.new.out (call_json (codes "decimal") s)))
    (c.as_str.ensures.value ∙ c.in_ok-write_to.ensures.written ∙ ap (λ s. s ++ decimal_text c.args.number.now) c.new-argument.ensures.bytes) c.write_call.ensures
