use Rattle.std.proofs.Common.{◌∙◌}
use Rattle.values.proofs.Within.{IsPath-made}
use Rattle.values.proofs.type_name.TypeName.within.Goals as goal

pub invariant_of-result : goal.invariant_of-result
invariant_of-result c = IsPath-made c.namespace.inside.text c.self.inside.text _ _ _ _ _ _ c.namespace.invariant c.self.invariant
    c.as_str.ensures c.in_ok-name.ensures.ok c.in_ok-push_str.ensures.bytes c.as_str-2.ensures c.in_ok-push_str-2.ensures.bytes (c.in_ok-text.ensures ∙ c.from_string.ensures)
