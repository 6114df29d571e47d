use Rattle.explanations.proofs.Appending.{if_ok}
use Rattle.explanations.proofs.Joining.{names, names_nothing, found_name, found_form}
use Rattle.explanations.proofs.policies.found_span.Goals as goal

pub returns-in-UnknownType : goal.returns-in-UnknownType
returns-in-UnknownType c =
    if_ok c.name_span.result c.name_span.ensures (λ found is. (
      c.part_of-part.result.now,
      c.part_of-part.ensures,
      found_name _ c.part_of-part.result.now c.as_slice-path.result.now _ found (names c.args.fault.now.fault c.in-UnknownType.is) c.as_slice-path.ensures.value is,
    ))

pub returns-in_default : goal.returns-in_default
returns-in_default c =
    if_ok c.span_of.result c.span_of.ensures (λ found is. (
      c.part_of-part.result.now,
      c.part_of-part.ensures,
      found_form _ c.part_of-part.result.now c.as_slice-path.result.now _ found
          (names_nothing c.args.fault.now.fault c.in_default.not-UnknownType c.in_default.not-UnknownAction) c.as_slice-path.ensures.value is,
    ))
