use Rattle.std.proofs.Common.{◌≡◌}
use Rattle.typing.specs.Types.{common_fields}
use Rattle.type_checker.specs.inner.Parts.{part_view, fields_view, fields_after}
use Rattle.type_checker.proofs.CommonFields.{after}
use Rattle.type_checker.proofs.Weighing.{weight, weights}
use Rattle.type_checker.proofs.common_types.+common_of.Given as goal

abbrev pub decreases-common_of : goal.decreases-common_of
decreases-common_of l = weight (part_view l.left)

abbrev pub decreases-common_record : goal.decreases-common_record
decreases-common_record l = weights (fields_view l.left)

abbrev pub invariant-common_record-loop-at : goal.invariant-common_record-loop-at
invariant-common_record-loop-at l =
    common_fields (fields_view l.left) (fields_view l.right)
    ≡ after l.fields.items (common_fields (fields_after l.at (fields_view l.left)) (fields_after l.at (fields_view l.right)))
