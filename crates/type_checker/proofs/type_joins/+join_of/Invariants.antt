use Rattle.type_checker.specs.inner.Parts.{part_view, fields_view}
use Rattle.type_checker.proofs.JoinedFields.{SoFar}
use Rattle.type_checker.proofs.Weighing.{weight, weights}
use Rattle.type_checker.proofs.type_joins.+join_of.Given as goal

abbrev pub decreases-join_of : goal.decreases-join_of
decreases-join_of l = weight (part_view l.left)

abbrev pub decreases-join_of_fields : goal.decreases-join_of_fields
decreases-join_of_fields l = weights (fields_view l.left)

abbrev pub invariant-join_of_fields-loop-at : goal.invariant-join_of_fields-loop-at
invariant-join_of_fields-loop-at l = SoFar l.join (fields_view l.left) (fields_view l.right) l.at
