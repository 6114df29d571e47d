use Rattle.schema_types.specs.CedarViews.{cedar_view, cedar_fields_view}
use Rattle.type_checker.specs.FromSchemas.{static, static_fields}
use Rattle.type_checker.proofs.SameFields.{SameSoFar}
use Rattle.type_checker.proofs.Weighing.{weight, weights}
use Rattle.type_checker.proofs.same_types.+same_type.Given as goal

abbrev pub decreases-same_type : goal.decreases-same_type
decreases-same_type l = weight (static (cedar_view l.left.now))

abbrev pub decreases-same_fields : goal.decreases-same_fields
decreases-same_fields l = weights (static_fields (cedar_fields_view l.left.now))

abbrev pub invariant-same_fields-loop-at : goal.invariant-same_fields-loop-at
invariant-same_fields-loop-at l = SameSoFar (static_fields (cedar_fields_view l.left)) (static_fields (cedar_fields_view l.right)) l.at
