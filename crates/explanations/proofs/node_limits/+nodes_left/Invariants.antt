use Rattle.std.proofs.Common.{◌≡◌, ◌+◌, ◌-◌, ◌*◌, drop, map}
use Rattle.grammar_core.specs.Size.{node_count, total, values_of}
use Rattle.explanations.specs.inner.NodeLimits.{named_count}
use Rattle.explanations.proofs.node_limits.+nodes_left.Given as goal

abbrev pub invariant-members_left-loop-member : goal.invariant-members_left-loop-member
invariant-members_left-loop-member l =
    l.initial.rest - total (map node_count l.members) ≡ l.rest - total (map node_count (drop l.member-index l.members))

abbrev pub invariant-fields_left-loop-field : goal.invariant-fields_left-loop-field
invariant-fields_left-loop-field l =
    l.initial.rest - total (values_of (map named_count l.fields))
    ≡ l.rest - total (values_of (map named_count (drop l.field-index l.fields)))

abbrev pub decreases-nodes_left : goal.decreases-nodes_left
decreases-nodes_left l = 4 * goal.size-nodes_left l + 0

abbrev pub decreases-members_left : goal.decreases-members_left
decreases-members_left l = 4 * goal.size-members_left l + 1

abbrev pub decreases-fields_left : goal.decreases-fields_left
decreases-fields_left l = 4 * goal.size-fields_left l + 1
