use Rattle.std.proofs.Common.{◌≡◌, drop}
use Rattle.serde_json.specs.View.{items_view}
use Rattle.explanations.specs.EntityPaths.{first_unmet, parent_demands}
use Rattle.explanations.proofs.forms.find_nameless.Given as goal

abbrev pub invariant-loop-index : goal.invariant-loop-index
invariant-loop-index l =
    first_unmet (parent_demands 0 (items_view l.parents)) ≡ first_unmet (parent_demands l.index (items_view (drop l.index l.parents)))
