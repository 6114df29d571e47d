use Rattle.std.proofs.Common.{◌≡◌, drop}
use Rattle.serde_json.specs.View.{items_view}
use Rattle.schema_decisions.specs.schema.Views.{schema_view}
use Rattle.explanations.specs.inner.FoundParts.{unfit_path}
use Rattle.explanations.proofs.parents.find_unfit.Given as goal

abbrev pub invariant-loop-index : goal.invariant-loop-index
invariant-loop-index l =
    unfit_path (schema_view l.schema) l.uid 0 (items_view l.parents) ≡ unfit_path (schema_view l.schema) l.uid l.index (items_view (drop l.index l.parents))
