use Rattle.std.proofs.Common.{◌≡◌, [], ◌∷◌, List, Some, IfOk, codes, subst}
use Rattle.explanations.specs.Steps.{Step, Key, Index}
use Rattle.explanations.proofs.Going.{under_found}
use Rattle.explanations.proofs.forms.at_parent.Goals as goal

pub returns : goal.returns
returns c =
    under_found (Key (codes "parents")) c.under.result c.under_key.result (Some (Index c.args.index ∷ []))
    (subst (λ (path : List Step). IfOk c.under.result (λ o. o ≡ Some (Index c.args.index ∷ path))) c.here.ensures c.under.ensures) c.under_key.ensures
