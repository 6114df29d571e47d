use Rattle.std.proofs.Common.{ℕ, List, sym, subst}
use Rattle.schema_types.specs.CedarViews.{cedar_view}
use Rattle.schema_types.specs.declared.cedar.CedarType.{CedarType}
use Rattle.schema_reading.specs.ResolvedViews.{resolved_applies_to_view}
use Rattle.schema.specs.Schemas.{IsRecordOf}
use Rattle.schema.specs.inner.Making.{AddsPrincipals}
use Rattle.schema.proofs.UseLemmas.{used_as}
use Rattle.schema.proofs.environments.add_use.Goals as goal

pub returns : goal.returns
returns g c =
    let u = resolved_applies_to_view c.args.applied.now in
    let h = subst (λ (ps : List (List ℕ)). AddsPrincipals c.args.action.now c.in_ok-shared.shared c.as_slice-resources.result.now ps c.args.places.now c.add_principals.new.places) c.as_slice-principals.ensures c.in_ok-add_principals.ensures in
    used_as g.commons c.args.action.now u c.in_ok-shared.shared
    (subst (λ (t : CedarType). IsRecordOf g.commons u.context (cedar_view t)) (sym c.in_ok-shared.ensures) c.in_ok-context.ensures.is_record)
    c.in_ok-context.ensures.is_written c.args.places.now c.add_principals.new.places
    (subst (λ (rs : List (List ℕ)). AddsPrincipals c.args.action.now c.in_ok-shared.shared rs u.principals c.args.places.now c.add_principals.new.places) c.as_slice-resources.ensures h)
