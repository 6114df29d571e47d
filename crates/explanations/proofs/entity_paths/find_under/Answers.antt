use Rattle.std.proofs.Common.{◌≡◌, Option, Bor, IfOk, option_map, sym, ap, subst}
use Rattle.serde_json.specs.Data.{Data}
use Rattle.serde_json.specs.View.{view}
use Rattle.schema_types.specs.CedarViews.{cedar_view}
use Rattle.schema_types.specs.declared.cedar.CedarType.{CedarType}
use Rattle.entities.specs.EntityForms.{or_empty}
use Rattle.explanations.specs.Steps.{Key}
use Rattle.explanations.specs.inner.FoundPaths.{under, record_path, path_under}
use Rattle.explanations.proofs.Going.{under_found}
use Rattle.explanations.proofs.entity_paths.find_under.Goals as goal

pub returns-in-Some : goal.returns-in-Some
returns-in-Some c =
    let key = c.args.key.now in
    subst (λ (x : Option (Bor CedarType)). IfOk c.under_key.result (λ o. o ≡ path_under key (option_map (λ t. cedar_view t.now) x) (view c.args.value.now))) (sym c.in-Some.is)
    (subst (λ (x : Option Data). IfOk c.under_key.result (λ o. o ≡ under (Key key) (record_path (cedar_view c.in-Some.ty.now) (or_empty x)))) c.get.ensures
    (under_found (Key key) c.find_in_record.result c.under_key.result _ c.find_in_record.ensures c.under_key.ensures))

pub returns-in-None : goal.returns-in-None
returns-in-None c = ap (λ (x : Option (Bor CedarType)). path_under c.args.key.now (option_map (λ t. cedar_view t.now) x) (view c.args.value.now)) (sym c.in-None.is)
