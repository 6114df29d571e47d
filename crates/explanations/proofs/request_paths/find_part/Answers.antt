use Rattle.std.proofs.Common.{◌≡◌, List, Option, option_map, codes, sym, subst}
use Rattle.serde_json.specs.View.{view}
use Rattle.schema_types.specs.Cedar.{Cedar}
use Rattle.schema_types.specs.CedarViews.{cedar_view}
use Rattle.schema_decisions.specs.schema.Views.{schema_view}
use Rattle.entities.specs.declared.fault.EntityFault.{EntityFault}
use Rattle.explanations.specs.Steps.{Step}
use Rattle.explanations.specs.inner.FoundPaths.{path_under}
use Rattle.explanations.specs.inner.FoundNames.{IsFormSearched, IsPartSearched}
use Rattle.explanations.proofs.Going.{if_ok}
use Rattle.explanations.proofs.Requests.{form_part, context_searched, context_part}
use Rattle.explanations.proofs.request_paths.find_part.Goals as goal

pub returns-in-BadShape : goal.returns-in-BadShape
returns-in-BadShape c =
    let s = schema_view c.args.schema.now in
    let d = view c.args.value.now in
    if_ok c.find_in_request_form.result (IsFormSearched d) (IsPartSearched s d c.args.fault)
    (λ o h. subst (λ (f : EntityFault). IsPartSearched s d f o) (sym c.in-BadShape.is) (form_part s d o h)) c.find_in_request_form.ensures

pub returns-in-Ok : goal.returns-in-Ok
returns-in-Ok c =
    let s = schema_view c.args.schema.now in
    let d = view c.args.value.now in
    let type : Option Cedar = option_map (λ t. cedar_view t.now) c.in-Ok.ty in
    if_ok c.find_under.result (λ (o : Option (List Step)). o ≡ path_under (codes "context") type d) (IsPartSearched s d c.args.fault)
    (λ o e. context_part s d c.args.fault o c.in_default.not-BadShape c.in_default.not-NotApplicable (context_searched s d type o c.in-Ok.ensures e)) c.find_under.ensures
