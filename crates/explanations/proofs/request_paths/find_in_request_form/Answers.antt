use Rattle.std.proofs.Common.{◌≡◌, ◌∙◌, ℕ, List, true, Option, Some, None, Bor, option_map, sym, ap, subst}
use Rattle.std.specs.Prelude.{is_some}
use Rattle.serde_json.specs.Find.{as_object}
use Rattle.serde_json.specs.View.{view}
use Rattle.entities.specs.EntityForms.{is_absent_or_object}
use Rattle.explanations.specs.Steps.{Step}
use Rattle.explanations.specs.EntityPaths.{to_key}
use Rattle.explanations.specs.RequestPaths as says
use Rattle.explanations.specs.RequestPaths.{FormFaultAt}
use Rattle.explanations.specs.inner.FoundNames.{IsFormSearched}
use Rattle.explanations.proofs.Going.{if_ok}
use Rattle.explanations.proofs.Requests.{form_searched}
use Rattle.explanations.proofs.Unmet.{path_or, request_unmet}
use Rattle.explanations.proofs.request_paths.find_in_request_form.Goals as goal

-- the path to the part at a key that was found, if one was
abbrev path_to : Option (Bor (List ℕ)) → Option (List Step)
path_to found = path_or (option_map (λ k. k.now) found) None

pub returns-then-not-is_object : goal.returns-then-not-is_object
returns-then-not-is_object c =
    subst (FormFaultAt (view c.args.value.now)) (sym c.here.ensures) (says.no_object (sym c.is_object.ensures ∙ c.if-not-is_object.true))

pub returns-in-Some : goal.returns-in-Some
returns-in-Some c =
    let d = view c.args.value.now in
    let object : true ≡ is_some (as_object d) = sym c.if-not-is_object.false ∙ c.is_object.ensures in
    let first = request_unmet d c.is_some-in-Ok-2.result c.is_some-in-Ok.result c.is_some.result c.is_absent_or_object.result (option_map (λ k. k.now) c.or_unmet-unmet.result)
    (option_map (λ k. k.now) c.or_unmet-from_action.result) (option_map (λ k. k.now) c.or_unmet-from_resource.result) (option_map (λ k. k.now) c.or_unmet-from_context.result)
    object (c.is_absent_or_object.ensures ∙ ap is_absent_or_object c.get.ensures) c.or_unmet-from_context.ensures c.or_unmet-from_resource.ensures c.or_unmet-from_action.ensures c.or_unmet-unmet.ensures in
    if_ok c.at_key.result (λ (o : Option (List Step)). o ≡ Some (to_key c.in-Some.key.now)) (IsFormSearched d)
    (λ o e. subst (IsFormSearched d) (sym (e ∙ sym (ap path_to c.in-Some.is) ∙ first))
    (form_searched d c.in-Ok.names c.is_some-in-Ok-2.result c.is_some-in-Ok.result c.is_some.result c.in-Ok.ensures c.is_some-in-Ok-2.ensures c.is_some-in-Ok.ensures c.is_some.ensures))
    c.at_key.ensures

pub returns-in-None : goal.returns-in-None
returns-in-None c =
    let d = view c.args.value.now in
    let object : true ≡ is_some (as_object d) = sym c.if-not-is_object.false ∙ c.is_object.ensures in
    let first = request_unmet d c.is_some-in-Ok-2.result c.is_some-in-Ok.result c.is_some.result c.is_absent_or_object.result (option_map (λ k. k.now) c.or_unmet-unmet.result)
    (option_map (λ k. k.now) c.or_unmet-from_action.result) (option_map (λ k. k.now) c.or_unmet-from_resource.result) (option_map (λ k. k.now) c.or_unmet-from_context.result)
    object (c.is_absent_or_object.ensures ∙ ap is_absent_or_object c.get.ensures) c.or_unmet-from_context.ensures c.or_unmet-from_resource.ensures c.or_unmet-from_action.ensures c.or_unmet-unmet.ensures in
    subst (IsFormSearched d) (sym first ∙ ap path_to c.in-None.is)
    (form_searched d c.in-Ok.names c.is_some-in-Ok-2.result c.is_some-in-Ok.result c.is_some.result c.in-Ok.ensures c.is_some-in-Ok-2.ensures c.is_some-in-Ok.ensures c.is_some.ensures)

pub returns-in-Err : goal.returns-in-Err
returns-in-Err c = tt
