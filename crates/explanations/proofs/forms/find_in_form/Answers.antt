use Rattle.std.proofs.Common.{◌≡◌, ◌∙◌, List, true, Option, Some, None, IfOk, option_map, sym, ap, subst}
use Rattle.std.specs.Prelude.{is_some}
use Rattle.serde_json.specs.Data.{Data}
use Rattle.serde_json.specs.Find.{as_object}
use Rattle.serde_json.specs.View.{view}
use Rattle.entities.specs.EntityForms.{is_absent_or_object}
use Rattle.explanations.specs.Steps.{Step}
use Rattle.explanations.specs.EntityPaths.{first_unmet, is_uid, parents_demands}
use Rattle.explanations.proofs.Unmet.{entity_unmet}
use Rattle.explanations.proofs.forms.find_in_form.Goals as goal

pub returns-in-Some : goal.returns-in-Some
returns-in-Some c =
    let d = view c.args.value.now in
    let object : true ≡ is_some (as_object d) = sym c.if-not-is_object.false ∙ c.is_object.ensures in
    subst (λ (x : Option (List Step)). IfOk c.at_key.result (λ o. o ≡ x))
    (entity_unmet d c.in-Ok.named c.is_absent_or_object-2.result c.is_absent_or_object.result (Some c.in-Some.key.now) (option_map (λ k. k.now) c.or_unmet-from_attrs.result) (option_map (λ k. k.now) c.or_unmet-from_tags.result)
    object (c.in-Ok.ensures ∙ ap is_uid c.get-3.ensures) (c.is_absent_or_object-2.ensures ∙ ap is_absent_or_object c.get-2.ensures) (c.is_absent_or_object.ensures ∙ ap is_absent_or_object c.get.ensures)
    c.or_unmet-from_tags.ensures c.or_unmet-from_attrs.ensures c.in-Some.ensures)
    c.at_key.ensures

pub returns-in-None : goal.returns-in-None
returns-in-None c =
    let d = view c.args.value.now in
    let object : true ≡ is_some (as_object d) = sym c.if-not-is_object.false ∙ c.is_object.ensures in
    subst (λ (x : Option (List Step)). IfOk c.find_in_parents.result (λ o. o ≡ x))
    (ap (λ (p : Option Data). first_unmet (parents_demands p)) c.get-in-None.ensures
    ∙ entity_unmet d c.in-Ok.named c.is_absent_or_object-2.result c.is_absent_or_object.result None (option_map (λ k. k.now) c.or_unmet-from_attrs.result) (option_map (λ k. k.now) c.or_unmet-from_tags.result)
    object (c.in-Ok.ensures ∙ ap is_uid c.get-3.ensures) (c.is_absent_or_object-2.ensures ∙ ap is_absent_or_object c.get-2.ensures) (c.is_absent_or_object.ensures ∙ ap is_absent_or_object c.get.ensures)
    c.or_unmet-from_tags.ensures c.or_unmet-from_attrs.ensures c.in-None.ensures)
    c.find_in_parents.ensures

pub returns-in-Err : goal.returns-in-Err
returns-in-Err c = tt
