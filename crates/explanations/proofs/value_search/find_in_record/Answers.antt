use Rattle.std.proofs.Common.{◌≡◌, ◌∙◌, [], List, Option, Some, None, Bor, IfOk, option_map, refl, sym, ap, subst}
use Rattle.serde_json.specs.Data.{Data, Members, no_members, object}
use Rattle.serde_json.specs.Find.{as_object}
use Rattle.serde_json.specs.View.{view, members_view}
use Rattle.serde_json.specs.declared.value.Value.{Value}
use Rattle.schema_types.specs.Cedar.{Cedar, CedarFields}
use Rattle.schema_types.specs.CedarViews.{cedar_view, cedar_fields_view}
use Rattle.entities.specs.EntityForms.{or_empty}
use Rattle.entities.specs.Parts.{fields_in}
use Rattle.entities.specs.Typing.{with_or}
use Rattle.explanations.specs.Steps.{Step}
use Rattle.explanations.specs.inner.FoundPaths.{or_else, absent_path, value_path, member_path, record_path}
use Rattle.explanations.proofs.value_search.find_in_record.Goals as goal

-- the path in a record, by the fields and the members
record_at : (t : Cedar) (d : Data) (fields : Option CedarFields) (members : Option Members) → fields ≡ fields_in t → members ≡ as_object d
    → with_or fields (λ fs. with_or members (λ ms. or_else (member_path fs ms) (absent_path fs d)) (Some [])) (Some []) ≡ record_path t d
unfolding record_path
record_at t d fields members e g =
    ap (λ (p : Option CedarFields). with_or p (λ fs. with_or members (λ ms. or_else (member_path fs ms) (absent_path fs d)) (Some [])) (Some [])) e
    ∙ ap (λ (q : Option Members). with_or (fields_in t) (λ fs. with_or q (λ ms. or_else (member_path fs ms) (absent_path fs d)) (Some [])) (Some [])) g

empty_at : (t : Cedar) (fs : CedarFields) → Some fs ≡ fields_in t → absent_path fs (object no_members) ≡ record_path t (object no_members)
unfolding record_path value_path
empty_at t fs e = ap (λ (p : Option CedarFields). with_or p (λ gs. absent_path gs (object no_members)) (Some [])) e

abbrev path_of_found : Cedar → Option (Bor Value) → Option (List Step)
path_of_found t found = record_path t (or_empty (option_map (λ v. view v.now) found))

pub returns-in-Some-as_object : goal.returns-in-Some-as_object
returns-in-Some-as_object c =
    let t = cedar_view c.args.ty.now in
    subst (λ (x : Option (List Step)). IfOk c.find_in_members.result (λ o. o ≡ x))
    (record_at t (view c.in-Some-found.value.now) (Some (cedar_fields_view c.in-Some.fields.now)) (Some (members_view c.in-Some-as_object.members.now.entries)) c.in-Some.ensures c.in-Some-as_object.ensures
    ∙ ap (path_of_found t) (sym c.in-Some-found.is))
    c.find_in_members.ensures

pub returns-in-None-as_object : goal.returns-in-None-as_object
returns-in-None-as_object c =
    let t = cedar_view c.args.ty.now in
    ap (λ (p : List Step). Some p) c.here.ensures
    ∙ record_at t (view c.in-Some-found.value.now) (Some (cedar_fields_view c.in-Some.fields.now)) None c.in-Some.ensures c.in-None-as_object.ensures
    ∙ ap (path_of_found t) (sym c.in-Some-found.is)

pub returns-in-None-found : goal.returns-in-None-found
returns-in-None-found c =
    let t = cedar_view c.args.ty.now in
    subst (λ (x : Option (List Step)). IfOk c.find_absent.result (λ o. o ≡ x))
    (empty_at t (cedar_fields_view c.in-Some.fields.now) c.in-Some.ensures ∙ ap (path_of_found t) (sym c.in-None-found.is))
    c.find_absent.ensures

pub returns-in-None : goal.returns-in-None
returns-in-None c =
    let d = or_empty (option_map (λ v. view v.now) c.args.found) in
    ap (λ (p : List Step). Some p) c.here-in-None.ensures ∙ record_at (cedar_view c.args.ty.now) d None (as_object d) c.in-None.ensures refl
