-- The first part without its form, found by its key.
use Rattle.std.proofs.Common.{◌≡◌, ◌∙◌, ℕ, List, [], ◌∷◌, Bool, true, false, if◌then◌else◌, Option, Some, None, refl, ap, codes}
use Rattle.std.specs.Prelude.{is_some}
use Rattle.serde_json.specs.Data.{Data}
use Rattle.serde_json.specs.Find.{get, as_object}
use Rattle.entities.specs.EntityForms.{is_absent_or_object}
use Rattle.explanations.specs.Steps.{Step}
use Rattle.explanations.specs.EntityPaths.{Demand, to_key, first_unmet, is_uid, parents_demands, form_demands}
use Rattle.explanations.specs.inner.FoundPaths.{or_unmet}
use Rattle.explanations.specs.inner.FoundNames.{request_demands}

-- the path to the part at a key, if there is one, else another path
abbrev pub path_or : Option (List ℕ) → Option (List Step) → Option (List Step)
path_or (Some key) o = Some (to_key key)
path_or None o = o

unmet_first : (met : Bool) (key : List ℕ) (later : Option (List ℕ)) (more : List Demand) (o : Option (List Step)) → path_or later o ≡ first_unmet more
    → path_or (or_unmet met key later) o ≡ first_unmet ((met, to_key key) ∷ more)
unmet_first true key later more o e = e
unmet_first false key later more o e = refl

-- one demand more, in front of others
pub unmet_by : (met test : Bool) (key : List ℕ) (found later : Option (List ℕ)) (more : List Demand) (o : Option (List Step)) → found ≡ or_unmet met key later → met ≡ test
    → path_or later o ≡ first_unmet more → path_or found o ≡ first_unmet ((test, to_key key) ∷ more)
unmet_by met test key found later more o e is h =
    ap (λ (x : Option (List ℕ)). path_or x o) e ∙ unmet_first met key later more o h ∙ ap (λ (b : Bool). first_unmet ((b, to_key key) ∷ more)) is

of_object : (object : Bool) (more : List Demand) → true ≡ object → first_unmet more ≡ first_unmet ((object, []) ∷ more)
of_object object more e = ap (λ (b : Bool). if b then first_unmet more else Some []) e

pub no_object : (object : Bool) (more : List Demand) → false ≡ object → Some [] ≡ first_unmet ((object, []) ∷ more)
no_object object more e = ap (λ (b : Bool). if b then first_unmet more else Some []) e

pub entity_unmet : (d : Data) (named attrs tags : Bool) (key fields later : Option (List ℕ)) → true ≡ is_some (as_object d) → named ≡ is_uid (get (codes "uid") d)
    → attrs ≡ is_absent_or_object (get (codes "attrs") d) → tags ≡ is_absent_or_object (get (codes "tags") d)
    → later ≡ or_unmet tags (codes "tags") None → fields ≡ or_unmet attrs (codes "attrs") later → key ≡ or_unmet named (codes "uid") fields
    → path_or key (first_unmet (parents_demands (get (codes "parents") d))) ≡ first_unmet (form_demands d)
entity_unmet d named attrs tags key fields later object n a t in_tags in_attrs in_uid =
    let parents = parents_demands (get (codes "parents") d) in
    let from_tags : List Demand = (is_absent_or_object (get (codes "tags") d), to_key (codes "tags")) ∷ parents in
    let from_attrs : List Demand = (is_absent_or_object (get (codes "attrs") d), to_key (codes "attrs")) ∷ from_tags in
    let from_uid : List Demand = (is_uid (get (codes "uid") d), to_key (codes "uid")) ∷ from_attrs in
    let o = first_unmet parents in
    unmet_by named (is_uid (get (codes "uid") d)) (codes "uid") key fields from_attrs o in_uid n
    (unmet_by attrs (is_absent_or_object (get (codes "attrs") d)) (codes "attrs") fields later from_tags o in_attrs a
    (unmet_by tags (is_absent_or_object (get (codes "tags") d)) (codes "tags") later None parents o in_tags t refl))
    ∙ of_object (is_some (as_object d)) from_uid object

pub request_unmet : (d : Data) (principal action resource context : Bool) (key a r x : Option (List ℕ)) → true ≡ is_some (as_object d)
    → context ≡ is_absent_or_object (get (codes "context") d) → x ≡ or_unmet context (codes "context") None → r ≡ or_unmet resource (codes "resource") x
    → a ≡ or_unmet action (codes "action") r → key ≡ or_unmet principal (codes "principal") a → path_or key None ≡ first_unmet (request_demands d principal action resource)
request_unmet d principal action resource context key a r x object is in_context in_resource in_action in_principal =
    let from_context : List Demand = (is_absent_or_object (get (codes "context") d), to_key (codes "context")) ∷ [] in
    let from_resource : List Demand = (resource, to_key (codes "resource")) ∷ from_context in
    let from_action : List Demand = (action, to_key (codes "action")) ∷ from_resource in
    let from_principal : List Demand = (principal, to_key (codes "principal")) ∷ from_action in
    unmet_by principal principal (codes "principal") key a from_action None in_principal refl
    (unmet_by action action (codes "action") a r from_resource None in_action refl
    (unmet_by resource resource (codes "resource") r x from_context None in_resource refl
    (unmet_by context (is_absent_or_object (get (codes "context") d)) (codes "context") x None [] None in_context is refl)))
    ∙ of_object (is_some (as_object d)) from_principal object
