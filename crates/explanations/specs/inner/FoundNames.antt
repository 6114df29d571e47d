-- Defines what the search for the part of a request that is at fault finds.
use Rattle.std.specs.Prelude.{◌≡◌, List, [], ◌∷◌, Bool, is_some, Option, Some, None, MatchOption, codes}
use Rattle.serde_json.specs.Data.{Data}
use Rattle.serde_json.specs.Find.{get, as_object}
use Rattle.values.specs.declared.entity_uid.EntityUid.{EntityUid}
use Rattle.schema_types.specs.Cedar.{Cedar}
use Rattle.entities.specs.entity_uids.Uids.{NamesEntity, IsRead}
use Rattle.entities.specs.Typing.{with_or}
use Rattle.schema_decisions.specs.schema.Schemas.{StatedSchema}
use Rattle.entities.specs.declared.fault.EntityFault.{EntityFault}
use Rattle.entities.specs.declared.requests.Asked.{Asked}
use Rattle.entities.specs.EntityForms.{is_absent_or_object}
use Rattle.entities.specs.Requests.{Asks, RequestRefused}
use Rattle.explanations.specs.declared.request_paths.Named.{Named}
use Rattle.explanations.specs.Steps.{Step}
use Rattle.explanations.specs.EntityPaths.{Demand, to_key}
use Rattle.explanations.specs.RequestPaths.{FormFaultAt, context_type, IsRequestPathOf}
use Rattle.explanations.specs.inner.FoundPaths.{path_under}

-- `Names o uid` holds if the value `o` is present and names `uid`.
abbrev pub Names : Option Data → EntityUid → Type 0
Names o uid = MatchOption o ⊥ (λ d. NamesEntity d uid)

-- `AreNamed d names` holds if `names` are the entities that the request `d` names as its principal, action and
-- resource, each `None` if the request names none.
abbrev pub AreNamed : Data → Named → Type 0
AreNamed d names = IsRead (Names (get (codes "principal") d)) names.principal
    × IsRead (Names (get (codes "action") d)) names.action × IsRead (Names (get (codes "resource") d)) names.resource

-- `request_demands d principal action resource` are the demands on the form of the request `d`, in order, where the
-- three booleans say which of its entities are named.
abbrev pub request_demands : Data → Bool → Bool → Bool → List Demand
request_demands d principal action resource =
    (is_some (as_object d), [])
    ∷ (principal, to_key (codes "principal"))
    ∷ (action, to_key (codes "action"))
    ∷ (resource, to_key (codes "resource"))
    ∷ (is_absent_or_object (get (codes "context") d), to_key (codes "context")) ∷ []

-- `IsFormSearched d o` holds if `o` is the path to the first part of a request that is missing or malformed in `d`, or
-- if `o` is `None`, and `d` has the form.
abbrev pub IsFormSearched : Data → Option (List Step) → Type 0
IsFormSearched d o = MatchOption o ((asked : Asked) × Asks d asked) (FormFaultAt d)

-- `named_type s principal action resource` is the type of the context of a request with these three entities, if all
-- are present and the action applies to the types of the other two.
abbrev pub named_type : StatedSchema → Option EntityUid → Option EntityUid → Option EntityUid → Option Cedar
named_type s principal action resource = with_or principal (λ p. with_or action (λ a. with_or resource
    (λ r. context_type s (record { principal = p; action = a; resource = r })) None) None) None

-- `context_path s asked d` is the path to the part of the context of `d` that is at fault, if there is one, under the
-- type that `s` declares for the context of a request with the principal, action and resource `asked`.
abbrev pub context_path : StatedSchema → Asked → Data → Option (List Step)
context_path s asked d = path_under (codes "context") (context_type s asked) d

-- `IsContextSearched s d o` holds if `o` is `context_path` for the principal, action and resource that `d` names, or if
-- `d` does not have the form of a request.
abbrev pub IsContextSearched : StatedSchema → Data → Option (List Step) → Type 0
IsContextSearched s d o = (asked : Asked) → Asks d asked → o ≡ context_path s asked d

-- `IsPartSearched s d f o` holds if `o` is the path to the part that the error `f` is about, provided that `f` is the
-- error of `d` as a request.
abbrev pub IsPartSearched : StatedSchema → Data → EntityFault → Option (List Step) → Type 0
IsPartSearched s d f o = RequestRefused s d f → (path : List Step) × (o ≡ Some path) × IsRequestPathOf s d f path
