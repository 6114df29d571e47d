-- Defines the path to the part of a request's JSON that is at fault under a schema.
-- Source: Cedar reference guide 4.0, "Authorization request".
-- Rules of this product: the name of an entity is one part. An error of the form (30) leads to the first part of a
-- request that is missing or malformed; the error that the action does not apply (39), to `action`; an error of the
-- context (33, 34, 35), into `context`.
use Rattle.std.specs.Prelude.{◌≡◌, ℕ, List, [], ◌∷◌, true, false, is_some, Option, Some, codes}
use Rattle.serde_json.specs.Data.{Data}
use Rattle.serde_json.specs.Find.{get, as_object}
use Rattle.values.specs.declared.entity_uid.EntityUid.{EntityUid}
use Rattle.schema_types.specs.Cedar.{Cedar}
use Rattle.schema_decisions.specs.schema.Schemas.{StatedSchema}
use Rattle.entities.specs.declared.fault.EntityFault.{EntityFault}
use Rattle.entities.specs.declared.fault.EntityFault.TheVariants.{BadShape, NotApplicable}
use Rattle.entities.specs.declared.requests.Asked.{Asked}
use Rattle.entities.specs.EntityForms.{is_absent_or_object, or_empty}
use Rattle.entities.specs.Contexts.{context_where, is_place}
use Rattle.entities.specs.Requests.{NamesAt, Asks}
use Rattle.explanations.specs.Steps.{Step, Key}
use Rattle.explanations.specs.ValuePaths.{RecordFaultAt}
use Rattle.explanations.specs.EntityPaths.{to_key}

-- `IsNamedAt key d` holds if the value of `d` at `key` names an entity.
abbrev pub IsNamedAt : List ℕ → Data → Type 0
IsNamedAt key d = (uid : EntityUid) × NamesAt key d uid

-- `FormFaultAt d path` holds if `path` leads to the first part of a request that is missing or malformed in `d`.
pub data FormFaultAt (d : Data) : List Step → Type 0 where
  no_object : is_some (as_object d) ≡ false → FormFaultAt d []
  no_principal : is_some (as_object d) ≡ true → (IsNamedAt (codes "principal") d → ⊥)
      → FormFaultAt d (to_key (codes "principal"))
  no_action : IsNamedAt (codes "principal") d → (IsNamedAt (codes "action") d → ⊥)
      → FormFaultAt d (to_key (codes "action"))
  no_resource : IsNamedAt (codes "principal") d → IsNamedAt (codes "action") d
      → (IsNamedAt (codes "resource") d → ⊥) → FormFaultAt d (to_key (codes "resource"))
  no_context : IsNamedAt (codes "principal") d → IsNamedAt (codes "action") d → IsNamedAt (codes "resource") d
      → is_absent_or_object (get (codes "context") d) ≡ false → FormFaultAt d (to_key (codes "context"))

-- `context_type s asked` is the type that the schema `s` declares for the context of a request with the principal,
-- action and resource `asked`; `None` if the action does not apply to the types of the other two.
abbrev pub context_type : StatedSchema → Asked → Option Cedar
context_type s asked =
    context_where (is_place asked.action asked.principal.type_name asked.resource.type_name) s.environments

-- `IsContextType s d t` holds if `t` is `context_type` under `s` for the principal, action and resource that `d` names,
-- or if `d` does not have the form of a request.
abbrev pub IsContextType : StatedSchema → Data → Option Cedar → Type 0
IsContextType s d t = (asked : Asked) → Asks d asked → t ≡ context_type s asked

-- `IsInContext s d path` holds if `path` leads to the part of the context of the request `d` that is at fault under the
-- type that the schema `s` declares for the context.
pub data IsInContext (s : StatedSchema) (d : Data) : List Step → Type 0 where
  in_context : (asked : Asked) (t : Cedar) (path : List Step) → Asks d asked → context_type s asked ≡ Some t
      → RecordFaultAt t (or_empty (get (codes "context") d)) path → IsInContext s d (Key (codes "context") ∷ path)

-- `IsRequestPathOf s d f path` holds if `path` leads to the part of `d` that `f` is about, where `f` is an error of `d`
-- as a request under the schema `s`.
abbrev pub IsRequestPathOf : StatedSchema → Data → EntityFault → List Step → Type 0
IsRequestPathOf s d BadShape path = FormFaultAt d path
IsRequestPathOf s d NotApplicable path = path ≡ to_key (codes "action")
-- any other error is an error of the context
IsRequestPathOf s d _ path = IsInContext s d path
