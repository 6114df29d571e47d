-- Defines the request that JSON describes under a schema, and the first error if it describes none.
-- Source: Cedar reference guide 4.0, "Authorization request" and "Schema JSON format", `appliesTo`: principal,
-- action, resource, context.
-- Rules of this product: principal, action and resource are each a uid in the form that entities use, or a string as in
-- a policy, such as "User::\"alice\""; an absent context is empty, and null does not count as absent; other keys are
-- ignored; the order of the errors.
use Rattle.std.specs.Prelude.{◌≡◌, true, ℕ, List, MatchOption, codes, Result, Ok, Err}
use Rattle.serde_json.specs.Data.{Data}
use Rattle.serde_json.specs.Find.{get}
use Rattle.json_words.specs.ReadsAs.{◌>>=◌, or_fault}
use Rattle.values.specs.declared.entity_uid.EntityUid.{EntityUid}
use Rattle.values.specs.declared.request.Request.{Request}
use Rattle.values.specs.Fields.{Field}
use Rattle.entity_uids.specs.Uids.{NamesEntity}
use Rattle.schema.specs.Schemas.{StatedSchema}
use Rattle.entities.specs.Typing.{record_in}
use Rattle.entities.specs.declared.fault.EntityFault.{EntityFault}
use Rattle.entities.specs.declared.fault.EntityFault.TheVariants.{BadShape, NotApplicable}
use Rattle.entities.specs.declared.requests.Asked.{Asked}
use Rattle.entities.specs.EntityForms.{is_absent_or_object, or_empty}
use Rattle.entities.specs.Contexts.{context_where, is_place}

-- `NamesAt key d uid` holds if the value of `d` at `key` names `uid`.
abbrev pub NamesAt : List ℕ → Data → EntityUid → Type 0
NamesAt key d uid = MatchOption (get key d) ⊥ (λ found. NamesEntity found uid)

-- `Asks d asked` holds if `d` has the form of a request: it names the principal, the action and the resource of
-- `asked`, and its context is an object or absent.
pub record Asks (d : Data) (asked : Asked) : Type 0 where
  pub principal : NamesAt (codes "principal") d asked.principal
  pub action : NamesAt (codes "action") d asked.action
  pub resource : NamesAt (codes "resource") d asked.resource
  pub context : is_absent_or_object (get (codes "context") d) ≡ true

-- `context_asked s asked d` is the context that the JSON `d` of a request describes, or the first error. The context
-- has the type that the environment of the request `asked` in the schema `s` declares.
unfoldable pub context_asked : StatedSchema → Asked → Data → Result (List Field) EntityFault
context_asked s asked d = do
  type ← or_fault NotApplicable
      (context_where (is_place asked.action asked.principal.type_name asked.resource.type_name) s.environments)
  record_in type (or_empty (get (codes "context") d))

-- `asked_by q` are the principal, action and resource of the request `q`.
abbrev pub asked_by : Request → Asked
asked_by q = record { principal = q.principal; action = q.action; resource = q.resource }

-- `ParsesRequest s d q` holds if `d` describes the request `q` under the schema `s`.
pub record ParsesRequest (s : StatedSchema) (d : Data) (q : Request) : Type 0 where
  pub asks : Asks d (asked_by q)
  pub context : context_asked s (asked_by q) d ≡ Ok q.context

-- `RequestRefused s d f` holds if `d` describes no request under the schema `s`, and `f` is the first error.
pub data RequestRefused (s : StatedSchema) (d : Data) : EntityFault → Type 0 where
  shape : ((asked : Asked) → Asks d asked → ⊥) → RequestRefused s d BadShape
  context : (asked : Asked) (f : EntityFault) → Asks d asked → context_asked s asked d ≡ Err f
      → RequestRefused s d f
