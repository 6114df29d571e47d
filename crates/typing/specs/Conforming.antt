-- Defines when a request and the stored entities conform to an environment, and what a sound outcome of an expression
-- is.
-- Source: cedar-spec, cedar-lean/Cedar/Validation/RequestEntityValidator.lean (`instanceOfRequestType`,
-- `instanceOfEntitySchema`, `instanceOfActionSchema`) and cedar-lean/Cedar/Thm/Validation/Typechecker.lean
-- (`type_of_is_sound`, `CapabilitiesInvariant`).
use Rattle.std.specs.Prelude.{◌≡◌, List, true, IsTrue, IsFalse, Contains, Some, Ok, Err}
use Rattle.values.specs.declared.entity_uid.EntityUid.{EntityUid}
use Rattle.values.specs.declared.request.Request.{Request}
use Rattle.values.specs.Fields.{Field}
use Rattle.values.specs.Values.{boolean, record_of, fields_of}
use Rattle.evaluator.specs.ancestor_search.Hierarchy.{IsAncestor, AreAllAncestorsOf}
use Rattle.grammar_core.specs.declared.expr.Expr.TheVariants as form
use Rattle.evaluator.specs.declared.fault.EvalFault.{EvalFault}
use Rattle.evaluator.specs.declared.fault.EvalFault.TheVariants.{EntityDoesNotExist, ArithBoundsError}
use Rattle.evaluator.specs.Outcomes.{EvaluationResult}
use Rattle.evaluator.specs.Operators.{Entities}
use Rattle.evaluator.specs.Evaluation.{EvaluatesTo}
use Rattle.typing.specs.Types.{StaticType, record_type}
use Rattle.typing.specs.Membership.{Of}
use Rattle.typing.specs.Environment.{Environment}
use Rattle.typing.specs.Gained.{Capability, CapabilityList}

-- `Conforms env W q` holds if the request `q` and the entity data `W` conform to the environment `env`. The request has
-- the action of `env` and the types of principal, resource and context of `env`. The attributes of each stored entity
-- are of the record type that `env` declares for the entity's type. The ancestors of an action are those that `env`
-- declares. The ancestors of any other entity are of types that may be ancestor types of that entity's type.
pub record Conforms (env : Environment) (W : Entities) (q : Request) : Type 0 where
  pub principal : q.principal.type_name ≡ env.principal
  pub action : q.action ≡ env.action
  pub resource : q.resource.type_name ≡ env.resource
  pub context : Of (record_of (fields_of q.context)) (record_type env.context)
  pub attributes : (u : EntityUid) (fs : List Field) → W.stored u ≡ Some fs
      → Of (record_of (fields_of fs)) (record_type (env.attributes u.type_name))
  pub actions : (u : EntityUid) → IsTrue (env.is_action_type u.type_name)
      → AreAllAncestorsOf W.parents u (env.action_ancestors u)
  pub ancestors : (u a : EntityUid) → IsFalse (env.is_action_type u.type_name) → IsAncestor W.parents a u
      → IsTrue (env.may_have_ancestor u.type_name a.type_name)

-- `IsPermittedError e` holds if `e` is one of the two errors that typing does not exclude: `EntityDoesNotExist` and
-- `ArithBoundsError`.
pub data IsPermittedError : EvalFault → Type 0 where
  entity_is_missing : IsPermittedError EntityDoesNotExist
  number_out_of_bounds : IsPermittedError ArithBoundsError

-- `Fits t r` holds if `r` is a value of the type `t`, or a permitted error (`IsPermittedError`).
abbrev pub Fits : StaticType → EvaluationResult → Type 0
Fits t (Ok v) = Of v t
Fits t (Err e) = IsPermittedError e

-- `IsPresent W q p` holds if, for the request `q` over the entity data `W`, the value of the expression of the
-- capability `p` has the field of `p`.
abbrev pub IsPresent : Entities → Request → Capability → Type 0
IsPresent W q p = EvaluatesTo W q (form.Has p.0 p.1) (Ok (boolean true))

-- `ArePresent W q K` holds if `IsPresent W q p` holds for each capability `p` of `K`.
pub record ArePresent (W : Entities) (q : Request) (K : CapabilityList) : Type 0 where
  pub each : (p : Capability) → Contains K p → IsPresent W q p

-- `IsSoundOutcome W q t L r` holds if `r` fits the type `t` (`Fits`) and, if `r` is true, the fields of the
-- capabilities `L` are present for the request `q` over the entity data `W`.
pub record IsSoundOutcome (W : Entities) (q : Request) (t : StaticType) (L : CapabilityList) (r : EvaluationResult)
    : Type 0 where
  pub fits : Fits t r
  pub learned : r ≡ Ok (boolean true) → ArePresent W q L
