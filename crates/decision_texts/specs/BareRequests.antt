-- Defines requests as JSON without a schema.
-- Source: Cedar reference guide 4.0, "Authorization request": principal, action, resource, context.
-- Rules of this product: principal, action and resource are each a uid in the form that entities use, or a string as in
-- a policy, such as "User::\"alice\"". Without a schema the context must be absent or the empty object (null does not
-- count as absent), and the request's context is empty. Other keys are ignored.
use Rattle.std.specs.Prelude.{◌≡◌, true, ℕ, List, [], MatchOption, codes}
use Rattle.serde_json.specs.Data.{Data}
use Rattle.serde_json.specs.Find.{get}
use Rattle.values.specs.declared.entity_uid.EntityUid.{EntityUid}
use Rattle.values.specs.declared.request.Request.{Request}
use Rattle.answer_lines.specs.entity_uids.Uids.{NamesEntity}
use Rattle.decision_texts.specs.Bare.{is_absent_or_empty}

-- `NamesAt key d uid` holds if the value of `d` at `key` names `uid`.
abbrev pub NamesAt : List ℕ → Data → EntityUid → Type 0
NamesAt key d uid = MatchOption (get key d) ⊥ (λ found. NamesEntity found uid)

-- `DescribesBareRequest d q` holds if `d` describes the request `q`.
pub record DescribesBareRequest (d : Data) (q : Request) : Type 0 where
  pub principal : NamesAt (codes "principal") d q.principal
  pub action : NamesAt (codes "action") d q.action
  pub resource : NamesAt (codes "resource") d q.resource
  pub context : is_absent_or_empty (get (codes "context") d) ≡ true
  pub context_is_empty : q.context ≡ []
