-- What states no request.
use Rattle.std.proofs.Common.{◌≡◌, false}
use Rattle.std.specs.Prelude.{codes}
use Rattle.serde_json.specs.Data.{Data}
use Rattle.serde_json.specs.Find.{get}
use Rattle.values.specs.declared.entity_uid.EntityUid.{EntityUid}
use Rattle.values.specs.declared.request.Request.{Request}
use Rattle.decision_texts.specs.Bare.{is_absent_or_empty}
use Rattle.decision_texts.specs.BareRequests.{NamesAt, DescribesBareRequest}

pub no_principal : (d : Data) → ((uid : EntityUid) → NamesAt (codes "principal") d uid → ⊥) → (q : Request) → DescribesBareRequest d q → ⊥
no_principal d none q states = none q.principal states.principal

pub no_action : (d : Data) → ((uid : EntityUid) → NamesAt (codes "action") d uid → ⊥) → (q : Request) → DescribesBareRequest d q → ⊥
no_action d none q states = none q.action states.action

pub no_resource : (d : Data) → ((uid : EntityUid) → NamesAt (codes "resource") d uid → ⊥) → (q : Request) → DescribesBareRequest d q → ⊥
no_resource d none q states = none q.resource states.resource

pub no_context : (d : Data) → is_absent_or_empty (get (codes "context") d) ≡ false → (q : Request) → DescribesBareRequest d q → ⊥
no_context d full q states = let empty = states.context in absurd (cc)
