-- A value states a request or is refused.
use Rattle.std.proofs.Common.{◌≡◌, ◌⊎◌, ℕ, Bool, true, false, List, Option, Some, None, Result, Ok, Err, MatchOption}
use Rattle.std.proofs.Common.{inl, inr, refl, codes}
use Rattle.serde_json.specs.Data.{Data}
use Rattle.serde_json.specs.Find.{get, as_str}
use Rattle.values.specs.declared.entity_uid.EntityUid.{EntityUid}
use Rattle.values.specs.declared.request.Request.{Request}
use Rattle.values.specs.Fields.{Field}
use Rattle.entity_uids.specs.policy_grammar.declared.fault.ReadFault.{ReadFault}
use Rattle.entity_uids.specs.policy_grammar.PolicyText.{IsUidText, IsUidRefused}
use Rattle.entity_uids.specs.policy_grammar.Unique.{HasOneReading}
use Rattle.entity_uids.specs.Uids.{IsUid, NamesEntity, IsRead, uid_in}
use Rattle.entity_uids.specs.Laws.{UidsAreFound}
use Rattle.schema.specs.Schemas.{StatedSchema}
use Rattle.entities.specs.declared.fault.EntityFault.{EntityFault}
use Rattle.entities.specs.declared.fault.EntityFault.TheVariants.{BadShape}
use Rattle.entities.specs.declared.requests.Asked.{Asked}
use Rattle.entities.specs.EntityForms.{is_absent_or_object}
use Rattle.entities.specs.Requests.{NamesAt, Asks, context_asked, ParsesRequest, RequestRefused, shape, context}
use Rattle.entities.specs.Laws.{RequestOrRefusal}
use Rattle.entities.proofs.RequestLemmas.{no_principal, no_action, no_resource, no_context}

-- the laws of names
pub record Laws : Type 0 where
  pub found : UidsAreFound
  pub uids : HasOneReading IsUidText IsUidRefused

-- some entity is so, or none
abbrev SomeOrNone : (EntityUid → Type 0) → Type 0
SomeOrNone Names = ((uid : EntityUid) × Names uid) ⊎ ((uid : EntityUid) → Names uid → ⊥)

read_or_none : (Names : EntityUid → Type 0) (read : Option EntityUid) → IsRead Names read → SomeOrNone Names
read_or_none Names None none = inr none
read_or_none Names (Some uid) is = inl (uid, is)

uid_or_none : Laws → (text : List ℕ) → ((uid : EntityUid) × IsUidText text uid) ⊎ ((why : ReadFault) × IsUidRefused text why) → SomeOrNone (IsUidText text)
uid_or_none laws text (inl read) = inl read
uid_or_none laws text (inr none) = inr (λ uid is. laws.uids.not_both text uid none.0 is none.1)

name_or_none : Laws → (d : Data) (text : Option (List ℕ)) → SomeOrNone (λ uid. MatchOption text (IsUid d uid) (λ bytes. IsUidText bytes uid))
name_or_none laws d None = read_or_none (IsUid d) (uid_in d) (laws.found d)
name_or_none laws d (Some text) = uid_or_none laws text (laws.uids.some text)

found_or_none : Laws → (found : Option Data) → SomeOrNone (λ uid. MatchOption found ⊥ (λ d. NamesEntity d uid))
found_or_none laws None = inr (λ uid none. none)
found_or_none laws (Some d) = name_or_none laws d (as_str d)

-- the value has the form of a request, or not
asked_or_none : (d : Data) → SomeOrNone (NamesAt (codes "principal") d) → SomeOrNone (NamesAt (codes "action") d) → SomeOrNone (NamesAt (codes "resource") d) →
    (fits : Bool) → is_absent_or_object (get (codes "context") d) ≡ fits → ((asked : Asked) × Asks d asked) ⊎ ((asked : Asked) → Asks d asked → ⊥)
asked_or_none d (inl principal) (inl action) (inl resource) true e = inl (
  record { principal = principal.0; action = action.0; resource = resource.0 },
  record { principal = principal.1; action = action.1; resource = resource.1; context = e },
)
asked_or_none d (inl principal) (inl action) (inl resource) false e = inr (no_context d e)
asked_or_none d (inl principal) (inl action) (inr none) fits e = inr (no_resource d none)
asked_or_none d (inl principal) (inr none) resource fits e = inr (no_action d none)
asked_or_none d (inr none) action resource fits e = inr (no_principal d none)

-- ---- outcomes

abbrev Outcome : StatedSchema → Data → Type 0
Outcome s d = ((q : Request) × ParsesRequest s d q) ⊎ ((f : EntityFault) × RequestRefused s d f)

by_context : (s : StatedSchema) (d : Data) (asked : Asked) → Asks d asked → (read : Result (List Field) EntityFault) → context_asked s asked d ≡ read → Outcome s d
by_context s d asked asks (Ok fields) e = inl (
  record { principal = asked.principal; action = asked.action; resource = asked.resource; context = fields },
  record { asks = asks; context = e },
)
by_context s d asked asks (Err f) e = inr (f, context asked f asks e)

by_form : (s : StatedSchema) (d : Data) → ((asked : Asked) × Asks d asked) ⊎ ((asked : Asked) → Asks d asked → ⊥) → Outcome s d
by_form s d (inl asks) = by_context s d asks.0 asks.1 (context_asked s asks.0 d) refl
by_form s d (inr none) = inr (BadShape, shape none)

pub request_or_refusal : Laws → RequestOrRefusal
request_or_refusal laws s d = by_form s d (asked_or_none d
    (found_or_none laws (get (codes "principal") d)) (found_or_none laws (get (codes "action") d)) (found_or_none laws (get (codes "resource") d))
    (is_absent_or_object (get (codes "context") d)) refl)
