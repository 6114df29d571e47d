-- What a value states where no schema is at hand, or that it states nothing.
use Rattle.std.proofs.Common.{◌≡◌, ◌∙◌, ◌⊎◌, ℕ, Bool, true, false, List, [], Option, Some, None, MatchOption, inl, inr, refl}
use Rattle.std.proofs.Common.{sym, codes}
use Rattle.serde_json.specs.Data.{Data}
use Rattle.serde_json.specs.Find.{get, as_str}
use Rattle.values.specs.declared.entity_uid.EntityUid.{EntityUid}
use Rattle.values.specs.declared.request.Request.{Request}
use Rattle.answer_lines.specs.policy_grammar.declared.fault.ReadFault.{ReadFault}
use Rattle.answer_lines.specs.policy_grammar.PolicyText.{IsUidText, IsUidRefused}
use Rattle.answer_lines.specs.policy_grammar.Unique.{HasOneReading}
use Rattle.answer_lines.specs.entity_uids.Uids.{IsUid, NamesEntity, IsRead, uid_in}
use Rattle.answer_lines.specs.entity_uids.Laws.{OneName, UidsAreFound}
use Rattle.answer_lines.specs.declared.refusal.Refusal.{Refusal}
use Rattle.answer_lines.specs.Refusals.{bad_shape}
use Rattle.decision_texts.specs.Bare.{is_absent_or_empty}
use Rattle.decision_texts.specs.BareRequests.{NamesAt, DescribesBareRequest}
use Rattle.decision_texts.specs.BareReading.{DescribesNoRequest, bare_reading}
use Rattle.decision_texts.proofs.OutcomeLemmas.{IsDefinite}
use Rattle.decision_texts.proofs.RequestLemmas.{no_principal, no_action, no_resource, no_context}

-- the laws of what names entities
pub record Laws : Type 0 where
  pub names : OneName
  pub found : UidsAreFound
  pub uids : HasOneReading IsUidText IsUidRefused

-- ---- a request at most

-- what stands at a key, if anything does
found_same : Laws → (found : Option Data) (u v : EntityUid) → MatchOption found ⊥ (λ d. NamesEntity d u) → MatchOption found ⊥ (λ d. NamesEntity d v)
    → u ≡ v
found_same laws None u v a b = absurd a
found_same laws (Some d) u v a b = laws.names d u v a b

one_request : Laws → (d : Data) (q other : Request) → DescribesBareRequest d q → DescribesBareRequest d other → q ≡ other
one_request laws d q other a b =
    let principal = found_same laws (get (codes "principal") d) q.principal other.principal a.principal b.principal in
    let action = found_same laws (get (codes "action") d) q.action other.action a.action b.action in
    let resource = found_same laws (get (codes "resource") d) q.resource other.resource a.resource b.resource in
    let context : q.context ≡ other.context = a.context_is_empty ∙ sym b.context_is_empty in
    λ i. record { principal = principal i; action = action i; resource = resource i; context = context i }

-- ---- a request, or none

-- some entity is so, or none
abbrev SomeOrNone : (EntityUid → Type 0) → Type 0
SomeOrNone Names = ((uid : EntityUid) × Names uid) ⊎ ((uid : EntityUid) → Names uid → ⊥)

read_or_none : (Names : EntityUid → Type 0) (read : Option EntityUid) → IsRead Names read → SomeOrNone Names
read_or_none Names None none = inr none
read_or_none Names (Some uid) is = inl (uid, is)

uid_or_none : Laws → (text : List ℕ) → ((uid : EntityUid) × IsUidText text uid) ⊎ ((why : ReadFault) × IsUidRefused text why) → SomeOrNone (IsUidText text)
uid_or_none laws text (inl read) = inl read
uid_or_none laws text (inr none) = inr (λ uid is. laws.uids.not_both text uid none.0 is none.1)

name_or_none : Laws → (d : Data) (text : Option (List ℕ)) → SomeOrNone (λ uid. MatchOption text (IsUid d uid) (λ bytes. IsUidText bytes uid))
name_or_none laws d None = read_or_none (IsUid d) (uid_in d) (laws.found d)
name_or_none laws d (Some text) = uid_or_none laws text (laws.uids.some text)

found_or_none : Laws → (found : Option Data) → SomeOrNone (λ uid. MatchOption found ⊥ (λ d. NamesEntity d uid))
found_or_none laws None = inr (λ uid none. none)
found_or_none laws (Some d) = name_or_none laws d (as_str d)

abbrev StatedOrNone : Data → Type 0
StatedOrNone d = ((q : Request) × DescribesBareRequest d q) ⊎ ((refusal : Refusal) × DescribesNoRequest d refusal)

-- the value states none
nothing : (d : Data) → ((q : Request) → DescribesBareRequest d q → ⊥) → StatedOrNone d
nothing d none = inr (bad_shape None, record { none = none; is = refl })

stated_or_none : (d : Data) → SomeOrNone (NamesAt (codes "principal") d) → SomeOrNone (NamesAt (codes "action") d) → SomeOrNone (NamesAt (codes "resource") d) →
    (empty : Bool) → is_absent_or_empty (get (codes "context") d) ≡ empty → StatedOrNone d
stated_or_none d (inl principal) (inl action) (inl resource) true e = inl (
  record { principal = principal.0; action = action.0; resource = resource.0; context = [] },
  record { principal = principal.1; action = action.1; resource = resource.1; context = e; context_is_empty = refl },
)
stated_or_none d (inl principal) (inl action) (inl resource) false e = nothing d (no_context d e)
stated_or_none d (inl principal) (inl action) (inr none) empty e = nothing d (no_resource d none)
stated_or_none d (inl principal) (inr none) resource empty e = nothing d (no_action d none)
stated_or_none d (inr none) action resource empty e = nothing d (no_principal d none)

request_or_none : Laws → (d : Data) → StatedOrNone d
request_or_none laws d =
    stated_or_none d (found_or_none laws (get (codes "principal") d)) (found_or_none laws (get (codes "action") d)) (found_or_none laws (get (codes "resource") d))
    (is_absent_or_empty (get (codes "context") d)) refl

-- ---- the reading

nowhere : {G : Type 0} (parents : List EntityUid) → None ≡ Some parents → G
nowhere parents e = absurd cc

pub definite : Laws → IsDefinite bare_reading
definite laws = record {
  judged = λ ps. inl tt;
  one_rejection = λ ps refusal other a b. absurd a;
  not_rejected = λ ps refusal a b. b;
  asked = request_or_none laws;
  one_request = one_request laws;
  one_fault = λ d refusal other a b. a.is ∙ sym b.is;
  no_fault = λ d q refusal a b. b.none q a;
  declared = [];
  lists = λ u parents e. nowhere parents e;
}
