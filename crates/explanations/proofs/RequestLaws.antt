-- A request that is rejected has exactly one path.
use Rattle.std.proofs.Common.{◌≡◌, ◌∙◌, ◌⊎◌, ℕ, List, [], ◌∷◌, Bool, true, false, Option, Some, None, MatchOption, inl, inr, refl, sym, ap, codes}
use Rattle.std.specs.Prelude.{is_some}
use Rattle.serde_json.specs.Data.{Data}
use Rattle.serde_json.specs.Data as json
use Rattle.serde_json.specs.Find.{get, as_object, as_str}
use Rattle.values.specs.declared.entity_uid.EntityUid.{EntityUid}
use Rattle.schema_types.specs.Cedar.{Cedar}
use Rattle.policy_grammar.specs.declared.fault.ReadFault.{ReadFault}
use Rattle.policy_grammar.specs.PolicyText.{IsUidText, IsUidRefused}
use Rattle.policy_grammar.specs.Unique.{HasOneReading}
use Rattle.entities.specs.entity_uids.Uids.{IsUid, NamesEntity, IsRead, uid_in}
use Rattle.entities.specs.entity_uids.Laws.{UidsAreFound, OneName}
use Rattle.schema_decisions.specs.schema.Schemas.{StatedSchema}
use Rattle.entities.specs.declared.fault.EntityFault.{EntityFault}
use Rattle.entities.specs.declared.fault.EntityFault.TheVariants.{NoMemory, BadShape, UnknownType, ActionEntity, Undeclared, Missing, WrongType, BadParent, SelfParent, TagsLeftOut, NotApplicable}
use Rattle.entities.specs.declared.requests.Asked.{Asked}
use Rattle.entities.specs.EntityForms.{is_absent_or_object, or_empty}
use Rattle.entities.specs.Requests.{NamesAt, Asks, RequestRefused}
use Rattle.entities.specs.Requests as request
use Rattle.explanations.specs.Steps.{Step, Key}
use Rattle.explanations.specs.EntityPaths.{to_key}
use Rattle.explanations.specs.RequestPaths.{IsNamedAt, FormFaultAt, context_type, IsInContext, IsRequestPathOf}
use Rattle.explanations.specs.RequestPaths as says
use Rattle.explanations.specs.PathLaws.{RequestsHavePaths}
use Rattle.explanations.specs.inner.FoundPaths.{under, record_path}
use Rattle.explanations.specs.inner.FoundNames.{context_path, IsFormSearched}
use Rattle.explanations.proofs.Agreeing.{some_is, no_truth, record_path_only}
use Rattle.explanations.proofs.Requests.{same_asked, form_part, context_fails}

-- the laws of names
pub record Names : Type 0 where
  pub one : OneName
  pub found : UidsAreFound
  pub uids : HasOneReading IsUidText IsUidRefused

abbrev SomeOrNone : (EntityUid → Type 0) → Type 0
SomeOrNone Is = ((uid : EntityUid) × Is uid) ⊎ (((uid : EntityUid) × Is uid) → ⊥)

read_or_none : (Is : EntityUid → Type 0) (read : Option EntityUid) → IsRead Is read → SomeOrNone Is
read_or_none Is None none = inr (λ h. none h.0 h.1)
read_or_none Is (Some uid) is = inl (uid, is)

uid_or_none : Names → (text : List ℕ) → ((uid : EntityUid) × IsUidText text uid) ⊎ ((why : ReadFault) × IsUidRefused text why) → SomeOrNone (IsUidText text)
uid_or_none names text (inl read) = inl read
uid_or_none names text (inr none) = inr (λ h. names.uids.not_both text h.0 none.0 h.1 none.1)

name_or_none : Names → (d : Data) (text : Option (List ℕ)) → SomeOrNone (λ uid. MatchOption text (IsUid d uid) (λ bytes. IsUidText bytes uid))
name_or_none names d None = read_or_none (IsUid d) (uid_in d) (names.found d)
name_or_none names d (Some text) = uid_or_none names text (names.uids.some text)

named_or_none : Names → (o : Option Data) → SomeOrNone (λ uid. MatchOption o ⊥ (λ d. NamesEntity d uid))
named_or_none names None = inr (λ h. h.1)
named_or_none names (Some d) = name_or_none names d (as_str d)

-- ---- the form

form_by : (d : Data) (object context : Bool) → is_some (as_object d) ≡ object → SomeOrNone (NamesAt (codes "principal") d) → SomeOrNone (NamesAt (codes "action") d) → SomeOrNone (NamesAt (codes "resource") d)
    → is_absent_or_object (get (codes "context") d) ≡ context → (o : Option (List Step)) × IsFormSearched d o
form_by d false context is p a r e = (Some [], says.no_object is)
form_by d true context is (inr none) a r e = (Some (to_key (codes "principal")), says.no_principal is none)
form_by d true context is (inl p) (inr none) r e = (Some (to_key (codes "action")), says.no_action p none)
form_by d true context is (inl p) (inl a) (inr none) e = (Some (to_key (codes "resource")), says.no_resource p a none)
form_by d true false is (inl p) (inl a) (inl r) e = (Some (to_key (codes "context")), says.no_context p a r e)
form_by d true true is (inl p) (inl a) (inl r) e =
    (None, (record { principal = p.0; action = a.0; resource = r.0 }, record { principal = p.1; action = a.1; resource = r.1; context = e }))

form_of : Names → (d : Data) → (o : Option (List Step)) × IsFormSearched d o
form_of names d = form_by d (is_some (as_object d)) (is_absent_or_object (get (codes "context") d)) refl
    (named_or_none names (get (codes "principal") d)) (named_or_none names (get (codes "action") d)) (named_or_none names (get (codes "resource") d)) refl

named_object : (key : List ℕ) (d : Data) → IsNamedAt key d → is_some (as_object d) ≡ true
named_object key json.null h = absurd h.1
named_object key (json.boolean b) h = absurd h.1
named_object key (json.number n) h = absurd h.1
named_object key (json.string s) h = absurd h.1
named_object key (json.array ds) h = absurd h.1
named_object key (json.object ms) h = refl

-- the number of parts that have the form
abbrev Stage : Data → List Step → Type 0
Stage d path = (is_some (as_object d) ≡ false → path ≡ [])
    × (is_some (as_object d) ≡ true → ((IsNamedAt (codes "principal") d → ⊥) → path ≡ to_key (codes "principal"))
    × (IsNamedAt (codes "principal") d → ((IsNamedAt (codes "action") d → ⊥) → path ≡ to_key (codes "action"))
    × (IsNamedAt (codes "action") d → ((IsNamedAt (codes "resource") d → ⊥) → path ≡ to_key (codes "resource"))
    × (IsNamedAt (codes "resource") d → path ≡ to_key (codes "context")))))

stage : (d : Data) (p : List Step) → FormFaultAt d p → Stage d p
stage d p (says.no_object is) = (λ e. refl, λ e. absurd (no_truth (is_some (as_object d)) e is))
stage d p (says.no_principal is none) = (λ e. absurd (no_truth (is_some (as_object d)) is e), λ e. (λ n. refl, λ h. absurd (none h)))
stage d p (says.no_action hp none) = (
  λ e. absurd (no_truth (is_some (as_object d)) (named_object (codes "principal") d hp) e),
  λ e. (λ n. absurd (n hp), λ h. (λ n. refl, λ g. absurd (none g))),
)
stage d p (says.no_resource hp ha none) = (
  λ e. absurd (no_truth (is_some (as_object d)) (named_object (codes "principal") d hp) e),
  λ e. (λ n. absurd (n hp), λ h. (λ n. absurd (n ha), λ g. (λ n. refl, λ k. absurd (none k)))),
)
stage d p (says.no_context hp ha hr e) = (
  λ e. absurd (no_truth (is_some (as_object d)) (named_object (codes "principal") d hp) e),
  λ e. (λ n. absurd (n hp), λ h. (λ n. absurd (n ha), λ g. (λ n. absurd (n hr), λ k. refl))),
)

form_one : (d : Data) (p q : List Step) → FormFaultAt d p → FormFaultAt d q → q ≡ p
form_one d p q (says.no_object is) h = (stage d q h).0 is
form_one d p q (says.no_principal is none) h = ((stage d q h).1 is).0 none
form_one d p q (says.no_action hp none) h = (((stage d q h).1 (named_object (codes "principal") d hp)).1 hp).0 none
form_one d p q (says.no_resource hp ha none) h = ((((stage d q h).1 (named_object (codes "principal") d hp)).1 hp).1 ha).0 none
form_one d p q (says.no_context hp ha hr e) h = ((((stage d q h).1 (named_object (codes "principal") d hp)).1 hp).1 ha).1 hr

-- ---- the context

context_is : (s : StatedSchema) (d : Data) (asked : Asked) (t : Cedar) (p : List Step) → context_type s asked ≡ Some t → record_path t (or_empty (get (codes "context") d)) ≡ Some p
    → context_path s asked d ≡ Some (Key (codes "context") ∷ p)
context_is s d asked t p is e = rw is (ap (under (Key (codes "context"))) e)

context_only : OneName → (s : StatedSchema) (d : Data) (asked : Asked) (p : List Step) → Asks d asked → IsInContext s d p → context_path s asked d ≡ Some p
context_only one s d asked p asks (says.in_context other t q others is h) =
    ap (λ (x : Asked). context_path s x d) (same_asked one d asked other asks others)
    ∙ context_is s d other t q is (record_path_only t (or_empty (get (codes "context") d)) q h)

context_one : OneName → (s : StatedSchema) (d : Data) (p q : List Step) → IsInContext s d p → IsInContext s d q → q ≡ p
context_one one s d p q (says.in_context asked t r asks is h) k =
    some_is q (Key (codes "context") ∷ r) (sym (context_only one s d asked q asks k) ∙ context_only one s d asked (Key (codes "context") ∷ r) asks (says.in_context asked t r asks is h))

path_one : OneName → (s : StatedSchema) (d : Data) (f : EntityFault) (p q : List Step) → IsRequestPathOf s d f p → IsRequestPathOf s d f q → q ≡ p
path_one one s d BadShape p q h k = form_one d p q h k
path_one one s d NotApplicable p q h k = k ∙ sym h
path_one one s d NoMemory p q h k = context_one one s d p q h k
path_one one s d UnknownType p q h k = context_one one s d p q h k
path_one one s d ActionEntity p q h k = context_one one s d p q h k
path_one one s d Undeclared p q h k = context_one one s d p q h k
path_one one s d Missing p q h k = context_one one s d p q h k
path_one one s d WrongType p q h k = context_one one s d p q h k
path_one one s d BadParent p q h k = context_one one s d p q h k
path_one one s d SelfParent p q h k = context_one one s d p q h k
path_one one s d TagsLeftOut p q h k = context_one one s d p q h k

-- ---- some path

context_some : (s : StatedSchema) (d : Data) (f : EntityFault) → (f ≡ BadShape → ⊥) → (f ≡ NotApplicable → ⊥) → RequestRefused s d f → (path : List Step) × IsInContext s d path
context_some s d f no_shape applies (request.shape none) = absurd (no_shape refl)
context_some s d f no_shape applies (request.context asked g asks e) = let found = context_fails s d asked g asks applies e in (found.0, found.2)

path_some : Names → (s : StatedSchema) (d : Data) (f : EntityFault) → RequestRefused s d f → (path : List Step) × IsRequestPathOf s d f path
path_some names s d BadShape refused = let h = form_of names d in let found = form_part s d h.0 h.1 refused in (found.0, found.2)
path_some names s d NotApplicable refused = (to_key (codes "action"), refl)
path_some names s d NoMemory refused = context_some s d NoMemory (λ e. absurd cc) (λ e. absurd cc) refused
path_some names s d UnknownType refused = context_some s d UnknownType (λ e. absurd cc) (λ e. absurd cc) refused
path_some names s d ActionEntity refused = context_some s d ActionEntity (λ e. absurd cc) (λ e. absurd cc) refused
path_some names s d Undeclared refused = context_some s d Undeclared (λ e. absurd cc) (λ e. absurd cc) refused
path_some names s d Missing refused = context_some s d Missing (λ e. absurd cc) (λ e. absurd cc) refused
path_some names s d WrongType refused = context_some s d WrongType (λ e. absurd cc) (λ e. absurd cc) refused
path_some names s d BadParent refused = context_some s d BadParent (λ e. absurd cc) (λ e. absurd cc) refused
path_some names s d SelfParent refused = context_some s d SelfParent (λ e. absurd cc) (λ e. absurd cc) refused
path_some names s d TagsLeftOut refused = context_some s d TagsLeftOut (λ e. absurd cc) (λ e. absurd cc) refused

pub requests_have_paths : Names → RequestsHavePaths
requests_have_paths names s d f refused =
    let here = path_some names s d f refused in
    (here.0, here.1, λ other is. path_one names.one s d f here.0 other here.1 is)
