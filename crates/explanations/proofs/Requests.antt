-- The part of a request that its error is about is found.
use Rattle.std.proofs.Common.{◌≡◌, ◌∙◌, List, [], ◌∷◌, Bool, true, false, Option, Some, None, Result, Ok, Err, IfOk, refl, sym, ap, subst, codes}
use Rattle.std.specs.Prelude.{is_some}
use Rattle.serde_json.specs.Data.{Data}
use Rattle.serde_json.specs.Find.{get, as_object}
use Rattle.json_words.specs.ReadsAs.{◌>>=◌, or_fault}
use Rattle.values.specs.declared.entity_uid.EntityUid.{EntityUid}
use Rattle.values.specs.Fields.{Field}
use Rattle.schema_types.specs.Cedar.{Cedar}
use Rattle.entities.specs.declared.fault.EntityFault.{EntityFault}
use Rattle.entities.specs.entity_uids.Laws.{OneName}
use Rattle.entities.specs.entity_uids.Uids.{IsRead}
use Rattle.entities.specs.Typing.{with_or, record_in}
use Rattle.entities.proofs.Refusals.{record_within}
use Rattle.schema_decisions.specs.schema.Schemas.{StatedSchema}
use Rattle.entities.specs.declared.fault.EntityFault.TheVariants.{NoMemory, BadShape, UnknownType, ActionEntity, Undeclared, Missing, WrongType, BadParent, SelfParent, TagsLeftOut, NotApplicable}
use Rattle.entities.specs.declared.requests.Asked.{Asked}
use Rattle.entities.specs.EntityForms.{is_absent_or_object, or_empty}
use Rattle.entities.specs.Requests.{Asks, RequestRefused, context_asked}
use Rattle.entities.specs.Requests as request
use Rattle.explanations.specs.declared.request_paths.Named.{Named}
use Rattle.explanations.specs.Steps.{Step, Key}
use Rattle.explanations.specs.ValuePaths.{RecordFaultAt}
use Rattle.explanations.specs.EntityPaths.{to_key, first_unmet}
use Rattle.explanations.specs.RequestPaths.{FormFaultAt, context_type, IsContextType, IsInContext, IsRequestPathOf}
use Rattle.explanations.specs.RequestPaths as says
use Rattle.explanations.specs.inner.FoundPaths.{under, record_path, path_under}
use Rattle.explanations.specs.inner.FoundNames.{Names, AreNamed, request_demands, IsFormSearched, context_path, named_type, IsContextSearched, IsPartSearched}
use Rattle.explanations.proofs.Going.{made_so}
use Rattle.explanations.proofs.Agreeing.{Found, record_is_found}

-- ---- the three that are asked for

names_one : OneName → (o : Option Data) (u v : EntityUid) → Names o u → Names o v → u ≡ v
names_one one None u v h k = absurd h
names_one one (Some d) u v h k = one d u v h k

abbrev made : EntityUid → EntityUid → EntityUid → Asked
made p a r = record { principal = p; action = a; resource = r }

pub same_asked : OneName → (d : Data) (a b : Asked) → Asks d a → Asks d b → a ≡ b
same_asked one d a b h k =
    ap (λ (x : EntityUid). made x a.action a.resource) (names_one one (get (codes "principal") d) a.principal b.principal h.principal k.principal)
    ∙ ap (λ (x : EntityUid). made b.principal x a.resource) (names_one one (get (codes "action") d) a.action b.action h.action k.action)
    ∙ ap (λ (x : EntityUid). made b.principal b.action x) (names_one one (get (codes "resource") d) a.resource b.resource h.resource k.resource)

same_type : OneName → (s : StatedSchema) (d : Data) (p a r : EntityUid) (t : Option Cedar) → Names (get (codes "principal") d) p → Names (get (codes "action") d) a
    → Names (get (codes "resource") d) r → t ≡ context_type s (made p a r) → IsContextType s d t
same_type one s d p a r t hp ha hr e asked asks =
    e
    ∙ ap (λ (x : EntityUid). context_type s (made x a r)) (names_one one (get (codes "principal") d) p asked.principal hp asks.principal)
    ∙ ap (λ (x : EntityUid). context_type s (made asked.principal x r)) (names_one one (get (codes "action") d) a asked.action ha asks.action)
    ∙ ap (λ (x : EntityUid). context_type s (made asked.principal asked.action x)) (names_one one (get (codes "resource") d) r asked.resource hr asks.resource)

pub type_searched : OneName → (s : StatedSchema) (d : Data) (p a r : Option EntityUid) (t : Option Cedar) → IsRead (Names (get (codes "principal") d)) p → IsRead (Names (get (codes "action") d)) a
    → IsRead (Names (get (codes "resource") d)) r → t ≡ named_type s p a r → IsContextType s d t
type_searched one s d None a r t hp ha hr e = λ asked asks. absurd (hp asked.principal asks.principal)
type_searched one s d (Some p) None r t hp ha hr e = λ asked asks. absurd (ha asked.action asks.action)
type_searched one s d (Some p) (Some a) None t hp ha hr e = λ asked asks. absurd (hr asked.resource asks.resource)
type_searched one s d (Some p) (Some a) (Some r) t hp ha hr e = same_type one s d p a r t hp ha hr e

-- the entities read, of which two are joined in a pair, and then three
pub names_read : {E : Type 0} (d : Data) (a r : Result (Option EntityUid) E) (ar : Result (Option EntityUid × Option EntityUid) E) (dp da dr : Option Data) (first : Option EntityUid)
    (principal : Option EntityUid) (others : Option EntityUid × Option EntityUid) → dp ≡ get (codes "principal") d → da ≡ get (codes "action") d → dr ≡ get (codes "resource") d
    → IsRead (Names dp) first → IfOk a (IsRead (Names da)) → IfOk r (IsRead (Names dr))
    → IfOk ar (λ q. a ≡ Ok q.0) → IfOk ar (λ q. r ≡ Ok q.1) → principal ≡ first → ar ≡ Ok others
    → AreNamed d (record { principal = principal; action = others.0; resource = others.1 })
names_read d a r ar dp da dr first principal others gp ga gr hp ha hr of_action of_resource e f = (
  subst (λ (x : Option Data). IsRead (Names x) principal) gp (subst (IsRead (Names dp)) (sym e) hp),
  subst (λ (x : Option Data). IsRead (Names x) others.0) ga (made_so a others.0 (IsRead (Names da)) (made_so ar others (λ q. a ≡ Ok q.0) f of_action) ha),
  subst (λ (x : Option Data). IsRead (Names x) others.1) gr (made_so r others.1 (IsRead (Names dr)) (made_so ar others (λ q. r ≡ Ok q.1) f of_resource) hr),
)

pub context_searched : (s : StatedSchema) (d : Data) (t : Option Cedar) (o : Option (List Step)) → IsContextType s d t → o ≡ path_under (codes "context") t d → IsContextSearched s d o
context_searched s d t o is e asked asks = e ∙ ap (λ (x : Option Cedar). path_under (codes "context") x d) (is asked asks)

-- `IsNamed o yes` holds if `yes` is true exactly if the value `o` is present and names an entity.
abbrev IsNamed : Option Data → Bool → Type 0
IsNamed o true = (uid : EntityUid) × Names o uid
IsNamed o false = ((uid : EntityUid) × Names o uid) → ⊥

named_by : (o : Option Data) (read : Option EntityUid) (given : Bool) → IsRead (Names o) read → given ≡ is_some read → IsNamed o given
named_by o None given h e = subst (IsNamed o) (sym e) (λ n. h n.0 n.1)
named_by o (Some u) given h e = subst (IsNamed o) (sym e) (u, h)

-- ---- the form

form_searched_by : (d : Data) (object context p a r : Bool) → is_some (as_object d) ≡ object → is_absent_or_object (get (codes "context") d) ≡ context → IsNamed (get (codes "principal") d) p
    → IsNamed (get (codes "action") d) a → IsNamed (get (codes "resource") d) r
    → IsFormSearched d (first_unmet ((object, []) ∷ (p, to_key (codes "principal")) ∷ (a, to_key (codes "action")) ∷ (r, to_key (codes "resource")) ∷ (context, to_key (codes "context")) ∷ []))
form_searched_by d false context p a r is e hp ha hr = says.no_object is
form_searched_by d true context false a r is e hp ha hr = says.no_principal is hp
form_searched_by d true context true false r is e hp ha hr = says.no_action hp ha
form_searched_by d true context true true false is e hp ha hr = says.no_resource hp ha hr
form_searched_by d true false true true true is e hp ha hr = says.no_context hp ha hr e
form_searched_by d true true true true true is e hp ha hr =
    (record { principal = hp.0; action = ha.0; resource = hr.0 }, record { principal = hp.1; action = ha.1; resource = hr.1; context = e })

pub form_searched : (d : Data) (names : Named) (p a r : Bool) → AreNamed d names → p ≡ is_some names.principal → a ≡ is_some names.action → r ≡ is_some names.resource
    → IsFormSearched d (first_unmet (request_demands d p a r))
form_searched d names p a r h hp ha hr =
    form_searched_by d (is_some (as_object d)) (is_absent_or_object (get (codes "context") d)) p a r refl refl (named_by (get (codes "principal") d) names.principal p h.0 hp)
    (named_by (get (codes "action") d) names.action a h.1 ha) (named_by (get (codes "resource") d) names.resource r h.2 hr)

told_shape : (t : Cedar) (d : Data) → record_in t d ≡ Err BadShape → ⊥
told_shape t d e = elim (record_within t d BadShape e) [ ]

asked_shape_by : (o : Option Cedar) (d : Data) → (or_fault NotApplicable o >>= λ t. record_in t d) ≡ Err BadShape → ⊥
asked_shape_by None d e = absurd cc
asked_shape_by (Some t) d e = told_shape t d e

asked_shape : (s : StatedSchema) (asked : Asked) (d : Data) → context_asked s asked d ≡ Err BadShape → ⊥
unfolding context_asked
asked_shape s asked d e = asked_shape_by (context_type s asked) (or_empty (get (codes "context") d)) e

abbrev failed : EntityFault → Result (List Field) EntityFault
failed f = Err f

has_form : (s : StatedSchema) (d : Data) (f : EntityFault) → RequestRefused s d f → f ≡ BadShape → (asked : Asked) → Asks d asked → ⊥
has_form s d f (request.shape none) is asked asks = none asked asks
has_form s d f (request.context other g others e) is asked asks = asked_shape s other d (e ∙ ap failed is)

pub form_part : (s : StatedSchema) (d : Data) (o : Option (List Step)) → IsFormSearched d o → IsPartSearched s d BadShape o
form_part s d (Some p) h refused = (p, refl, h)
form_part s d None h refused = absurd (has_form s d BadShape refused refl h.0 h.1)

-- ---- the context

-- a path that leads into the context
abbrev pub InContext : StatedSchema → Data → Option (List Step) → Type 0
InContext s d o = (path : List Step) × (o ≡ Some path) × IsInContext s d path

fields_fail : (s : StatedSchema) (d : Data) (asked : Asked) (t : Cedar) (r : Result (List Field) EntityFault) (o : Option (List Step)) (f : EntityFault) → Asks d asked → context_type s asked ≡ Some t
    → Found (RecordFaultAt t (or_empty (get (codes "context") d))) r o → r ≡ Err f → InContext s d (under (Key (codes "context")) o)
fields_fail s d asked t (Ok x) o f asks is h e = absurd cc
fields_fail s d asked t (Err g) None f asks is h e = absurd h
fields_fail s d asked t (Err g) (Some p) f asks is h e = (Key (codes "context") ∷ p, refl, says.in_context asked t p asks is h)

context_fails_by : (s : StatedSchema) (d : Data) (asked : Asked) (o : Option Cedar) (f : EntityFault) → Asks d asked → context_type s asked ≡ o → (f ≡ NotApplicable → ⊥)
    → (or_fault NotApplicable o >>= λ t. record_in t (or_empty (get (codes "context") d))) ≡ Err f
    → InContext s d (under (Key (codes "context")) (with_or o (λ t. record_path t (or_empty (get (codes "context") d))) None))
context_fails_by s d asked None f asks is other e = absurd (other cc)
context_fails_by s d asked (Some t) f asks is other e =
    fields_fail s d asked t (record_in t (or_empty (get (codes "context") d))) (record_path t (or_empty (get (codes "context") d))) f asks is (record_is_found t (or_empty (get (codes "context") d))) e

pub context_fails : (s : StatedSchema) (d : Data) (asked : Asked) (f : EntityFault) → Asks d asked → (f ≡ NotApplicable → ⊥) → context_asked s asked d ≡ Err f → InContext s d (context_path s asked d)
unfolding context_asked
context_fails s d asked f asks other e = context_fails_by s d asked (context_type s asked) f asks refl other e

context_case : (s : StatedSchema) (d : Data) (f : EntityFault) (o : Option (List Step)) → (f ≡ BadShape → ⊥) → (f ≡ NotApplicable → ⊥) → IsContextSearched s d o → RequestRefused s d f → InContext s d o
context_case s d f o no_shape applies h (request.shape none) = absurd (no_shape refl)
context_case s d f o no_shape applies h (request.context asked g asks e) =
    subst (InContext s d) (sym (h asked asks)) (context_fails s d asked g asks applies e)

pub context_part : (s : StatedSchema) (d : Data) (f : EntityFault) (o : Option (List Step)) → (f ≡ BadShape → ⊥) → (f ≡ NotApplicable → ⊥) → IsContextSearched s d o → IsPartSearched s d f o
context_part s d BadShape o a b h refused = absurd (a refl)
context_part s d NotApplicable o a b h refused = absurd (b refl)
context_part s d NoMemory o a b h refused = context_case s d NoMemory o a b h refused
context_part s d UnknownType o a b h refused = context_case s d UnknownType o a b h refused
context_part s d ActionEntity o a b h refused = context_case s d ActionEntity o a b h refused
context_part s d Undeclared o a b h refused = context_case s d Undeclared o a b h refused
context_part s d Missing o a b h refused = context_case s d Missing o a b h refused
context_part s d WrongType o a b h refused = context_case s d WrongType o a b h refused
context_part s d BadParent o a b h refused = context_case s d BadParent o a b h refused
context_part s d SelfParent o a b h refused = context_case s d SelfParent o a b h refused
context_part s d TagsLeftOut o a b h refused = context_case s d TagsLeftOut o a b h refused
