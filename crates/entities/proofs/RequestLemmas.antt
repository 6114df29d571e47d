-- What has not the form of a request, and that one request is stated at most.
use Rattle.std.proofs.Common.{◌≡◌, ◌∙◌, false, List, Option, Some, None, MatchOption, Result, Ok, Err, refl, sym, ap}
use Rattle.std.proofs.Common.{subst}
use Rattle.std.specs.Prelude.{codes}
use Rattle.serde_json.specs.Data.{Data}
use Rattle.serde_json.specs.Find.{get}
use Rattle.json_words.specs.ReadsAs.{Fails}
use Rattle.values.specs.declared.entity_uid.EntityUid.{EntityUid}
use Rattle.values.specs.Fields.{Field}
use Rattle.schema.specs.Schemas.{StatedSchema}
use Rattle.entity_uids.specs.Uids.{NamesEntity}
use Rattle.entity_uids.specs.Laws.{OneName}
use Rattle.entities.specs.declared.fault.EntityFault.{EntityFault}
use Rattle.entities.specs.declared.fault.EntityFault.TheVariants.{NoMemory, BadShape}
use Rattle.entities.specs.declared.requests.Asked.{Asked}
use Rattle.entities.specs.EntityForms.{is_absent_or_object}
use Rattle.entities.specs.Requests.{NamesAt, Asks, context_asked, asked_by, RequestRefused, shape, context}
use Rattle.entities.specs.Laws.{OneRequest, NotBoth, OneRefusal}

pub no_principal : (d : Data) → ((uid : EntityUid) → NamesAt (codes "principal") d uid → ⊥) → (asked : Asked) → Asks d asked → ⊥
no_principal d none asked asks = none asked.principal asks.principal

pub no_action : (d : Data) → ((uid : EntityUid) → NamesAt (codes "action") d uid → ⊥) → (asked : Asked) → Asks d asked → ⊥
no_action d none asked asks = none asked.action asks.action

pub no_resource : (d : Data) → ((uid : EntityUid) → NamesAt (codes "resource") d uid → ⊥) → (asked : Asked) → Asks d asked → ⊥
no_resource d none asked asks = none asked.resource asks.resource

pub no_context : (d : Data) → is_absent_or_object (get (codes "context") d) ≡ false → (asked : Asked) → Asks d asked → ⊥
no_context d bad asked asks = let good = asks.context in absurd (cc)

-- ---- why a request is refused

pub refused_form : (s : StatedSchema) (d : Data) (f : EntityFault) → ((f ≡ NoMemory → ⊥) → (f ≡ BadShape) × ((asked : Asked) → Asks d asked → ⊥))
    → (f ≡ NoMemory → ⊥) → RequestRefused s d f
refused_form s d f due other = let p = due other in subst (RequestRefused s d) (sym p.0) (shape p.1)

pub refused_context : (s : StatedSchema) (d : Data) (asked : Asked) (f : EntityFault) → Asks d asked → Fails NoMemory f (context_asked s asked d)
    → (f ≡ NoMemory → ⊥) → RequestRefused s d f
refused_context s d asked f asks fails other = context asked f asks (fails other)

-- ---- one outcome

name_same : OneName → (found : Option Data) (u v : EntityUid) → MatchOption found ⊥ (λ x. NamesEntity x u) → MatchOption found ⊥ (λ x. NamesEntity x v) → u ≡ v
name_same one None u v a b = absurd a
name_same one (Some x) u v a b = one x u v a b

asked_same : OneName → (d : Data) (a b : Asked) → Asks d a → Asks d b → a ≡ b
asked_same one d a b x y =
    let principals = name_same one (get (codes "principal") d) a.principal b.principal x.principal y.principal in
    let actions = name_same one (get (codes "action") d) a.action b.action x.action y.action in
    let resources = name_same one (get (codes "resource") d) a.resource b.resource x.resource y.resource in
    λ i. record { principal = principals i; action = actions i; resource = resources i }

abbrev done : List Field → Result (List Field) EntityFault
done fields = Ok fields

abbrev failed : EntityFault → Result (List Field) EntityFault
failed f = Err f

fields_same : (a b : List Field) → done a ≡ done b → a ≡ b
fields_same a b e = cc

faults_same : (f g : EntityFault) → failed f ≡ failed g → f ≡ g
faults_same f g e = cc

never : (a : List Field) (f : EntityFault) → done a ≡ failed f → ⊥
never a f e = absurd cc

pub one_request : OneName → OneRequest
one_request one s d q other a b =
    let asked : asked_by q ≡ asked_by other = asked_same one d (asked_by q) (asked_by other) a.asks b.asks in
    let contexts : q.context ≡ other.context =
    fields_same q.context other.context (sym a.context ∙ ap (λ (x : Asked). context_asked s x d) asked ∙ b.context) in
    λ i. record { principal = (asked i).principal; action = (asked i).action; resource = (asked i).resource; context = contexts i }

pub not_both : OneName → NotBoth
not_both one s d q f a (shape none) = none (asked_by q) a.asks
not_both one s d q f a (context asked g asks refused) =
    let same : asked_by q ≡ asked = asked_same one d (asked_by q) asked a.asks asks in
    never q.context g (sym a.context ∙ ap (λ (x : Asked). context_asked s x d) same ∙ refused)

pub one_refusal : OneName → OneRefusal
one_refusal one s d f g (shape none) (shape other) = refl
one_refusal one s d f g (shape none) (context asked h asks refused) = absurd (none asked asks)
one_refusal one s d f g (context asked h asks refused) (shape none) = absurd (none asked asks)
one_refusal one s d f g (context a h x p) (context b k y q) =
    let same : a ≡ b = asked_same one d a b x y in
    faults_same h k (sym p ∙ ap (λ (z : Asked). context_asked s z d) same ∙ q)
