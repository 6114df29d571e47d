-- The error of an entity or a request with its path, as `entity_fault` and `request_fault` return it.
use Rattle.std.proofs.Common.{◌≡◌, ◌∙◌, ℕ, List, Option, Some, None, Result, Ok, Err, MatchResult, IfOk, IfErr, refl, sym, subst}
use Rattle.serde_json.specs.Data.{Data}
use Rattle.schema_types.specs.Cedar.{Cedar}
use Rattle.json_words.specs.ReadsAs.{ReadsAs}
use Rattle.values.specs.declared.request.Request.{Request}
use Rattle.entities.specs.entity_data.declared.entity.Entity.{Entity}
use Rattle.schema_decisions.specs.schema.Schemas.{StatedSchema}
use Rattle.entities.specs.declared.fault.EntityFault.{EntityFault}
use Rattle.entities.specs.declared.fault.EntityFault.TheVariants.{NoMemory}
use Rattle.entities.specs.Entities.{entity_stated_in}
use Rattle.entities.specs.Requests.{ParsesRequest, RequestRefused}
use Rattle.explanations.specs.Steps.{Step, path_in}
use Rattle.explanations.specs.declared.part_faults.PartFault.{PartFault}
use Rattle.explanations.specs.EntityPaths.{IsPathOf}
use Rattle.explanations.specs.RequestPaths.{IsRequestPathOf}
use Rattle.explanations.specs.Outcomes.{IsEntityFault, IsRequestFault}
use Rattle.explanations.specs.PartWords.{part_words}
use Rattle.explanations.specs.inner.FoundParts.{path_of}
use Rattle.explanations.specs.inner.FoundNames.{IsPartSearched}
use Rattle.explanations.specs.inner.PartFaults.{IsFaultOf, IsAtPath}
use Rattle.explanations.proofs.Going.{if_ok}
use Rattle.explanations.proofs.Agreeing.{some_is}
use Rattle.explanations.proofs.EntityParts.{Placed, entity_placed}

abbrev failed : {A : Type 0} → EntityFault → Result A EntityFault
failed f = Err f

-- what was found is returned
told : (P : EntityFault → List Step → Type 0) (f : EntityFault) (p : List Step) (found : Option (List Step)) (o : Option PartFault) → IsAtPath f found o → found ≡ Some p → P f p
    → (x : PartFault) × (o ≡ Some x) × P x.fault (path_in x)
told P f p None o h e is = absurd cc
told P f p (Some q) None h e is = absurd h
told P f p (Some q) (Some x) h e is =
    (x, refl, subst (λ (g : EntityFault). P g (path_in x)) (sym h.0) (subst (P f) (sym (some_is q p e) ∙ sym h.1) is))

told_in : {E : Type 0} (P : EntityFault → List Step → Type 0) (f : EntityFault) (found : Result (Option (List Step)) E) (o : Option PartFault) → MatchResult found (λ q. IsAtPath f q o) (λ _. ⊥)
    → IfOk found (λ q. (p : List Step) × (q ≡ Some p) × P f p) → (x : PartFault) × (o ≡ Some x) × P x.fault (path_in x)
told_in P f (Ok q) o h k = told P f k.0 q o h k.1 k.2
told_in P f (Err e) o h k = absurd h

pub entity_told : {E F : Type 0} (s : StatedSchema) (d : Data) (f : EntityFault) (found : Result (Option (List Step)) E) (out : Result (Option PartFault) F) → entity_stated_in s d ≡ Err f
    → IfOk found (λ q. q ≡ path_of s d f) → IfOk out (λ o. MatchResult found (λ q. IsAtPath f q o) (λ _. ⊥)) → IfOk out (IsEntityFault s d)
entity_told s d f found out e at h =
    let known : Placed {A = Entity} s d (Err f) = subst (Placed s d) e (entity_placed s d) in
    let P : EntityFault → List Step → Type 0 = λ g p. (entity_stated_in s d ≡ Err g) × IsPathOf s d g p in
    let path = if_ok found (λ q. q ≡ path_of s d f) (λ q. (p : List Step) × (q ≡ Some p) × P f p) (λ q r. (known.0, r ∙ known.1, (e, known.2))) at in
    if_ok out (λ o. MatchResult found (λ q. IsAtPath f q o) (λ _. ⊥)) (IsEntityFault s d)
    (λ o k. let x = told_in P f found o k path in subst (IsEntityFault s d) (sym x.1) x.2) h

pub request_told : {E F : Type 0} (s : StatedSchema) (d : Data) (f : EntityFault) (found : Result (Option (List Step)) E) (out : Result (Option PartFault) F) → RequestRefused s d f
    → IfOk found (IsPartSearched s d f) → IfOk out (λ o. MatchResult found (λ q. IsAtPath f q o) (λ _. ⊥)) → IfOk out (IsRequestFault s d)
request_told s d f found out refused searched h =
    let P : EntityFault → List Step → Type 0 = λ g p. RequestRefused s d g × IsRequestPathOf s d g p in
    let path = if_ok found (IsPartSearched s d f) (λ q. (p : List Step) × (q ≡ Some p) × P f p) (λ q k. let known = k refused in (known.0, known.1, (refused, known.2))) searched in
    if_ok out (λ o. MatchResult found (λ q. IsAtPath f q o) (λ _. ⊥)) (IsRequestFault s d)
    (λ o k. let x = told_in P f found o k path in subst (IsRequestFault s d) (sym x.1) x.2) h

-- the words of what a search found
pub words_told : {E F : Type 0} (P : Option PartFault → Type 0) (found : Result (Option PartFault) E) (out : Result (List ℕ) F) (whole : Option Cedar) → IfOk found P
    → IfOk out (λ words. MatchResult found (λ o. words ≡ part_words o whole) (λ _. ⊥)) → IfOk out (λ words. (o : Option PartFault) × P o × (words ≡ part_words o whole))
words_told P (Ok o) (Ok words) whole h e = (o, h, e)
words_told P (Err f) (Ok words) whole h e = absurd e
words_told P found (Err f) whole h e = tt

-- ---- what reading gave

fault_is : {A : Type 0} (f g : EntityFault) → failed {A = A} f ≡ failed g → f ≡ g
fault_is f g e = cc

pub entity_read : (s : StatedSchema) (d : Data) (r : Result Entity EntityFault) → ReadsAs NoMemory (λ e. e) r (entity_stated_in s d) → IsFaultOf r None → IsEntityFault s d None
entity_read s d (Ok x) reads h = (x, reads)
entity_read s d (Err f) reads h = let never : Err f ≡ Ok h.0 = h.1 in absurd cc

pub entity_refused : (s : StatedSchema) (d : Data) (r : Result Entity EntityFault) (f : EntityFault) → ReadsAs NoMemory (λ e. e) r (entity_stated_in s d) → IsFaultOf r (Some f) → entity_stated_in s d ≡ Err f
entity_refused s d (Ok x) f reads h = let never : Ok x ≡ Err f = h.0 in absurd cc
entity_refused s d (Err g) f reads h =
    let same : g ≡ f = fault_is {A = Entity} g f h.0 in
    subst (λ (k : EntityFault). entity_stated_in s d ≡ Err k) same (reads (λ memory. h.1 (sym same ∙ memory)))

pub request_read : (s : StatedSchema) (d : Data) (r : Result Request EntityFault) → IfOk r (ParsesRequest s d) → IsFaultOf r None → IsRequestFault s d None
request_read s d (Ok q) states h = (q, states)
request_read s d (Err f) states h = let never : Err f ≡ Ok h.0 = h.1 in absurd cc

pub request_refused : (s : StatedSchema) (d : Data) (r : Result Request EntityFault) (f : EntityFault) → IfErr r (λ g. (g ≡ NoMemory → ⊥) → RequestRefused s d g) → IsFaultOf r (Some f) → RequestRefused s d f
request_refused s d (Ok q) f refused h = let never : Ok q ≡ Err f = h.0 in absurd cc
request_refused s d (Err g) f refused h =
    let same : g ≡ f = fault_is {A = Request} g f h.0 in
    subst (RequestRefused s d) same (refused (λ memory. h.1 (sym same ∙ memory)))
