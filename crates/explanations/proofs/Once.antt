-- What is said of the part at fault of an entity or a request is determined.
use Rattle.std.proofs.Common.{◌≡◌, ◌∙◌, ℕ, Bool, true, false, if◌then◌else◌, List, ◌++◌, Option, None, Some, Result, Ok, Err, codes, sym, ap, subst, refl}
use Rattle.std.specs.Prelude.{option_and_then}
use Rattle.std.proofs.lemmas.Bool.{false≢true}
use Rattle.serde_json.specs.Data.{Data}
use Rattle.serde_json.specs.Find.{get}
use Rattle.schema_types.specs.Cedar.{Cedar}
use Rattle.schema_decisions.specs.schema.Schemas.{StatedSchema}
use Rattle.entities.specs.Entities.{entity_stated_in}
use Rattle.entities.specs.Requests.{RequestRefused}
use Rattle.entities.specs.Requests as request
use Rattle.entities.specs.Laws.{NotBoth, OneRefusal}
use Rattle.entities.specs.declared.fault.EntityFault.{EntityFault}
use Rattle.explanations.specs.declared.part_faults.PartFault.{PartFault}
use Rattle.explanations.specs.Steps.{Step, path_in}
use Rattle.explanations.specs.EntityPaths.{shape_at, IsPathOf}
use Rattle.explanations.specs.RequestPaths.{IsContextType, IsRequestPathOf}
use Rattle.explanations.specs.Outcomes.{IsEntityFault, IsRequestFault}
use Rattle.explanations.specs.Pointers.{pointer_of}
use Rattle.explanations.specs.PathLaws.{HasPathOf, EntitiesHavePaths, EntityPartsHaveOneText, RequestsHavePaths, RequestPartsHaveOneText}
use Rattle.explanations.specs.PartWords.{pointer_words, declared_words, is_of_value, type_after_first, part_words}

abbrev fault_in : {A : Type 0} → EntityFault → Result A EntityFault → EntityFault
fault_in f (Ok x) = f
fault_in f (Err g) = g

one_fault : {A : Type 0} (r : Result A EntityFault) (f g : EntityFault) → r ≡ Err f → r ≡ Err g → g ≡ f
one_fault r f g e d = sym (ap (fault_in f) d) ∙ ap (fault_in f) e

abbrev is_read : {A : Type 0} → Result A EntityFault → Bool
is_read (Ok x) = true
is_read (Err f) = false

not_both : {A : Type 0} (r : Result A EntityFault) (x : A) (f : EntityFault) → r ≡ Ok x → r ≡ Err f → ⊥
not_both r x f e d = false≢true (sym (ap is_read d) ∙ ap is_read e)

-- what is said of an error with this path
abbrev said : EntityFault → Option Cedar → List Step → List ℕ
said f whole path = pointer_words (pointer_of path) ++ declared_words (if is_of_value f then option_and_then (λ t. type_after_first t path) whole else None)

same_path : {A : Type 0} (r : Result A EntityFault) (LeadsTo : EntityFault → List Step → Type 0) (f g : EntityFault) (p q : List Step) → HasPathOf r LeadsTo
    → r ≡ Err f → LeadsTo f p → r ≡ Err g → LeadsTo g q → p ≡ q
same_path r LeadsTo f g p q law e a d b =
    let one = subst (λ t. HasPathOf t LeadsTo) e law in
    let moved = subst (λ (h : EntityFault). LeadsTo h q) (one_fault r f g e d) b in
    one.2 p a ∙ sym (one.2 q moved)

module _ (law : EntitiesHavePaths) (s : StatedSchema) (d : Data) (whole : Option Cedar) where
  same_words : (o p : Option PartFault) → IsEntityFault s d o → IsEntityFault s d p → part_words o whole ≡ part_words p whole
  same_words None None a b = refl
  same_words None (Some y) a b = absurd (not_both (entity_stated_in s d) a.0 y.fault a.1 b.0)
  same_words (Some x) None a b = absurd (not_both (entity_stated_in s d) b.0 x.fault b.1 a.0)
  same_words (Some x) (Some y) a b =
      ap (said x.fault whole) (same_path (entity_stated_in s d) (IsPathOf s d) x.fault y.fault (path_in x) (path_in y) (law s d) a.0 a.1 b.0 b.1)
      ∙ ap (λ (f : EntityFault). said f whole (path_in y)) (sym (one_fault (entity_stated_in s d) x.fault y.fault a.0 b.0))

pub told_once : EntitiesHavePaths → EntityPartsHaveOneText
told_once law s None words others h g = h ∙ sym g
told_once law s (Some d) words others h g =
    h.2 ∙ same_words law s d (shape_at s (get (codes "uid") d)) h.0 g.0 h.1 g.1 ∙ sym g.2

-- ---- requests

-- only an error of a value is said with a type, and then the context has one
same_said : (s : StatedSchema) (d : Data) (t u : Option Cedar) (path : List Step) (f : EntityFault) → RequestRefused s d f → IsContextType s d t → IsContextType s d u
    → said f t path ≡ said f u path
same_said s d t u path f (request.shape none) a b = refl
same_said s d t u path f (request.context asked g asks e) a b =
    ap (λ (whole : Option Cedar). said g whole path) (a asked asks ∙ sym (b asked asks))

module _ (law : RequestsHavePaths) (either : NotBoth) (one : OneRefusal) (s : StatedSchema) (d : Data) where
  same_place : (x y : PartFault) → RequestRefused s d x.fault × IsRequestPathOf s d x.fault (path_in x) → RequestRefused s d y.fault × IsRequestPathOf s d y.fault (path_in y) → (path_in x) ≡ (path_in y)
  same_place x y a b =
      let found = law s d x.fault a.0 in
      let moved = subst (λ (f : EntityFault). IsRequestPathOf s d f (path_in y)) (one s d y.fault x.fault b.0 a.0) b.1 in
      found.2 (path_in x) a.1 ∙ sym (found.2 (path_in y) moved)

  same_request_words : (o p : Option PartFault) (t u : Option Cedar) → IsRequestFault s d o → IsRequestFault s d p → IsContextType s d t → IsContextType s d u
      → part_words o t ≡ part_words p u
  same_request_words None None t u a b i j = refl
  same_request_words None (Some y) t u a b i j = absurd (either s d a.0 y.fault a.1 b.0)
  same_request_words (Some x) None t u a b i j = absurd (either s d b.0 x.fault b.1 a.0)
  same_request_words (Some x) (Some y) t u a b i j =
      ap (said x.fault t) (same_place x y a b) ∙ same_said s d t u (path_in y) x.fault a.0 i j
      ∙ ap (λ (f : EntityFault). said f u (path_in y)) (one s d x.fault y.fault a.0 b.0)

pub requests_told_once : RequestsHavePaths → NotBoth → OneRefusal → RequestPartsHaveOneText
requests_told_once law either one s None words others h g = h ∙ sym g
requests_told_once law either one s (Some d) words others h g =
    h.4 ∙ same_request_words law either one s d h.0 g.0 h.1 g.1 h.2 g.2 h.3 g.3 ∙ sym g.4
