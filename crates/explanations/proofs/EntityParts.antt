-- The part of an entity that its error is about is found, and no other.
use Rattle.std.proofs.Common.{◌≡◌, ◌∙◌, ℕ, ◌+◌, List, [], ◌∷◌, Bool, true, false, Option, Some, None, Result, Ok, Err, refl, sym, ap, subst, codes}
use Rattle.std.specs.Prelude.{⊤, ◌&&◌, not, option_and_then, if◌then◌else◌}
use Rattle.serde_json.specs.Data.{Data, Items, no_items, item}
use Rattle.serde_json.specs.Find.{get}
use Rattle.json_words.specs.ReadsAs.{◌>>=◌, or_fault, demand}
use Rattle.values.specs.declared.entity_uid.EntityUid.{EntityUid}
use Rattle.values.specs.Fields.{Field}
use Rattle.schema_types.specs.Cedar.{Cedar}
use Rattle.entities.specs.declared.fault.EntityFault.{EntityFault}
use Rattle.entities.proofs.Only.{Within}
use Rattle.entities.proofs.Refusals as records
use Rattle.entities.proofs.Refusals.{IsRecordFault, record_within}
use Rattle.entities.specs.entity_uids.Uids.{uid_in}
use Rattle.entities.specs.Typing.{with_or, record_in}
use Rattle.entities.specs.entity_data.UidSets.{uid_set}
use Rattle.entities.specs.ancestor_search.Decided.{is_same}
use Rattle.entities.specs.entity_data.declared.entity.Entity.{Entity}
use Rattle.schema_decisions.specs.schema.Schemas.{StatedSchema}
use Rattle.entities.specs.declared.fault.EntityFault.TheVariants.{NoMemory, BadShape, UnknownType, ActionEntity, Undeclared, Missing, WrongType, BadParent, SelfParent, TagsLeftOut, NotApplicable}
use Rattle.entities.specs.declared.stated.StatedEntity.{StatedEntity}
use Rattle.entities.specs.EntityForms.{is_absent_or_empty, or_empty, stated_in}
use Rattle.entities.specs.Entities.{is_action_type, shape_of, attributes_in, parent_fits, parents_fit, parents_in, entity_stated_in}
use Rattle.explanations.specs.Steps.{Step, Key}
use Rattle.explanations.specs.ValuePaths.{RecordFaultAt}
use Rattle.explanations.specs.EntityPaths.{to_key, to_parent, first_unmet, form_demands, items_at, FirstUnfit, IsInAttributes, IsAtParent, IsPathOf}
use Rattle.explanations.specs.EntityPaths as says
use Rattle.explanations.specs.PathLaws.{HasPathOf, EntitiesHavePaths}
use Rattle.explanations.specs.inner.FoundPaths.{under, record_path}
use Rattle.explanations.specs.inner.FoundParts.{fits, unfit_path, attributes_path, parents_path, path_of}
use Rattle.explanations.proofs.Agreeing.{Found, some_is, record_is_found, record_path_only}
use Rattle.explanations.proofs.EntityForms.{HasForm, form_found, AreUids, Describes, stated_parts}

-- ---- parents

abbrev IsOfParents : EntityFault → Type 0
IsOfParents BadParent = ⊤
IsOfParents SelfParent = ⊤
IsOfParents _ = ⊥

-- a path where a parent does not fit, and none where all do
abbrev Unfit : StatedSchema → EntityUid → ℕ → List EntityUid → Result ⊤ EntityFault → Option (List Step) → Type 0
Unfit s uid i us (Ok u) None = ⊤
Unfit s uid i us (Ok u) (Some p) = ⊥
Unfit s uid i us (Err f) None = ⊥
Unfit s uid i us (Err f) (Some p) = IsOfParents f × ((j : ℕ) × (p ≡ to_parent j) × FirstUnfit s uid i us j)

-- an error where the test fails, and none where it passes
abbrev Judged : Result ⊤ EntityFault → Bool → Type 0
Judged (Ok u) true = ⊤
Judged (Ok u) false = ⊥
Judged (Err f) true = ⊥
Judged (Err f) false = IsOfParents f

judged_by : (same may : Bool) → Judged (demand SelfParent (not same) >>= λ other. demand BadParent may) (not same && may)
judged_by true may = tt
judged_by false true = tt
judged_by false false = tt

parent_judged : (s : StatedSchema) (uid parent : EntityUid) → Judged (parent_fits s uid parent) (fits s uid parent)
unfolding parent_fits
parent_judged s uid parent = judged_by (is_same parent uid) (s.may_have_parent uid.type_name parent.type_name)

later_unfit : (s : StatedSchema) (uid : EntityUid) (i : ℕ) (u : EntityUid) (us : List EntityUid) (r : Result ⊤ EntityFault) (o : Option (List Step)) → parent_fits s uid u ≡ Ok tt
    → Unfit s uid (i + 1) us r o → Unfit s uid i (u ∷ us) r o
later_unfit s uid i u us (Ok x) None fit h = h
later_unfit s uid i u us (Ok x) (Some p) fit h = h
later_unfit s uid i u us (Err f) None fit h = h
later_unfit s uid i u us (Err f) (Some p) fit h = (h.0, (h.1.0, h.1.1, says.later_parent i u us h.1.0 fit h.1.2))

unfit_step : (s : StatedSchema) (uid : EntityUid) (i : ℕ) (u : EntityUid) (us : List EntityUid) (r : Result ⊤ EntityFault) (b : Bool) (rest : Result ⊤ EntityFault) (more : Option (List Step))
    → parent_fits s uid u ≡ r → Judged r b → Unfit s uid (i + 1) us rest more
    → Unfit s uid i (u ∷ us) (r >>= λ fit. rest) (if b then more else Some (to_parent i))
unfit_step s uid i u us (Ok x) true rest more e h k = later_unfit s uid i u us rest more e k
unfit_step s uid i u us (Ok x) false rest more e h k = absurd h
unfit_step s uid i u us (Err f) true rest more e h k = absurd h
unfit_step s uid i u us (Err f) false rest more e h k = (h, (i, refl, says.this_parent i u us f e))

item_path_is : (s : StatedSchema) (uid : EntityUid) (i : ℕ) (d : Data) (ds : Items) (u : EntityUid) → uid_in d ≡ Some u
    → unfit_path s uid i (item d ds) ≡ (if fits s uid u then unfit_path s uid (i + 1) ds else Some (to_parent i))
unfolding unfit_path
item_path_is s uid i d ds u e = ap (λ (o : Option EntityUid). with_or o (λ parent. if fits s uid parent then unfit_path s uid (i + 1) ds else Some (to_parent i)) None) e

unfit_found : (s : StatedSchema) (uid : EntityUid) (i : ℕ) (ds : Items) (us : List EntityUid) → AreUids ds us → Unfit s uid i us (parents_fit s uid us) (unfit_path s uid i ds)
unfolding parents_fit unfit_path
unfit_found s uid i no_items [] h = tt
unfit_found s uid i no_items (u ∷ us) h = absurd h
unfit_found s uid i (item d ds) [] h = absurd h
unfit_found s uid i (item d ds) (u ∷ us) h =
    subst (Unfit s uid i (u ∷ us) (parents_fit s uid (u ∷ us))) (sym (item_path_is s uid i d ds u h.0))
    (unfit_step s uid i u us (parent_fits s uid u) (fits s uid u) (parents_fit s uid us) (unfit_path s uid (i + 1) ds) refl (parent_judged s uid u)
    (unfit_found s uid (i + 1) ds us h.1))

judged_false : (r : Result ⊤ EntityFault) (b : Bool) (f : EntityFault) → Judged r b → r ≡ Err f → b ≡ false
judged_false (Ok x) b f h e = absurd cc
judged_false (Err g) true f h e = absurd h
judged_false (Err g) false f h e = refl

judged_true : (r : Result ⊤ EntityFault) (b : Bool) → Judged r b → r ≡ Ok tt → b ≡ true
judged_true (Ok x) true h e = refl
judged_true (Ok x) false h e = absurd h
judged_true (Err g) b h e = absurd cc

unfit_only : (s : StatedSchema) (uid : EntityUid) (i : ℕ) (us : List EntityUid) (j : ℕ) → FirstUnfit s uid i us j → (ds : Items) → AreUids ds us → unfit_path s uid i ds ≡ Some (to_parent j)
unfit_only s uid i us j (says.this_parent k u vs f fails) no_items h = absurd h
unfit_only s uid i us j (says.this_parent k u vs f fails) (item d ds) h =
    item_path_is s uid k d ds u h.0
    ∙ ap (λ (b : Bool). if b then unfit_path s uid (k + 1) ds else Some (to_parent k)) (judged_false (parent_fits s uid u) (fits s uid u) f (parent_judged s uid u) fails)
unfit_only s uid i us j (says.later_parent k u vs l fit rest) no_items h = absurd h
unfit_only s uid i us j (says.later_parent k u vs l fit rest) (item d ds) h =
    item_path_is s uid k d ds u h.0
    ∙ ap (λ (b : Bool). if b then unfit_path s uid (k + 1) ds else Some (to_parent k)) (judged_true (parent_fits s uid u) (fits s uid u) (parent_judged s uid u) fit)
    ∙ unfit_only s uid (k + 1) vs l rest ds h.1

parents_path_is : (s : StatedSchema) (d : Data) (e : StatedEntity) → Describes d e → parents_path s d ≡ unfit_path s e.uid 0 (items_at (get (codes "parents") d))
unfolding parents_path
parents_path_is s d e h = ap (λ (o : Option EntityUid). with_or o (λ uid. unfit_path s uid 0 (items_at (get (codes "parents") d))) None) h.uid

-- ---- the whole

-- the path of the error, which it is about
abbrev pub Placed : {A : Type 0} → StatedSchema → Data → Result A EntityFault → Type 0
Placed s d (Ok x) = ⊤
Placed s d (Err f) = (p : List Step) × (path_of s d f ≡ Some p) × IsPathOf s d f p

parents_placed_by : (s : StatedSchema) (d : Data) (e : StatedEntity) (r : Result ⊤ EntityFault) (o : Option (List Step)) (make : List EntityUid → Entity) (us : List EntityUid)
    → stated_in d ≡ Ok e → parents_path s d ≡ o → Unfit s e.uid 0 e.parents r o → Placed s d ((r >>= λ fit. Ok us) >>= λ parents. Ok (make parents))
parents_placed_by s d e (Ok x) o make us is at h = tt
parents_placed_by s d e (Err f) None make us is at h = absurd h
parents_placed_by s d e (Err BadParent) (Some p) make us is at h = (p, at, subst (IsAtParent s d) (sym h.1.1) (says.at_parent e h.1.0 is h.1.2))
parents_placed_by s d e (Err SelfParent) (Some p) make us is at h = (p, at, subst (IsAtParent s d) (sym h.1.1) (says.at_parent e h.1.0 is h.1.2))
parents_placed_by s d e (Err NoMemory) (Some p) make us is at h = absurd h.0
parents_placed_by s d e (Err BadShape) (Some p) make us is at h = absurd h.0
parents_placed_by s d e (Err UnknownType) (Some p) make us is at h = absurd h.0
parents_placed_by s d e (Err ActionEntity) (Some p) make us is at h = absurd h.0
parents_placed_by s d e (Err Undeclared) (Some p) make us is at h = absurd h.0
parents_placed_by s d e (Err Missing) (Some p) make us is at h = absurd h.0
parents_placed_by s d e (Err WrongType) (Some p) make us is at h = absurd h.0
parents_placed_by s d e (Err TagsLeftOut) (Some p) make us is at h = absurd h.0
parents_placed_by s d e (Err NotApplicable) (Some p) make us is at h = absurd h.0

parents_placed : (s : StatedSchema) (d : Data) (e : StatedEntity) (make : List EntityUid → Entity) → stated_in d ≡ Ok e
    → Placed s d (parents_in s e.uid e.parents >>= λ parents. Ok (make parents))
unfolding parents_in
parents_placed s d e make is =
    let h = stated_parts d e is in
    parents_placed_by s d e (parents_fit s e.uid e.parents) (unfit_path s e.uid 0 (items_at (get (codes "parents") d))) make (uid_set e.parents) is (parents_path_is s d e h)
    (unfit_found s e.uid 0 (items_at (get (codes "parents") d)) e.parents h.parents)

attributes_path_is : (s : StatedSchema) (d : Data) (e : StatedEntity) (shape : Cedar) → Describes d e → s.shape e.uid.type_name ≡ Some shape
    → attributes_path s d ≡ under (Key (codes "attrs")) (record_path shape (or_empty (get (codes "attrs") d)))
unfolding attributes_path
attributes_path_is s d e shape h declared =
    ap (λ (o : Option EntityUid). under (Key (codes "attrs")) (with_or (option_and_then (λ (uid : EntityUid). s.shape uid.type_name) o) (λ t. record_path t (or_empty (get (codes "attrs") d))) None)) h.uid
    ∙ ap (λ (o : Option Cedar). under (Key (codes "attrs")) (with_or o (λ t. record_path t (or_empty (get (codes "attrs") d))) None)) declared

record_placed : (A : Type 0) (s : StatedSchema) (d : Data) (e : StatedEntity) (shape : Cedar) (p : List Step) (f : EntityFault) → IsRecordFault f → stated_in d ≡ Ok e
    → s.shape e.uid.type_name ≡ Some shape → attributes_path s d ≡ under (Key (codes "attrs")) (Some p) → RecordFaultAt shape (or_empty (get (codes "attrs") d)) p
    → Placed {A = A} s d (Err f)
record_placed A s d e shape p f records.is_undeclared is declared at h = (Key (codes "attrs") ∷ p, at, says.in_attributes e shape p is declared h)
record_placed A s d e shape p f records.is_missing is declared at h = (Key (codes "attrs") ∷ p, at, says.in_attributes e shape p is declared h)
record_placed A s d e shape p f records.is_wrong_type is declared at h = (Key (codes "attrs") ∷ p, at, says.in_attributes e shape p is declared h)

fields_placed : {A : Type 0} (s : StatedSchema) (d : Data) (e : StatedEntity) (shape : Cedar) (r : Result (List Field) EntityFault) (o : Option (List Step)) (next : List Field → Result A EntityFault)
    → Within IsRecordFault r → stated_in d ≡ Ok e → s.shape e.uid.type_name ≡ Some shape → attributes_path s d ≡ under (Key (codes "attrs")) o
    → Found (RecordFaultAt shape (or_empty (get (codes "attrs") d))) r o → ((attrs : List Field) → Placed s d (next attrs))
    → Placed s d (r >>= next)
fields_placed s d e shape (Ok attrs) o next within is declared at h more = more attrs
fields_placed s d e shape (Err f) None next within is declared at h more = absurd h
fields_placed {A} s d e shape (Err f) (Some p) next within is declared at h more = record_placed A s d e shape p f (within f refl) is declared at h

tags_placed : {A : Type 0} (s : StatedSchema) (d : Data) (e : StatedEntity) (shape : Cedar) (untagged : Bool) (next : List Field → Result A EntityFault)
    → stated_in d ≡ Ok e → s.shape e.uid.type_name ≡ Some shape → ((attrs : List Field) → Placed s d (next attrs))
    → Placed s d (demand TagsLeftOut untagged >>= λ u. record_in shape (or_empty (get (codes "attrs") d)) >>= next)
tags_placed s d e shape true next is declared more =
    fields_placed s d e shape (record_in shape (or_empty (get (codes "attrs") d))) (record_path shape (or_empty (get (codes "attrs") d))) next
    (record_within shape (or_empty (get (codes "attrs") d))) is declared
    (attributes_path_is s d e shape (stated_parts d e is) declared) (record_is_found shape (or_empty (get (codes "attrs") d))) more
tags_placed s d e shape false next is declared more = (to_key (codes "tags"), refl, refl)

-- brackets
told_tags : {A : Type 0} (s : StatedSchema) (d : Data) (shape : Cedar) (untagged : Bool) (next : List Field → Result A EntityFault)
    → Placed s d (demand TagsLeftOut untagged >>= λ u. record_in shape (or_empty (get (codes "attrs") d)) >>= next)
    → Placed s d ((demand TagsLeftOut untagged >>= λ u. record_in shape (or_empty (get (codes "attrs") d))) >>= next)
told_tags s d shape true next h = h
told_tags s d shape false next h = h

shape_placed : {A : Type 0} (s : StatedSchema) (d : Data) (e : StatedEntity) (action untagged : Bool) (o : Option Cedar) (next : List Field → Result A EntityFault)
    → stated_in d ≡ Ok e → s.shape e.uid.type_name ≡ o → ((attrs : List Field) → Placed s d (next attrs))
    → Placed s d (((demand ActionEntity (not action) >>= λ other. or_fault UnknownType o) >>= λ shape. demand TagsLeftOut untagged >>= λ u.
    record_in shape (or_empty (get (codes "attrs") d))) >>= next)
shape_placed s d e true untagged o next is declared more = (to_key (codes "uid"), refl, refl)
shape_placed s d e false untagged None next is declared more = (to_key (codes "uid"), refl, refl)
shape_placed s d e false untagged (Some shape) next is declared more = told_tags s d shape untagged next (tags_placed s d e shape untagged next is declared more)

attributes_placed : (s : StatedSchema) (d : Data) (e : StatedEntity) → stated_in d ≡ Ok e
    → Placed {A = Entity} s d (attributes_in s e.uid.type_name d >>= λ attrs. parents_in s e.uid e.parents >>= λ parents. Ok (record { uid = e.uid; attrs = attrs; parents = parents }))
unfolding attributes_in shape_of
attributes_placed s d e is =
    shape_placed s d e (is_action_type e.uid.type_name) (is_absent_or_empty (get (codes "tags") d)) (s.shape e.uid.type_name)
    (λ attrs. parents_in s e.uid e.parents >>= λ parents. Ok (record { uid = e.uid; attrs = attrs; parents = parents })) is refl
    (λ attrs. parents_placed s d e (λ parents. record { uid = e.uid; attrs = attrs; parents = parents }) is)

abbrev failed : EntityFault → Result Entity EntityFault
failed g = Err g

form_placed : (s : StatedSchema) (d : Data) (r : Result StatedEntity EntityFault) (o : Option (List Step)) → stated_in d ≡ r → first_unmet (form_demands d) ≡ o → HasForm r o
    → Placed {A = Entity} s d (r >>= λ stated. attributes_in s stated.uid.type_name d >>= λ attrs. parents_in s stated.uid stated.parents >>= λ parents.
    Ok (record { uid = stated.uid; attrs = attrs; parents = parents }))
form_placed s d (Ok e) o is at h = attributes_placed s d e is
form_placed s d (Err f) None is at h = absurd h
form_placed s d (Err f) (Some p) is at h = subst (λ (g : EntityFault). Placed s d (failed g)) (sym h) (p, at, at)

pub entity_placed : (s : StatedSchema) (d : Data) → Placed s d (entity_stated_in s d)
unfolding entity_stated_in
entity_placed s d = form_placed s d (stated_in d) (first_unmet (form_demands d)) refl refl (form_found d)

-- ---- errors of the attributes

pub path-other : (s : StatedSchema) (d : Data) (f : EntityFault) → (f ≡ BadShape → ⊥) → (f ≡ UnknownType → ⊥) → (f ≡ ActionEntity → ⊥) → (f ≡ TagsLeftOut → ⊥) → (f ≡ BadParent → ⊥) → (f ≡ SelfParent → ⊥)
    → attributes_path s d ≡ path_of s d f
path-other s d BadShape shape type action tags parent self = absurd (shape refl)
path-other s d UnknownType shape type action tags parent self = absurd (type refl)
path-other s d ActionEntity shape type action tags parent self = absurd (action refl)
path-other s d TagsLeftOut shape type action tags parent self = absurd (tags refl)
path-other s d BadParent shape type action tags parent self = absurd (parent refl)
path-other s d SelfParent shape type action tags parent self = absurd (self refl)
path-other s d NoMemory shape type action tags parent self = refl
path-other s d Undeclared shape type action tags parent self = refl
path-other s d Missing shape type action tags parent self = refl
path-other s d WrongType shape type action tags parent self = refl
path-other s d NotApplicable shape type action tags parent self = refl

-- ---- no other path

attributes_only : (s : StatedSchema) (d : Data) (p : List Step) → IsInAttributes s d p → attributes_path s d ≡ Some p
attributes_only s d p (says.in_attributes e shape q is declared h) =
    attributes_path_is s d e shape (stated_parts d e is) declared ∙ ap (under (Key (codes "attrs"))) (record_path_only shape (or_empty (get (codes "attrs") d)) q h)

parents_only : (s : StatedSchema) (d : Data) (p : List Step) → IsAtParent s d p → parents_path s d ≡ Some p
parents_only s d p (says.at_parent e i is h) =
    let known = stated_parts d e is in
    parents_path_is s d e known ∙ unfit_only s e.uid 0 e.parents i h (items_at (get (codes "parents") d)) known.parents

abbrev some : List Step → Option (List Step)
some p = Some p

pub path_only : (s : StatedSchema) (d : Data) (f : EntityFault) (p : List Step) → IsPathOf s d f p → path_of s d f ≡ Some p
path_only s d BadShape p h = h
path_only s d UnknownType p h = ap some (sym h)
path_only s d ActionEntity p h = ap some (sym h)
path_only s d TagsLeftOut p h = ap some (sym h)
path_only s d BadParent p h = parents_only s d p h
path_only s d SelfParent p h = parents_only s d p h
path_only s d NoMemory p h = attributes_only s d p h
path_only s d Undeclared p h = attributes_only s d p h
path_only s d Missing p h = attributes_only s d p h
path_only s d WrongType p h = attributes_only s d p h
path_only s d NotApplicable p h = attributes_only s d p h

has_path_of : {A : Type 0} (s : StatedSchema) (d : Data) (r : Result A EntityFault) → Placed s d r → HasPathOf r (IsPathOf s d)
has_path_of s d (Ok x) h = tt
has_path_of s d (Err f) h = (h.0, h.2, λ other is. some_is other h.0 (sym (path_only s d f other is) ∙ h.1))

pub entities_have_paths : EntitiesHavePaths
entities_have_paths s d = has_path_of s d (entity_stated_in s d) (entity_placed s d)
