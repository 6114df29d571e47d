-- The form of an entity: the first demand that is not met is why it has none.
use Rattle.std.proofs.Common.{◌≡◌, ◌∙◌, ℕ, suc, ◌+◌, List, [], ◌∷◌, Bool, true, false, Option, Some, None, Result, Ok, Err, refl, ap, subst, codes}
use Rattle.std.specs.Prelude.{⊤, ◌&&◌, is_some, option_and_then}
use Rattle.serde_json.specs.Data.{Data, Items, no_items, item, Members}
use Rattle.serde_json.specs.Data as json
use Rattle.serde_json.specs.Find.{get, as_array}
use Rattle.json_words.specs.ReadsAs.{◌>>=◌, or_fault, demand}
use Rattle.json_words.specs.Each.{each, list_of}
use Rattle.json_words.proofs.EachLemmas.{bind_ok}
use Rattle.values.specs.declared.entity_uid.EntityUid.{EntityUid}
use Rattle.entities.specs.entity_uids.Uids.{uid_in}
use Rattle.entities.specs.Typing.{with_or}
use Rattle.entities.specs.declared.fault.EntityFault.{EntityFault}
use Rattle.entities.specs.declared.fault.EntityFault.TheVariants.{BadShape}
use Rattle.entities.specs.declared.stated.StatedEntity.{StatedEntity}
use Rattle.entities.specs.EntityForms.{is_absent_or_object, stated_uid, uids_of, stated_parents, has_objects, stated_in}
use Rattle.explanations.specs.Steps.{Step}
use Rattle.explanations.specs.EntityPaths.{to_key, first_unmet, is_uid, items_at, parent_demands, parents_demands, form_demands}

-- a path where there is no form, and none where there is one
abbrev pub HasForm : {A : Type 0} → Result A EntityFault → Option (List Step) → Type 0
HasForm (Ok x) None = ⊤
HasForm (Ok x) (Some p) = ⊥
HasForm (Err f) None = ⊥
HasForm (Err f) (Some p) = f ≡ BadShape

goes_on : {A B : Type 0} (r : Result A EntityFault) (o : Option (List Step)) (make : A → B) → HasForm r o → HasForm (r >>= λ x. Ok (make x)) o
goes_on (Ok x) None make h = h
goes_on (Ok x) (Some p) make h = h
goes_on (Err f) None make h = h
goes_on (Err f) (Some p) make h = h

uid_step : (i j : ℕ) (ds : Items) (path : List Step) (o : Option EntityUid) → HasForm (each (λ k d. stated_uid d) (suc j) (list_of ds)) (first_unmet (parent_demands (i + 1) ds))
    → HasForm (or_fault BadShape o >>= λ uid. each (λ k d. stated_uid d) (suc j) (list_of ds) >>= λ uids. Ok (uid ∷ uids)) (first_unmet ((is_some o, path) ∷ parent_demands (i + 1) ds))
uid_step i j ds path None h = refl
uid_step i j ds path (Some uid) h = goes_on (each (λ k d. stated_uid d) (suc j) (list_of ds)) (first_unmet (parent_demands (i + 1) ds)) (λ uids. uid ∷ uids) h

uids_form : (i j : ℕ) (ds : Items) → HasForm (each (λ k d. stated_uid d) j (list_of ds)) (first_unmet (parent_demands i ds))
unfolding each
uids_form i j no_items = tt
uids_form i j (item d ds) = uid_step i j ds _ (uid_in d) (uids_form (i + 1) (suc j) ds)

array_form : (o : Option Items) → HasForm (or_fault BadShape o >>= λ ds. uids_of ds) (first_unmet ((is_some o, to_key (codes "parents")) ∷ parent_demands 0 (with_or o (λ ds. ds) no_items)))
unfolding uids_of
array_form None = refl
array_form (Some ds) = uids_form 0 0 ds

parents_form : (o : Option Data) → HasForm (stated_parents o) (first_unmet (parents_demands o))
parents_form None = tt
parents_form (Some d) = array_form (as_array d)

objects_form : (attrs tags : Bool) (to_attrs to_tags : List Step) (rest : Result StatedEntity EntityFault) (o : Option Data)
    → HasForm rest (first_unmet (parents_demands o))
    → HasForm (demand BadShape (attrs && tags) >>= λ objects. rest) (first_unmet ((attrs, to_attrs) ∷ (tags, to_tags) ∷ parents_demands o))
objects_form true true to_attrs to_tags rest o h = h
objects_form true false to_attrs to_tags rest o h = refl
objects_form false tags to_attrs to_tags rest o h = refl

named_form : (name attrs tags parents : Option Data) → HasForm {A = StatedEntity}
    (or_fault BadShape name >>= λ found. stated_uid found >>= λ uid. demand BadShape (is_absent_or_object attrs && is_absent_or_object tags) >>= λ objects.
    stated_parents parents >>= λ uids. Ok (record { uid = uid; parents = uids }))
    (first_unmet ((is_uid name, to_key (codes "uid")) ∷ (is_absent_or_object attrs, to_key (codes "attrs")) ∷ (is_absent_or_object tags, to_key (codes "tags")) ∷ parents_demands parents))
named_form None attrs tags parents = refl
named_form (Some d) attrs tags parents = by_uid (uid_in d)
  where
    by_uid : (o : Option EntityUid) → HasForm {A = StatedEntity}
        (or_fault BadShape o >>= λ uid. demand BadShape (is_absent_or_object attrs && is_absent_or_object tags) >>= λ objects.
        stated_parents parents >>= λ uids. Ok (record { uid = uid; parents = uids }))
        (first_unmet ((is_some o, to_key (codes "uid")) ∷ (is_absent_or_object attrs, to_key (codes "attrs")) ∷ (is_absent_or_object tags, to_key (codes "tags")) ∷ parents_demands parents))
    by_uid None = refl
    by_uid (Some uid) = objects_form (is_absent_or_object attrs) (is_absent_or_object tags) (to_key (codes "attrs")) (to_key (codes "tags"))
        (stated_parents parents >>= λ uids. Ok (record { uid = uid; parents = uids })) parents
        (goes_on (stated_parents parents) (first_unmet (parents_demands parents)) (λ uids. record { uid = uid; parents = uids }) (parents_form parents))

pub form_found : (d : Data) → HasForm (stated_in d) (first_unmet (form_demands d))
unfolding stated_in
form_found json.null = refl
form_found (json.boolean b) = refl
form_found (json.number n) = refl
form_found (json.string s) = refl
form_found (json.array ds) = refl
form_found (json.object ms) = named_form (get (codes "uid") (json.object ms)) (get (codes "attrs") (json.object ms)) (get (codes "tags") (json.object ms)) (get (codes "parents") (json.object ms))

-- ---- what an entity with a form states

abbrev pub AreUids : Items → List EntityUid → Type 0
AreUids no_items [] = ⊤
AreUids no_items (u ∷ us) = ⊥
AreUids (item d ds) [] = ⊥
AreUids (item d ds) (u ∷ us) = (uid_in d ≡ Some u) × AreUids ds us

abbrev done : {A : Type 0} → A → Result A EntityFault
done x = Ok x

ok_is : {A : Type 0} (x y : A) → done x ≡ done y → x ≡ y
ok_is x y e = cc

some_of : {A : Type 0} (f : EntityFault) (o : Option A) (x : A) → or_fault f o ≡ done x → o ≡ Some x
some_of f (Some y) x e = cc
some_of f None x e = absurd cc

are_uids : (j : ℕ) (ds : Items) (us : List EntityUid) → each (λ k d. stated_uid d) j (list_of ds) ≡ done us → AreUids ds us
unfolding each
are_uids j no_items us e = subst (AreUids no_items) (ok_is [] us e) tt
are_uids j (item d ds) us e =
    let a = bind_ok (stated_uid d) (λ u. each (λ k d. stated_uid d) (suc j) (list_of ds) >>= λ vs. Ok (u ∷ vs)) us e in
    let b = bind_ok (each (λ k d. stated_uid d) (suc j) (list_of ds)) (λ vs. Ok (a.0 ∷ vs)) us a.2 in
    subst (AreUids (item d ds)) (ok_is (a.0 ∷ b.0) us b.2) (some_of BadShape (uid_in d) a.0 a.1, are_uids (suc j) ds b.0 b.1)

are_array_uids : (o : Option Items) (us : List EntityUid) → (or_fault BadShape o >>= λ ds. uids_of ds) ≡ done us → AreUids (with_or o (λ ds. ds) no_items) us
unfolding uids_of
are_array_uids None us e = absurd cc
are_array_uids (Some ds) us e = are_uids 0 ds us e

are_parents : (o : Option Data) (us : List EntityUid) → stated_parents o ≡ done us → AreUids (items_at o) us
are_parents None us e = subst (AreUids no_items) (ok_is [] us e) tt
are_parents (Some d) us e = are_array_uids (as_array d) us e

-- the uid and the parents of an entity
pub record Describes (d : Data) (e : StatedEntity) : Type 0 where
  pub uid : option_and_then uid_in (get (codes "uid") d) ≡ Some e.uid
  pub parents : AreUids (items_at (get (codes "parents") d)) e.parents

pub stated_parts : (d : Data) (e : StatedEntity) → stated_in d ≡ done e → Describes d e
unfolding stated_in
stated_parts d e is =
    let a = bind_ok (or_fault BadShape (get (codes "uid") d)) (λ name. stated_uid name >>= λ uid. demand BadShape (has_objects d) >>= λ objects. stated_parents (get (codes "parents") d) >>= λ parents. Ok (record { uid = uid; parents = parents })) e is in
    let b = bind_ok (stated_uid a.0) (λ uid. demand BadShape (has_objects d) >>= λ objects. stated_parents (get (codes "parents") d) >>= λ parents. Ok (record { uid = uid; parents = parents })) e a.2 in
    let c = bind_ok (demand BadShape (has_objects d)) (λ objects. stated_parents (get (codes "parents") d) >>= λ parents. Ok (record { uid = b.0; parents = parents })) e b.2 in
    let p = bind_ok (stated_parents (get (codes "parents") d)) (λ parents. Ok (record { uid = b.0; parents = parents })) e c.2 in
    let made : StatedEntity = record { uid = b.0; parents = p.0 } in
    let found : get (codes "uid") d ≡ Some a.0 = some_of BadShape (get (codes "uid") d) a.0 a.1 in
    subst (Describes d) (ok_is made e p.2) (record {
      uid = ap (option_and_then uid_in) found ∙ some_of BadShape (uid_in a.0) b.0 b.1;
      parents = are_parents (get (codes "parents") d) p.0 p.1;
    })
