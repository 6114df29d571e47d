-- The one JSON of an entity that was read is read as that entity.
use Rattle.std.proofs.Common.{◌≡◌, ◌∙◌, ◌≤◌, ℕ, suc, List, [], ◌∷◌, map, Bool, true, false, inr, ◌<◌, Option, Some}
use Rattle.std.proofs.Common.{None, MatchOption, Result, Ok, refl, sym, ap, subst, arith}
use Rattle.std.specs.Prelude.{codes, not, ⊤}
use Rattle.std.specs.List.{AllByRecursion}
use Rattle.serde_json.specs.Data.{Data, object, depth, items_depth}
use Rattle.serde_json.specs.Find.{get, as_array}
use Rattle.serde_json.specs.Read.{max_depth}
use Rattle.serde_json.specs.View.{items_of}
use Rattle.json_words.specs.Each.{each, list_of}
use Rattle.json_words.specs.ReadsAs.{◌>>=◌, or_fault, demand}
use Rattle.json_words.proofs.EachLemmas.{bind_ok}
use Rattle.plain.specs.Words.{IsPath}
use Rattle.values.specs.declared.entity_uid.EntityUid.{EntityUid}
use Rattle.values.specs.Values.{fields_of}
use Rattle.values.specs.Fields.{Field}
use Rattle.entity_data.specs.ancestor_search.Hierarchy.{IsAscending}
use Rattle.entity_uids.specs.Uids.{IsPlainUid, IsUid, IsUnderEntity, IsRead, uid_in, uid_json}
use Rattle.entity_uids.specs.Laws.{OneUid, UidsAreFound, WrittenIsRead}
use Rattle.schema_types.specs.Cedar.{Cedar, deep, IsTooLarge}
use Rattle.schema.specs.Schemas.{StatedSchema}
use Rattle.schema.specs.WellFormed.{IsWellFormed}
use Rattle.entities.specs.declared.fault.EntityFault.{EntityFault}
use Rattle.entities.specs.Typing.{record_in}
use Rattle.entities.specs.CanonicalValues.{fields_json}
use Rattle.entities.specs.ValueLaws.{RecordIsReadAgain, RecordNests}
use Rattle.entities.specs.declared.fault.EntityFault.TheVariants.{BadShape, ActionEntity, UnknownType, TagsLeftOut}
use Rattle.entities.specs.declared.stated.StatedEntity.{StatedEntity}
use Rattle.entity_data.specs.declared.entity.Entity.{Entity}
use Rattle.entities.specs.EntityForms.{stated_uid, uids_of, stated_parents, has_objects, is_absent_or_empty, or_empty}
use Rattle.entities.specs.EntityForms.{stated_in}
use Rattle.entities.specs.Entities.{is_action_type, shape_of, attributes_in, parent_fits, parents_fit, parents_in}
use Rattle.entities.specs.Entities.{entity_stated_in}
use Rattle.entity_data.specs.UidSets.{uid_set}
use Rattle.entities.specs.Canonical.{canonical_json}
use Rattle.entities.specs.Laws.{CanonicalEntityIsRead, CanonicalEntityNests, CanonicalIsOne}
use Rattle.entity_data.proofs.UidLemmas.{sorted_set}
use Rattle.entities.proofs.UidSetLemmas.{all_set, set_same}

-- the laws of the crates below
pub record Below : Type 0 where
  pub one : OneUid
  pub found : UidsAreFound
  pub written : WrittenIsRead
  pub again : RecordIsReadAgain
  pub nests : RecordNests

abbrev done : {A : Type 0} → A → Result A EntityFault
done x = Ok x

ok_is : {A : Type 0} (x y : A) → done x ≡ done y → x ≡ y
ok_is x y e = cc

some_of : {A : Type 0} (f : EntityFault) (o : Option A) (x : A) → or_fault f o ≡ done x → o ≡ Some x
some_of f (Some y) x e = cc
some_of f None x e = absurd cc

passes : (f : EntityFault) (b : Bool) (u : ⊤) → demand f b ≡ done u → b ≡ true
passes f true u e = refl
passes f false u e = absurd cc

-- ---- names

path_of : (d : Data) (u : EntityUid) (inner : Option Data) → MatchOption inner (IsPlainUid d u) (λ i. IsUnderEntity d i u) → IsPath u.type_name
path_of d u None is = is.path
path_of d u (Some inner) is = is.is.path

-- a name is read back
abbrev NameReadsBack : EntityUid → Type 0
NameReadsBack u = stated_uid (uid_json u) ≡ Ok u

name_found : Below → (d : Data) (o : Option EntityUid) (u : EntityUid) → IsRead (IsUid d) o → IsUid d u → o ≡ Some u
name_found below d None u read is = absurd (read u is)
name_found below d (Some v) u read is = ap Some (below.one d v u read is)

name_back : Below → (d : Data) (u : EntityUid) → stated_uid d ≡ Ok u → NameReadsBack u
name_back below d u e =
    let here : uid_in d ≡ Some u = some_of BadShape (uid_in d) u e in
    let is : IsUid d u = subst (IsRead (IsUid d)) here (below.found d) in
    let path : IsPath u.type_name = path_of d u (get (codes "__entity") d) is in
    ap (λ (o : Option EntityUid). or_fault BadShape o)
    (name_found below (uid_json u) (uid_in (uid_json u)) u (below.found (uid_json u)) (below.written u path).plain)

names_back : Below → (ds : List Data) (k : ℕ) (us : List EntityUid) → each (λ i d. stated_uid d) k ds ≡ Ok us → AllByRecursion NameReadsBack us
unfolding each
names_back below [] k us e = subst (AllByRecursion NameReadsBack) (ok_is [] us e) tt
names_back below (d ∷ ds) k us e =
    let a = bind_ok (stated_uid d) (λ u. each (λ i x. stated_uid x) (suc k) ds >>= λ vs. Ok (u ∷ vs)) us e in
    let b = bind_ok (each (λ i x. stated_uid x) (suc k) ds) (λ vs. Ok (a.0 ∷ vs)) us a.2 in
    subst (AllByRecursion NameReadsBack) (ok_is (a.0 ∷ b.0) us b.2) (name_back below d a.0 a.1, names_back below ds (suc k) b.0 b.1)

name_step : (d : Data) (ds : List Data) (k : ℕ) (u : EntityUid) (us : List EntityUid) → stated_uid d ≡ Ok u → each (λ i x. stated_uid x) (suc k) ds ≡ Ok us
    → each (λ i x. stated_uid x) k (d ∷ ds) ≡ Ok (u ∷ us)
unfolding each
name_step d ds k u us one more = rw (one, more) refl

each_back : (us : List EntityUid) (k : ℕ) → AllByRecursion NameReadsBack us → each (λ i d. stated_uid d) k (map uid_json us) ≡ Ok us
unfolding each
each_back [] k all = refl
each_back (u ∷ us) k all = name_step (uid_json u) (map uid_json us) k u us all.0 (each_back us (suc k) all.1)

list_again : (ds : List Data) → list_of (items_of ds) ≡ ds
list_again [] = refl
list_again (d ∷ ds) = ap (λ (l : List Data). d ∷ l) (list_again ds)

uids_back : (us : List EntityUid) → AllByRecursion NameReadsBack us → uids_of (items_of (map uid_json us)) ≡ Ok us
unfolding uids_of
uids_back us all = ap (λ (l : List Data). each (λ i d. stated_uid d) 0 l) (list_again (map uid_json us)) ∙ each_back us 0 all

parents_back : Below → (found : Option Data) (us : List EntityUid) → stated_parents found ≡ Ok us → AllByRecursion NameReadsBack us
unfolding uids_of
parents_back below None us e = subst (AllByRecursion NameReadsBack) (ok_is [] us e) tt
parents_back below (Some d) us e =
    let a = bind_ok (or_fault BadShape (as_array d)) (λ ds. uids_of ds) us e in
    names_back below (list_of a.0) 0 us a.2

-- ---- the form

-- what the form of an entity consists of
record Form (d : Data) (stated : StatedEntity) : Type 0 where
  name : NameReadsBack stated.uid
  parents : AllByRecursion NameReadsBack stated.parents

form_of : Below → (d : Data) (stated : StatedEntity) → stated_in d ≡ Ok stated → Form d stated
unfolding stated_in
form_of below d stated e =
    let a = bind_ok (or_fault BadShape (get (codes "uid") d))
    (λ name. stated_uid name >>= λ uid. demand BadShape (has_objects d) >>= λ objects. stated_parents (get (codes "parents") d) >>= λ parents. Ok (record { uid = uid; parents = parents })) stated e in
    let b = bind_ok (stated_uid a.0) (λ uid. demand BadShape (has_objects d) >>= λ objects. stated_parents (get (codes "parents") d) >>= λ parents. Ok (record { uid = uid; parents = parents })) stated a.2 in
    let c = bind_ok (demand BadShape (has_objects d)) (λ objects. stated_parents (get (codes "parents") d) >>= λ parents. Ok (record { uid = b.0; parents = parents })) stated b.2 in
    let p = bind_ok (stated_parents (get (codes "parents") d)) (λ parents. Ok (record { uid = b.0; parents = parents })) stated c.2 in
    subst (Form d) (ok_is (record { uid = b.0; parents = p.0 }) stated p.2) (record { name = name_back below a.0 b.0 b.1; parents = parents_back below (get (codes "parents") d) p.0 p.1 })

form_step : (e : Entity) → NameReadsBack e.uid → uids_of (items_of (map uid_json e.parents)) ≡ Ok e.parents
    → stated_in (canonical_json e) ≡ Ok (record { uid = e.uid; parents = e.parents })
unfolding stated_in
form_step e name parents = rw (name, parents) refl

-- ---- attributes

-- what reading attributes consists of
record Attributed (s : StatedSchema) (name : List ℕ) (d : Data) (fields : List Field) : Type 0 where
  shape : Cedar
  is_shape : shape_of s name ≡ Ok shape
  read : record_in shape (or_empty (get (codes "attrs") d)) ≡ Ok fields

attributed : (s : StatedSchema) (name : List ℕ) (d : Data) (fields : List Field) → attributes_in s name d ≡ Ok fields → Attributed s name d fields
unfolding attributes_in
attributed s name d fields e =
    let a = bind_ok (shape_of s name) (λ shape. demand TagsLeftOut (is_absent_or_empty (get (codes "tags") d)) >>= λ u. record_in shape (or_empty (get (codes "attrs") d))) fields e in
    let b = bind_ok (demand TagsLeftOut (is_absent_or_empty (get (codes "tags") d))) (λ u. record_in a.0 (or_empty (get (codes "attrs") d))) fields a.2 in
    record { shape = a.0; is_shape = a.1; read = b.2 }

attributes_step : (s : StatedSchema) (name : List ℕ) (e : Entity) (shape : Cedar) → shape_of s name ≡ Ok shape
    → record_in shape (object (fields_json (fields_of e.attrs))) ≡ Ok e.attrs → attributes_in s name (canonical_json e) ≡ Ok e.attrs
unfolding attributes_in
attributes_step s name e shape is read = rw (is, read) refl

-- ---- parents

all_fit : (s : StatedSchema) (uid : EntityUid) (ps : List EntityUid) (u : ⊤) → parents_fit s uid ps ≡ Ok u → AllByRecursion (λ p. parent_fits s uid p ≡ Ok tt) ps
unfolding parents_fit
all_fit s uid [] u e = tt
all_fit s uid (p ∷ ps) u e =
    let a = bind_ok (parent_fits s uid p) (λ fits. parents_fit s uid ps) u e in
    (a.1, all_fit s uid ps u a.2)

fit_step : (s : StatedSchema) (uid p : EntityUid) (ps : List EntityUid) → parent_fits s uid p ≡ Ok tt → parents_fit s uid ps ≡ Ok tt → parents_fit s uid (p ∷ ps) ≡ Ok tt
unfolding parents_fit
fit_step s uid p ps one more = rw (one, more) refl

fit_all : (s : StatedSchema) (uid : EntityUid) (ps : List EntityUid) → AllByRecursion (λ p. parent_fits s uid p ≡ Ok tt) ps → parents_fit s uid ps ≡ Ok tt
unfolding parents_fit
fit_all s uid [] all = refl
fit_all s uid (p ∷ ps) all = fit_step s uid p ps all.0 (fit_all s uid ps all.1)

-- ---- entities

-- what reading an entity consists of
record Parts (s : StatedSchema) (d : Data) (e : Entity) : Type 0 where
  stated : StatedEntity
  form : stated_in d ≡ Ok stated
  attrs : attributes_in s stated.uid.type_name d ≡ Ok e.attrs
  parents : parents_in s stated.uid stated.parents ≡ Ok e.parents
  uid_is : stated.uid ≡ e.uid

parts_of : (s : StatedSchema) (d : Data) (e : Entity) → entity_stated_in s d ≡ Ok e → Parts s d e
unfolding entity_stated_in
parts_of s d e read =
    let a = bind_ok (stated_in d) (λ stated. attributes_in s stated.uid.type_name d >>= λ attrs. parents_in s stated.uid stated.parents >>= λ parents.
    Ok (record { uid = stated.uid; attrs = attrs; parents = parents })) e read in
    let b = bind_ok (attributes_in s a.0.uid.type_name d) (λ attrs. parents_in s a.0.uid a.0.parents >>= λ parents. Ok (record { uid = a.0.uid; attrs = attrs; parents = parents })) e a.2 in
    let c = bind_ok (parents_in s a.0.uid a.0.parents) (λ parents. Ok (record { uid = a.0.uid; attrs = b.0; parents = parents })) e b.2 in
    let same : record { uid = a.0.uid; attrs = b.0; parents = c.0 } ≡ e = ok_is (record { uid = a.0.uid; attrs = b.0; parents = c.0 }) e c.2 in
    record {
      stated = a.0;
      form = a.1;
      attrs = b.1 ∙ ap (λ (x : Entity). done x.attrs) same;
      parents = c.1 ∙ ap (λ (x : Entity). done x.parents) same;
      uid_is = ap (λ (x : Entity). x.uid) same;
    }

entity_step : (s : StatedSchema) (e : Entity) → stated_in (canonical_json e) ≡ Ok (record { uid = e.uid; parents = e.parents })
    → attributes_in s e.uid.type_name (canonical_json e) ≡ Ok e.attrs → parents_in s e.uid e.parents ≡ Ok e.parents
    → entity_stated_in s (canonical_json e) ≡ Ok e
unfolding entity_stated_in
entity_step s e form attrs parents = rw (form, attrs, parents) refl

-- what checking parents consists of
record Checked (s : StatedSchema) (uid : EntityUid) (stated parents : List EntityUid) : Type 0 where
  fit : parents_fit s uid stated ≡ Ok tt
  are : uid_set stated ≡ parents

checked : (s : StatedSchema) (uid : EntityUid) (stated parents : List EntityUid) → parents_in s uid stated ≡ Ok parents → Checked s uid stated parents
unfolding parents_in
checked s uid stated parents e =
    let a = bind_ok (parents_fit s uid stated) (λ fit. Ok (uid_set stated)) parents e in
    record { fit = a.1; are = ok_is (uid_set stated) parents a.2 }

check_step : (s : StatedSchema) (uid : EntityUid) (ps : List EntityUid) → parents_fit s uid ps ≡ Ok tt → uid_set ps ≡ ps → parents_in s uid ps ≡ Ok ps
unfolding parents_in
check_step s uid ps fit same = rw fit (ap (λ (us : List EntityUid). done us) same)

ascend : (stated parents : List EntityUid) → uid_set stated ≡ parents → IsAscending parents
ascend stated parents are = subst IsAscending are (sorted_set stated)

check_again : (s : StatedSchema) (uid : EntityUid) (stated parents : List EntityUid) → Checked s uid stated parents → parents_in s uid parents ≡ Ok parents
check_again s uid stated parents c =
    let fits = all_set (λ x. parent_fits s uid x ≡ Ok tt) stated (all_fit s uid stated tt c.fit) in
    check_step s uid parents (ap (parents_fit s uid) (sym c.are) ∙ fit_all s uid (uid_set stated) fits) (set_same parents (ascend stated parents c.are))

pub canonical_is_read : Below → CanonicalEntityIsRead
canonical_is_read below s d e read =
    let p = parts_of s d e read in
    let form = form_of below d p.stated p.form in
    let c = checked s p.stated.uid p.stated.parents e.parents p.parents in
    let names : AllByRecursion NameReadsBack e.parents = subst (AllByRecursion NameReadsBack) c.are (all_set NameReadsBack p.stated.parents form.parents) in
    let name : NameReadsBack e.uid = subst NameReadsBack p.uid_is form.name in
    let at = attributed s p.stated.uid.type_name d e.attrs p.attrs in
    let shape_is : shape_of s e.uid.type_name ≡ Ok at.shape = ap (λ (u : EntityUid). shape_of s u.type_name) (sym p.uid_is) ∙ at.is_shape in
    let parents : parents_in s e.uid e.parents ≡ Ok e.parents =
    ap (λ (u : EntityUid). parents_in s u e.parents) (sym p.uid_is) ∙ check_again s p.stated.uid p.stated.parents e.parents c in
    entity_step s e (form_step e name (uids_back e.parents names))
    (attributes_step s e.uid.type_name e at.shape shape_is (below.again at.shape (or_empty (get (codes "attrs") d)) e.attrs at.read))
    parents

pub canonical_is_one : Below → CanonicalIsOne
canonical_is_one below s d other e f x y same =
    ok_is e f (sym (canonical_is_read below s d e x) ∙ ap (λ (j : Data). entity_stated_in s j) same ∙ canonical_is_read below s other f y)

-- ---- depth

shape_small : (s : StatedSchema) (name : List ℕ) (t : Cedar) → IsWellFormed s → shape_of s name ≡ Ok t → IsTooLarge t → ⊥
unfolding shape_of
shape_small s name t small e =
    let a = bind_ok (demand ActionEntity (not (is_action_type name))) (λ other. or_fault UnknownType (s.shape name)) t e in
    (small.shapes name t (some_of UnknownType (s.shape name) t a.2)).small

names_depth : (us : List EntityUid) → items_depth (items_of (map uid_json us)) ≤ 1
names_depth [] = omega arith
names_depth (u ∷ us) = let rest = names_depth us in omega (arith, rest)

whole_depth : (e : Entity) (fields : ℕ) → depth (object (fields_json (fields_of e.attrs))) ≡ fields → fields ≤ 65 → depth (canonical_json e) ≤ max_depth
whole_depth e fields is le = omega (arith, is, le, names_depth e.parents)

pub canonical_nests : Below → CanonicalEntityNests
canonical_nests below s d e small read =
    let p = parts_of s d e read in
    let at = attributed s p.stated.uid.type_name d e.attrs p.attrs in
    let fits : depth (object (fields_json (fields_of e.attrs))) ≤ suc (deep at.shape) = below.nests at.shape (or_empty (get (codes "attrs") d)) e.attrs at.read in
    let over : 64 < deep at.shape → ⊥ = λ large. shape_small s p.stated.uid.type_name at.shape small at.is_shape (inr large) in
    whole_depth e (depth (object (fields_json (fields_of e.attrs)))) refl (omega (arith, fits, over))
