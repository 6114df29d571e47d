-- Reading an entity without a schema gives the entity that JSON describes, or refuses JSON that describes none.
use Rattle.std.proofs.Common.{◌≡◌, ◌∙◌, ℕ, suc, List, [], ◌∷◌, Bool, true, false, Option, Some, None, Result, Ok, Err}
use Rattle.std.proofs.Common.{refl, sym, ap, subst, inl, inr}
use Rattle.std.specs.Prelude.{◌↔◌, ◌&&◌, codes, ⊤, Contains}
use Rattle.std.specs.List.{AllZip}
use Rattle.serde_json.specs.Data.{Data, Members, no_members, member}
use Rattle.serde_json.specs.Data as json
use Rattle.serde_json.specs.Find.{get, as_array}
use Rattle.json_words.specs.ReadsAs.{◌>>=◌, or_fault, demand}
use Rattle.json_words.specs.Each.{each, list_of}
use Rattle.json_words.proofs.EachLemmas.{bind_ok}
use Rattle.values.specs.declared.entity_uid.EntityUid.{EntityUid}
use Rattle.values.specs.Fields.{Field}
use Rattle.entity_data.specs.ancestor_search.Hierarchy.{IsAscending, AscendingListsAreOne}
use Rattle.entity_data.specs.declared.entity.Entity.{Entity}
use Rattle.entity_data.specs.UidSets.{uid_set}
use Rattle.entity_data.proofs.UidLemmas.{sorted_set, same_members}
use Rattle.answer_lines.specs.entity_uids.Uids.{IsUid, IsRead, uid_in}
use Rattle.answer_lines.specs.entity_uids.Laws.{OneUid, UidsAreFound}
use Rattle.decision_texts.specs.declared.bare.ShapeFault.{ShapeFault}
use Rattle.decision_texts.specs.declared.bare.ShapeFault.TheVariants.{BadShape}
use Rattle.decision_texts.specs.Bare.{stated_uid, is_absent_or_empty, uids_of, stated_parents}
use Rattle.decision_texts.specs.Bare.{bare_parents, is_bare, entity_of}
use Rattle.decision_texts.specs.BareEntities.{IsEmptyAt, ParentsAt, DescribesBareEntity}
use Rattle.decision_texts.specs.BareEntities as says

abbrev done : {A : Type 0} → A → Result A ShapeFault
done x = Ok x

ok_is : {A : Type 0} (x y : A) → done x ≡ done y → x ≡ y
ok_is x y e = cc

some_is : {A : Type 0} (x y : A) → Some x ≡ Some y → x ≡ y
some_is x y e = cc

some_of : {A : Type 0} (o : Option A) (x : A) → or_fault BadShape o ≡ done x → o ≡ Some x
some_of (Some y) x e = cc
some_of None x e = absurd cc

passes : (b : Bool) (u : ⊤) → demand BadShape b ≡ done u → b ≡ true
passes true u e = refl
passes false u e = absurd cc

both_of : (a b : Bool) → (a && b) ≡ true → (a ≡ true) × (b ≡ true)
both_of true b e = (refl, e)
both_of false b e = absurd cc

both : (a b : Bool) → a ≡ true → b ≡ true → (a && b) ≡ true
both true b p q = q
both false b p q = absurd cc

-- ---- what is refused is refused for its shape

abbrev OnlyShape : {A : Type 0} → Result A ShapeFault → Type 0
OnlyShape {A} r = (f : ShapeFault) → r ≡ Err f → f ≡ BadShape

only_or : {A : Type 0} (o : Option A) → OnlyShape (or_fault BadShape o)
only_or (Some x) f e = absurd cc
only_or None f e = cc

only_demand : (b : Bool) → OnlyShape (demand BadShape b)
only_demand true f e = absurd cc
only_demand false f e = cc

only_ok : {A : Type 0} (x : A) → OnlyShape (done x)
only_ok x f e = absurd cc

only_bind : {A B : Type 0} (r : Result A ShapeFault) (k : A → Result B ShapeFault) → OnlyShape r → ((x : A) → OnlyShape (k x)) → OnlyShape (r >>= k)
only_bind (Ok x) k h g f is = g x f is
only_bind (Err e) k h g f is = let same : e ≡ f = cc in sym same ∙ h e refl

abbrev read_one : ℕ → Data → Result EntityUid ShapeFault
read_one i d = stated_uid d

only_each : (k : ℕ) (xs : List Data) → OnlyShape (each read_one k xs)
unfolding each
only_each k [] = only_ok []
only_each k (x ∷ xs) =
    only_bind (stated_uid x) (λ y. each read_one (suc k) xs >>= λ ys. Ok (y ∷ ys)) (only_or (uid_in x)) (λ y.
    only_bind (each read_one (suc k) xs) (λ ys. Ok (y ∷ ys)) (only_each (suc k) xs) (λ ys. only_ok (y ∷ ys)))

only_parents : (o : Option Data) → OnlyShape (stated_parents o)
unfolding uids_of
only_parents None = only_ok []
only_parents (Some d) = only_bind (or_fault BadShape (as_array d)) (λ ds. uids_of ds) (only_or (as_array d)) (λ ds. only_each 0 (list_of ds))

only_set : (o : Option Data) → OnlyShape (bare_parents o)
unfolding bare_parents
only_set o = only_bind (stated_parents o) (λ us. Ok (uid_set us)) (only_parents o) (λ us. only_ok (uid_set us))

abbrev entity_with : EntityUid → List EntityUid → Entity
entity_with uid parents = record { uid = uid; attrs = []; parents = parents }

abbrev made : EntityUid → List EntityUid → Result Entity ShapeFault
made uid parents = Ok (entity_with uid parents)

pub only_entity : (d : Data) → OnlyShape (entity_of d)
unfolding entity_of
only_entity d =
    only_bind (or_fault BadShape (get (codes "uid") d)) (λ name. stated_uid name >>= λ u. demand BadShape (is_bare d) >>= λ q. bare_parents (get (codes "parents") d) >>= λ us. made u us)
    (only_or (get (codes "uid") d)) (λ name.
    only_bind (stated_uid name) (λ u. demand BadShape (is_bare d) >>= λ q. bare_parents (get (codes "parents") d) >>= λ us. made u us) (only_or (uid_in name)) (λ u.
    only_bind (demand BadShape (is_bare d)) (λ q. bare_parents (get (codes "parents") d) >>= λ us. made u us) (only_demand (is_bare d)) (λ q.
    only_bind (bare_parents (get (codes "parents") d)) (λ us. made u us) (only_set (get (codes "parents") d)) (λ us. only_ok (entity_with u us)))))

-- ---- nothing at a key

empty_by : (key : List ℕ) (d : Data) (o : Option Data) → get key d ≡ o → is_absent_or_empty o ≡ true → IsEmptyAt key d
empty_by key d None at e = inl at
empty_by key d (Some json.null) at e = absurd cc
empty_by key d (Some (json.boolean b)) at e = absurd cc
empty_by key d (Some (json.number n)) at e = absurd cc
empty_by key d (Some (json.string s)) at e = absurd cc
empty_by key d (Some (json.array ds)) at e = absurd cc
empty_by key d (Some (json.object no_members)) at e = inr at
empty_by key d (Some (json.object (member k x ms))) at e = absurd cc

is_empty : (key : List ℕ) (d : Data) → IsEmptyAt key d → is_absent_or_empty (get key d) ≡ true
is_empty key d (inl at) = ap is_absent_or_empty at
is_empty key d (inr at) = ap is_absent_or_empty at

-- ---- the set of parents

-- what reading the set of parents consists of
record SetParts (o : Option Data) (us : List EntityUid) : Type 0 where
  listed : List EntityUid
  read : stated_parents o ≡ done listed
  are : uid_set listed ≡ us

set_parts : (o : Option Data) (us : List EntityUid) → bare_parents o ≡ done us → SetParts o us
unfolding bare_parents
set_parts o us e =
    let a = bind_ok (stated_parents o) (λ vs. Ok (uid_set vs)) us e in
    record { listed = a.0; read = a.1; are = ok_is (uid_set a.0) us a.2 }

set_step : (o : Option Data) (listed : List EntityUid) → stated_parents o ≡ done listed → bare_parents o ≡ done (uid_set listed)
unfolding bare_parents
set_step o listed e = rw e refl

-- ---- uids

-- the laws of names, and that lists which ascend are one
pub record Names : Type 0 where
  pub one : OneUid
  pub found : UidsAreFound
  pub lists : AscendingListsAreOne

uid_read : (d : Data) (u : EntityUid) (o : Option EntityUid) → IsRead (IsUid d) o → o ≡ Some u → IsUid d u
uid_read d u (Some v) is e = subst (IsUid d) (some_is v u e) is
uid_read d u None is e = absurd cc

uid_known : OneUid → (d : Data) (u : EntityUid) (o : Option EntityUid) → IsRead (IsUid d) o → IsUid d u → o ≡ Some u
uid_known one d u (Some v) is h = ap (λ (w : EntityUid). Some w) (one d v u is h)
uid_known one d u None is h = absurd (is u h)

module _ (names : Names) where
  uid_is : (d : Data) (u : EntityUid) → uid_in d ≡ Some u → IsUid d u
  uid_is d u e = uid_read d u (uid_in d) (names.found d) e

  is_uid : (d : Data) (u : EntityUid) → IsUid d u → uid_in d ≡ Some u
  is_uid d u h = uid_known names.one d u (uid_in d) (names.found d) h

  -- ---- parents

  each_is : (k : ℕ) (xs : List Data) (us : List EntityUid) → each read_one k xs ≡ done us → AllZip IsUid xs us
  unfolding each
  each_is k [] us e = subst (AllZip IsUid []) (ok_is [] us e) tt
  each_is k (x ∷ xs) us e =
      let a = bind_ok (stated_uid x) (λ y. each read_one (suc k) xs >>= λ ys. Ok (y ∷ ys)) us e in
      let b = bind_ok (each read_one (suc k) xs) (λ ys. Ok (a.0 ∷ ys)) us a.2 in
      subst (AllZip IsUid (x ∷ xs)) (ok_is (a.0 ∷ b.0) us b.2) (uid_is x a.0 (some_of (uid_in x) a.0 a.1), each_is (suc k) xs b.0 b.1)

  is_each : (k : ℕ) (xs : List Data) (us : List EntityUid) → AllZip IsUid xs us → each read_one k xs ≡ done us
  unfolding each
  is_each k [] [] h = refl
  is_each k [] (u ∷ us) h = absurd h
  is_each k (x ∷ xs) [] h = absurd h
  is_each k (x ∷ xs) (u ∷ us) h = rw (is_uid x u h.0, is_each (suc k) xs us h.1) refl

  parents_by : (d : Data) (us : List EntityUid) (o : Option Data) → get (codes "parents") d ≡ o → stated_parents o ≡ done us → ParentsAt d us
  unfolding uids_of
  parents_by d us None at e = subst (ParentsAt d) (ok_is [] us e) (says.no_parents at)
  parents_by d us (Some json.null) at e = absurd cc
  parents_by d us (Some (json.boolean b)) at e = absurd cc
  parents_by d us (Some (json.number n)) at e = absurd cc
  parents_by d us (Some (json.string s)) at e = absurd cc
  parents_by d us (Some (json.array ds)) at e = says.parents_stand ds us at (each_is 0 (list_of ds) us e)
  parents_by d us (Some (json.object ms)) at e = absurd cc

  is_parents : (d : Data) (us : List EntityUid) → ParentsAt d us → stated_parents (get (codes "parents") d) ≡ done us
  unfolding uids_of
  is_parents d us (says.parents_stand ds vs at h) = ap stated_parents at ∙ is_each 0 (list_of ds) vs h
  is_parents d us (says.no_parents at) = ap stated_parents at

  set_of_listed : (d : Data) (e : Entity) (h : DescribesBareEntity d e) → uid_set h.listed ≡ e.parents
  set_of_listed d e h =
      names.lists (uid_set h.listed) e.parents (sorted_set h.listed) h.ascend
      (λ u. (λ c. (h.same u).1 ((same_members h.listed u).1 c), λ c. (same_members h.listed u).0 ((h.same u).0 c)))

  -- ---- the entity

  pub entity_is : (d : Data) (e : Entity) → entity_of d ≡ done e → DescribesBareEntity d e
  unfolding entity_of
  entity_is d e h =
      let a = bind_ok (or_fault BadShape (get (codes "uid") d)) (λ name. stated_uid name >>= λ u. demand BadShape (is_bare d) >>= λ q. bare_parents (get (codes "parents") d) >>= λ us. made u us) e h in
      let b = bind_ok (stated_uid a.0) (λ u. demand BadShape (is_bare d) >>= λ q. bare_parents (get (codes "parents") d) >>= λ us. made u us) e a.2 in
      let c = bind_ok (demand BadShape (is_bare d)) (λ q. bare_parents (get (codes "parents") d) >>= λ us. made b.0 us) e b.2 in
      let p = bind_ok (bare_parents (get (codes "parents") d)) (λ us. made b.0 us) e c.2 in
      let q = set_parts (get (codes "parents") d) p.0 p.1 in
      let bare = both_of (is_absent_or_empty (get (codes "attrs") d)) (is_absent_or_empty (get (codes "tags") d)) (passes (is_bare d) c.0 c.1) in
      subst (DescribesBareEntity d) (ok_is (entity_with b.0 p.0) e p.2)
      (record {
        found = a.0;
        at_uid = some_of (get (codes "uid") d) a.0 a.1;
        named = uid_is a.0 b.0 (some_of (uid_in a.0) b.0 b.1);
        no_attributes = empty_by (codes "attrs") d (get (codes "attrs") d) refl bare.0;
        no_tags = empty_by (codes "tags") d (get (codes "tags") d) refl bare.1;
        listed = q.listed;
        has_parents = parents_by d q.listed (get (codes "parents") d) refl q.read;
        ascend = subst IsAscending q.are (sorted_set q.listed);
        same = λ u. subst (λ us. Contains us u ↔ Contains q.listed u) q.are ((same_members q.listed u).1, (same_members q.listed u).0);
        attributes_are_empty = refl;
      })

  entity_step : (d name : Data) (u : EntityUid) (us : List EntityUid) → get (codes "uid") d ≡ Some name → uid_in name ≡ Some u → is_bare d ≡ true
      → bare_parents (get (codes "parents") d) ≡ done us → entity_of d ≡ done (entity_with u us)
  unfolding entity_of
  entity_step d name u us at is bare parents = rw (at, is, bare, parents) refl

  pub is_entity : (d : Data) (e : Entity) → DescribesBareEntity d e → entity_of d ≡ done e
  is_entity d e h =
      entity_step d h.found e.uid e.parents h.at_uid (is_uid h.found e.uid h.named)
      (both (is_absent_or_empty (get (codes "attrs") d)) (is_absent_or_empty (get (codes "tags") d)) (is_empty (codes "attrs") d h.no_attributes) (is_empty (codes "tags") d h.no_tags))
      (set_step (get (codes "parents") d) h.listed (is_parents d h.listed h.has_parents) ∙ ap (λ (us : List EntityUid). done us) (set_of_listed d e h))
      ∙ ap (λ (fields : List Field). done (record { uid = e.uid; attrs = fields; parents = e.parents })) (sym h.attributes_are_empty)
