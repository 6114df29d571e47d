-- The form of an entity: the reading function gives the uid and the parents that JSON states.
use Rattle.std.proofs.Common.{◌≡◌, ◌∙◌, ℕ, suc, List, [], ◌∷◌, true, false, Option, Some, None, Result, Ok, Err, refl, sym, ap, subst, inl, inr}
use Rattle.std.specs.Prelude.{◌⊎◌, codes}
use Rattle.std.specs.List.{AllZip}
use Rattle.serde_json.specs.Data.{Data, Members, no_members, member}
use Rattle.serde_json.specs.Data as json
use Rattle.serde_json.specs.Find.{get, as_array}
use Rattle.json_words.specs.ReadsAs.{◌>>=◌, or_fault, demand}
use Rattle.json_words.specs.Keys.{keys_within}
use Rattle.json_words.specs.Each.{each, list_of}
use Rattle.json_words.proofs.EachLemmas.{bind_ok}
use Rattle.values.specs.declared.entity_uid.EntityUid.{EntityUid}
use Rattle.entity_uids.specs.Uids.{IsUid, uid_in}
use Rattle.entities.specs.declared.fault.EntityFault.{EntityFault}
use Rattle.entities.specs.declared.fault.EntityFault.TheVariants.{BadShape}
use Rattle.entities.specs.declared.stated.StatedEntity.{StatedEntity}
use Rattle.entities.specs.EntityForms.{is_absent_or_object, is_absent_or_empty, or_empty, stated_uid, uids_of, stated_parents, has_objects, stated_in}
use Rattle.entities.specs.StatedEntities.{ObjectAt, ParentsAt, HasForm}
use Rattle.entities.specs.StatedEntities as says
use Rattle.entities.proofs.ReadingSteps.{done, failed, ok_is, never, some_of, passes}
use Rattle.entities.proofs.Only.{Only, only_ok, only_bind, only_demand, only_or}
use Rattle.entities.proofs.Leaves.{Names, uid_is, is_uid}
use Rattle.entities.proofs.Fields.{both_true, joined}

-- ---- objects at a key

object_by : (key : List ℕ) (d : Data) (o : Option Data) → get key d ≡ o → is_absent_or_object o ≡ true → (ms : Members) × ObjectAt key d ms
object_by key d None at e = (no_members, says.no_object at)
object_by key d (Some json.null) at e = absurd cc
object_by key d (Some (json.boolean b)) at e = absurd cc
object_by key d (Some (json.number n)) at e = absurd cc
object_by key d (Some (json.string s)) at e = absurd cc
object_by key d (Some (json.array ds)) at e = absurd cc
object_by key d (Some (json.object ms)) at e = (ms, says.object_stands ms at)

pub object_is : (key : List ℕ) (d : Data) → is_absent_or_object (get key d) ≡ true → (ms : Members) × ObjectAt key d ms
object_is key d e = object_by key d (get key d) refl e

pub is_object : (key : List ℕ) (d : Data) (ms : Members) → ObjectAt key d ms → is_absent_or_object (get key d) ≡ true
is_object key d ms (says.object_stands ns at) = ap is_absent_or_object at
is_object key d ms (says.no_object at) = ap is_absent_or_object at

pub members_there : (key : List ℕ) (d : Data) (ms : Members) → ObjectAt key d ms → or_empty (get key d) ≡ json.object ms
members_there key d ms (says.object_stands ns at) = ap or_empty at
members_there key d ms (says.no_object at) = ap or_empty at

pub emptiness : (key : List ℕ) (d : Data) (ms : Members) → ObjectAt key d ms → is_absent_or_empty (get key d) ≡ keys_within [] ms
emptiness key d ms (says.object_stands ns at) = ap is_absent_or_empty at
emptiness key d ms (says.no_object at) = ap is_absent_or_empty at

pub not_empty : (ms : Members) → (ms ≡ no_members → ⊥) → keys_within [] ms ≡ false
not_empty no_members some = absurd (some refl)
not_empty (member k d ms) some = refl

-- ---- parents

abbrev pub stated : EntityUid → List EntityUid → StatedEntity
stated u us = record { uid = u; parents = us }

abbrev read_one : ℕ → Data → Result EntityUid EntityFault
read_one i d = stated_uid d

only_each : (k : ℕ) (xs : List Data) → Only BadShape (each read_one k xs)
unfolding each
only_each k [] = only_ok BadShape []
only_each k (x ∷ xs) =
    only_bind (stated_uid x) (λ y. each read_one (suc k) xs >>= λ ys. Ok (y ∷ ys)) (only_or BadShape (uid_in x)) (λ y.
    only_bind (each read_one (suc k) xs) (λ ys. Ok (y ∷ ys)) (only_each (suc k) xs) (λ ys. only_ok BadShape (y ∷ ys)))

only_parents : (o : Option Data) → Only BadShape (stated_parents o)
unfolding uids_of
only_parents None = only_ok BadShape []
only_parents (Some d) = only_bind (or_fault BadShape (as_array d)) (λ ds. uids_of ds) (only_or BadShape (as_array d)) (λ ds. only_each 0 (list_of ds))

module _ (names : Names) where
  each_is : (k : ℕ) (xs : List Data) (us : List EntityUid) → each read_one k xs ≡ done us → AllZip IsUid xs us
  unfolding each
  each_is k [] us e = subst (AllZip IsUid []) (ok_is [] us e) tt
  each_is k (x ∷ xs) us e =
      let a = bind_ok (stated_uid x) (λ y. each read_one (suc k) xs >>= λ ys. Ok (y ∷ ys)) us e in
      let b = bind_ok (each read_one (suc k) xs) (λ ys. Ok (a.0 ∷ ys)) us a.2 in
      subst (AllZip IsUid (x ∷ xs)) (ok_is (a.0 ∷ b.0) us b.2) (uid_is names x a.0 (some_of BadShape (uid_in x) a.0 a.1), each_is (suc k) xs b.0 b.1)

  is_each : (k : ℕ) (xs : List Data) (us : List EntityUid) → AllZip IsUid xs us → each read_one k xs ≡ done us
  unfolding each
  is_each k [] [] h = refl
  is_each k [] (u ∷ us) h = absurd h
  is_each k (x ∷ xs) [] h = absurd h
  is_each k (x ∷ xs) (u ∷ us) h = rw (is_uid names x u h.0, is_each (suc k) xs us h.1) refl

  parents_by : (d : Data) (us : List EntityUid) (o : Option Data) → get (codes "parents") d ≡ o → stated_parents o ≡ done us → ParentsAt d us
  unfolding uids_of
  parents_by d us None at e = subst (ParentsAt d) (ok_is [] us e) (says.no_parents at)
  parents_by d us (Some json.null) at e = absurd (never us BadShape (sym e))
  parents_by d us (Some (json.boolean b)) at e = absurd (never us BadShape (sym e))
  parents_by d us (Some (json.number n)) at e = absurd (never us BadShape (sym e))
  parents_by d us (Some (json.string s)) at e = absurd (never us BadShape (sym e))
  parents_by d us (Some (json.array ds)) at e = says.parents_stand ds us at (each_is 0 (list_of ds) us e)
  parents_by d us (Some (json.object ms)) at e = absurd (never us BadShape (sym e))

  is_parents : (d : Data) (us : List EntityUid) → ParentsAt d us → stated_parents (get (codes "parents") d) ≡ done us
  unfolding uids_of
  is_parents d us (says.parents_stand ds vs at h) = ap stated_parents at ∙ is_each 0 (list_of ds) vs h
  is_parents d us (says.no_parents at) = ap stated_parents at

  -- ---- the whole form

  abbrev pub Formed : Data → StatedEntity → Type 0
  Formed d st = (attributes : Members) × (tags : Members) × HasForm d st.uid st.parents attributes tags

  abbrev made : EntityUid → List EntityUid → Result StatedEntity EntityFault
  made u us = Ok (stated u us)

  pub form_is : (d : Data) (st : StatedEntity) → stated_in d ≡ done st → Formed d st
  unfolding stated_in
  form_is d st e =
      let a = bind_ok (or_fault BadShape (get (codes "uid") d)) (λ name. stated_uid name >>= λ u. demand BadShape (has_objects d) >>= λ q. stated_parents (get (codes "parents") d) >>= λ us. made u us) st e in
      let b = bind_ok (stated_uid a.0) (λ u. demand BadShape (has_objects d) >>= λ q. stated_parents (get (codes "parents") d) >>= λ us. made u us) st a.2 in
      let c = bind_ok (demand BadShape (has_objects d)) (λ q. stated_parents (get (codes "parents") d) >>= λ us. made b.0 us) st b.2 in
      let p = bind_ok (stated_parents (get (codes "parents") d)) (λ us. made b.0 us) st c.2 in
      let both = both_true (is_absent_or_object (get (codes "attrs") d)) (is_absent_or_object (get (codes "tags") d)) (passes BadShape (has_objects d) c.0 c.1) in
      let attributes = object_is (codes "attrs") d both.0 in
      let tags = object_is (codes "tags") d both.1 in
      subst (Formed d) (ok_is (stated b.0 p.0) st p.2) (
        attributes.0,
        tags.0,
        record {
          named = (a.0, some_of BadShape (get (codes "uid") d) a.0 a.1, uid_is names a.0 b.0 (some_of BadShape (uid_in a.0) b.0 b.1));
          has_attributes = attributes.1;
          has_tags = tags.1;
          has_parents = parents_by d p.0 (get (codes "parents") d) refl p.1;
        },
      )

  form_step : (d name : Data) (u : EntityUid) (us : List EntityUid) → get (codes "uid") d ≡ Some name → uid_in name ≡ Some u → has_objects d ≡ true
      → stated_parents (get (codes "parents") d) ≡ done us → stated_in d ≡ done (stated u us)
  unfolding stated_in
  form_step d name u us at is objects parents = rw (at, is, objects, parents) refl

  pub is_form : (d : Data) (u : EntityUid) (us : List EntityUid) (attributes tags : Members) → HasForm d u us attributes tags → stated_in d ≡ done (stated u us)
  is_form d u us attributes tags h =
      form_step d h.named.0 u us h.named.1 (is_uid names h.named.0 u h.named.2)
      (joined (is_absent_or_object (get (codes "attrs") d)) (is_absent_or_object (get (codes "tags") d)) (is_object (codes "attrs") d attributes h.has_attributes) (is_object (codes "tags") d tags h.has_tags))
      (is_parents d us h.has_parents)

  only_form : (d : Data) → Only BadShape (stated_in d)
  unfolding stated_in
  only_form d =
      only_bind (or_fault BadShape (get (codes "uid") d)) (λ name. stated_uid name >>= λ u. demand BadShape (has_objects d) >>= λ q. stated_parents (get (codes "parents") d) >>= λ us. made u us)
      (only_or BadShape (get (codes "uid") d)) (λ name.
      only_bind (stated_uid name) (λ u. demand BadShape (has_objects d) >>= λ q. stated_parents (get (codes "parents") d) >>= λ us. made u us) (only_or BadShape (uid_in name)) (λ u.
      only_bind (demand BadShape (has_objects d)) (λ q. stated_parents (get (codes "parents") d) >>= λ us. made u us) (only_demand BadShape (has_objects d)) (λ q.
      only_bind (stated_parents (get (codes "parents") d)) (λ us. made u us) (only_parents (get (codes "parents") d)) (λ us. only_ok BadShape (stated u us)))))

  abbrev pub HasNoForm : Data → Type 0
  HasNoForm d = (u : EntityUid) (us : List EntityUid) (attributes tags : Members) → HasForm d u us attributes tags → ⊥

  formed_by : (d : Data) (r : Result StatedEntity EntityFault) → stated_in d ≡ r → ((st : StatedEntity) × Formed d st) ⊎ HasNoForm d
  formed_by d (Ok st) e = inl (st, form_is d st e)
  formed_by d (Err f) e = inr (λ u us attributes tags h. never (stated u us) f (sym (is_form d u us attributes tags h) ∙ e))

  pub formed_or_none : (d : Data) → ((st : StatedEntity) × Formed d st) ⊎ HasNoForm d
  formed_or_none d = formed_by d (stated_in d) refl

  no_form_by : (d : Data) → HasNoForm d → (r : Result StatedEntity EntityFault) → stated_in d ≡ r → r ≡ failed BadShape
  no_form_by d none (Ok st) e = let h = form_is d st e in absurd (none st.uid st.parents h.0 h.1 h.2)
  no_form_by d none (Err f) e = ap failed (only_form d f e)

  pub is_no_form : (d : Data) → HasNoForm d → stated_in d ≡ failed BadShape
  is_no_form d none = no_form_by d none (stated_in d) refl
