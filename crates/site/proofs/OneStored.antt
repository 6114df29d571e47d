-- A put or deletion has at most one outcome if there is memory.
use Rattle.std.specs.Prelude.{◌≡◌, ◌↔◌, ◌<◌, ◌≤◌, ◌++◌, ◌∷◌, [], ℕ, List, length, Bool, true, false, IsTrue, Option, Some}
use Rattle.std.specs.Prelude.{None, IsSome, option_and_then, Result, Ok, Err, refl}
use Rattle.std.specs.Str.{IsUtf8}
use Rattle.std.proofs.Common.{sym, ap, ◌∙◌, subst, arith, inl}
use Rattle.serde_json.specs.Data.{Data}
use Rattle.values.specs.declared.entity_uid.EntityUid.{EntityUid}
use Rattle.values.specs.declared.name.Name.{Name}
use Rattle.site_store.specs.policy_grammar.declared.policy.Policy.{Policy}
use Rattle.site_store.specs.policy_grammar.declared.fault.ReadFault.{ReadFault}
use Rattle.site_store.specs.policy_grammar.declared.fault.ReadFault.TheVariants.{BadId, TooLong}
use Rattle.site_store.specs.policy_grammar.Limits.{most_policy_bytes}
use Rattle.site_store.specs.policy_grammar.PolicyText.{IsPolicyText, IsPolicyRefused}
use Rattle.site_store.specs.policy_grammar.Unique.{HasOneReading}
use Rattle.site_meaning.specs.ancestor_search.Hierarchy.{IsOnCycle}
use Rattle.site_store.specs.schema.Schemas.{StatedSchema}
use Rattle.site_store.specs.entity_data.declared.entity.Entity.{Entity}
use Rattle.entities.specs.declared.fault.EntityFault.{EntityFault}
use Rattle.entities.specs.declared.fault.EntityFault.TheVariants.{BadShape}
use Rattle.entity_uids.specs.Uids.{uid_in}
use Rattle.entities.specs.Canonical.{canonical_text}
use Rattle.sync_messages.specs.typing.declared.fault.TypeFault.{TypeFault}
use Rattle.sync_messages.specs.validator.Outcomes.{refused as check_refused, PoliciesHaveOneOutcome, PassingIsNotRefused}
use Rattle.sync_messages.specs.validator.Passing.{IsImpossible, IsCheckRefused}
use Rattle.site_store.specs.stamped_store.declared.entry.Stamp.{Stamp}
use Rattle.site_store.specs.stamped_store.Contents.{text_under}
use Rattle.site_store.specs.stamped_store.Greatest.{greatest_count}
use Rattle.site_store.specs.stamped_store.Store.{Store, updates, store_of, issued, policy_name, entity_name}
use Rattle.site_meaning.specs.StoreMeaning.{AreEntities, MakesCycle, MakesNoCycle, parents_with}
use Rattle.site.specs.declared.fault.SiteFault.{SiteFault}
use Rattle.site.specs.declared.fault.SiteFault.TheVariants as fault
use Rattle.site.specs.declared.outcome.Put.{Put}
use Rattle.site.specs.Admitted.{IsEntityUnder, IsAdmitted, IsNotAdmitted, bad_id, too_long, no_text, no_policy}
use Rattle.site.specs.Admitted.{not_passing, entity_stated}
use Rattle.site.specs.Readings.{parsed}
use Rattle.site.specs.Steps.{most_count, Records, IsClockFull, PutsPolicy, PutsEntity, Deletes}
use Rattle.site.specs.Steps.{DeletesPolicy, DeletesEntity}
use Rattle.site.specs.Outcomes.{ReportsNoFailedAllocation}

-- ---- what is stamped and stored

one_record : (n : List ℕ) (s : Store) (name : Name) (body : Option (List ℕ)) (a b : Stamp) (t u : Store)
    → Records n s name body a t → Records n s name body b u → (a ≡ b) × (t ≡ u)
one_record n s name body a b t u h k =
    let stamp : a ≡ b = h.next ∙ sym k.next in
    (stamp, h.store ∙ ap (λ (x : Stamp). store_of (updates s ++ (name, issued x body) ∷ [])) stamp ∙ sym k.store)

-- the count of a full clock is below no limit
not_full : (n : List ℕ) (s : Store) (name : Name) (body : Option (List ℕ)) (a : Stamp) (t u : Store)
    → Records n s name body a t → IsClockFull s u → ⊥
not_full n s name body a t u h k = less_itself (greatest_count s) most_count h.clock k.0
  where
    less_itself : (g m : ℕ) → g < m → g ≡ m → ⊥
    less_itself g m less same = omega arith

abbrev pub done : {A : Type 0} → A → Result A SiteFault
done a = Ok a

pub same_ok : {A : Type 0} (a b : A) → a ≡ b → done a ≡ done b
same_ok {A} a b h = ap (λ (x : A). done x) h

-- two values of one result
pub one_value : {A F : Type 0} (r : Result A F) (a b : A) → r ≡ Ok a → r ≡ Ok b → a ≡ b
one_value (Ok x) a b h k = let first : x ≡ a = cc in let second : x ≡ b = cc in sym first ∙ second
one_value (Err f) a b h k = absurd cc

pub one_fault : {A F : Type 0} (r : Result A F) (f g : F) → r ≡ Err f → r ≡ Err g → f ≡ g
one_fault (Ok x) f g h k = absurd cc
one_fault (Err e) f g h k = let first : e ≡ f = cc in let second : e ≡ g = cc in sym first ∙ second

pub not_both : {A F : Type 0} (r : Result A F) (a : A) (f : F) → r ≡ Ok a → r ≡ Err f → ⊥
not_both (Ok x) a f h k = absurd cc
not_both (Err e) a f h k = absurd cc

-- ---- policies

same_test : (X : Type 0) (a b : Bool) → (IsTrue a ↔ X) → (IsTrue b ↔ X) → a ≡ b
same_test X true true h k = refl
same_test X true false h k = sym (k.1 (h.0 refl))
same_test X false true h k = h.1 (k.0 refl)
same_test X false false h k = refl

pub data PolicyComes (schema : StatedSchema) (n : List ℕ) (s : Store) (id text : List ℕ) : Result Put SiteFault → Store → Type 0 where
  stored : (put : Put) (t : Store) (p : Policy) → IsAdmitted schema id text p
      → (IsTrue put.impossible ↔ IsImpossible schema p) → Records n s (policy_name id) (Some text) put.stamp t
      → PolicyComes schema n s id text (Ok put) t
  full : (t : Store) (p : Policy) → IsAdmitted schema id text p → IsClockFull s t
      → PolicyComes schema n s id text (Err fault.ClockFull) t
  refused : (f : SiteFault) (t : Store) → IsNotAdmitted schema id text f → t ≡ s
      → PolicyComes schema n s id text (Err f) t

pub policy_comes : (schema : StatedSchema) (n : List ℕ) (s : Store) (id text : List ℕ) (r : Result Put SiteFault) (t : Store)
    → PutsPolicy schema n s id text r t → ReportsNoFailedAllocation r → PolicyComes schema n s id text r t
policy_comes schema n s id text (Ok put) t h m = stored put t h.0 h.1 h.2 h.3
policy_comes schema n s id text (Err fault.NoMemory) t h m = absurd m
policy_comes schema n s id text (Err fault.ClockFull) t h m = full t h.0.0 h.0.1 h.1
policy_comes schema n s id text (Err (fault.Policy f)) t h m = refused (fault.Policy f) t h.0 h.1
policy_comes schema n s id text (Err (fault.Check f)) t h m = refused (fault.Check f) t h.0 h.1
policy_comes schema n s id text (Err (fault.Entity f)) t h m = refused (fault.Entity f) t h.0 h.1
policy_comes schema n s id text (Err (fault.Message f)) t h m = refused (fault.Message f) t h.0 h.1
policy_comes schema n s id text (Err fault.NotThere) t h m = refused fault.NotThere t h.0 h.1
policy_comes schema n s id text (Err fault.WouldCycle) t h m = refused fault.WouldCycle t h.0 h.1
policy_comes schema n s id text (Err (fault.Request f)) t h m = refused (fault.Request f) t h.0 h.1

not_both_sizes : (text : List ℕ) → most_policy_bytes < length text → length text ≤ most_policy_bytes → ⊥
not_both_sizes text long fits = omega arith

same_text_fault : (f g : ReadFault) → f ≡ g → fault.Policy f ≡ fault.Policy g
same_text_fault f g same = ap (λ (x : ReadFault). fault.Policy x) same

module _ (schema : StatedSchema) (texts : HasOneReading IsPolicyText IsPolicyRefused) (checks : PoliciesHaveOneOutcome)
    (apart : PassingIsNotRefused) where
  one_check : (p : Policy) (f g : TypeFault) → IsCheckRefused schema p f → IsCheckRefused schema p g → f ≡ g
  one_check p f g h k =
      let only = (checks schema p).2 in
      let same : check_refused f ≡ check_refused g = only (check_refused f) h ∙ sym (only (check_refused g) k) in
      cc

  too_long_refused : (text : List ℕ) → most_policy_bytes < length text → IsPolicyRefused text TooLong
  too_long_refused text long = inl long

  not_admitted : (id text : List ℕ) (p : Policy) (f : SiteFault) → IsAdmitted schema id text p
      → IsNotAdmitted schema id text f → ⊥
  not_admitted id text p _ a (bad_id named) = named a.named
  not_admitted id text p _ a (too_long named long) =
      texts.not_both text p TooLong a.reads.is_text (too_long_refused text long)
  not_admitted id text p _ a (no_text named fits other) = other a.utf8
  not_admitted id text p _ a (no_policy f named utf8 h) = texts.not_both text p f a.reads.is_text h
  not_admitted id text p _ a (not_passing q f named utf8 is h) = apart schema p f a.reads.passes
      (subst (λ (x : Policy). IsCheckRefused schema x f) (texts.one_value text q p is a.reads.is_text) h)

  one_refusal : (id text : List ℕ) (f g : SiteFault) → IsNotAdmitted schema id text f → IsNotAdmitted schema id text g
      → f ≡ g
  one_refusal id text _ _ (bad_id a) (bad_id b) = refl
  one_refusal id text _ _ (bad_id a) (too_long b m) = absurd (a b)
  one_refusal id text _ _ (bad_id a) (no_text b small apart_b) = absurd (a b)
  one_refusal id text _ _ (bad_id a) (no_policy g b v k) = absurd (a b)
  one_refusal id text _ _ (bad_id a) (not_passing q g b v are k) = absurd (a b)
  one_refusal id text _ _ (too_long a l) (bad_id b) = absurd (b a)
  one_refusal id text _ _ (too_long a l) (too_long b m) = refl
  one_refusal id text _ _ (too_long a l) (no_text b small apart_b) = absurd (not_both_sizes text l small)
  one_refusal id text _ _ (too_long a l) (no_policy g b v k) =
      same_text_fault TooLong g (texts.one_refusal text TooLong g (too_long_refused text l) k)
  one_refusal id text _ _ (too_long a l) (not_passing q g b v are k) =
      absurd (texts.not_both text q TooLong are (too_long_refused text l))
  one_refusal id text _ _ (no_text a fits other) (bad_id b) = absurd (b a)
  one_refusal id text _ _ (no_text a fits other) (too_long b m) = absurd (not_both_sizes text m fits)
  one_refusal id text _ _ (no_text a fits other) (no_text b small apart_b) = refl
  one_refusal id text _ _ (no_text a fits other) (no_policy g b v k) = absurd (other v)
  one_refusal id text _ _ (no_text a fits other) (not_passing q g b v are k) = absurd (other v)
  one_refusal id text _ _ (no_policy f a u h) (bad_id b) = absurd (b a)
  one_refusal id text _ _ (no_policy f a u h) (too_long b m) =
      same_text_fault f TooLong (texts.one_refusal text f TooLong h (too_long_refused text m))
  one_refusal id text _ _ (no_policy f a u h) (no_text b small apart_b) = absurd (apart_b u)
  one_refusal id text _ _ (no_policy f a u h) (no_policy g b v k) = same_text_fault f g (texts.one_refusal text f g h k)
  one_refusal id text _ _ (no_policy f a u h) (not_passing q g b v are k) = absurd (texts.not_both text q f are h)
  one_refusal id text _ _ (not_passing p f a u is h) (bad_id b) = absurd (b a)
  one_refusal id text _ _ (not_passing p f a u is h) (too_long b m) =
      absurd (texts.not_both text p TooLong is (too_long_refused text m))
  one_refusal id text _ _ (not_passing p f a u is h) (no_text b small apart_b) = absurd (apart_b u)
  one_refusal id text _ _ (not_passing p f a u is h) (no_policy g b v k) = absurd (texts.not_both text p g is k)
  one_refusal id text _ _ (not_passing p f a u is h) (not_passing q g b v are k) =
      ap (λ (x : TypeFault). fault.Check x) (one_check p f g h
      (subst (λ (x : Policy). IsCheckRefused schema x g) (texts.one_value text q p are is) k))

  pub one_policy : (n : List ℕ) (s : Store) (id text : List ℕ) (x y : Result Put SiteFault) (t u : Store)
      → PolicyComes schema n s id text x t → PolicyComes schema n s id text y u → (x ≡ y) × (t ≡ u)
  one_policy n s id text _ _ _ _ (stored a t p h i j) (stored b u q k l m) =
      let same = texts.one_value text q p k.reads.is_text h.reads.is_text in
      let both = one_record n s (policy_name id) (Some text) a.stamp b.stamp t u j m in
      let told : a.impossible ≡ b.impossible = same_test (IsImpossible schema p) a.impossible b.impossible i
      (subst (λ (x : Policy). IsTrue b.impossible ↔ IsImpossible schema x) same l) in
      let put : a ≡ b = λ z. record { stamp = both.0 z; impossible = told z } in
      (same_ok a b put, both.1)
  one_policy n s id text _ _ _ _ (stored a t p h i j) (full u q k l) =
      absurd (not_full n s (policy_name id) (Some text) a.stamp t u j l)
  one_policy n s id text _ _ _ _ (stored a t p h i j) (refused g u k l) = absurd (not_admitted id text p g h k)
  one_policy n s id text _ _ _ _ (full t p h i) (stored b u q k l m) =
      absurd (not_full n s (policy_name id) (Some text) b.stamp u t m i)
  one_policy n s id text _ _ _ _ (full t p h i) (full u q k l) = (refl, i.1 ∙ sym l.1)
  one_policy n s id text _ _ _ _ (full t p h i) (refused g u k l) = absurd (not_admitted id text p g h k)
  one_policy n s id text _ _ _ _ (refused f t h i) (stored b u q k l m) = absurd (not_admitted id text q f k h)
  one_policy n s id text _ _ _ _ (refused f t h i) (full u q k l) = absurd (not_admitted id text q f k h)
  one_policy n s id text _ _ _ _ (refused f t h i) (refused g u k l) =
      (ap (λ (x : SiteFault). Err x) (one_refusal id text f g h k), i ∙ sym l)

-- ---- names that are taken away

pub data DeleteComes (n : List ℕ) (s : Store) (name : Name) : Result Stamp SiteFault → Store → Type 0 where
  deleted : (stamp : Stamp) (t : Store) → IsSome (text_under s name) → Records n s name None stamp t
      → DeleteComes n s name (Ok stamp) t
  unstamped : (t : Store) → IsSome (text_under s name) → IsClockFull s t → DeleteComes n s name (Err fault.ClockFull) t
  absent : (t : Store) → text_under s name ≡ None → t ≡ s → DeleteComes n s name (Err fault.NotThere) t

pub delete_comes : (n : List ℕ) (s : Store) (name : Name) (r : Result Stamp SiteFault) (t : Store) → Deletes n s name r t
    → ReportsNoFailedAllocation r → DeleteComes n s name r t
delete_comes n s name (Ok stamp) t h m = deleted stamp t h.0 h.1
delete_comes n s name (Err fault.NoMemory) t h m = absurd m
delete_comes n s name (Err (fault.Policy f)) t h m = absurd h
delete_comes n s name (Err (fault.Check f)) t h m = absurd h
delete_comes n s name (Err (fault.Entity f)) t h m = absurd h
delete_comes n s name (Err (fault.Message f)) t h m = absurd h
delete_comes n s name (Err fault.NotThere) t h m = absent t h.0 h.1
delete_comes n s name (Err fault.WouldCycle) t h m = absurd h
delete_comes n s name (Err fault.ClockFull) t h m = unstamped t h.0 h.1
delete_comes n s name (Err (fault.Request f)) t h m = absurd h

none_there : {A : Type 0} (o : Option A) → IsSome o → o ≡ None → ⊥
none_there None h k = absurd cc
none_there (Some x) h k = absurd cc

pub one_delete : (n : List ℕ) (s : Store) (name : Name) (x y : Result Stamp SiteFault) (t u : Store)
    → DeleteComes n s name x t → DeleteComes n s name y u → (x ≡ y) × (t ≡ u)
one_delete n s name _ _ _ _ (deleted a t h i) (deleted b u k l) =
    let both = one_record n s name None a b t u i l in (same_ok a b both.0, both.1)
one_delete n s name _ _ _ _ (deleted a t h i) (unstamped u k l) = absurd (not_full n s name None a t u i l)
one_delete n s name _ _ _ _ (deleted a t h i) (absent u k l) = absurd (none_there (text_under s name) h k)
one_delete n s name _ _ _ _ (unstamped t h i) (deleted b u k l) = absurd (not_full n s name None b u t l i)
one_delete n s name _ _ _ _ (unstamped t h i) (unstamped u k l) = (refl, i.1 ∙ sym l.1)
one_delete n s name _ _ _ _ (unstamped t h i) (absent u k l) = absurd (none_there (text_under s name) h k)
one_delete n s name _ _ _ _ (absent t h i) (deleted b u k l) = absurd (none_there (text_under s name) k h)
one_delete n s name _ _ _ _ (absent t h i) (unstamped u k l) = absurd (none_there (text_under s name) k h)
one_delete n s name _ _ _ _ (absent t h i) (absent u k l) = (refl, i ∙ sym l)

-- the id is UTF-8, or it is not
pub data PolicyDeleteComes (n : List ℕ) (s : Store) (id : List ℕ) : Result Stamp SiteFault → Store → Type 0 where
  an_id : (r : Result Stamp SiteFault) (t : Store) → IsUtf8 id → DeleteComes n s (policy_name id) r t
      → PolicyDeleteComes n s id r t
  no_id : (f : ReadFault) (t : Store) → f ≡ BadId → (IsUtf8 id → ⊥) → t ≡ s
      → PolicyDeleteComes n s id (Err (fault.Policy f)) t

pub policy_delete_comes : (n : List ℕ) (s : Store) (id : List ℕ) (r : Result Stamp SiteFault) (t : Store)
    → DeletesPolicy n s id r t → ReportsNoFailedAllocation r → PolicyDeleteComes n s id r t
policy_delete_comes n s id (Err fault.NoMemory) t h m = absurd m
policy_delete_comes n s id (Err (fault.Policy f)) t h m = no_id f t h.0 h.1 h.2
policy_delete_comes n s id r t h m = an_id r t h.0 (delete_comes n s (policy_name id) r t h.1 m)

pub one_policy_delete : (n : List ℕ) (s : Store) (id : List ℕ) (x y : Result Stamp SiteFault) (t u : Store)
    → PolicyDeleteComes n s id x t → PolicyDeleteComes n s id y u → (x ≡ y) × (t ≡ u)
one_policy_delete n s id _ _ _ _ (an_id x t a h) (an_id y u b k) = one_delete n s (policy_name id) x y t u h k
one_policy_delete n s id _ _ _ _ (an_id x t a h) (no_id g u e b k) = absurd (b a)
one_policy_delete n s id _ _ _ _ (no_id f t e a h) (an_id y u b k) = absurd (a b)
one_policy_delete n s id _ _ _ _ (no_id f t e a h) (no_id g u i b k) =
    (ap (λ (x : ReadFault). Err (fault.Policy x)) (e ∙ sym i), h ∙ sym k)

-- the JSON names an entity, or it does not
pub data EntityDeleteComes (n : List ℕ) (s : Store) (json : Option Data) : Result Stamp SiteFault → Store → Type 0 where
  a_uid : (r : Result Stamp SiteFault) (t : Store) (uid : EntityUid) → option_and_then uid_in json ≡ Some uid
      → DeleteComes n s (entity_name uid) r t → EntityDeleteComes n s json r t
  no_uid : (f : EntityFault) (t : Store) → f ≡ BadShape → option_and_then uid_in json ≡ None → t ≡ s
      → EntityDeleteComes n s json (Err (fault.Entity f)) t

pub entity_delete_comes : (schema : StatedSchema) (n : List ℕ) (s : Store) (json : Option Data)
    (r : Result Stamp SiteFault) (t : Store) → DeletesEntity (parsed schema) n s json r t → ReportsNoFailedAllocation r
    → EntityDeleteComes n s json r t
entity_delete_comes schema n s json (Err fault.NoMemory) t h m = absurd m
entity_delete_comes schema n s json (Err (fault.Entity f)) t h m = no_uid f t h.0 h.1 h.2
entity_delete_comes schema n s json r t h m = a_uid r t h.0 h.1 (delete_comes n s (entity_name h.0) r t h.2 m)

same_uid_named : (o : Option EntityUid) (uid other : EntityUid) → o ≡ Some uid → o ≡ Some other → other ≡ uid
same_uid_named o uid other h k = cc

uid_or_none : (o : Option EntityUid) (uid : EntityUid) → o ≡ Some uid → o ≡ None → ⊥
uid_or_none o uid h k = absurd (cc)

pub one_entity_delete : (n : List ℕ) (s : Store) (json : Option Data) (x y : Result Stamp SiteFault) (t u : Store)
    → EntityDeleteComes n s json x t → EntityDeleteComes n s json y u → (x ≡ y) × (t ≡ u)
one_entity_delete n s json _ _ _ _ (a_uid x t uid e h) (a_uid y u other i k) =
    one_delete n s (entity_name uid) x y t u h
    (subst (λ (z : EntityUid). DeleteComes n s (entity_name z) y u)
    (same_uid_named (option_and_then uid_in json) uid other e i) k)
one_entity_delete n s json _ _ _ _ (a_uid x t uid e h) (no_uid g u i none k) =
    absurd (uid_or_none (option_and_then uid_in json) uid e none)
one_entity_delete n s json _ _ _ _ (no_uid f t e none h) (a_uid y u uid i k) =
    absurd (uid_or_none (option_and_then uid_in json) uid i none)
one_entity_delete n s json _ _ _ _ (no_uid f t e none h) (no_uid g u i also k) =
    (ap (λ (x : EntityFault). Err (fault.Entity x)) (e ∙ sym i), h ∙ sym k)

-- ---- entities

pub data EntityComes (schema : StatedSchema) (n : List ℕ) (s : Store) (json : Option Data) : Result Stamp SiteFault → Store
    → Type 0 where
  kept : (stamp : Stamp) (t : Store) (e : Entity) → entity_stated schema json ≡ Ok e
      → MakesNoCycle (IsEntityUnder schema) schema s e
      → Records n s (entity_name e.uid) (Some (canonical_text e)) stamp t → EntityComes schema n s json (Ok stamp) t
  unkept : (t : Store) (e : Entity) → entity_stated schema json ≡ Ok e
      → MakesNoCycle (IsEntityUnder schema) schema s e → IsClockFull s t
      → EntityComes schema n s json (Err fault.ClockFull) t
  cyclic : (t : Store) (e : Entity) → entity_stated schema json ≡ Ok e → MakesCycle (IsEntityUnder schema) schema s e
      → t ≡ s → EntityComes schema n s json (Err fault.WouldCycle) t
  unstated : (f : EntityFault) (t : Store) → entity_stated schema json ≡ Err f → t ≡ s
      → EntityComes schema n s json (Err (fault.Entity f)) t

pub entity_comes : (schema : StatedSchema) (n : List ℕ) (s : Store) (json : Option Data) (r : Result Stamp SiteFault) (t : Store)
    → PutsEntity (parsed schema) n s json r t → ReportsNoFailedAllocation r → EntityComes schema n s json r t
entity_comes schema n s json (Ok stamp) t h m = kept stamp t h.0 h.1 h.2 h.3
entity_comes schema n s json (Err fault.NoMemory) t h m = absurd m
entity_comes schema n s json (Err (fault.Policy f)) t h m = absurd h
entity_comes schema n s json (Err (fault.Check f)) t h m = absurd h
entity_comes schema n s json (Err (fault.Entity f)) t h m = unstated f t h.0 h.1
entity_comes schema n s json (Err (fault.Message f)) t h m = absurd h
entity_comes schema n s json (Err fault.NotThere) t h m = absurd h
entity_comes schema n s json (Err fault.WouldCycle) t h m = cyclic t h.0.0 h.0.1 h.0.2 h.1
entity_comes schema n s json (Err fault.ClockFull) t h m = unkept t h.0.0 h.0.1 h.0.2 h.1
entity_comes schema n s json (Err (fault.Request f)) t h m = absurd h

module _ (schema : StatedSchema) (one_world : (s : Store) (es fs : EntityUid → Option Entity)
    → AreEntities (IsEntityUnder schema) s es → AreEntities (IsEntityUnder schema) s fs → es ≡ fs) where
  no_cycle : (s : Store) (e f : Entity) → e ≡ f → MakesCycle (IsEntityUnder schema) schema s e
      → MakesNoCycle (IsEntityUnder schema) schema s f → ⊥
  no_cycle s e f same h k =
      let world = one_world s h.entities k.entities h.are_entities k.are_entities in
      k.none (subst (λ (x : Entity). IsOnCycle (parents_with schema k.entities x) x.uid) same
      (subst (λ (es : EntityUid → Option Entity). IsOnCycle (parents_with schema es e) e.uid) world h.cycle))

  pub one_entity : (n : List ℕ) (s : Store) (json : Option Data) (x y : Result Stamp SiteFault) (t u : Store)
      → EntityComes schema n s json x t → EntityComes schema n s json y u → (x ≡ y) × (t ≡ u)
  one_entity n s json _ _ _ _ (kept a t e h i j) (kept b u f k l m) =
      let same : f ≡ e = one_value (entity_stated schema json) f e k h in
      let both = one_record n s (entity_name e.uid) (Some (canonical_text e)) a b t u j
      (subst (λ (x : Entity). Records n s (entity_name x.uid) (Some (canonical_text x)) b u) same m) in
      (same_ok a b both.0, both.1)
  one_entity n s json _ _ _ _ (kept a t e h i j) (unkept u f k l m) =
      absurd (not_full n s (entity_name e.uid) (Some (canonical_text e)) a t u j m)
  one_entity n s json _ _ _ _ (kept a t e h i j) (cyclic u f k l m) =
      absurd (no_cycle s f e (one_value (entity_stated schema json) f e k h) l i)
  one_entity n s json _ _ _ _ (kept a t e h i j) (unstated g u k l) =
      absurd (not_both (entity_stated schema json) e g h k)
  one_entity n s json _ _ _ _ (unkept t e h i j) (kept b u f k l m) =
      absurd (not_full n s (entity_name f.uid) (Some (canonical_text f)) b u t m j)
  one_entity n s json _ _ _ _ (unkept t e h i j) (unkept u f k l m) = (refl, j.1 ∙ sym m.1)
  one_entity n s json _ _ _ _ (unkept t e h i j) (cyclic u f k l m) =
      absurd (no_cycle s f e (one_value (entity_stated schema json) f e k h) l i)
  one_entity n s json _ _ _ _ (unkept t e h i j) (unstated g u k l) =
      absurd (not_both (entity_stated schema json) e g h k)
  one_entity n s json _ _ _ _ (cyclic t e h i j) (kept b u f k l m) =
      absurd (no_cycle s e f (one_value (entity_stated schema json) e f h k) i l)
  one_entity n s json _ _ _ _ (cyclic t e h i j) (unkept u f k l m) =
      absurd (no_cycle s e f (one_value (entity_stated schema json) e f h k) i l)
  one_entity n s json _ _ _ _ (cyclic t e h i j) (cyclic u f k l m) = (refl, j ∙ sym m)
  one_entity n s json _ _ _ _ (cyclic t e h i j) (unstated g u k l) =
      absurd (not_both (entity_stated schema json) e g h k)
  one_entity n s json _ _ _ _ (unstated f t h i) (kept b u e k l m) =
      absurd (not_both (entity_stated schema json) e f k h)
  one_entity n s json _ _ _ _ (unstated f t h i) (unkept u e k l m) =
      absurd (not_both (entity_stated schema json) e f k h)
  one_entity n s json _ _ _ _ (unstated f t h i) (cyclic u e k l m) =
      absurd (not_both (entity_stated schema json) e f k h)
  one_entity n s json _ _ _ _ (unstated f t h i) (unstated g u k l) =
      (ap (λ (x : EntityFault). Err (fault.Entity x)) (one_fault (entity_stated schema json) f g h k), i ∙ sym l)
