-- Each policy stands in the bucket of its key, and nowhere else.
use Rattle.std.proofs.Common.{◌≡◌, ◌∙◌, refl, sym, ap, subst, Bool, true, false, List, [], Option, Some, None, ◌&&◌}
use Rattle.std.specs.Prelude.{ℕ, cond, Result, Ok, Err, OnOk, OnErr, IsTrue, string_bytes}
use Rattle.std.specs.Ordering.{is_eq, ordering_then}
use Rattle.std.specs.declared.cmp.Ordering.TheVariants.{Less, Equal, Greater}
use Rattle.std.specs.Result.{is_err}
use Rattle.std.specs.Map.{lookup}
use Rattle.std.specs.BTreeMap.{get, is_at}
use Rattle.std.specs.Str.{bytes_eq}
use Rattle.std.proofs.lemmas.Slice.Eq.{bytes_eq-Decides}
use Rattle.values.specs.declared.entity_uid.EntityUid.{EntityUid}
use Rattle.values.specs.Names.{text_cmp, text_cmp-IsAntisymmetric}
use Rattle.std.proofs.lemmas.Map.Views.{tells_apart}
use Rattle.ancestor_search.specs.Deciding.{same_uid, same_self}
use Rattle.std.specs.declared.alloc.Global.{Global}
use Rattle.std.specs.declared.string.String.{String}
use Rattle.policy_grammar.specs.declared.policy.Policy.{Policy}
use Rattle.scope_index.specs.declared.buckets.Buckets.{Buckets}
use Rattle.scope_index.specs.Keys.{IndexKey, Always, Principal, Resource, index_key, Kept, kept_at}
use Rattle.scope_index.specs.Buckets.{Bucket, TypeBuckets, EntityBuckets, policy_in_bucket, policy_of_entity_id, policy_of_uid, bucket_of, is_same_text, is_same_key, policy_of_key}
use Rattle.scope_index.specs.Buckets.{IsSetAtUid, IsSetAtId, IsSetAtKey, AreSameEntityBuckets, AreSameTypeBuckets, AreSameBuckets, AreEmpty, policy_with_key, AreFiled}

-- ---- the policies under one entity of a type

same_text : (a b : List ℕ) → is_same_text a b ≡ true → a ≡ b
same_text a b h = tells_apart text_cmp-IsAntisymmetric a b h

pub turned : (entity id : List ℕ) (there : Option Policy) (m n : TypeBuckets) (w : Bucket)
    → ((e : List ℕ) → get text_cmp n e ≡ cond (is_same_text entity e) (Some w) (get text_cmp m e))
    → ((q : List ℕ) → kept_at w.entries q ≡ cond (bytes_eq id q) there (policy_of_entity_id m entity q))
    → IsSetAtId entity id there m n
turned entity id there m n w at has e q =
    elim (is_same_text entity e) as (λ b. is_same_text entity e ≡ b → get text_cmp n e ≡ cond b (Some w) (get text_cmp m e)
    → policy_of_entity_id n e q ≡ cond (b && bytes_eq id q) there (policy_of_entity_id m e q)) [
      | true ↦ λ same is. ap (λ o. policy_in_bucket o q) is ∙ has q
          ∙ ap (λ x. cond (bytes_eq id q) there (policy_of_entity_id m x q)) (same_text entity e same)
      | false ↦ λ apart is. ap (λ o. policy_in_bucket o q) is
    ] refl (at e)

pub emptied : (entity : List ℕ) (m n : TypeBuckets)
    → ((e : List ℕ) → get text_cmp n e ≡ cond (is_same_text entity e) None (get text_cmp m e))
    → ((q : List ℕ) → policy_of_entity_id m entity q ≡ None) → AreSameTypeBuckets m n
emptied entity m n at none e q =
    elim (is_same_text entity e) as (λ b. is_same_text entity e ≡ b → get text_cmp n e ≡ cond b None (get text_cmp m e)
    → policy_of_entity_id n e q ≡ policy_of_entity_id m e q) [
      | true ↦ λ same is. ap (λ o. policy_in_bucket o q) is ∙ sym (subst (λ x. policy_of_entity_id m x q ≡ None) (same_text entity e same) (none q))
      | false ↦ λ apart is. ap (λ o. policy_in_bucket o q) is
    ] refl (at e)

-- what is written under an entity is what was there
pub same_written : (entity : List ℕ) (m n : TypeBuckets) (w : Bucket)
    → ((e : List ℕ) → get text_cmp n e ≡ cond (is_same_text entity e) (Some w) (get text_cmp m e))
    → ((q : List ℕ) → kept_at w.entries q ≡ policy_of_entity_id m entity q) → AreSameTypeBuckets m n
same_written entity m n w at has e q =
    elim (is_same_text entity e) as (λ b. is_same_text entity e ≡ b → get text_cmp n e ≡ cond b (Some w) (get text_cmp m e)
    → policy_of_entity_id n e q ≡ policy_of_entity_id m e q) [
      | true ↦ λ same is. ap (λ o. policy_in_bucket o q) is ∙ has q ∙ ap (λ x. policy_of_entity_id m x q) (same_text entity e same)
      | false ↦ λ apart is. ap (λ o. policy_in_bucket o q) is
    ] refl (at e)

-- nothing is under the entity
pub nothing_there : (entity id : List ℕ) (m : TypeBuckets) → get text_cmp m entity ≡ None → IsSetAtId entity id None m m
nothing_there entity id m none e q =
    elim (is_same_text entity e) as (λ b. is_same_text entity e ≡ b → policy_of_entity_id m e q ≡ cond (b && bytes_eq id q) None (policy_of_entity_id m e q)) [
      | true ↦ λ same.
          let absent : policy_of_entity_id m e q ≡ None = subst (λ x. policy_of_entity_id m x q ≡ None) (same_text entity e same) (ap (λ o. policy_in_bucket o q) none) in
          elim (bytes_eq id q) as (λ t. policy_of_entity_id m e q ≡ cond t None (policy_of_entity_id m e q)) [ true ↦ absent | false ↦ refl ]
      | false ↦ λ apart. refl
    ] refl

-- ---- the policies under one entity

pub turned_type : (uid : EntityUid) (id : List ℕ) (there : Option Policy) (m n : EntityBuckets) (w : TypeBuckets)
    → ((t : List ℕ) → get text_cmp n t ≡ cond (is_same_text uid.type_name t) (Some w) (get text_cmp m t))
    → ((e q : List ℕ) → policy_of_entity_id w e q
    ≡ cond (is_same_text uid.id e && bytes_eq id q) there (policy_in_bucket (bucket_of (get text_cmp m uid.type_name) e) q))
    → IsSetAtUid uid id there m n
turned_type uid id there m n w at has u q =
    elim (text_cmp uid.type_name u.type_name) as (λ o. text_cmp uid.type_name u.type_name ≡ o
    → get text_cmp n u.type_name ≡ cond (is_eq o) (Some w) (get text_cmp m u.type_name)
    → policy_of_uid n u q ≡ cond (is_eq (ordering_then o (text_cmp uid.id u.id)) && bytes_eq id q) there (policy_of_uid m u q)) [
      | Less ↦ λ apart e. ap (λ o. policy_in_bucket (bucket_of o u.id) q) e
      | Equal ↦ λ same e. ap (λ o. policy_in_bucket (bucket_of o u.id) q) e ∙ has u.id q
          ∙ ap (λ t. cond (is_same_text uid.id u.id && bytes_eq id q) there (policy_in_bucket (bucket_of (get text_cmp m t) u.id) q))
          (text_cmp-IsAntisymmetric uid.type_name u.type_name same)
      | Greater ↦ λ apart e. ap (λ o. policy_in_bucket (bucket_of o u.id) q) e
    ] refl (at u.type_name)

pub emptied_type : (uid : EntityUid) (m n : EntityBuckets)
    → ((t : List ℕ) → get text_cmp n t ≡ cond (is_same_text uid.type_name t) None (get text_cmp m t))
    → ((u : EntityUid) (q : List ℕ) → IsTrue (is_same_text uid.type_name u.type_name) → policy_of_uid m u q ≡ None) → AreSameEntityBuckets m n
emptied_type uid m n at none u q =
    elim (is_same_text uid.type_name u.type_name) as (λ b. is_same_text uid.type_name u.type_name ≡ b
    → get text_cmp n u.type_name ≡ cond b None (get text_cmp m u.type_name) → policy_of_uid n u q ≡ policy_of_uid m u q) [
      | true ↦ λ same e. ap (λ o. policy_in_bucket (bucket_of o u.id) q) e ∙ sym (none u q same)
      | false ↦ λ apart e. ap (λ o. policy_in_bucket (bucket_of o u.id) q) e
    ] refl (at u.type_name)

-- what is written under a type is what was there
pub same_type_written : (uid : EntityUid) (m n : EntityBuckets) (w : TypeBuckets)
    → ((t : List ℕ) → get text_cmp n t ≡ cond (is_same_text uid.type_name t) (Some w) (get text_cmp m t))
    → ((e q : List ℕ) → policy_of_entity_id w e q ≡ policy_in_bucket (bucket_of (get text_cmp m uid.type_name) e) q) → AreSameEntityBuckets m n
same_type_written uid m n w at has u q =
    elim (is_same_text uid.type_name u.type_name) as (λ b. is_same_text uid.type_name u.type_name ≡ b
    → get text_cmp n u.type_name ≡ cond b (Some w) (get text_cmp m u.type_name) → policy_of_uid n u q ≡ policy_of_uid m u q) [
      | true ↦ λ same e. ap (λ o. policy_in_bucket (bucket_of o u.id) q) e ∙ has u.id q
          ∙ ap (λ t. policy_in_bucket (bucket_of (get text_cmp m t) u.id) q) (same_text uid.type_name u.type_name same)
      | false ↦ λ apart e. ap (λ o. policy_in_bucket (bucket_of o u.id) q) e
    ] refl (at u.type_name)

-- nothing is under the type
pub nothing_of_type : (uid : EntityUid) (id : List ℕ) (m : EntityBuckets) → get text_cmp m uid.type_name ≡ None → IsSetAtUid uid id None m m
nothing_of_type uid id m none u q =
    elim (text_cmp uid.type_name u.type_name) as (λ o. text_cmp uid.type_name u.type_name ≡ o
    → policy_of_uid m u q ≡ cond (is_eq (ordering_then o (text_cmp uid.id u.id)) && bytes_eq id q) None (policy_of_uid m u q)) [
      | Less ↦ λ apart. refl
      | Equal ↦ λ same.
          let absent : policy_of_uid m u q ≡ None =
          subst (λ t. policy_in_bucket (bucket_of (get text_cmp m t) u.id) q ≡ None) (text_cmp-IsAntisymmetric uid.type_name u.type_name same)
          (ap (λ o. policy_in_bucket (bucket_of o u.id) q) none) in
          elim (is_same_text uid.id u.id && bytes_eq id q) as (λ t. policy_of_uid m u q ≡ cond t None (policy_of_uid m u q)) [
            | true ↦ absent
            | false ↦ refl
          ]
      | Greater ↦ λ apart. refl
    ] refl

-- ---- keys

pub key_self : (k : IndexKey) → is_same_key k k ≡ true
key_self Always = refl
key_self (Principal a) = same_self a
key_self (Resource a) = same_self a

pub key_same : (a b : IndexKey) → is_same_key a b ≡ true → a ≡ b
key_same Always Always h = refl
key_same Always (Principal b) h = absurd (cc)
key_same Always (Resource b) h = absurd (cc)
key_same (Principal a) Always h = absurd (cc)
key_same (Principal a) (Principal b) h = ap Principal (same_uid a b h)
key_same (Principal a) (Resource b) h = absurd (cc)
key_same (Resource a) Always h = absurd (cc)
key_same (Resource a) (Principal b) h = absurd (cc)
key_same (Resource a) (Resource b) h = ap Resource (same_uid a b h)

-- ---- all ids

-- at the id of the change
here : (b b' : Buckets) (key k : IndexKey) (there : Option Policy) (q : List ℕ) (t : Bool) → t ≡ true
    → policy_of_key b' k q ≡ cond (is_same_key key k && t) there (policy_of_key b k q)
    → policy_of_key b' k q ≡ cond (is_same_key key k) there (policy_of_key b k q)
here b b' key k there q t is e =
    elim (is_same_key key k) as (λ x. policy_of_key b' k q ≡ cond (x && t) there (policy_of_key b k q)
    → policy_of_key b' k q ≡ cond x there (policy_of_key b k q)) [
      | true ↦ λ h. subst (λ y. policy_of_key b' k q ≡ cond y there (policy_of_key b k q)) is h
      | false ↦ λ h. h
    ] e

-- at another id
elsewhere : (b b' : Buckets) (key k : IndexKey) (there : Option Policy) (q : List ℕ) (t : Bool) → t ≡ false
    → policy_of_key b' k q ≡ cond (is_same_key key k && t) there (policy_of_key b k q) → policy_of_key b' k q ≡ policy_of_key b k q
elsewhere b b' key k there q t is e =
    elim (is_same_key key k) as (λ x. policy_of_key b' k q ≡ cond (x && t) there (policy_of_key b k q) → policy_of_key b' k q ≡ policy_of_key b k q) [
      | true ↦ λ h. subst (λ y. policy_of_key b' k q ≡ cond y there (policy_of_key b k q)) is h
      | false ↦ λ h. h
    ] e

struck : (x : Bool) (p : Policy) → cond x None (cond x (Some p) None) ≡ None
struck true p = refl
struck false p = refl

-- one id's policy is now another or none, and the buckets say so; nothing else changed
module _ (kept kept' : Kept) (b b' : Buckets) (id : List ℕ) (filed : AreFiled kept b) where
  carried : (k : IndexKey) (q : List ℕ) → policy_of_key b' k q ≡ policy_of_key b k q → kept_at kept' q ≡ kept_at kept q
      → policy_of_key b' k q ≡ policy_with_key k (kept_at kept' q)
  carried k q bucket same = bucket ∙ filed k q ∙ ap (policy_with_key k) (sym same)

  pub forgotten : (p : Policy) → kept_at kept id ≡ Some p
      → ((q : List ℕ) → kept_at kept' q ≡ cond (bytes_eq id q) None (kept_at kept q))
      → IsSetAtKey (index_key p.scope) id None b b' → AreFiled kept' b'
  forgotten p was at turns k q =
      elim (bytes_eq id q) as (λ t. bytes_eq id q ≡ t → kept_at kept' q ≡ cond t None (kept_at kept q)
      → policy_of_key b' k q ≡ policy_with_key k (kept_at kept' q)) [
        | true ↦ λ is e.
            let key = index_key p.scope in
            let there : kept_at kept q ≡ Some p = subst (λ i. kept_at kept i ≡ Some p) ((bytes_eq-Decides id q).0 is) was in
            let before : policy_of_key b k q ≡ cond (is_same_key key k) (Some p) None = filed k q ∙ ap (policy_with_key k) there in
            here b b' key k None q (bytes_eq id q) is (turns k q)
            ∙ ap (λ o. cond (is_same_key key k) None o) before ∙ struck (is_same_key key k) p ∙ sym (ap (policy_with_key k) e)
        | false ↦ λ is e. carried k q (elsewhere b b' (index_key p.scope) k None q (bytes_eq id q) is (turns k q)) e
      ] refl (at q)

  pub entered : (p : Policy) → kept_at kept id ≡ None
      → ((q : List ℕ) → kept_at kept' q ≡ cond (bytes_eq id q) (Some p) (kept_at kept q))
      → IsSetAtKey (index_key p.scope) id (Some p) b b' → AreFiled kept' b'
  entered p was at turns k q =
      elim (bytes_eq id q) as (λ t. bytes_eq id q ≡ t → kept_at kept' q ≡ cond t (Some p) (kept_at kept q)
      → policy_of_key b' k q ≡ policy_with_key k (kept_at kept' q)) [
        | true ↦ λ is e.
            let key = index_key p.scope in
            let there : kept_at kept q ≡ None = subst (λ i. kept_at kept i ≡ None) ((bytes_eq-Decides id q).0 is) was in
            let before : policy_of_key b k q ≡ None = filed k q ∙ ap (policy_with_key k) there in
            here b b' key k (Some p) q (bytes_eq id q) is (turns k q)
            ∙ ap (λ o. cond (is_same_key key k) (Some p) o) before ∙ sym (ap (policy_with_key k) e)
        | false ↦ λ is e. carried k q (elsewhere b b' (index_key p.scope) k (Some p) q (bytes_eq id q) is (turns k q)) e
      ] refl (at q)

-- what was written under an id, said of the policy that a share is of
pub let_in : (kept kept' : Kept) (own : String Global) (id : List ℕ) (share p : Policy) → string_bytes own ≡ id → share ≡ p
    → ((q : List ℕ) → kept_at kept' q ≡ cond (bytes_eq (string_bytes own) q) (Some share) (kept_at kept q))
    → (q : List ℕ) → kept_at kept' q ≡ cond (bytes_eq id q) (Some p) (kept_at kept q)
let_in kept kept' own id share p same is h q =
    h q ∙ ap (λ i. cond (bytes_eq i q) (Some share) (kept_at kept q)) same ∙ ap (λ x. cond (bytes_eq id q) (Some x) (kept_at kept q)) is

-- what is taken in and taken out again
pub undone : (kept kept' kept'' : Kept) (id : List ℕ) (p : Policy) → kept_at kept id ≡ None
    → ((q : List ℕ) → kept_at kept' q ≡ cond (bytes_eq id q) (Some p) (kept_at kept q))
    → ((q : List ℕ) → kept_at kept'' q ≡ cond (bytes_eq id q) None (kept_at kept' q))
    → (q : List ℕ) → kept_at kept'' q ≡ kept_at kept q
undone kept kept' kept'' id p was into out q =
    elim (bytes_eq id q) as (λ t. bytes_eq id q ≡ t → kept_at kept' q ≡ cond t (Some p) (kept_at kept q)
    → kept_at kept'' q ≡ cond t None (kept_at kept' q) → kept_at kept'' q ≡ kept_at kept q) [
      | true ↦ λ is e f. f ∙ sym (subst (λ i. kept_at kept i ≡ None) ((bytes_eq-Decides id q).0 is) was)
      | false ↦ λ is e f. f ∙ e
    ] refl (into q) (out q)

pub still_filed : (kept kept' : Kept) (b b' : Buckets) → AreFiled kept b
    → ((q : List ℕ) → kept_at kept' q ≡ kept_at kept q) → AreSameBuckets b b' → AreFiled kept' b'
still_filed kept kept' b b' filed at same k q = carried kept kept' b b' [] filed k q (same k q) (at q)

-- ---- what one call says

pub on_ok : {A E : Type 0} (r : Result A E) (P : Type 0) → P → OnOk r P
on_ok (Ok x) P h = h
on_ok (Err e) P h = tt

pub on_err : {A E : Type 0} (r : Result A E) (P : Type 0) → P → OnErr r P
on_err (Ok x) P h = tt
on_err (Err e) P h = h

pub of_ok : {A E : Type 0} (r : Result A E) (P : Type 0) → is_err r ≡ false → OnOk r P → P
of_ok (Ok x) P is h = h
of_ok (Err e) P is h = absurd (cc (is))

pub of_err : {A E : Type 0} (r : Result A E) (P : Type 0) → is_err r ≡ true → OnErr r P → P
of_err (Ok x) P is h = absurd (cc (is))
of_err (Err e) P is h = h

-- what a call on the buckets of a type says, said of all types
module _ {E : Type 0} (r : Result (Unit {0}) E) (uid : EntityUid) (m n : EntityBuckets) (was w : TypeBuckets)
    (held : get text_cmp m uid.type_name ≡ Some was)
    (at : (t : List ℕ) → get text_cmp n t ≡ cond (is_same_text uid.type_name t) (Some w) (get text_cmp m t)) where
  before : (e q : List ℕ) → policy_of_entity_id was e q ≡ policy_in_bucket (bucket_of (get text_cmp m uid.type_name) e) q
  before e q = ap (λ o. policy_in_bucket (bucket_of o e) q) (sym held)

  pub ok_turned : (id : List ℕ) (there : Option Policy) → OnOk r (IsSetAtId uid.id id there was w) → OnOk r (IsSetAtUid uid id there m n)
  ok_turned id there h = elim r as (λ x. OnOk x (IsSetAtId uid.id id there was w) → OnOk x (IsSetAtUid uid id there m n)) [
    | Ok u ↦ λ k. turned_type uid id there m n w at
        (λ e q. k e q ∙ ap (λ o. cond (is_same_text uid.id e && bytes_eq id q) there o) (before e q))
    | Err e ↦ λ k. tt
  ] h

  pub err_same : OnErr r (AreSameTypeBuckets was w) → OnErr r (AreSameEntityBuckets m n)
  err_same h = elim r as (λ x. OnErr x (AreSameTypeBuckets was w) → OnErr x (AreSameEntityBuckets m n)) [
    | Ok u ↦ λ k. tt
    | Err e ↦ λ k. same_type_written uid m n w at (λ e q. k e q ∙ before e q)
  ] h

-- one kind of bucket changed
module _ (b : Buckets) (key : IndexKey) (id : List ℕ) (there : Option Policy) where
  pub always_turned : (w : Bucket) → Always ≡ key
      → ((q : List ℕ) → kept_at w.entries q ≡ cond (bytes_eq id q) there (kept_at b.always.entries q))
      → IsSetAtKey key id there b (record { always = w; principals = b.principals; resources = b.resources })
  always_turned w is has =
      subst (λ z. IsSetAtKey z id there b (record { always = w; principals = b.principals; resources = b.resources })) is by_kind
    where
      by_kind : IsSetAtKey Always id there b (record { always = w; principals = b.principals; resources = b.resources })
      by_kind Always q = has q
      by_kind (Principal u) q = refl
      by_kind (Resource u) q = refl

  pub principals_turned : (m : EntityBuckets) (uid : EntityUid)
      → Principal uid ≡ key → IsSetAtUid uid id there b.principals m
      → IsSetAtKey key id there b (record { always = b.always; principals = m; resources = b.resources })
  principals_turned m uid is turns =
      subst (λ z. IsSetAtKey z id there b (record { always = b.always; principals = m; resources = b.resources })) is by_kind
    where
      by_kind : IsSetAtKey (Principal uid) id there b (record { always = b.always; principals = m; resources = b.resources })
      by_kind Always q = refl
      by_kind (Principal u) q = turns u q
      by_kind (Resource u) q = refl

  pub resources_turned : (m : EntityBuckets) (uid : EntityUid)
      → Resource uid ≡ key → IsSetAtUid uid id there b.resources m
      → IsSetAtKey key id there b (record { always = b.always; principals = b.principals; resources = m })
  resources_turned m uid is turns =
      subst (λ z. IsSetAtKey z id there b (record { always = b.always; principals = b.principals; resources = m })) is by_kind
    where
      by_kind : IsSetAtKey (Resource uid) id there b (record { always = b.always; principals = b.principals; resources = m })
      by_kind Always q = refl
      by_kind (Principal u) q = refl
      by_kind (Resource u) q = turns u q

-- where a call on one kind of bucket fails, all are as they were
pub principals_same : {E : Type 0} (r : Result (Unit {0}) E) (b : Buckets) (m : EntityBuckets) → OnErr r (AreSameEntityBuckets b.principals m)
    → OnErr r (AreSameBuckets b (record { always = b.always; principals = m; resources = b.resources }))
principals_same (Ok u) b m h = tt
principals_same (Err e) b m h = by_kind
  where
    by_kind : AreSameBuckets b (record { always = b.always; principals = m; resources = b.resources })
    by_kind Always q = refl
    by_kind (Principal u) q = h u q
    by_kind (Resource u) q = refl

pub resources_same : {E : Type 0} (r : Result (Unit {0}) E) (b : Buckets) (m : EntityBuckets) → OnErr r (AreSameEntityBuckets b.resources m)
    → OnErr r (AreSameBuckets b (record { always = b.always; principals = b.principals; resources = m }))
resources_same (Ok u) b m h = tt
resources_same (Err e) b m h = by_kind
  where
    by_kind : AreSameBuckets b (record { always = b.always; principals = b.principals; resources = m })
    by_kind Always q = refl
    by_kind (Principal u) q = refl
    by_kind (Resource u) q = h u q

pub all_empty : (b : Buckets) → b.always.entries ≡ [] → b.principals.entries ≡ [] → b.resources.entries ≡ [] → AreEmpty b
all_empty b none no_principals no_resources Always q = ap (λ es. kept_at es q) none
all_empty b none no_principals no_resources (Principal u) q =
    ap (λ es. policy_in_bucket (bucket_of (lookup (is_at (text_cmp u.type_name)) es) u.id) q) no_principals
all_empty b none no_principals no_resources (Resource u) q =
    ap (λ es. policy_in_bucket (bucket_of (lookup (is_at (text_cmp u.type_name)) es) u.id) q) no_resources

pub none_filed : (kept : Kept) (b : Buckets) → kept ≡ [] → AreEmpty b → AreFiled kept b
none_filed kept b none empty k q = empty k q ∙ sym (ap (λ es. policy_with_key k (kept_at es q)) none)
