-- Stores that are joined: the first names, the join and its laws, the order of stores, and the stamps that are issued.
use Rattle.std.specs.Prelude.{◌≡◌, ◌↔◌, ℕ, suc, ◌+◌, ◌-◌, ◌<◌, ◌≤◌, List, [], ◌∷◌, ◌++◌, length, Option, Some, None, Bool, true, false, refl, cond, max, take, string_bytes, IsTrue, ◌⊎◌, if◌then◌else◌}
use Rattle.std.specs.List.{Contains}
use Rattle.std.specs.Cmp.{tied_itself}
use Rattle.std.proofs.Common.{subst, sym, ◌∙◌, ap, arith, ⊎_elim, inl, inr}
use Rattle.std.proofs.lemmas.List.{take-map, length-map, take_all}
use Rattle.std.proofs.Math.Seq.{take-nil}
use Rattle.std.proofs.lemmas.Bool.{cases_lt}
use Prim.Native.Nat.{zero}
use Rattle.std.specs.Option.{option_map}
use Rattle.std.specs.Ordering.{is_le, is_eq, eq_by_cmp, nat_cmp}
use Rattle.std.specs.String.{string_cmp}
use Rattle.std.specs.Cmp.Lexicographic.{slice_cmp}
use Rattle.std.specs.FinMap.{get, same_map, get-insert, get-entries}
use Rattle.std.specs.declared.alloc.Global.{Global}
use Rattle.std.specs.declared.string.String.{String}
use Rattle.values.specs.declared.name.Name.{Name}
use Rattle.values.specs.declared.name.Name.TheVariants.{Policy, Entity}
use Rattle.values.specs.declared.entity_uid.EntityUid.{EntityUid}
use Rattle.values.specs.Names.{name_cmp, uid_cmp, text_cmp-IsAntisymmetric}
use Rattle.values.specs.Names.{name_cmp-IsTotalOrder, name_cmp-IsAntisymmetric}
use Rattle.stamped_store.specs.declared.entry.Entry.{Entry}
use Rattle.stamped_store.specs.Joins.{option_joined, option_below}
use Rattle.stamped_store.specs.EntryOrder.{PlainEntry, plain_entry, entry_cmp, entry_at_most, greater, greater_entry}
use Rattle.stamped_store.specs.JoinMaps.{value_at, value_at_text, all_joined, joined_onto, IsBelow}
use Rattle.stamped_store.specs.Greatest.{greatest_count, max_count}
use Rattle.stamped_store.specs.Abstraction.{abstract_entry, abstract_entries}
use Rattle.stamped_store.specs.Store.{Store, Update, StoreEntries, concrete_entries, joined_entries, first_entries, updates, store_of, first_names, plain_below, IsStoreBelow, IsStoreJoin, joined_stores, id_name, entity_name, abstract_updates, abstract_store, KeepsOtherNames, issue, issued}
use Rattle.plain.proofs.Members.{Contains-none, Contains-here, Contains-there}
use Rattle.stamped_store.proofs.Greatests.{count_le, count_of_find, greater_assoc, greater_commutes, greater_itself, greatest_count-store_of, max_count-append, entry_order}
use Rattle.stamped_store.proofs.GreatestsBy.{by_place, get-joined, joined_is_least, one_if_below, one_least, store_of-append, store_of-append_right, store_of-push}
use Rattle.stamped_store.proofs.Stores.{equal_of, get-policy, get-entity, shown-all_joined}

-- ---- the first names of a store
take_both : {A : Type 0} (n : ℕ) (xs ys : List A) → take n (xs ++ ys) ≡ take n xs ++ take (n - length xs) ys
take_both n [] ys =
    let all : n ≡ n - 0 = omega arith in
    ap (λ m. take m ys) all ∙ ap (λ zs. zs ++ take (n - 0) ys) (sym (take-nil n))
take_both zero (x ∷ xs) ys =
    let none : 0 ≡ 0 - length (x ∷ xs) = omega arith in
    ap (λ m. take m ys) none
take_both (suc n) (x ∷ xs) ys =
    let rest : n - length xs ≡ suc n - length (x ∷ xs) = omega arith in
    ap (λ zs. x ∷ zs) (take_both n xs ys ∙ ap (λ m. take n xs ++ take m ys) rest)

-- every name but that of one more update has what it had
pub others_kept : (s t : Store) (name : Name) (v : PlainEntry) → t ≡ store_of (updates s ++ (name, v) ∷ []) → KeepsOtherNames name s t
others_kept s t name v e q apart =
    ap (λ m. get m q) (e ∙ store_of-push entry_order name_cmp-IsTotalOrder name_cmp-IsAntisymmetric s name v)
    ∙ get-insert name_cmp-IsTotalOrder s name (joined_onto greater_entry (get s name) v) q
    ∙ elim (eq_by_cmp name_cmp q name) as (λ b. eq_by_cmp name_cmp q name ≡ b → cond b (Some (joined_onto greater_entry (get s name) v)) (get s q) ≡ get s q) [
      | true ↦ λ same. absurd (apart (name_cmp-IsAntisymmetric q name (equal_of (name_cmp q name) same)))
      | false ↦ λ other. refl
    ] refl

-- ---- the join of stores
pub get-joined_stores : (s t : Store) (q : Name) → get (joined_stores s t) q ≡ option_joined greater_entry (get s q) (get t q)
get-joined_stores = get-joined entry_order name_cmp-IsTotalOrder name_cmp-IsAntisymmetric

-- the store of the updates of both is the least store above both
pub joined_is_join : (s t : Store) → IsStoreJoin s t (joined_stores s t)
joined_is_join = joined_is_least entry_order name_cmp-IsTotalOrder name_cmp-IsAntisymmetric

-- stores that are below each other are one
pub same_if_below_both : (s t : Store) → IsStoreBelow s t → IsStoreBelow t s → s ≡ t
same_if_below_both = one_if_below entry_order name_cmp-IsTotalOrder name_cmp-IsAntisymmetric

-- there is one join
pub one_join : (s t j : Store) → IsStoreJoin s t j → j ≡ joined_stores s t
one_join = one_least entry_order name_cmp-IsTotalOrder name_cmp-IsAntisymmetric

-- the greatest count of a join
pub greatest_count-joined : (s t : Store) → greatest_count (joined_stores s t) ≡ max (greatest_count s) (greatest_count t)
greatest_count-joined s t = greatest_count-store_of name_cmp-IsTotalOrder (updates s ++ updates t) ∙ max_count-append (updates s) (updates t)

-- ---- below
entries_below : {A : Type 0} (a b : Option (Entry A)) → option_below plain_below (option_map plain_entry a) (option_map plain_entry b) ≡ option_below entry_at_most a b
entries_below None b = refl
entries_below (Some a) None = refl
entries_below (Some a) (Some b) = refl

-- what is found stands at a key of these bytes
key_found : {P : Type 0} (ps : List (String Global × Entry P)) (bytes : List ℕ) (a : Entry P) → value_at_text ps bytes ≡ Some a → (k : String Global) × (string_bytes k ≡ bytes)
key_found [] bytes a h = absurd (cc)
key_found (p ∷ ps) bytes a h =
    elim (is_eq (slice_cmp nat_cmp bytes (string_bytes p.0))) as (λ t. is_eq (slice_cmp nat_cmp bytes (string_bytes p.0)) ≡ t → cond t (Some p.1) (value_at_text ps bytes) ≡ Some a → (k : String Global) × (string_bytes k ≡ bytes)) [
      | true ↦ λ same found. (p.0, sym (text_cmp-IsAntisymmetric bytes (string_bytes p.0) (equal_of (slice_cmp nat_cmp bytes (string_bytes p.0)) same)))
      | false ↦ λ apart found. key_found ps bytes a found
    ] refl h

below_at_text : {P : Type 0} (ps qs : List (String Global × Entry P)) → IsBelow string_cmp entry_at_most ps qs → (bytes : List ℕ) (a : Option (Entry P)) → value_at_text ps bytes ≡ a → option_below entry_at_most a (value_at_text qs bytes) ≡ true
below_at_text ps qs h bytes None e = refl
below_at_text ps qs h bytes (Some a) e =
    let found = key_found ps bytes a e in
    subst (λ x. option_below entry_at_most x (value_at_text qs bytes) ≡ true) e
    (subst (λ b. option_below entry_at_most (value_at_text ps b) (value_at_text qs b) ≡ true) found.1 (h found.0))

module _ {P E : Type 0} where
  -- the updates of the first names
  first_updates : (n : ℕ) (k : StoreEntries P E) → abstract_updates (first_entries n k) ≡ take n (abstract_updates k)
  first_updates n k = sym (
      take_both n (abstract_entries id_name k.policies) (abstract_entries entity_name k.entities)
      ∙ ap (λ us. us ++ take (n - length (abstract_entries id_name k.policies)) (abstract_entries entity_name k.entities)) (take-map (abstract_entry id_name) n k.policies)
      ∙ ap (λ us. abstract_entries id_name (take n k.policies) ++ us) (ap (λ m. take (n - m) (abstract_entries entity_name k.entities)) (length-map k.policies (abstract_entry id_name)) ∙ take-map (abstract_entry entity_name) (n - length k.policies) k.entities))

  -- a store that took all that another has is their join
  pub joined_whole : (s o t : StoreEntries P E) → updates (abstract_store o) ≡ abstract_updates o → t ≡ joined_entries s o → IsStoreJoin (abstract_store s) (abstract_store o) (abstract_store t)
  joined_whole s o t h e =
      let path : abstract_store t ≡ joined_stores (abstract_store s) (abstract_store o) =
      ap abstract_store e ∙ shown-all_joined s.policies o.policies s.entities o.entities ∙ ap (λ us. store_of (updates (abstract_store s) ++ us)) (sym h) in
      subst (IsStoreJoin (abstract_store s) (abstract_store o)) (sym path) (joined_is_join (abstract_store s) (abstract_store o))

  -- and one that took the first names' entries is the join with these
  pub joined_first : (s o t : StoreEntries P E) (n : ℕ) → updates (abstract_store o) ≡ abstract_updates o → t ≡ joined_entries s (first_entries n o) → IsStoreJoin (abstract_store s) (first_names n (abstract_store o)) (abstract_store t)
  joined_first s o t n h e =
      let path : abstract_store t ≡ joined_stores (abstract_store s) (first_names n (abstract_store o)) =
      ap abstract_store e
      ∙ shown-all_joined s.policies (take n o.policies) s.entities (take (n - length o.policies) o.entities)
      ∙ ap (λ us. store_of (updates (abstract_store s) ++ us)) (first_updates n o ∙ ap (take n) (sym h))
      ∙ sym (store_of-append_right entry_order name_cmp-IsTotalOrder name_cmp-IsAntisymmetric (updates (abstract_store s)) (take n (updates (abstract_store o)))) in
      subst (IsStoreJoin (abstract_store s) (first_names n (abstract_store o))) (sym path) (joined_is_join (abstract_store s) (first_names n (abstract_store o)))

  -- memory was refused among the policies
  pub kept_first_policies : (s o : StoreEntries P E) (n : List (String Global × Entry P)) (k : ℕ) → n ≡ all_joined string_cmp greater s.policies (take k o.policies) → k < length o.policies → concrete_entries n s.entities ≡ joined_entries s (first_entries k o)
  kept_first_policies s o n k e short =
      let none : 0 ≡ k - length o.policies = omega arith in
      ap (λ ps. concrete_entries ps s.entities) e ∙ ap (λ m. concrete_entries (all_joined string_cmp greater s.policies (take k o.policies)) (all_joined uid_cmp greater s.entities (take m o.entities))) none

  -- memory was refused among the entities
  pub kept_first_entities : (s o : StoreEntries P E) (n : List (String Global × Entry P)) (m : List (EntityUid × Entry E)) (j k : ℕ) → n ≡ all_joined string_cmp greater s.policies o.policies → m ≡ all_joined uid_cmp greater s.entities (take j o.entities) → k ≡ length o.policies + j → concrete_entries n m ≡ joined_entries s (first_entries k o)
  kept_first_entities s o n m j k e f is =
      let some : j ≡ k - length o.policies = omega arith in
      let all : o.policies ≡ take k o.policies = sym (take_all k o.policies (omega arith)) in
      ap (λ ps. concrete_entries ps m) (e ∙ ap (all_joined string_cmp greater s.policies) all)
      ∙ ap (concrete_entries (all_joined string_cmp greater s.policies (take k o.policies))) (f ∙ ap (λ i. all_joined uid_cmp greater s.entities (take i o.entities)) some)

  store_below : (s o : StoreEntries P E) → IsBelow string_cmp entry_at_most s.policies o.policies → IsBelow uid_cmp entry_at_most s.entities o.entities → IsStoreBelow (abstract_store s) (abstract_store o)
  store_below s o h k (Policy bytes) =
      ap (λ a. option_below plain_below a (get (abstract_store o) (Policy bytes))) (get-policy s.policies s.entities bytes)
      ∙ ap (option_below plain_below (option_map plain_entry (value_at_text s.policies bytes))) (get-policy o.policies o.entities bytes)
      ∙ entries_below (value_at_text s.policies bytes) (value_at_text o.policies bytes)
      ∙ below_at_text s.policies o.policies h bytes (value_at_text s.policies bytes) refl
  store_below s o h k (Entity u) =
      ap (λ a. option_below plain_below a (get (abstract_store o) (Entity u))) (get-entity s.policies s.entities u)
      ∙ ap (option_below plain_below (option_map plain_entry (value_at uid_cmp s.entities u))) (get-entity o.policies o.entities u)
      ∙ entries_below (value_at uid_cmp s.entities u) (value_at uid_cmp o.entities u)
      ∙ k u

  policies_below : (s o : StoreEntries P E) → IsStoreBelow (abstract_store s) (abstract_store o) → IsBelow string_cmp entry_at_most s.policies o.policies
  policies_below s o h k = sym (entries_below (value_at string_cmp s.policies k) (value_at string_cmp o.policies k))
      ∙ sym (ap (λ a. option_below plain_below a (get (abstract_store o) (id_name k))) (get-policy s.policies s.entities (string_bytes k)) ∙ ap (option_below plain_below (option_map plain_entry (value_at string_cmp s.policies k))) (get-policy o.policies o.entities (string_bytes k)))
      ∙ h (id_name k)

  entities_below : (s o : StoreEntries P E) → IsStoreBelow (abstract_store s) (abstract_store o) → IsBelow uid_cmp entry_at_most s.entities o.entities
  entities_below s o h u = sym (entries_below (value_at uid_cmp s.entities u) (value_at uid_cmp o.entities u))
      ∙ sym (ap (λ a. option_below plain_below a (get (abstract_store o) (Entity u))) (get-entity s.policies s.entities u) ∙ ap (option_below plain_below (option_map plain_entry (value_at uid_cmp s.entities u))) (get-entity o.policies o.entities u))
      ∙ h (entity_name u)

  -- both parts are asked, the entities only where the policies are below
  pub below_if_both : (s o : StoreEntries P E) (p e : Bool) → IsTrue p ↔ IsBelow string_cmp entry_at_most s.policies o.policies → IsTrue e ↔ IsBelow uid_cmp entry_at_most s.entities o.entities → p ≡ true → IsTrue e ↔ IsStoreBelow (abstract_store s) (abstract_store o)
  below_if_both s o p e h k first = ((λ is. store_below s o (h.0 first) (k.0 is)), (λ b. k.1 (entities_below s o b)))

  pub below_if_not : (s o : StoreEntries P E) (p : Bool) → IsTrue p ↔ IsBelow string_cmp entry_at_most s.policies o.policies → p ≡ false → IsTrue p ↔ IsStoreBelow (abstract_store s) (abstract_store o)
  below_if_not s o p h apart = ((λ is. let both : p ≡ true = is in absurd (cc)), (λ b. h.1 (policies_below s o b)))

-- ---- laws of the join
joined_assoc_at : (a b c : Option PlainEntry) → option_joined greater_entry (option_joined greater_entry a b) c ≡ option_joined greater_entry a (option_joined greater_entry b c)
joined_assoc_at None b c = refl
joined_assoc_at (Some a) None c = refl
joined_assoc_at (Some a) (Some b) None = refl
joined_assoc_at (Some a) (Some b) (Some c) = ap (λ x. Some x) (greater_assoc a b c)

joined_commutes_at : (a b : Option PlainEntry) → option_joined greater_entry a b ≡ option_joined greater_entry b a
joined_commutes_at None None = refl
joined_commutes_at None (Some b) = refl
joined_commutes_at (Some a) None = refl
joined_commutes_at (Some a) (Some b) = ap (λ x. Some x) (greater_commutes a b)

joined_itself_at : (a : Option PlainEntry) → option_joined greater_entry a a ≡ a
joined_itself_at None = refl
joined_itself_at (Some a) = ap (λ x. Some x) (greater_itself a)

same_at : (s t : Store) → ((q : Name) → get s q ≡ get t q) → s ≡ t
same_at s t h = same_map name_cmp-IsTotalOrder name_cmp-IsAntisymmetric s t h

pub joined_assoc : (s t u : Store) → joined_stores (joined_stores s t) u ≡ joined_stores s (joined_stores t u)
joined_assoc s t u = same_at _ _ (λ q.
    get-joined_stores (joined_stores s t) u q ∙ ap (λ a. option_joined greater_entry a (get u q)) (get-joined_stores s t q)
    ∙ joined_assoc_at (get s q) (get t q) (get u q)
    ∙ sym (get-joined_stores s (joined_stores t u) q ∙ ap (option_joined greater_entry (get s q)) (get-joined_stores t u q)))

pub joined_commutes : (s t : Store) → joined_stores s t ≡ joined_stores t s
joined_commutes s t = same_at _ _ (λ q. get-joined_stores s t q ∙ joined_commutes_at (get s q) (get t q) ∙ sym (get-joined_stores t s q))

pub joined_itself : (s : Store) → joined_stores s s ≡ s
joined_itself s = same_at _ _ (λ q. get-joined_stores s s q ∙ joined_itself_at (get s q))

-- the store of two sets of updates together is the join of their stores
pub store_of_union : (us vs : List Update) → IsStoreJoin (store_of us) (store_of vs) (store_of (us ++ vs))
store_of_union us vs =
    let path : joined_stores (store_of us) (store_of vs) ≡ store_of (us ++ vs) =
    store_of-append entry_order name_cmp-IsTotalOrder name_cmp-IsAntisymmetric us (updates (store_of vs)) ∙ store_of-append_right entry_order name_cmp-IsTotalOrder name_cmp-IsAntisymmetric us vs in
    subst (IsStoreJoin (store_of us) (store_of vs)) path (joined_is_join (store_of us) (store_of vs))

-- ---- issued stamps
-- an entry of a greater count than what is there stays
above_all : (a : Option PlainEntry) (v : PlainEntry) → ((e : PlainEntry) → a ≡ Some e → e.count < v.count) → joined_onto greater_entry a v ≡ v
above_all None v h = refl
above_all (Some e) v h =
    elim (is_le (entry_cmp v e)) as (λ t. is_le (entry_cmp v e) ≡ t → (if t then e else v) ≡ v) [
      | true ↦ λ under. let less = h e refl in let more = count_le v e under in absurd (omega arith)
      | false ↦ λ over. refl
    ] refl

pub issued_wins : (s : Store) (q : Name) (n : List ℕ) (body : Option (List ℕ)) → get (store_of (updates s ++ (q, issued (issue s n) body) ∷ [])) q ≡ Some (issued (issue s n) body)
issued_wins s q n body =
    let v = issued (issue s n) body in
    ap (λ m. get m q) (store_of-push entry_order name_cmp-IsTotalOrder name_cmp-IsAntisymmetric s q v)
    ∙ get-insert name_cmp-IsTotalOrder s q (joined_onto greater_entry (get s q) v) q
    ∙ ap (λ r. cond (is_eq r) (Some (joined_onto greater_entry (get s q) v)) (get s q)) (tied_itself name_cmp-IsTotalOrder q)
    ∙ ap (λ x. Some x) (above_all (get s q) v (λ e is. let under = count_of_find name_cmp-IsTotalOrder q (updates s) e (sym (get-entries s q) ∙ is) in omega arith))

-- every update's count is at most the greatest
pub counts_below : (us : List Update) (u : Update) → Contains us u → u.1.count ≤ max_count us
counts_below [] u h = absurd (Contains-none u h)
counts_below (v ∷ us) u h = by_place v us u h
    (λ same. let c : v.1.count ≡ u.1.count = ap (λ (x : Update). x.1.count) same in omega arith)
    (λ later. let c = counts_below us u later in omega arith)

-- and one has it, unless it is 0
pub count_reached : (us : List Update) → (max_count us ≡ 0) ⊎ ((u : Update) × Contains us u × (u.1.count ≡ max_count us))
count_reached [] = inl refl
count_reached (v ∷ us) =
    ⊎_elim
    (λ there. ⊎_elim
    (λ none. inl (omega arith))
    (λ found. let c = found.2 in inr (found.0, Contains-there v us found.0 found.1, omega arith))
    (count_reached us))
    (λ here. inr (v, Contains-here v us, omega arith))
    (cases_lt v.1.count (max_count us))
