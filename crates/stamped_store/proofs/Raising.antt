-- Sites with numbers raised to sites with names: stores and joins stay what they were.
use Rattle.std.specs.Prelude.{◌≡◌, List, [], ◌∷◌, ◌++◌, Option, Some, None, Bool, true, false, refl, cond, T, ◌&&◌, if◌then◌else◌}
use Rattle.std.proofs.Common.{subst, sym, ◌∙◌, ap, arith}
use Rattle.std.proofs.lemmas.List.{map-append}
use Rattle.std.specs.Option.{option_map}
use Rattle.std.specs.List.{AllByRecursion}
use Rattle.std.specs.Ordering.{nat_cmp, is_le, is_lt, ordering_then, eq_by_cmp}
use Rattle.std.specs.FinMap.{get, entries, entries_sorted, from_sorted, from_entries, get-entries, get-from_entries, get-from_sorted, entries-from_sorted, same_map, nat_cmp-IsAntisymmetric}
use Rattle.std.specs.FinMap.Entries.{find, is_sorted, below_all}
use Rattle.std.proofs.lemmas.Cmp.{nat_cmp_total}
use Rattle.values.specs.declared.name.Name.{Name}
use Rattle.values.specs.Names.{name_cmp, name_cmp-IsTotalOrder, name_cmp-IsAntisymmetric}
use Rattle.stamped_store.specs.EntryOrder.{body_cmp, entry_cmp, greater_of, greater_entry}
use Rattle.stamped_store.specs.JoinMaps.{joined_onto}
use Rattle.stamped_store.specs.Greatest.{greatest_at}
use Rattle.stamped_store.specs.Store.{updates, store_of, joined_stores, IsStoreJoin}
use Rattle.stamped_store.specs.Raised.{NumberedEntry, NumberedUpdate, NumberedStore, numbered_cmp, numbered_updates, numbered_store_of, IsNumberedStoreOf, IsNumberedJoin, joined_numbered, IsSiteNumber, HaveSiteNumbers, raise_entry, raise_update, raise, raise_store}
use Rattle.stamped_store.proofs.SiteNames.{five_digits_cmp}
use Rattle.stamped_store.proofs.Greatests.{entry_order, entry_order_by}
use Rattle.stamped_store.proofs.GreatestsBy.{IsExactOrder, get-store_of, is_store_of-store_of, same_store, joined_is_least, one_least}
use Rattle.stamped_store.proofs.JoinedStores.{joined_is_join}

-- sites with numbers have an exact order too
numbered_order : IsExactOrder numbered_cmp
numbered_order = entry_order_by nat_cmp_total nat_cmp-IsAntisymmetric

-- ---- entries
HasNumber : NumberedEntry → Type 0
HasNumber e = IsSiteNumber e.site

MayHaveNumber : Option NumberedEntry → Type 0
MayHaveNumber None = Unit {0}
MayHaveNumber (Some e) = HasNumber e

raised_cmp : (a b : NumberedEntry) → HasNumber a → HasNumber b → entry_cmp (raise_entry a) (raise_entry b) ≡ numbered_cmp a b
unfolding HasNumber
raised_cmp a b h k = ap (λ o. ordering_then (ordering_then (nat_cmp a.count b.count) o) (body_cmp a.body b.body))
    (five_digits_cmp a.site b.site (omega arith) (omega arith))

raised_if : (t : Bool) (a b : NumberedEntry) → raise_entry (if t then a else b) ≡ (if t then raise_entry a else raise_entry b)
raised_if true a b = refl
raised_if false a b = refl

raised_greater : (a b : NumberedEntry) → HasNumber a → HasNumber b → raise_entry (greater_of numbered_cmp a b) ≡ greater_entry (raise_entry a) (raise_entry b)
raised_greater a b h k = raised_if (is_le (numbered_cmp b a)) a b ∙ ap (λ o. if is_le o then raise_entry a else raise_entry b) (sym (raised_cmp b a k h))

greater_has_number : (a b : NumberedEntry) → HasNumber a → HasNumber b → HasNumber (greater_of numbered_cmp a b)
greater_has_number a b h k = elim (is_le (numbered_cmp b a)) as (λ t. HasNumber (if t then a else b)) [ true ↦ h | false ↦ k ]

onto_has_number : (a : Option NumberedEntry) (v : NumberedEntry) → MayHaveNumber a → HasNumber v → HasNumber (joined_onto (greater_of numbered_cmp) a v)
unfolding MayHaveNumber
onto_has_number None v h k = k
onto_has_number (Some a) v h k = greater_has_number a v h k

raised_onto : (a : Option NumberedEntry) (v : NumberedEntry) → MayHaveNumber a → HasNumber v
    → raise_entry (joined_onto (greater_of numbered_cmp) a v) ≡ joined_onto greater_entry (option_map raise_entry a) (raise_entry v)
unfolding MayHaveNumber
raised_onto None v h k = refl
raised_onto (Some a) v h k = raised_greater a v h k

-- ---- the greatest entry at a name
AreNumbered : List NumberedUpdate → Type 0
AreNumbered us = AllByRecursion (λ (u : NumberedUpdate). HasNumber u.1) us

are_numbered : (us : List NumberedUpdate) → HaveSiteNumbers us → AreNumbered us
unfolding AreNumbered HasNumber
are_numbered us h = h

greatest_has_number : (us : List NumberedUpdate) (q : Name) → AreNumbered us → MayHaveNumber (greatest_at numbered_cmp name_cmp us q)
unfolding AreNumbered MayHaveNumber
greatest_has_number [] q h = tt
greatest_has_number (u ∷ us) q h =
    elim (eq_by_cmp name_cmp q u.0) as (λ t. MayHaveNumber (cond t (Some (joined_onto (greater_of numbered_cmp) (greatest_at numbered_cmp name_cmp us q) u.1)) (greatest_at numbered_cmp name_cmp us q))) [
      | true ↦ onto_has_number (greatest_at numbered_cmp name_cmp us q) u.1 (greatest_has_number us q h.1) h.0
      | false ↦ greatest_has_number us q h.1
    ]

raised_greatest : (us : List NumberedUpdate) (q : Name) → AreNumbered us → greatest_at entry_cmp name_cmp (raise us) q ≡ option_map raise_entry (greatest_at numbered_cmp name_cmp us q)
unfolding AreNumbered
raised_greatest [] q h = refl
raised_greatest (u ∷ us) q h =
    let below = greatest_at numbered_cmp name_cmp us q in
    elim (eq_by_cmp name_cmp q u.0) as (λ t. cond t (Some (joined_onto greater_entry (greatest_at entry_cmp name_cmp (raise us) q) (raise_entry u.1))) (greatest_at entry_cmp name_cmp (raise us) q) ≡ option_map raise_entry (cond t (Some (joined_onto (greater_of numbered_cmp) below u.1)) below)) [
      | true ↦ ap (λ a. Some (joined_onto greater_entry a (raise_entry u.1))) (raised_greatest us q h.1)
          ∙ ap (λ e. Some e) (sym (raised_onto below u.1 (greatest_has_number us q h.1) h.0))
      | false ↦ raised_greatest us q h.1
    ]

-- ---- stores
raised_find : (us : List NumberedUpdate) (q : Name) → find name_cmp q (raise us) ≡ option_map raise_entry (find name_cmp q us)
raised_find [] q = refl
raised_find (u ∷ us) q =
    elim (eq_by_cmp name_cmp q u.0) as (λ t. cond t (Some (raise_entry u.1)) (find name_cmp q (raise us)) ≡ option_map raise_entry (cond t (Some u.1) (find name_cmp q us))) [
      | true ↦ refl
      | false ↦ raised_find us q
    ]

get-raise_store : (s : NumberedStore) (q : Name) → get (raise_store s) q ≡ option_map raise_entry (get s q)
get-raise_store s q = get-from_entries name_cmp-IsTotalOrder (raise (entries s)) q ∙ raised_find (entries s) q ∙ ap (option_map raise_entry) (sym (get-entries s q))

-- the store of raised updates is the raised store
pub store_of-raise : (us : List NumberedUpdate) → HaveSiteNumbers us → store_of (raise us) ≡ raise_store (numbered_store_of us)
store_of-raise us h = same_map name_cmp-IsTotalOrder name_cmp-IsAntisymmetric _ _ (λ q.
    get-store_of entry_order name_cmp-IsTotalOrder (raise us) q
    ∙ raised_greatest us q (are_numbered us h)
    ∙ ap (option_map raise_entry) (sym (get-store_of numbered_order name_cmp-IsTotalOrder us q))
    ∙ sym (get-raise_store (numbered_store_of us) q))

-- ---- the updates of a raised store
raised_below : (q : Name) (us : List NumberedUpdate) → below_all name_cmp q (raise us) ≡ below_all name_cmp q us
raised_below q [] = refl
raised_below q (u ∷ us) = ap (λ t. is_lt (name_cmp q u.0) && t) (raised_below q us)

raised_sorted : (us : List NumberedUpdate) → is_sorted name_cmp (raise us) ≡ is_sorted name_cmp us
raised_sorted [] = refl
raised_sorted (u ∷ us) = ap (λ t. t && is_sorted name_cmp (raise us)) (raised_below u.0 us) ∙ ap (λ t. below_all name_cmp u.0 us && t) (raised_sorted us)

pub updates-raise_store : (s : NumberedStore) → updates (raise_store s) ≡ raise (numbered_updates s)
updates-raise_store s =
    let us = raise (entries s) in
    let sorted : T (is_sorted name_cmp us) = subst T (sym (raised_sorted (entries s))) (entries_sorted s) in
    ap entries (same_map name_cmp-IsTotalOrder name_cmp-IsAntisymmetric (from_entries {R = name_cmp} us) (from_sorted us) (λ q. get-from_entries name_cmp-IsTotalOrder us q ∙ sym (get-from_sorted name_cmp us q sorted)))
    ∙ entries-from_sorted name_cmp us sorted

-- ---- joins
both_numbered : (us vs : List NumberedUpdate) → HaveSiteNumbers us → HaveSiteNumbers vs → HaveSiteNumbers (us ++ vs)
both_numbered [] vs h k = k
both_numbered (u ∷ us) vs h k = (h.0, both_numbered us vs h.1 k)

-- the raise of a join is the join of the raised stores
pub raise_joined : (s t : NumberedStore) → HaveSiteNumbers (numbered_updates s) → HaveSiteNumbers (numbered_updates t)
    → raise_store (joined_numbered s t) ≡ joined_stores (raise_store s) (raise_store t)
raise_joined s t h k =
    sym (store_of-raise (entries s ++ entries t) (both_numbered (entries s) (entries t) h k))
    ∙ ap store_of (map-append raise_update (entries s) (entries t))
    ∙ ap (λ us. store_of (us ++ raise (entries t))) (sym (updates-raise_store s))
    ∙ ap (λ us. store_of (updates (raise_store s) ++ us)) (sym (updates-raise_store t))

-- ---- stores of sites with numbers
pub numbered_greatest : (us : List NumberedUpdate) → IsNumberedStoreOf us (numbered_store_of us)
numbered_greatest = is_store_of-store_of numbered_order name_cmp-IsTotalOrder name_cmp-IsAntisymmetric

pub numbered_only : (us : List NumberedUpdate) (s : NumberedStore) → IsNumberedStoreOf us s → s ≡ numbered_store_of us
numbered_only us s h = same_store numbered_order name_cmp-IsTotalOrder name_cmp-IsAntisymmetric us s (numbered_store_of us) h (numbered_greatest us)

pub numbered_least : (s t : NumberedStore) → IsNumberedJoin s t (joined_numbered s t)
numbered_least = joined_is_least numbered_order name_cmp-IsTotalOrder name_cmp-IsAntisymmetric

-- whatever is the join of two stores is raised to the join of the raised stores
pub raise_join : (s t j : NumberedStore) → HaveSiteNumbers (numbered_updates s) → HaveSiteNumbers (numbered_updates t)
    → IsNumberedJoin s t j → IsStoreJoin (raise_store s) (raise_store t) (raise_store j)
raise_join s t j h k is =
    let one : j ≡ joined_numbered s t = one_least numbered_order name_cmp-IsTotalOrder name_cmp-IsAntisymmetric s t j is in
    subst (IsStoreJoin (raise_store s) (raise_store t)) (sym (ap raise_store one ∙ raise_joined s t h k)) (joined_is_join (raise_store s) (raise_store t))
