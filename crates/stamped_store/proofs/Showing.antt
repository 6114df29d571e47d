-- What a map shows after values were joined.
use Rattle.std.specs.Prelude.{max, T, ◌&&◌, ◌≡◌, List, [], ◌∷◌, ◌++◌, Option, Some, None, Bool, true, false, refl, cond, if◌then◌else◌}
use Rattle.std.proofs.Common.{subst, sym, ◌∙◌, ap, append_assoc, append-nil, arith}
use Rattle.std.specs.Option.{option_map}
use Rattle.std.specs.Ordering.{is_lt, is_eq, is_le, eq_by_cmp, match_ordering}
use Rattle.std.specs.Cmp.{IsTotalOrder}
use Rattle.std.specs.BTreeMap.{insert_entry}
use Rattle.std.specs.Map.{keys_of}
use Rattle.std.specs.List.{AllByRecursion}
use Rattle.std.specs.List.Sorted.{IsStrictlySortedBy}
use Rattle.std.specs.FinMap.{IsAntisymmetric, insert, get, entries, from_sorted, entries-from_sorted, get-from_sorted, same_map, get-insert, get-from_entries}
use Rattle.std.specs.FinMap.Entries.{is_sorted, below_all, find, put, find-put, by_order}
use Rattle.std.specs.declared.cmp.Ordering.{Ordering}
use Rattle.std.specs.declared.cmp.Ordering.TheVariants.{Less, Equal, Greater}
use Rattle.stamped_store.specs.declared.entry.Entry.{Entry}
use Rattle.stamped_store.specs.EntryOrder.{entry_cmp, greater, greater_entry, plain_entry}
use Rattle.stamped_store.specs.JoinMaps.{value_at, taken, all_joined, joined_onto}
use Rattle.stamped_store.specs.Greatest.{store_of}
use Rattle.stamped_store.specs.Abstraction.{abstract_entry, abstract_entries, abstract_map, greatest_kept}
use Rattle.stamped_store.proofs.Greatests.{entry_order}
use Rattle.stamped_store.proofs.GreatestsBy.{store_of-push, store_of-append, store_of-entries}

pub plain_entry-greater : {P : Type 0} (a b : Entry P) → plain_entry (greater a b) ≡ greater_entry (plain_entry a) (plain_entry b)
plain_entry-greater a b = elim (is_le (entry_cmp (plain_entry b) (plain_entry a))) as (λ t. plain_entry (if t then a else b) ≡ (if t then plain_entry a else plain_entry b)) [ true ↦ refl | false ↦ refl ]

pub plain_entry-onto : {P : Type 0} (a : Option (Entry P)) (v : Entry P) → plain_entry (joined_onto greater a v) ≡ joined_onto greater_entry (option_map plain_entry a) (plain_entry v)
plain_entry-onto None v = refl
plain_entry-onto (Some a) v = plain_entry-greater a v

abbrev by_names : {K N : Type 0} → (K → N) → (N → N → Ordering) → K → K → Ordering
by_names name R a b = R (name a) (name b)

both : (a b : Bool) → T a → T b → T (a && b)
both true b p q = q
both false b p q = p

module _ {K N P : Type 0} (name : K → N) (R : N → N → Ordering) where
  pub below_all-shown : (k : K) (es : List (K × Entry P)) → AllByRecursion (λ y. R (name k) (name y) ≡ Less) (keys_of es) → T (below_all R (name k) (abstract_entries name es))
  below_all-shown k [] h = tt
  below_all-shown k (e ∷ es) h = both (is_lt (R (name k) (name e.0))) _ (subst (λ r. T (is_lt r)) (sym h.0) tt) (below_all-shown k es h.1)

  pub is_sorted-shown : (es : List (K × Entry P)) → IsStrictlySortedBy (by_names name R) (keys_of es) → T (is_sorted R (abstract_entries name es))
  unfolding IsStrictlySortedBy
  is_sorted-shown [] h = tt
  is_sorted-shown (e ∷ es) h = both (below_all R (name e.0) (abstract_entries name es)) _ (below_all-shown e.0 es h.0) (is_sorted-shown es h.1)

  pub shown-insert_entry : (es : List (K × Entry P)) (k : K) (w : Entry P) → abstract_entries name (insert_entry (by_names name R) es k w) ≡ put R (name k) (plain_entry w) (abstract_entries name es)
  shown-insert_entry [] k w = refl
  shown-insert_entry (e ∷ es) k w =
      elim (R (name k) (name e.0)) as (λ r. abstract_entries name (match_ordering r ((k, w) ∷ e ∷ es) ((e.0, w) ∷ es) (e ∷ insert_entry (by_names name R) es k w)) ≡ by_order r ((name k, plain_entry w) ∷ abstract_entries name (e ∷ es)) ((name e.0, plain_entry w) ∷ abstract_entries name es) (abstract_entry name e ∷ put R (name k) (plain_entry w) (abstract_entries name es))) [
        | Less ↦ refl
        | Equal ↦ refl
        | Greater ↦ ap (λ rest. abstract_entry name e ∷ rest) (shown-insert_entry es k w)
      ]

  pub find-shown : (es : List (K × Entry P)) (k : K) → find R (name k) (abstract_entries name es) ≡ option_map plain_entry (value_at (by_names name R) es k)
  find-shown [] k = refl
  find-shown (e ∷ es) k =
      elim (is_eq (R (name k) (name e.0))) as (λ b. cond b (Some (plain_entry e.1)) (find R (name k) (abstract_entries name es)) ≡ option_map plain_entry (cond b (Some e.1) (value_at (by_names name R) es k))) [
        | true ↦ refl
        | false ↦ find-shown es k
      ]

  module _ (o : IsTotalOrder R) (exact : IsAntisymmetric R) where
    -- what is found in the map is found in the store
    pub get-shown : (es : List (K × Entry P)) (k : K) → get (abstract_map name {R = R} es) (name k) ≡ option_map plain_entry (value_at (by_names name R) es k)
    get-shown es k = get-from_entries o (abstract_entries name es) (name k) ∙ find-shown es k

    shown-inserted : (es : List (K × Entry P)) (k : K) (w : Entry P) → abstract_map name {R = R} (insert_entry (by_names name R) es k w) ≡ insert (abstract_map name es) (name k) (plain_entry w)
    shown-inserted es k w = same_map o exact _ _ (λ q.
        get-from_entries o (abstract_entries name (insert_entry (by_names name R) es k w)) q
        ∙ ap (find R q) (shown-insert_entry es k w)
        ∙ find-put R o q (name k) (plain_entry w) (abstract_entries name es)
        ∙ ap (cond (eq_by_cmp R q (name k)) (Some (plain_entry w))) (sym (get-from_entries o (abstract_entries name es) q))
        ∙ sym (get-insert o (abstract_map name es) (name k) (plain_entry w) q))

    pub shown-taken_insert : (es : List (K × Entry P)) (k : K) (v : Entry P) → abstract_map name {R = R} (taken (by_names name R) greater es k v) ≡ insert (abstract_map name es) (name k) (joined_onto greater_entry (get (abstract_map name {R = R} es) (name k)) (plain_entry v))
    shown-taken_insert es k v =
        shown-inserted es k (joined_onto greater (value_at (by_names name R) es k) v)
        ∙ ap (insert (abstract_map name es) (name k)) (plain_entry-onto (value_at (by_names name R) es k) v ∙ ap (λ a. joined_onto greater_entry a (plain_entry v)) (sym (get-shown es k)))

    -- one value joined is one more update
    pub shown-taken : (es : List (K × Entry P)) (k : K) (v : Entry P) → abstract_map name {R = R} (taken (by_names name R) greater es k v) ≡ store_of entry_cmp R (entries (abstract_map name {R = R} es) ++ (name k, plain_entry v) ∷ [])
    shown-taken es k v = shown-taken_insert es k v ∙ sym (store_of-push entry_order o exact (abstract_map name es) (name k) (plain_entry v))

    -- values joined in turn are as many more updates
    pub shown-all_joined : (s es : List (K × Entry P)) → abstract_map name {R = R} (all_joined (by_names name R) greater s es) ≡ store_of entry_cmp R (entries (abstract_map name {R = R} s) ++ abstract_entries name es)
    shown-all_joined s [] = sym (ap (store_of entry_cmp R) (append-nil (entries (abstract_map name s))) ∙ store_of-entries entry_order o exact (abstract_map name s))
    shown-all_joined s (e ∷ es) =
        shown-all_joined (taken (by_names name R) greater s e.0 e.1) es
        ∙ ap (λ m. store_of entry_cmp R (entries m ++ abstract_entries name es)) (shown-taken s e.0 e.1)
        ∙ store_of-append entry_order o exact (entries (abstract_map name s) ++ abstract_entry name e ∷ []) (abstract_entries name es)
        ∙ ap (store_of entry_cmp R) (append_assoc (entries (abstract_map name s)) (abstract_entry name e ∷ []) (abstract_entries name es))

    -- the entries of the store are those of the map, in the same order
    pub entries-shown : (es : List (K × Entry P)) → IsStrictlySortedBy (by_names name R) (keys_of es) → entries (abstract_map name {R = R} es) ≡ abstract_entries name es
    entries-shown es h =
        let sorted = is_sorted-shown es h in
        ap entries (same_map o exact (abstract_map name {R = R} es) (from_sorted (abstract_entries name es)) (λ q. get-from_entries o (abstract_entries name es) q ∙ sym (get-from_sorted R (abstract_entries name es) q sorted)))
        ∙ entries-from_sorted R (abstract_entries name es) sorted

pub greatest_kept-append : {K P : Type 0} (es fs : List (K × Entry P)) → greatest_kept (es ++ fs) ≡ max (greatest_kept es) (greatest_kept fs)
greatest_kept-append [] fs = omega arith
greatest_kept-append (e ∷ es) fs = let rest = greatest_kept-append es fs in omega arith
