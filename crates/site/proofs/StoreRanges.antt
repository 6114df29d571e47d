-- Names and stamps of a store stay in their ranges.
use Rattle.std.specs.Prelude.{◌≡◌, ◌≤◌, ◌<◌, ◌↔◌, ◌⊎◌, ◌&&◌, ◌∷◌, ◌++◌, [], ℕ, List, map, Bool, true, false, T, cond}
use Rattle.std.specs.Prelude.{Option, Some, None, IsSome, option_and_then, Contains, refl}
use Rattle.std.specs.List.{AllByRecursion}
use Rattle.std.proofs.Common.{sym, ap, ◌∙◌, subst, arith, inl, inr}
use Rattle.std.proofs.lemmas.List.Elements.{All-contains, All-contains_itself, All-from_recursion, All-push, All-weaker}
use Rattle.std.proofs.lemmas.List.Elements.{recursion_from_All}
use Rattle.std.specs.Cmp.{tied_itself}
use Rattle.std.specs.FinMap.{get, get-entries, entries_sorted}
use Rattle.std.specs.FinMap.Entries.{find, is_sorted, below_all}
use Rattle.std.specs.Ordering.{is_eq, is_lt, ordering_reverse}
use Rattle.std.specs.declared.cmp.Ordering.{Ordering}
use Rattle.std.specs.declared.cmp.Ordering.TheVariants.{Less, Equal, Greater}
use Rattle.site_meaning.specs.ancestor_search.Deciding.{Contains-cases, Contains-none}
use Rattle.values.specs.declared.name.Name.{Name}
use Rattle.values.specs.Names.{name_cmp, name_cmp-IsTotalOrder}
use Rattle.site_store.specs.stamped_store.Contents.{text_under}
use Rattle.site_store.specs.stamped_store.Deltas.{Summary, delta, is_unseen, stamp_of, summary_of}
use Rattle.site_store.specs.stamped_store.EntryOrder.{PlainEntry, entry_cmp}
use Rattle.site_store.specs.stamped_store.Greatest.{IsGreatestAt, greatest_count}
use Rattle.site_store.specs.stamped_store.SiteNames.{IsSiteName}
use Rattle.site_store.specs.stamped_store.Store.{Store, Update, IsStoreOf, updates, store_of, issue}
use Rattle.site_store.specs.stamped_store.JoinMaps.{value_at}
use Rattle.sync_messages.specs.sync_format.Summaries.{AreStamped, IsName, IsStamped}
use Rattle.sync_messages.specs.sync_format.Updates.{AreInRange, stamped}
use Rattle.site.specs.Steps.{most_count}

-- ---- what is found in a store is one of its updates, and each of these is found
not_equal : (r : Ordering) → T (is_lt r) → is_eq (ordering_reverse r) ≡ false
not_equal Less h = refl
not_equal Equal h = absurd h
not_equal Greater h = absurd h

left_of : (a b : Bool) → T (a && b) → T a
left_of true b h = tt
left_of false b h = h

right_of : (a b : Bool) → T (a && b) → T b
right_of true b h = h
right_of false b h = absurd h

below_member : (q : Name) (us : List Update) (u : Update) → T (below_all name_cmp q us) → Contains us u
    → T (is_lt (name_cmp q u.0))
below_member q [] u h m = Contains-none u m
below_member q (v ∷ us) u h m = elim (Contains-cases v us u m) [
  | inl same ↦ subst (λ (x : Update). T (is_lt (name_cmp q x.0))) same
      (left_of (is_lt (name_cmp q v.0)) (below_all name_cmp q us) h)
  | inr later ↦ below_member q us u (right_of (is_lt (name_cmp q v.0)) (below_all name_cmp q us) h) later
]

found_member : (us : List Update) (u : Update) → T (is_sorted name_cmp us) → Contains us u
    → find name_cmp u.0 us ≡ Some u.1
found_member [] u h m = Contains-none u m
found_member (v ∷ us) u h m = elim (Contains-cases v us u m) [
  | inl same ↦ subst (λ (x : Update). find name_cmp x.0 (v ∷ us) ≡ Some x.1) same
      (ap (λ b. cond b (Some v.1) (find name_cmp v.0 us)) (ap is_eq (tied_itself name_cmp-IsTotalOrder v.0)))
  | inr later ↦
      let below = below_member v.0 us u (left_of (below_all name_cmp v.0 us) (is_sorted name_cmp us) h) later in
      ap (λ b. cond b (Some v.1) (find name_cmp u.0 us))
      (ap is_eq (name_cmp-IsTotalOrder.antisymm u.0 v.0) ∙ not_equal (name_cmp v.0 u.0) below)
      ∙ found_member us u (right_of (below_all name_cmp v.0 us) (is_sorted name_cmp us) h) later
]

found_update : (s : Store) (u : Update) → Contains (updates s) u → get s u.0 ≡ Some u.1
found_update s u m = get-entries s u.0 ∙ found_member (updates s) u (entries_sorted s) m

-- ---- all updates of a list
all_of : (P : Update → Type 0) (us : List Update) → ((u : Update) → Contains us u → P u) → AllByRecursion P us
all_of P us h = recursion_from_All P us (All-weaker (Contains us) P h us (All-contains_itself us))

one_of : (P : Update → Type 0) (us : List Update) → AllByRecursion P us → (u : Update) → Contains us u → P u
one_of P us h u m = All-contains P us u (All-from_recursion P us h) m

one_more : (P : Update → Type 0) (us : List Update) (u : Update) → AllByRecursion P us → P u
    → AllByRecursion P (us ++ u ∷ [])
one_more P us u h p = recursion_from_All P (us ++ u ∷ []) (All-push P us u (All-from_recursion P us h) p)

abbrev InRange : Update → Type 0
InRange u = IsStamped (stamped u)

-- ---- by the laws of stores
module _ (greatest : (us : List Update) → IsStoreOf us (store_of us)) where
  store_in_range : (us : List Update) → AreInRange us → AreInRange (updates (store_of us))
  store_in_range us h = all_of InRange (updates (store_of us)) (λ u m.
      one_of InRange us h u
      (subst (λ (a : Option PlainEntry). IsGreatestAt entry_cmp us u.0 a) (found_update (store_of us) u m) (greatest us u.0)).0)

  pub empty_in_range : AreInRange (updates (store_of []))
  empty_in_range = store_in_range [] tt

  pub joined_in_range : (s t : Store) (u : Update) → AreInRange (updates s) → IsStamped (stamped u)
      → t ≡ store_of (updates s ++ u ∷ []) → AreInRange (updates t)
  joined_in_range s t u h p is = subst (λ (m : Store). AreInRange (updates m)) (sym is)
      (store_in_range (updates s ++ u ∷ []) (one_more InRange (updates s) u h p))

  module _ (own : (s : Store) → store_of (updates s) ≡ s) where
    pub update_of : (s : Store) (q : Name) (e : PlainEntry) → get s q ≡ Some e → Contains (updates s) (q, e)
    update_of s q e is = (subst (λ (a : Option PlainEntry). IsGreatestAt entry_cmp (updates s) q a)
        (ap (λ (m : Store). get m q) (own s) ∙ is) (greatest (updates s) q)).0

    pub news_in_range : ((t : Store) (m : Summary) (q : Name) (e : PlainEntry) → (get (delta t m) q ≡ Some e)
        ↔ ((get t q ≡ Some e) × (is_unseen (value_at name_cmp m q) (Some e) ≡ true)))
        → (s : Store) (m : Summary) → AreInRange (updates s) → AreInRange (updates (delta s m))
    news_in_range news s m h = all_of InRange (updates (delta s m)) (λ u k.
        one_of InRange (updates s) h u
        (update_of s u.0 u.1 ((news s m u.0 u.1).0 (found_update (delta s m) u k)).0))

    named_by : (s : Store) (q : Name) (a : Option PlainEntry) → get s q ≡ a → AreInRange (updates s)
        → IsSome (option_and_then (λ (e : PlainEntry). e.body) a) → IsName q
    named_by s q None is h there = absurd cc
    named_by s q (Some e) is h there = (one_of InRange (updates s) h (q, e) (update_of s q e is)).name

    -- a name with a text is in its range
    pub name_in_range : (s : Store) (q : Name) → AreInRange (updates s) → IsSome (text_under s q) → IsName q
    name_in_range s q h there = named_by s q (get s q) refl h there

-- the stamps of updates in their ranges
stamps_in_range : (us : List Update) → AreInRange us → AreStamped (map (λ u. (u.0, stamp_of u.1)) us)
stamps_in_range [] h = tt
stamps_in_range (u ∷ us) h = (h.0, stamps_in_range us h.1)

pub summary_in_range : (s : Store) → AreInRange (updates s) → AreStamped (summary_of s)
summary_in_range s h = stamps_in_range (updates s) h

pub counts_in_range : ((s : Store) → (greatest_count s ≡ 0)
    ⊎ ((u : Update) × Contains (updates s) u × (u.1.count ≡ greatest_count s)))
    → (s : Store) → AreInRange (updates s) → greatest_count s ≤ most_count
counts_in_range reached s h = elim (reached s) [
  | inl none ↦ subst (λ (n : ℕ). n ≤ most_count) (sym none) (omega arith)
  | inr found ↦ subst (λ (n : ℕ). n ≤ most_count) found.2 (one_of InRange (updates s) h found.0 found.1).bounded
]

pub issued_in_range : (s : Store) (n : List ℕ) (q : Name) → IsName q → greatest_count s < most_count → IsSiteName n
    → IsStamped (q, issue s n)
issued_in_range s n q named clock site =
    record { name = named; counted = omega arith; bounded = omega arith; site = site }
