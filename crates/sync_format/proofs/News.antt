-- The entries of a delta are the updates of its store that the summary lacks or has smaller, in their order.
use Rattle.std.proofs.Common.{◌≡◌, ◌∙◌, ℕ, List, [], ◌∷◌, ◌++◌, map, Bool, true, false, Option, Some, None, refl, sym}
use Rattle.std.proofs.Common.{ap, T}
use Rattle.std.specs.Prelude.{◌&&◌, cond, codes, if◌then◌else◌}
use Rattle.std.specs.List.{AllByRecursion, filter, flat_map}
use Rattle.std.specs.FinMap.{FinMap, IsAntisymmetric, entries, entries_sorted, get, get-entries, get-retain_keys}
use Rattle.std.specs.FinMap.{retain_keys, from_sorted, entries-from_sorted, get-from_sorted, same_map}
use Rattle.std.specs.FinMap.Entries.{find, is_sorted, below_all, where_key, is_sorted-where_key, find-where_key}
use Rattle.std.specs.Cmp.{IsTotalOrder, tied_itself}
use Rattle.std.specs.Ordering.{is_eq, is_lt, ordering_reverse}
use Rattle.std.specs.declared.cmp.Ordering.{Ordering}
use Rattle.std.specs.declared.cmp.Ordering.TheVariants.{Less, Equal, Greater}
use Rattle.std.proofs.lemmas.List.Concat.{flat_map-append}
use Rattle.serde_json.specs.Data.{Data}
use Rattle.values.specs.declared.name.Name.{Name}
use Rattle.values.specs.Names.{name_cmp, name_cmp-IsTotalOrder, name_cmp-IsAntisymmetric}
use Rattle.stamped_store.specs.EntryOrder.{PlainEntry}
use Rattle.stamped_store.specs.Deltas.{Summary, is_unseen, delta}
use Rattle.stamped_store.specs.Abstraction.{abstract_entries}
use Rattle.stamped_store.specs.Store.{Store, Update, updates, StoreEntries, abstract_store}
use Rattle.stamped_store.specs.Store.{abstract_updates, id_name, entity_name}
use Rattle.stamped_store.specs.JoinMaps.{value_at}
use Rattle.sync_format.specs.Messages.{entry_json, message_json, state_json}
use Rattle.sync_format.specs.inner.Writing.{is_new, missing_json, all_missing_json}

-- ---- the JSON of those that are news
pub news_are : (m : Summary) (us : List Update) → flat_map (missing_json m) us ≡ map entry_json (filter (is_new m) us)
news_are m [] = refl
news_are m (u ∷ us) =
    elim (is_new m u) as (λ b. (if b then entry_json u ∷ [] else []) ++ flat_map (missing_json m) us ≡ map entry_json (cond b (u ∷ filter (is_new m) us) (filter (is_new m) us))) [
      | true ↦ ap (λ (ds : List Data). entry_json u ∷ ds) (news_are m us)
      | false ↦ news_are m us
    ]

-- ---- the entries of a map whose keys pass a test
module _ {K X : Type 0} {R : K → K → Ordering} (o : IsTotalOrder R) (same : IsAntisymmetric R) where
  entries_kept : (s : FinMap R X) (p : K → Bool) → entries (retain_keys s p) ≡ where_key R p (entries s)
  entries_kept s p =
      let alike : (q x : K) → R q x ≡ Equal → p x ≡ p q = λ q x e. ap p (sym (same q x e)) in
      let rises : T (is_sorted R (where_key R p (entries s))) = is_sorted-where_key R p (entries s) (entries_sorted s) in
      ap entries (same_map o same (retain_keys s p) (from_sorted (where_key R p (entries s))) (λ q.
      get-retain_keys s p q (alike q) ∙ ap (λ (x : Option X). cond (p q) x None) (get-entries s q) ∙ sym (find-where_key R p q (alike q) (entries s))
      ∙ sym (get-from_sorted R (where_key R p (entries s)) q rises)))
      ∙ entries-from_sorted R (where_key R p (entries s)) rises

left : (a b : Bool) → T (a && b) → T a
left true b h = tt
left false b h = h

right : (a b : Bool) → T (a && b) → T b
right true b h = h
right false b h = absurd h

is_less : (r : Ordering) → T (is_lt r) → r ≡ Less
is_less Less h = refl
is_less Equal h = absurd h
is_less Greater h = absurd h

-- ---- each update is what its store has at its name
abbrev IsAt : List Update → Update → Type 0
IsAt all u = find name_cmp u.0 all ≡ Some u.1

later : (x : Update) (all us : List Update) → T (below_all name_cmp x.0 us) → AllByRecursion (IsAt all) us → AllByRecursion (IsAt (x ∷ all)) us
later x all [] below h = tt
later x all (u ∷ us) below h =
    let less = is_less (name_cmp x.0 u.0) (left (is_lt (name_cmp x.0 u.0)) (below_all name_cmp x.0 us) below) in
    let above : name_cmp u.0 x.0 ≡ Greater = name_cmp-IsTotalOrder.antisymm u.0 x.0 ∙ ap ordering_reverse less in
    (ap (λ (r : Ordering). cond (is_eq r) (Some x.1) (find name_cmp u.0 all)) above ∙ h.0, later x all us (right (is_lt (name_cmp x.0 u.0)) (below_all name_cmp x.0 us) below) h.1)

each_at : (us : List Update) → T (is_sorted name_cmp us) → AllByRecursion (IsAt us) us
each_at [] h = tt
each_at (u ∷ us) h = (
  ap (λ (r : Ordering). cond (is_eq r) (Some u.1) (find name_cmp u.0 us)) (tied_itself name_cmp-IsTotalOrder u.0),
  later u us us (left (below_all name_cmp u.0 us) (is_sorted name_cmp us) h) (each_at us (right (below_all name_cmp u.0 us) (is_sorted name_cmp us) h)),
)

filter_along : (all : List Update) (p : Name → Option PlainEntry → Bool) (us : List Update) → AllByRecursion (IsAt all) us
    → filter (λ u. p u.0 (find name_cmp u.0 all)) us ≡ filter (λ u. p u.0 (Some u.1)) us
filter_along all p [] h = refl
filter_along all p (u ∷ us) h =
    let rest = filter_along all p us h.1 in
    ap (λ (o : Option PlainEntry). cond (p u.0 o) (u ∷ filter (λ v. p v.0 (find name_cmp v.0 all)) us) (filter (λ v. p v.0 (find name_cmp v.0 all)) us)) h.0
    ∙ ap (λ (vs : List Update). cond (p u.0 (Some u.1)) (u ∷ vs) vs) rest

filter_same : (p q : Update → Bool) → ((u : Update) → p u ≡ q u) → (us : List Update) → filter p us ≡ filter q us
filter_same p q same [] = refl
filter_same p q same (u ∷ us) =
    ap (λ (b : Bool). cond b (u ∷ filter p us) (filter p us)) (same u) ∙ ap (λ (vs : List Update). cond (q u) (u ∷ vs) vs) (filter_same p q same us)

delta_news : (s : Store) (m : Summary) → updates (delta s m) ≡ filter (is_new m) (updates s)
delta_news s m =
    entries_kept name_cmp-IsTotalOrder name_cmp-IsAntisymmetric s (λ q. is_unseen (value_at name_cmp m q) (get s q))
    ∙ filter_same (λ u. is_unseen (value_at name_cmp m u.0) (get s u.0)) (λ u. is_unseen (value_at name_cmp m u.0) (find name_cmp u.0 (updates s)))
    (λ u. ap (is_unseen (value_at name_cmp m u.0)) (get-entries s u.0)) (updates s)
    ∙ filter_along (updates s) (λ q o. is_unseen (value_at name_cmp m q) o) (updates s) (each_at (updates s) (entries_sorted s))

-- ---- what the code writes, policies and then entities
pub store_news : {P E : Type 0} (k : StoreEntries P E) (m : Summary) → updates (abstract_store k) ≡ abstract_updates k
    → all_missing_json id_name m k.policies ++ all_missing_json entity_name m k.entities ≡ map entry_json (updates (delta (abstract_store k) m))
store_news k m order =
    sym (flat_map-append (missing_json m) (abstract_entries id_name k.policies) (abstract_entries entity_name k.entities))
    ∙ ap (flat_map (missing_json m)) (sym order)
    ∙ news_are m (updates (abstract_store k))
    ∙ ap (map entry_json) (sym (delta_news (abstract_store k) m))

-- ---- a delta against nothing is the whole
all_news : (o : Option PlainEntry) → cond (is_unseen None o) o None ≡ o
all_news None = refl
all_news (Some e) = refl

whole : (s : Store) → delta s [] ≡ s
whole s = same_map name_cmp-IsTotalOrder name_cmp-IsAntisymmetric (delta s []) s (λ q.
    get-retain_keys s (λ x. is_unseen (value_at name_cmp [] x) (get s x)) q (λ x e. ap (λ y. is_unseen (value_at name_cmp [] y) (get s y)) (sym (name_cmp-IsAntisymmetric q x e)))
    ∙ all_news (get s q))

pub whole_json : (label : List ℕ) (s : Store) → message_json (codes "state") label (updates (delta s [])) ≡ state_json label s
whole_json label s = ap (λ (t : Store). state_json label t) (whole s)
