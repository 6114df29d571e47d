-- A delta against what a store was acts as the whole store that it was made from.
use Rattle.std.specs.Prelude.{◌≡◌, ◌↔◌, List, [], ◌∷◌, map, Option, Some, None, true, false, refl, cond, if◌then◌else◌}
use Rattle.std.proofs.Common.{sym, ap, ◌∙◌, subst}
use Rattle.std.specs.Option.{option_map}
use Rattle.std.specs.Cmp.{IsTotalOrder}
use Rattle.std.specs.Ordering.{is_eq, is_le, is_lt, nat_cmp, ordering_then, ordering_reverse}
use Rattle.std.specs.FinMap.{get, same_map, get-retain_keys, get-entries, nat_cmp-IsAntisymmetric, slice_cmp-IsAntisymmetric}
use Rattle.std.specs.FinMap.Entries.{find}
use Rattle.std.specs.declared.cmp.Ordering.{Ordering}
use Rattle.std.specs.declared.cmp.Ordering.TheVariants.{Less, Equal, Greater}
use Rattle.std.proofs.lemmas.Cmp.{nat_cmp_total, nat_list_cmp_total, on_total, then_total}
use Rattle.values.specs.declared.name.Name.{Name}
use Rattle.values.specs.Names.{name_cmp, name_cmp-IsTotalOrder, name_cmp-IsAntisymmetric}
use Rattle.stamped_store.specs.declared.entry.Stamp.{Stamp}
use Rattle.stamped_store.specs.Joins.{option_joined, option_below}
use Rattle.stamped_store.specs.EntryOrder.{PlainEntry, body_cmp, site_cmp, greater_entry}
use Rattle.stamped_store.specs.JoinMaps.{value_at}
use Rattle.stamped_store.specs.Store.{Store, Update, updates, plain_below, IsStoreBelow, joined_stores}
use Rattle.stamped_store.specs.Deltas.{Summary, stamp_of, stamp_cmp, summary_of, is_unseen, delta, HaveOneEntryForAStamp}
use Rattle.stamped_store.proofs.Greatests.{greater_entry_is_join}
use Rattle.stamped_store.proofs.JoinedStores.{get-joined_stores}

-- ---- what a summary has at a name
stamps_found : (us : List Update) (q : Name) → value_at name_cmp (map (λ u. (u.0, stamp_of u.1)) us) q ≡ option_map stamp_of (find name_cmp q us)
stamps_found [] q = refl
stamps_found (u ∷ us) q =
    elim (is_eq (name_cmp q u.0)) as (λ b. cond b (Some (stamp_of u.1)) (value_at name_cmp (map (λ x. (x.0, stamp_of x.1)) us) q) ≡ option_map stamp_of (cond b (Some u.1) (find name_cmp q us))) [
      | true ↦ refl
      | false ↦ stamps_found us q
    ]

pub summary_at : (s : Store) (q : Name) → value_at name_cmp (summary_of s) q ≡ option_map stamp_of (get s q)
summary_at s q = stamps_found (updates s) q ∙ ap (option_map stamp_of) (sym (get-entries s q))

-- ---- what a delta has at a name
get-delta : (t : Store) (m : Summary) (q : Name) → get (delta t m) q ≡ cond (is_unseen (value_at name_cmp m q) (get t q)) (get t q) None
get-delta t m q = get-retain_keys t (λ x. is_unseen (value_at name_cmp m x) (get t x)) q (λ x e. ap (λ y. is_unseen (value_at name_cmp m y) (get t y)) (sym (name_cmp-IsAntisymmetric q x e)))

part : (k : Option Stamp) (c : Option PlainEntry) (e : PlainEntry) → (cond (is_unseen k c) c None ≡ Some e) ↔ ((c ≡ Some e) × (is_unseen k (Some e) ≡ true))
part k c e = (
  elim (is_unseen k c) as (λ b. is_unseen k c ≡ b → cond b c None ≡ Some e → (c ≡ Some e) × (is_unseen k (Some e) ≡ true)) [
    | true ↦ λ is h. (h, ap (is_unseen k) (sym h) ∙ is)
    | false ↦ λ is h. absurd (apart h)
  ] refl,
  (λ h. ap (λ x. cond (is_unseen k x) x None) h.0 ∙ ap (λ b. cond b (Some e) None) h.1),
)
  where
    apart : {x : PlainEntry} → None ≡ Some x → ⊥
    apart h = cc

pub delta_has : (t : Store) (m : Summary) (q : Name) (e : PlainEntry) → (get (delta t m) q ≡ Some e) ↔ ((get t q ≡ Some e) × (is_unseen (value_at name_cmp m q) (Some e) ≡ true))
delta_has t m q e =
    let both = part (value_at name_cmp m q) (get t q) e in
    ((λ h. both.0 (sym (get-delta t m q) ∙ h)), (λ h. get-delta t m q ∙ both.1 h))

-- ---- what it leaves out is there
stamps_total : IsTotalOrder stamp_cmp
stamps_total = then_total (on_total (λ p. p.count) nat_cmp_total) (on_total (λ p. p.site) nat_list_cmp_total)

same_stamps : (r s : Ordering) → ordering_then r s ≡ Equal → (r ≡ Equal) × (s ≡ Equal)
same_stamps Less s h = absurd (cc)
same_stamps Equal s h = (refl, h)
same_stamps Greater s h = absurd (cc)

one_stamp : (a b : Stamp) → a.count ≡ b.count → a.site ≡ b.site → a ≡ b
one_stamp a b c s = λ i. record { count = c i; site = s i }

below_by_stamp : (f e : PlainEntry) (r : Ordering) → stamp_cmp (stamp_of f) (stamp_of e) ≡ r → is_lt r ≡ false → (stamp_of f ≡ stamp_of e → f ≡ e) → plain_below e f ≡ true
below_by_stamp f e Less h k alike = absurd (cc)
below_by_stamp f e Equal h k alike =
    let s = same_stamps (nat_cmp f.count e.count) (site_cmp f.site e.site) h in
    let same : f ≡ e = alike (one_stamp (stamp_of f) (stamp_of e) (nat_cmp-IsAntisymmetric f.count e.count s.0) (slice_cmp-IsAntisymmetric nat_cmp-IsAntisymmetric f.site e.site s.1)) in
    subst (λ x. plain_below e x ≡ true) (sym same) (greater_entry_is_join.reflexive e)
below_by_stamp f e Greater h k alike = ap (λ r. is_le (ordering_then r (body_cmp e.body f.body))) (stamps_total.antisymm (stamp_of e) (stamp_of f) ∙ ap ordering_reverse h)

absorbed : (a b c : Option PlainEntry) → option_below plain_below b a ≡ true → ((f e : PlainEntry) → b ≡ Some f → c ≡ Some e → stamp_of f ≡ stamp_of e → f ≡ e)
    → option_joined greater_entry a (cond (is_unseen (option_map stamp_of b) c) c None) ≡ option_joined greater_entry a c
absorbed a b None h alike = elim (is_unseen (option_map stamp_of b) None) as (λ t. option_joined greater_entry a (cond t None None) ≡ option_joined greater_entry a None) [ true ↦ refl | false ↦ refl ]
absorbed a None (Some e) h alike = refl
absorbed None (Some f) (Some e) h alike = absurd (cc)
absorbed (Some g) (Some f) (Some e) h alike =
    elim (is_lt (stamp_cmp (stamp_of f) (stamp_of e))) as (λ t. is_lt (stamp_cmp (stamp_of f) (stamp_of e)) ≡ t → option_joined greater_entry (Some g) (cond t (Some e) None) ≡ Some (greater_entry g e)) [
      | true ↦ λ _. refl
      | false ↦ λ no. ap (λ t. Some (if t then g else e)) (sym (greater_entry_is_join.transitive e f g (below_by_stamp f e (stamp_cmp (stamp_of f) (stamp_of e)) refl no (alike f e refl refl)) h))
    ] refl

pub delta_as_whole : (s old t : Store) → IsStoreBelow old s → HaveOneEntryForAStamp old t → joined_stores s (delta t (summary_of old)) ≡ joined_stores s t
delta_as_whole s old t h one = same_map name_cmp-IsTotalOrder name_cmp-IsAntisymmetric _ _ (λ q.
    get-joined_stores s (delta t (summary_of old)) q
    ∙ ap (option_joined greater_entry (get s q)) (get-delta t (summary_of old) q ∙ ap (λ k. cond (is_unseen k (get t q)) (get t q) None) (summary_at old q))
    ∙ absorbed (get s q) (get old q) (get t q) (h q) (λ f e b c. one q f e b c)
    ∙ sym (get-joined_stores s t q))
