-- Rounds that find the common types that mean no record.
use Rattle.std.proofs.Common.{◌≡◌, ◌∙◌, ◌⊎◌, inl, inr, ℕ, suc, zero, ◌+◌, ◌<◌, ◌≤◌, Bool, true, false, cond, Option, Some, None, List, [], ◌∷◌, ◌++◌, map, length, drop, get_or, String, Global, string_bytes, string_cmp, refl, sym, ap, arith, subst, true≢false}
use Rattle.std.specs.Prelude.{◌||◌, not, Contains, if◌then◌else◌}
use Rattle.std.specs.Str.{bytes_eq}
use Rattle.std.specs.BTreeSet.{BTreeSet, contains, btree_set_len, Updates}
use Rattle.std.proofs.lemmas.Bool.{cases_Bool}
use Rattle.std.proofs.lemmas.List.Elements.{Contains-append_left, Contains-append_right, Contains-append_cases}
use Rattle.std.proofs.lemmas.Slice.Eq.{bytes_eq-Decides}
use Rattle.schema_types.specs.Names.{Scope}
use Rattle.schema_reading.specs.FileForm.{NamespaceOf}
use Rattle.schema_reading.specs.Qualifying.{CommonOf, commons_declared, scope_in}
use Rattle.schema_reading.specs.inner.Adding.{has_name}
use Rattle.schema_reading.specs.inner.Spreading.{is_known_non_record, NamesNoRecord, IsSound, AreAmong, IsSettled, KeepsNames, AddsNonRecords, ReportsRecords, tried_one, tried_in_order}
use Rattle.schema_reading.specs.inner.Uses.{listed_view}
use Rattle.schema_reading.specs.declared.order.ListedCommon.{ListedCommon}
use Rattle.std.specs.List.{slice_get}
use Rattle.std.proofs.lemmas.List.{drop_all, drop_more}
use Rattle.plain.proofs.Members.{Contains-here, Contains-there, Contains-none}
use Rattle.schema_reading.proofs.AddLemmas.{name_added}
use Rattle.schema_reading.proofs.FollowLemmas.{found_so, all_found}

abbrev Names : Type 0
Names = BTreeSet (String Global)

only_member : (c d : CommonOf) → Contains (c ∷ []) d → c ≡ d
only_member c d (zero, lt, e) = e
only_member c d (suc k, lt, e) = absurd (omega (arith, lt))

pub spreads_none : (s : Scope) (t : Names) → AddsNonRecords s [] t t
spreads_none s t = record { sound = λ ns e among h. h; grows = inl (refl, λ c here m. Contains-none c here) }

settled_both : (s : Scope) (t : Names) (xs ys : List CommonOf) → IsSettled s t xs → IsSettled s t ys → IsSettled s t (xs ++ ys)
settled_both s t xs ys h k c here m = at (Contains-append_cases xs ys c here)
  where
    at : Contains xs c ⊎ Contains ys c → has_name t c.name ≡ true
    at (inl l) = h c l m
    at (inr r) = k c r m

grow_both : (s : Scope) (xs ys : List CommonOf) (old mid new : Names) → ((mid ≡ old) × IsSettled s old xs) ⊎ (btree_set_len old < btree_set_len mid) → ((new ≡ mid) × IsSettled s mid ys) ⊎ (btree_set_len mid < btree_set_len new)
    → ((new ≡ old) × IsSettled s old (xs ++ ys)) ⊎ (btree_set_len old < btree_set_len new)
grow_both s xs ys old mid new (inl p) (inl q) = inl (q.0 ∙ p.0, settled_both s old xs ys p.1 (subst (λ (t : Names). IsSettled s t ys) p.0 q.1))
grow_both s xs ys old mid new (inl p) (inr lt) = inr (subst (λ (t : Names). btree_set_len t < btree_set_len new) p.0 lt)
grow_both s xs ys old mid new (inr lt) (inl q) = inr (subst (λ (t : Names). btree_set_len old < btree_set_len t) (sym q.0) lt)
grow_both s xs ys old mid new (inr lt) (inr more) = inr (omega (arith, lt, more))

-- first these, and then those
pub spreads_both : (s : Scope) (xs ys : List CommonOf) (old mid new : Names) → AddsNonRecords s xs old mid → AddsNonRecords s ys mid new → AddsNonRecords s (xs ++ ys) old new
spreads_both s xs ys old mid new h k = record {
  sound = λ ns e among so. k.sound ns e (λ c here. among c (Contains-append_right xs ys c here)) (h.sound ns e (λ c here. among c (Contains-append_left xs ys c here)) so);
  grows = grow_both s xs ys old mid new h.grows k.grows;
}

-- ---- one common type

pub stays_known : (s : Scope) (c : CommonOf) (t : Names) → has_name t c.name ≡ true → AddsNonRecords s (c ∷ []) t t
stays_known s c t known = record {
  sound = λ ns e among h. h;
  grows = inl (refl, λ d here m. subst (λ (x : CommonOf). has_name t x.name ≡ true) (only_member c d here) known);
}

pub stays_record : (s : Scope) (c : CommonOf) (t : Names) → is_known_non_record (λ q. has_name t q) s c.own c.type ≡ false → AddsNonRecords s (c ∷ []) t t
stays_record s c t means = record {
  sound = λ ns e among h. h;
  grows = inl (
    refl,
    λ d here m.
        let other : is_known_non_record (λ q. has_name t q) s d.own d.type ≡ false = subst (λ (x : CommonOf). is_known_non_record (λ q. has_name t q) s x.own x.type ≡ false) (only_member c d here) means in
        absurd (true≢false (sym m ∙ other)),
  );
}

grown : (old new : ℕ) (here added : Bool) → new ≡ old + (if added then 1 else 0) → added ≡ not here → here ≡ false → old < new
grown old new here added len is none = let more = ap (λ (b : Bool). old + cond b 1 0) (is ∙ ap not none) in omega (arith, len, more)

pub spreads_one : (s : Scope) (c : CommonOf) (old new : Names) (text : String Global) (added : Bool) → string_bytes text ≡ c.name → has_name old c.name ≡ false
    → is_known_non_record (λ q. has_name old q) s c.own c.type ≡ true → Updates string_cmp old new text true → btree_set_len new ≡ btree_set_len old + (if added then 1 else 0)
    → added ≡ not (contains string_cmp old text) → AddsNonRecords s (c ∷ []) old new
spreads_one s c old new text added t none means updates len is = record {
  sound = λ ns e among h q known. added_so ns e among h q known (cases_Bool (bytes_eq c.name q));
  grows = inr (grown (btree_set_len old) (btree_set_len new) (contains string_cmp old text) added len is (ap (λ (n : List ℕ). has_name old n) t ∙ none));
}
  where
    added_so : (ns : List NamespaceOf) → s ≡ scope_in ns → AreAmong (c ∷ []) (commons_declared ns) → IsSound ns old → (q : List ℕ) → has_name new q ≡ true
        → (bytes_eq c.name q ≡ true) ⊎ (bytes_eq c.name q ≡ false) → NamesNoRecord ns q
    added_so ns e among h q known (inl y) = record {
      common = c;
      declared = among c (zero, omega arith, refl);
      is = (bytes_eq-Decides c.name q).0 y;
      means = found_so ns (λ q. has_name old q) c.own c.type h (subst (λ (x : Scope). is_known_non_record (λ p. has_name old p) x c.own c.type ≡ true) e means);
    }
    added_so ns e among h q known (inr n) =
        let here = name_added old new text (string_bytes text) (string_bytes text) c.name refl refl t updates q in
        h q (sym (here ∙ ap (λ (b : Bool). b || has_name old q) n) ∙ known)

-- ---- when nothing is left to do

pub settled_of : (s : Scope) (cs : List CommonOf) (old new : Names) → AddsNonRecords s cs old new → btree_set_len new ≡ btree_set_len old → IsSettled s new cs
settled_of s cs old new r same = at r.grows
  where
    at : ((new ≡ old) × IsSettled s old cs) ⊎ (btree_set_len old < btree_set_len new) → IsSettled s new cs
    at (inl p) = subst (λ (t : Names). IsSettled s t cs) (sym p.0) p.1
    at (inr lt) = absurd (omega (arith, lt, same))

pub grown_of : (s : Scope) (cs : List CommonOf) (old new : Names) → AddsNonRecords s cs old new → (btree_set_len new ≡ btree_set_len old → ⊥) → btree_set_len old < btree_set_len new
grown_of s cs old new r apart = at r.grows
  where
    at : ((new ≡ old) × IsSettled s old cs) ⊎ (btree_set_len old < btree_set_len new) → btree_set_len old < btree_set_len new
    at (inl p) = absurd (apart (ap (λ (t : Names). btree_set_len t) p.0))
    at (inr lt) = lt

pub tells : (ns : List NamespaceOf) (known : Names) → IsSound ns known → IsSettled (scope_in ns) known (commons_declared ns) → ReportsRecords ns (λ q. has_name known q)
tells ns known so settled = record { sound = λ own r m. found_so ns (λ q. has_name known q) own r so m; complete = all_found ns (λ q. has_name known q) settled }

-- ---- one of the common types

pub kept_one : (s : Scope) (all : List ListedCommon) (i : ℕ) (x : ListedCommon) (old new : Names) → i < length all → x ≡ get_or all i x
    → AddsNonRecords s (listed_view x ∷ []) old new → KeepsNames s (map listed_view all) old new
kept_one s all i x old new lt at h = λ ns e among so.
    let here : Contains (map listed_view all) (listed_view x) = listed_inside all i x lt at in
    h.sound ns e (λ d only. subst (λ (y : CommonOf). Contains (commons_declared ns) y) (only_member (listed_view x) d only) (among (listed_view x) here)) so
  where
    listed_inside : (xs : List ListedCommon) (j : ℕ) (y : ListedCommon) → j < length xs → y ≡ get_or xs j y → Contains (map listed_view xs) (listed_view y)
    listed_inside [] j y lt e = absurd (omega (arith, lt))
    listed_inside (z ∷ zs) zero y lt e = subst (λ (w : ListedCommon). Contains (listed_view z ∷ map listed_view zs) (listed_view w)) (sym e) (Contains-here (listed_view z) (map listed_view zs))
    listed_inside (z ∷ zs) (suc j) y lt e = Contains-there (listed_view z) (map listed_view zs) (listed_view y) (listed_inside zs j y (omega (arith, lt)) e)

-- ---- what is tried at a place

item_at : {A B : Type 0} (f : A → B) (xs : List A) (i : ℕ) (x : A) → i < length xs → x ≡ get_or xs i x → slice_get (map f xs) i ≡ Some (f x)
item_at f [] i x lt e = absurd (omega (arith, lt))
item_at f (y ∷ ys) zero x lt e = ap (λ z. Some (f z)) (sym e)
item_at f (y ∷ ys) (suc i) x lt e = item_at f ys i x (omega (arith, lt)) e

none_at : {A B : Type 0} (f : A → B) (xs : List A) (i : ℕ) → length xs ≤ i → slice_get (map f xs) i ≡ None
none_at f [] i le = refl
none_at f (y ∷ ys) zero le = absurd (omega (arith, le))
none_at f (y ∷ ys) (suc i) le = none_at f ys i (omega (arith, le))

pub tried_there : (s : Scope) (all : List ListedCommon) (i : ℕ) (x : ListedCommon) (old new : Names) → i < length all → x ≡ get_or all i x
    → AddsNonRecords s (listed_view x ∷ []) old new → AddsNonRecords s (tried_one (slice_get (map listed_view all) i)) old new
tried_there s all i x old new lt at h = subst (λ (o : Option CommonOf). AddsNonRecords s (tried_one o) old new) (sym (item_at listed_view all i x lt at)) h

pub tried_nowhere : (s : Scope) (all : List ListedCommon) (i : ℕ) (t : Names) → length all ≤ i → AddsNonRecords s (tried_one (slice_get (map listed_view all) i)) t t
tried_nowhere s all i t le = subst (λ (o : Option CommonOf). AddsNonRecords s (tried_one o) t t) (sym (none_at listed_view all i le)) (spreads_none s t)

pub tried_step : (s : Scope) (cs : List CommonOf) (order : List ℕ) (i : ℕ) (old mid new : Names) → i < length order
    → AddsNonRecords s (tried_one (slice_get cs (get_or order i 0))) old mid → AddsNonRecords s (tried_in_order cs (drop (i + 1) order)) mid new → AddsNonRecords s (tried_in_order cs (drop i order)) old new
tried_step s cs order i old mid new lt h rest =
    subst (λ (is : List ℕ). AddsNonRecords s (tried_in_order cs is) old new) (sym (drop_more order i 0 lt))
    (spreads_both s (tried_one (slice_get cs (get_or order i 0))) (tried_in_order cs (drop (i + 1) order)) old mid new h rest)

pub tried_end : (s : Scope) (cs : List CommonOf) (order : List ℕ) (i : ℕ) (t : Names) → length order ≤ i → AddsNonRecords s (tried_in_order cs (drop i order)) t t
tried_end s cs order i t le = subst (λ (is : List ℕ). AddsNonRecords s (tried_in_order cs is) t t) (sym (drop_all i order le)) (spreads_none s t)
