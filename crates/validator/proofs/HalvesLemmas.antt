-- Binary search finds whether some action has a type.
use Rattle.std.proofs.Common.{◌≡◌, ◌∙◌, ◌⊎◌, inl, inr, ℕ, zero, suc, ◌<◌, ◌≤◌, arith, Bool, true, false, List, [], ◌∷◌}
use Rattle.std.proofs.Common.{length, get_or, Option, Some, None, slice_get, refl, sym, ap, subst, ◌||◌}
use Rattle.std.specs.List.{AllByRecursion, list_any}
use Rattle.std.specs.List.Sorted.{IsStrictlySortedBy, IsPartitionedBy, IsPartitionPoint}
use Rattle.std.specs.Str.{bytes_eq}
use Rattle.std.specs.Ordering.{ordering_index, ordering_then, is_eq, is_lt}
use Rattle.std.specs.declared.cmp.Ordering.{Ordering}
use Rattle.std.specs.declared.cmp.Ordering.TheVariants.{Less, Equal, Greater}
use Rattle.std.proofs.lemmas.Bool.{or_right}
use Rattle.std.proofs.lemmas.Map.Text.{is_eq-slice_cmp}
use Rattle.values.proofs.Halves.{lt_only, not_above, top_only, rises, less_then}
use Rattle.values.specs.declared.entity_uid.EntityUid.{EntityUid}
use Rattle.values.specs.Names.{uid_cmp, text_cmp, text_cmp-IsTotalOrder, text_cmp-IsAntisymmetric}
use Rattle.type_checker.specs.ancestor_search.Hierarchy.{IsAscending}
use Rattle.validator.specs.inner.Walking.{type_at}

-- how an action's type compares with a name
abbrev pub against : List ℕ → EntityUid → Ordering
against n u = text_cmp u.type_name n

against_rises : (n : List ℕ) (u v : EntityUid) → uid_cmp u v ≡ Less → ordering_index (against n u) ≤ ordering_index (against n v)
against_rises n u v lt = elim (less_then (text_cmp u.type_name v.type_name) _ lt) [
  | inl less ↦ rises text_cmp-IsTotalOrder u.type_name v.type_name n less (text_cmp v.type_name n) refl
  | inr tied ↦ subst (λ (t : List ℕ). ordering_index (text_cmp u.type_name n) ≤ ordering_index (text_cmp t n)) (text_cmp-IsAntisymmetric u.type_name v.type_name tied) (omega arith)
]

later : (u : EntityUid) (us : List EntityUid) (k : ℕ) (d : EntityUid) → AllByRecursion (λ v. uid_cmp u v ≡ Less) us → k < length us
    → uid_cmp u (get_or us k d) ≡ Less
later u [] k d h lt = let no : ⊥ = omega (arith, lt) in absurd no
later u (x ∷ xs) zero d h lt = h.0
later u (x ∷ xs) (suc k) d h lt = later u xs k d h.1 (omega (arith, lt))

abbrev pub Ascends : List ℕ → List EntityUid → Type 0
Ascends n us = (i j : ℕ) (d : EntityUid) → i ≤ j → j < length us → ordering_index (against n (get_or us i d)) ≤ ordering_index (against n (get_or us j d))

ascends : (n : List ℕ) (us : List EntityUid) → IsAscending us → Ascends n us
unfolding IsStrictlySortedBy
ascends n [] s i j d le lt = let no : ⊥ = omega (arith, lt) in absurd no
ascends n (x ∷ xs) s zero zero d le lt = omega arith
ascends n (x ∷ xs) s zero (suc j) d le lt = against_rises n x (get_or xs j d) (later x xs j d s.0 (omega (arith, lt)))
ascends n (x ∷ xs) s (suc i) zero d le lt = let no : ⊥ = omega (arith, le) in absurd no
ascends n (x ∷ xs) s (suc i) (suc j) d le lt = ascends n xs s.1 i j d (omega (arith, le)) (omega (arith, lt))

pub parted : (n : List ℕ) (us : List EntityUid) → IsAscending us → IsPartitionedBy (λ u. is_lt (against n u)) us
parted n us s i j d le lt h =
    not_above (against n (get_or us i d))
    (subst (λ (o : Ordering). ordering_index (against n (get_or us i d)) ≤ ordering_index o) (lt_only (against n (get_or us j d)) h) (ascends n us s i j d le lt))

-- the test of one action
abbrev pub has : List ℕ → EntityUid → Bool
has n u = bytes_eq u.type_name n

fails : (n : List ℕ) (u : EntityUid) (o : Ordering) → against n u ≡ o → is_eq o ≡ false → has n u ≡ false
fails n u o e h = sym (is_eq-slice_cmp u.type_name n) ∙ ap is_eq e ∙ h

off : (n : List ℕ) (u : EntityUid) (us : List EntityUid) → has n u ≡ false → list_any (has n) (u ∷ us) ≡ list_any (has n) us
off n u us h = ap (λ (b : Bool). b || list_any (has n) us) h

none_above : (n : List ℕ) (us : List EntityUid) → ((k : ℕ) (d : EntityUid) → k < length us → against n (get_or us k d) ≡ Greater) → list_any (has n) us ≡ false
none_above n [] h = refl
none_above n (u ∷ us) h = off n u us (fails n u Greater (h 0 u (omega arith)) refl) ∙ none_above n us (λ k d lt. h (suc k) d (omega (arith, lt)))

front : (n : List ℕ) (u : EntityUid) (us : List EntityUid) → Ascends n (u ∷ us) → (o : Ordering) → against n u ≡ o → is_lt o ≡ false
    → list_any (has n) (u ∷ us) ≡ has n u
front n u us up Less at h = absurd (cc)
front n u us up Equal at h =
    let passed : has n u ≡ true = sym (is_eq-slice_cmp u.type_name n) ∙ ap is_eq at in
    ap (λ (b : Bool). b || list_any (has n) us) passed ∙ sym passed
front n u us up Greater at h =
    let failed : has n u ≡ false = fails n u Greater at refl in
    off n u us failed
    ∙ none_above n us (λ k d lt. top_only (against n (get_or us k d))
    (subst (λ (o : Ordering). ordering_index o ≤ ordering_index (against n (get_or us k d))) at (up 0 (suc k) d (omega arith) (omega (arith, lt)))))
    ∙ sym failed

first_has : (n : List ℕ) (us : List EntityUid) (i : ℕ) → Ascends n us → ((k : ℕ) (d : EntityUid) → k < i → k < length us → is_lt (against n (get_or us k d)) ≡ true)
    → ((k : ℕ) (d : EntityUid) → i ≤ k → k < length us → is_lt (against n (get_or us k d)) ≡ false)
    → list_any (has n) us ≡ type_at n (slice_get us i)
first_has n [] i up before behind = refl
first_has n (u ∷ us) zero up before behind = front n u us up (against n u) refl (behind 0 u (omega arith) (omega arith))
first_has n (u ∷ us) (suc i) up before behind =
    let less : against n u ≡ Less = lt_only (against n u) (before 0 u (omega arith) (omega arith)) in
    off n u us (fails n u Less less refl)
    ∙ first_has n us i (λ k j d le lt. up (suc k) (suc j) d (omega (arith, le)) (omega (arith, lt)))
    (λ k d lt in_us. before (suc k) d (omega (arith, lt)) (omega (arith, in_us)))
    (λ k d le in_us. behind (suc k) d (omega (arith, le)) (omega (arith, in_us)))

pub by_halves : (n : List ℕ) (us : List EntityUid) (i : ℕ) → IsAscending us → i ≤ length us
    → IsPartitionPoint (λ u. is_lt (against n u) ≡ true) (λ u. is_lt (against n u) ≡ false) us i
    → list_any (has n) us ≡ type_at n (slice_get us i)
by_halves n us i s bound at = first_has n us i (ascends n us s) (λ k d lt in_us. at.0 k d (omega arith) lt) (λ k d le in_us. at.1 k d le in_us)
