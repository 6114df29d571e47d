-- The first environment that passes, looked for by halves.
use Rattle.std.proofs.Common.{◌≡◌, ◌∙◌, ◌⊎◌, inl, inr, ℕ, zero, suc, ◌<◌, ◌≤◌, arith, Bool, true, false, List, [], ◌∷◌}
use Rattle.std.proofs.Common.{map, length, get_or, Option, Some, None, option_map, slice_get, refl, sym, ap, ap₂, subst}
use Rattle.std.proofs.Common.{◌&&◌, if◌then◌else◌}
use Rattle.std.specs.List.{AllByRecursion}
use Rattle.std.specs.List.Sorted.{IsStrictlySortedBy, IsPartitionedBy, IsPartitionPoint}
use Rattle.std.specs.Ordering.{ordering_index, ordering_then, is_eq, is_lt}
use Rattle.std.specs.Cmp.{IsTotalOrder}
use Rattle.std.specs.declared.cmp.Ordering.{Ordering}
use Rattle.std.specs.declared.cmp.Ordering.TheVariants.{Less, Equal, Greater}
use Rattle.std.proofs.lemmas.Cmp.{then_total, on_total}
use Rattle.std.proofs.lemmas.Map.Text.{is_eq-slice_cmp}
use Rattle.values.proofs.Halves.{lt_only, not_above, top_only, rises, less_then}
use Rattle.values.specs.declared.entity_uid.EntityUid.{EntityUid}
use Rattle.values.specs.Names.{uid_cmp, text_cmp, uid_cmp-IsTotalOrder, text_cmp-IsTotalOrder, uid_cmp-IsAntisymmetric}
use Rattle.schema_types.specs.Cedar.{Cedar}
use Rattle.schema.specs.declared.parts.EnvironmentKey.{EnvironmentKey}
use Rattle.schema.specs.Schemas.{EnvironmentOf, place_cmp}
use Rattle.entities.specs.declared.requests.Asked.{Asked}
use Rattle.entities.specs.Contexts.{context_where, is_of_action, is_place}
use Rattle.entities.specs.inner.EnvironmentSearch.{context_if, place_asked, order_of_action, order_of_asked, IsMonotone, AreFoundBy}

-- ---- orders

places_total : IsTotalOrder place_cmp
places_total =
    then_total (on_total (λ p. p.action) uid_cmp-IsTotalOrder)
    (then_total (on_total (λ p. p.principal) text_cmp-IsTotalOrder) (on_total (λ p. p.resource) text_cmp-IsTotalOrder))

places_rise : (x : EnvironmentKey) → IsMonotone (λ p. place_cmp p x)
places_rise x p q lt = rises places_total p q x lt (place_cmp q x) refl

actions_rise : (action : EntityUid) → IsMonotone (λ p. uid_cmp p.action action)
actions_rise action p q lt = elim (less_then (uid_cmp p.action q.action) _ lt) [
  | inl below ↦ rises uid_cmp-IsTotalOrder p.action q.action action below (uid_cmp q.action action) refl
  | inr tied ↦ subst (λ (u : EntityUid). ordering_index (uid_cmp p.action action) ≤ ordering_index (uid_cmp u action)) (uid_cmp-IsAntisymmetric p.action q.action tied) (omega arith)
]

-- ---- lists in order

module _ {X : Type 0} (view : X → EnvironmentOf) where
  later : (p : EnvironmentKey) (es : List X) (k : ℕ) (d : X) → AllByRecursion (λ q. place_cmp p q ≡ Less) (map (λ e. e.place) (map view es)) → k < length es
      → place_cmp p (view (get_or es k d)).place ≡ Less
  later p [] k d h lt = let no : ⊥ = omega (arith, lt) in absurd no
  later p (x ∷ xs) zero d h lt = h.0
  later p (x ∷ xs) (suc k) d h lt = later p xs k d h.1 (omega (arith, lt))

  abbrev pub AreSorted : List X → Type 0
  AreSorted es = IsStrictlySortedBy place_cmp (map (λ e. e.place) (map view es))

  abbrev pub Ascends : (EnvironmentKey → Ordering) → List X → Type 0
  Ascends ord es = (i j : ℕ) (d : X) → i ≤ j → j < length es → ordering_index (ord (view (get_or es i d)).place) ≤ ordering_index (ord (view (get_or es j d)).place)

  ascends : (ord : EnvironmentKey → Ordering) → IsMonotone ord → (es : List X) → AreSorted es → Ascends ord es
  unfolding IsStrictlySortedBy
  ascends ord rise [] s i j d le lt = let no : ⊥ = omega (arith, lt) in absurd no
  ascends ord rise (x ∷ xs) s zero zero d le lt = omega arith
  ascends ord rise (x ∷ xs) s zero (suc j) d le lt = rise (view x).place (view (get_or xs j d)).place (later (view x).place xs j d s.0 (omega (arith, lt)))
  ascends ord rise (x ∷ xs) s (suc i) zero d le lt = let no : ⊥ = omega (arith, le) in absurd no
  ascends ord rise (x ∷ xs) s (suc i) (suc j) d le lt = ascends ord rise xs s.1 i j d (omega (arith, le)) (omega (arith, lt))

  pub parted : (ord : EnvironmentKey → Ordering) → IsMonotone ord → (es : List X) → AreSorted es → IsPartitionedBy (λ e. is_lt (ord (view e).place)) es
  parted ord rise es s i j d le lt h =
      not_above (ord (view (get_or es i d)).place)
      (subst (λ (o : Ordering). ordering_index (ord (view (get_or es i d)).place) ≤ ordering_index o) (lt_only (ord (view (get_or es j d)).place) h) (ascends ord rise es s i j d le lt))

module _ {X : Type 0} (view : X → EnvironmentOf) (ord : EnvironmentKey → Ordering) (passes : EnvironmentKey → Bool) (sought : AreFoundBy ord passes) where
  off : (e : X) (es : List X) → passes (view e).place ≡ false
      → context_where passes (map view (e ∷ es)) ≡ context_where passes (map view es)
  off e es h = ap (λ (b : Bool). if b then Some (view e).context else context_where passes (map view es)) h

  fails : (p : EnvironmentKey) (o : Ordering) → ord p ≡ o → is_eq o ≡ false → passes p ≡ false
  fails p o e h = sought.same p ∙ ap is_eq e ∙ h

  none_above : (es : List X) → ((k : ℕ) (d : X) → k < length es → ord (view (get_or es k d)).place ≡ Greater) → context_where passes (map view es) ≡ None
  none_above [] h = refl
  none_above (e ∷ es) h =
      let above : ord (view e).place ≡ Greater = h 0 e (omega arith) in
      off e es (fails (view e).place Greater above refl) ∙ none_above es (λ k d lt. h (suc k) d (omega (arith, lt)))

  front : (e : X) (es : List X) → Ascends view ord (e ∷ es) → (o : Ordering) → ord (view e).place ≡ o → is_lt o ≡ false
      → context_where passes (map view (e ∷ es)) ≡ context_if passes (Some (view e))
  front e es up Less at h = absurd (cc)
  front e es up Equal at h =
      let passed : passes (view e).place ≡ true = sought.same (view e).place ∙ ap is_eq at in
      ap (λ (b : Bool). if b then Some (view e).context else context_where passes (map view es)) passed
      ∙ sym (ap (λ (b : Bool). let none : Option Cedar = None in if b then Some (view e).context else none) passed)
  front e es up Greater at h =
      let failed : passes (view e).place ≡ false = fails (view e).place Greater at refl in
      off e es failed
      ∙ none_above es (λ k d lt. top_only (ord (view (get_or es k d)).place)
      (subst (λ (o : Ordering). ordering_index o ≤ ordering_index (ord (view (get_or es k d)).place)) at (up 0 (suc k) d (omega arith) (omega (arith, lt)))))
      ∙ sym (ap (λ (b : Bool). let none : Option Cedar = None in if b then Some (view e).context else none) failed)

  first_passes : (es : List X) (i : ℕ) → Ascends view ord es → ((k : ℕ) (d : X) → k < i → k < length es → is_lt (ord (view (get_or es k d)).place) ≡ true)
      → ((k : ℕ) (d : X) → i ≤ k → k < length es → is_lt (ord (view (get_or es k d)).place) ≡ false)
      → context_where passes (map view es) ≡ context_if passes (option_map view (slice_get es i))
  first_passes [] i up below above = refl
  first_passes (e ∷ es) zero up below above = front e es up (ord (view e).place) refl (above 0 e (omega arith) (omega arith))
  first_passes (e ∷ es) (suc i) up below above =
      let less : ord (view e).place ≡ Less = lt_only (ord (view e).place) (below 0 e (omega arith) (omega arith)) in
      off e es (fails (view e).place Less less refl)
      ∙ first_passes es i (λ k j d le lt. up (suc k) (suc j) d (omega (arith, le)) (omega (arith, lt)))
      (λ k d lt in_es. below (suc k) d (omega (arith, lt)) (omega (arith, in_es)))
      (λ k d le in_es. above (suc k) d (omega (arith, le)) (omega (arith, in_es)))

  pub by_halves : (es : List X) (i : ℕ) → AreSorted view es → i ≤ length es
      → IsPartitionPoint (λ e. is_lt (ord (view e).place) ≡ true) (λ e. is_lt (ord (view e).place) ≡ false) es i
      → context_if (λ p. is_eq (ord p)) (option_map view (slice_get es i)) ≡ context_where passes (map view es)
  by_halves es i s bound at =
      sym (ap (λ (test : EnvironmentKey → Bool). context_if test (option_map view (slice_get es i))) (λ j p. sought.same p j))
      ∙ sym (first_passes es i (ascends view ord sought.rises es s) (λ k d lt in_es. at.0 k d (omega arith) lt) (λ k d le in_es. at.1 k d le in_es))

-- ---- the two tests

ties : (o p : Ordering) → is_eq o && is_eq p ≡ is_eq (ordering_then o p)
ties Less p = refl
ties Equal p = refl
ties Greater p = refl

pub action_sought : (action : EntityUid) → AreFoundBy (order_of_action action) (is_of_action action)
action_sought action = record { same = λ p. refl; rises = actions_rise action }

same_place : (asked : Asked) (p : EnvironmentKey) → is_place asked.action asked.principal.type_name asked.resource.type_name p ≡ is_eq (place_cmp p (place_asked asked))
same_place asked p =
    let a = uid_cmp p.action asked.action in
    let principals = text_cmp p.principal asked.principal.type_name in
    let resources = text_cmp p.resource asked.resource.type_name in
    ap (λ (b : Bool). is_eq a && b)
    (ap₂ (λ (x y : Bool). x && y) (sym (is_eq-slice_cmp p.principal asked.principal.type_name)) (sym (is_eq-slice_cmp p.resource asked.resource.type_name)) ∙ ties principals resources)
    ∙ ties a (ordering_then principals resources)

pub asked_sought : (asked : Asked) → AreFoundBy (order_of_asked asked) (is_place asked.action asked.principal.type_name asked.resource.type_name)
asked_sought asked = record { same = same_place asked; rises = places_rise (place_asked asked) }
