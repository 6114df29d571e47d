-- Whether each shape and each context is a record.
use Rattle.std.proofs.Common.{◌≡◌, ◌∙◌, inl, inr, ℕ, suc, zero, ◌+◌, ◌<◌, ◌≤◌, Bool, true, false, Option, Some, None, List, [], ◌∷◌, map, length, drop, get_or, refl, sym, ap, arith, true≢false}
use Rattle.std.specs.Prelude.{◌&&◌, not, Contains}
use Rattle.std.specs.List.{list_all}
use Rattle.std.proofs.lemmas.Bool.{cases_Bool}
use Rattle.std.proofs.lemmas.List.{drop_all}
use Rattle.schema_types.specs.Raw.{Raw}
use Rattle.schema_reading.specs.FileForm.{AppliesToOf, ActionOf, NamespaceOf}
use Rattle.schema_reading.specs.Qualifying.{scope_in}
use Rattle.schema_reading.specs.Records.{MustBeRecord, SomeIsNoRecord}
use Rattle.schema_reading.specs.inner.Spreading.{is_known_non_record, ReportsRecords, is_record_at, is_record_in, are_shapes, are_contexts, are_records_of, are_records}
use Rattle.json_words.proofs.EachSame.{cut}

-- ---- a loop that stops at the first that fails

pub left_passes : {X A : Type 0} (see : X → A) (p : A → Bool) (vs : List X) (i : ℕ) (v : X) (total : Bool) → i < length vs → v ≡ get_or vs i v → p (see v) ≡ true
    → total ≡ list_all p (map see (drop i vs)) → total ≡ list_all p (map see (drop (i + 1) vs))
left_passes {X = X} see p vs i v total lt at h so_far =
    so_far ∙ ap (λ (l : List X). list_all p (map see l)) (cut vs i v lt at) ∙ ap (λ (b : Bool). b && list_all p (map see (drop (i + 1) vs))) h

pub left_fails : {X A : Type 0} (see : X → A) (p : A → Bool) (vs : List X) (i : ℕ) (v : X) (total : Bool) → i < length vs → v ≡ get_or vs i v → p (see v) ≡ false
    → total ≡ list_all p (map see (drop i vs)) → false ≡ total
left_fails {X = X} see p vs i v total lt at h so_far =
    sym (so_far ∙ ap (λ (l : List X). list_all p (map see l)) (cut vs i v lt at) ∙ ap (λ (b : Bool). b && list_all p (map see (drop (i + 1) vs))) h)

pub all_pass : {X A : Type 0} (see : X → A) (p : A → Bool) (vs : List X) (i : ℕ) (total : Bool) → length vs ≤ i → total ≡ list_all p (map see (drop i vs)) → true ≡ total
all_pass {X = X} see p vs i total le so_far = sym (so_far ∙ ap (λ (l : List X). list_all p (map see l)) (drop_all i vs le))

-- ---- what the tests say

and_parts : (a b : Bool) → (a && b) ≡ true → (a ≡ true) × (b ≡ true)
and_parts true b h = (refl, h)
and_parts false b h = absurd (true≢false (sym h))

all_at : {X : Type 0} (p : X → Bool) (xs : List X) (x : X) → list_all p xs ≡ true → Contains xs x → p x ≡ true
all_at p [] x h (k, lt, e) = absurd (omega (arith, lt))
all_at p (y ∷ ys) x h (zero, lt, e) = ap p (sym e) ∙ (and_parts (p y) _ h).0
all_at p (y ∷ ys) x h (suc k, lt, e) = all_at p ys x (and_parts (p y) _ h).1 (k, omega (arith, lt), e)

some_not : {X : Type 0} (p : X → Bool) (xs : List X) → list_all p xs ≡ false → (x : X) × Contains xs x × (p x ≡ false)
some_not p [] h = absurd (true≢false h)
some_not p (y ∷ ys) h = elim (cases_Bool (p y)) [
  | inl t ↦ let r = some_not p ys (rw t at h) in (r.0, (suc r.1.0, omega (arith, r.1.1), r.1.2), r.2)
  | inr n ↦ (y, (zero, omega arith, refl), n)
]

not_true : (b : Bool) → not b ≡ true → b ≡ true → ⊥
not_true true h k = true≢false (sym h)
not_true false h k = true≢false (sym k)

not_false : (b : Bool) → not b ≡ false → b ≡ true
not_false true h = refl
not_false false h = absurd (true≢false h)

module _ (ns : List NamespaceOf) (names : List ℕ → Bool) (t : ReportsRecords ns names) where
  no_shape : (n : NamespaceOf) (r : Raw) → are_records_of names (scope_in ns) n ≡ true → MustBeRecord n r → is_known_non_record names (scope_in ns) n.name r ≡ true → ⊥
  no_shape n r h (inl (e, there, is)) m =
      let both = and_parts (are_shapes names (scope_in ns) n.name n.entity_types) _ h in
      let one = all_at (λ x. is_record_at names (scope_in ns) n.name x.shape) n.entity_types e both.0 there in
      not_true _ (ap (λ (o : Option Raw). is_record_at names (scope_in ns) n.name o) (sym is) ∙ one) m
  no_shape n r h (inr (a, there, (u, applies, is))) m =
      let both = and_parts (are_shapes names (scope_in ns) n.name n.entity_types) _ h in
      let one = all_at (λ x. is_record_in names (scope_in ns) n.name x.applies_to) n.actions a both.1 there in
      let used = ap (λ (o : Option AppliesToOf). is_record_in names (scope_in ns) n.name o) (sym applies) ∙ one in
      not_true _ (ap (λ (o : Option Raw). is_record_at names (scope_in ns) n.name o) (sym is) ∙ used) m

  pub all_records : are_records names (scope_in ns) ns ≡ true → SomeIsNoRecord ns → ⊥
  all_records h s = no_shape s.namespace s.type (all_at (λ n. are_records_of names (scope_in ns) n) ns s.namespace h s.stated) s.stands (t.complete s.namespace.name s.type s.means)

  none_there : (n : NamespaceOf) → Contains ns n → (o : Option Raw) → ((r : Raw) → o ≡ Some r → MustBeRecord n r) → is_record_at names (scope_in ns) n.name o ≡ false → SomeIsNoRecord ns
  none_there n here None stands h = absurd (true≢false h)
  none_there n here (Some r) stands h = record { namespace = n; type = r; stated = here; stands = stands r refl; means = t.sound n.name r (not_false _ h) }

  no_context : (n : NamespaceOf) → Contains ns n → (a : ActionOf) → Contains n.actions a → (o : Option AppliesToOf) → a.applies_to ≡ o → is_record_in names (scope_in ns) n.name o ≡ false → SomeIsNoRecord ns
  no_context n here a there None e h = absurd (true≢false h)
  no_context n here a there (Some u) e h = none_there n here u.context (λ r is. inr (a, there, (u, e, is))) h

  in_namespace : (n : NamespaceOf) → Contains ns n → (b : Bool) → are_shapes names (scope_in ns) n.name n.entity_types ≡ b
      → (b && are_contexts names (scope_in ns) n.name n.actions) ≡ false → SomeIsNoRecord ns
  in_namespace n here false e h =
      let x = some_not (λ y. is_record_at names (scope_in ns) n.name y.shape) n.entity_types e in
      none_there n here x.0.shape (λ r is. inl (x.0, x.1, is)) x.2
  in_namespace n here true e h =
      let x = some_not (λ y. is_record_in names (scope_in ns) n.name y.applies_to) n.actions h in
      no_context n here x.0 x.1 x.0.applies_to refl x.2

  pub some_record : are_records names (scope_in ns) ns ≡ false → SomeIsNoRecord ns
  some_record h =
      let x = some_not (λ n. are_records_of names (scope_in ns) n) ns h in
      in_namespace x.0 x.1 (are_shapes names (scope_in ns) x.0.name x.0.entity_types) refl x.2
