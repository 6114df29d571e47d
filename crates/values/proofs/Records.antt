-- The entries of a `BTreeMap` whose keys are texts, as the fields of a record.
use Rattle.std.proofs.Common.{◌≡◌, ℕ, List, [], ◌∷◌, ◌++◌, Option, Some, None, option_map, String, Global, Ordering, Less, Equal, Greater, string_bytes, string_cmp, is_eq, cond, Bor, refl, sym, ap, ◌∙◌}
use Rattle.std.specs.Prelude.{map}
use Rattle.std.specs.Option.{option_copied}
use Rattle.std.specs.List.{AllByRecursion}
use Rattle.std.specs.List.Sorted.{IsStrictlySortedBy}
use Rattle.std.specs.Map.{keys_of, lookup}
use Rattle.std.specs.Ordering.{match_ordering, ordering_reverse}
use Rattle.std.specs.BTreeMap.{insert_entry, is_at}
use Rattle.values.specs.Values.{PlainValue}
use Rattle.values.specs.ValueView.{of_entries}
use Rattle.values.specs.Uids.{text_cmp, text_cmp-IsTotalOrder}
use Rattle.values.specs.Fields.{Field, AreKeysAscending, put, find_field}

abbrev pub Entry : Type 0
Entry = String Global × PlainValue

abbrev pub field_of : Entry → Field
field_of e = (string_bytes e.0, e.1)

-- ---- one entry

-- an entry that is put in is a field that is set
pub insertion : (es : List Entry) (k : String Global) (v : PlainValue) → of_entries (insert_entry string_cmp es k v) ≡ put (string_bytes k) v (of_entries es)
insertion [] k v = refl
insertion (e ∷ es) k v = by_place (string_cmp k e.0) (insertion es k v)
  where
    by_place : (o : Ordering) → of_entries (insert_entry string_cmp es k v) ≡ put (string_bytes k) v (of_entries es)
        → of_entries (match_ordering o ((k, v) ∷ e ∷ es) ((e.0, v) ∷ es) (e ∷ insert_entry string_cmp es k v))
        ≡ match_ordering o (field_of (k, v) ∷ of_entries (e ∷ es)) (field_of (e.0, v) ∷ of_entries es) (field_of e ∷ put (string_bytes k) v (of_entries es))
    by_place Less behind = refl
    by_place Equal behind = refl
    by_place Greater behind = ap (λ fs. field_of e ∷ fs) behind

-- what is looked up is the value of the field
pub looked_up : (key : List ℕ) (es : List Entry) → lookup (is_at (λ k. text_cmp key (string_bytes k))) es ≡ find_field key (of_entries es)
looked_up key [] = refl
looked_up key (e ∷ es) = by_place (text_cmp key (string_bytes e.0)) (looked_up key es)
  where
    by_place : (o : Ordering) {a b : Option PlainValue} → a ≡ b → cond (is_eq o) (Some e.1) a ≡ match_ordering o b (Some e.1) b
    by_place Less same = same
    by_place Equal same = refl
    by_place Greater same = same

pub lent : (found : Option (Bor PlainValue)) → option_map (λ v. v.now) found ≡ option_copied found
lent None = refl
lent (Some v) = refl

-- ---- keys that ascend

all_read : (P : List ℕ → Type 0) (es : List Entry) → AllByRecursion (λ k. P (string_bytes k)) (keys_of es) → AllByRecursion P (map (λ f. f.0) (of_entries es))
all_read P [] all = tt
all_read P (e ∷ es) all = (all.0, all_read P es all.1)

-- the keys of a map's entries ascend as texts
pub keys_ascend : (es : List Entry) → IsStrictlySortedBy string_cmp (keys_of es) → AreKeysAscending (of_entries es)
unfolding IsStrictlySortedBy
keys_ascend [] sorted = tt
keys_ascend (e ∷ es) sorted = (all_read (λ k. text_cmp (string_bytes e.0) k ≡ Less) es sorted.0, keys_ascend es sorted.1)

-- of keys that ascend, the one in the middle is above each before it
above_front : (front : List Field) (f : Field) (back : List Field) → AreKeysAscending (front ++ f ∷ back) → AllByRecursion (λ g. text_cmp f.0 g.0 ≡ Greater) front
unfolding IsStrictlySortedBy
above_front [] f back sorted = tt
above_front (g ∷ front) f back sorted = (text_cmp-IsTotalOrder.antisymm f.0 g.0 ∙ ap ordering_reverse (reach front sorted.0), above_front front f back sorted.1)
  where
    reach : (between : List Field) → AllByRecursion (λ k. text_cmp g.0 k ≡ Less) (map (λ h. h.0) (between ++ f ∷ back)) → text_cmp g.0 f.0 ≡ Less
    reach [] all = all.0
    reach (h ∷ between) all = reach between all.1

set_last : (front : List Field) (f : Field) → AllByRecursion (λ g. text_cmp f.0 g.0 ≡ Greater) front → put f.0 f.1 front ≡ front ++ f ∷ []
set_last [] f above = refl
set_last (g ∷ front) f above = rw above.0 (ap (λ fs. g ∷ fs) (set_last front f above.1))

pub of_entries-append : (es fs : List Entry) → of_entries (es ++ fs) ≡ of_entries es ++ of_entries fs
of_entries-append [] fs = refl
of_entries-append (e ∷ es) fs = ap (λ xs. field_of e ∷ xs) (of_entries-append es fs)

-- the next entry of a walk is set behind all that were set before
pub next_set : (done : List Entry) (e : Entry) (left : List Entry) → IsStrictlySortedBy string_cmp (keys_of (done ++ e ∷ left))
    → put (string_bytes e.0) e.1 (of_entries done) ≡ of_entries (done ++ e ∷ [])
next_set done e left sorted =
    let ascending : AreKeysAscending (of_entries done ++ field_of e ∷ of_entries left) = rw (of_entries-append done (e ∷ left)) at (keys_ascend (done ++ e ∷ left) sorted) in
    set_last (of_entries done) (field_of e) (above_front (of_entries done) (field_of e) (of_entries left) ascending) ∙ sym (of_entries-append done (e ∷ []))
