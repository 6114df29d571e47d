-- The fields of a record literal: a map that is filled, and the list that it becomes.
use Rattle.std.proofs.Common.{◌≡◌, ◌∙◌, ℕ, zero, suc, Bool, true, List, [], ◌∷◌, ◌++◌, map, drop, slice_get, Option, Some, None, Ordering, Less, Equal, Greater, append_assoc, refl, ap, sym}
use Rattle.std.proofs.lemmas.List.{append-nil}
use Rattle.std.specs.Borrow.{Bor}
use Rattle.std.specs.Ordering.{match_ordering}
use Rattle.std.specs.BTreeMap.{insert_entry}
use Rattle.values.specs.Uids.{text_cmp}
use Rattle.typing.specs.Types.{FieldTypes, field_type, put_required, put_each}
use Rattle.type_checker.specs.Views.{static_view}
use Rattle.type_checker.specs.inner.Parts.{built_view, map_fields}
use Rattle.type_checker.specs.declared.static_type.StaticType.{StaticType}

abbrev pub Entry : Type 0
Entry = Bor (List ℕ) × StaticType

abbrev pub Built : Type 0
Built = Bor (List ℕ) × StaticType × Bool

abbrev some : {A : Type 0} → A → Option A
some x = Some x

some_same : {A : Type 0} (x y : A) → some x ≡ some y → x ≡ y
some_same x y e = cc

abbrev by_text : Bor (List ℕ) → Bor (List ℕ) → Ordering
by_text a b = text_cmp a.now b.now

-- an entry that is put in is a field that is required
pub insertion : (es : List Entry) (k : Bor (List ℕ)) (t : StaticType)
    → map_fields (insert_entry by_text es k t) ≡ put_required k.now (static_view t) (map_fields es)
insertion [] k t = refl
insertion (e ∷ es) k t = by_place (text_cmp k.now e.0.now) (insertion es k t)
  where
    by_place : (o : Ordering)
        → map_fields (insert_entry by_text es k t) ≡ put_required k.now (static_view t) (map_fields es)
        → map_fields (match_ordering o ((k, t) ∷ e ∷ es) ((e.0, t) ∷ es) (e ∷ insert_entry by_text es k t))
        ≡ match_ordering o (field_type k.now (static_view t) true (map_fields (e ∷ es)))
        (field_type e.0.now (static_view t) true (map_fields es))
        (field_type e.0.now (static_view e.1) true (put_required k.now (static_view t) (map_fields es)))
    by_place Less behind = refl
    by_place Equal behind = refl
    by_place Greater behind = ap (λ ts. field_type e.0.now (static_view e.1) true ts) behind

-- ---- the map's entries as a list of fields

abbrev pub as_built : List Entry → List Built
as_built es = map (λ e. (e.0, e.1, true)) es

all_built : (es : List Entry) → built_view (as_built es) ≡ map_fields es
all_built [] = refl
all_built (e ∷ es) = ap (λ ts. field_type e.0.now (static_view e.1) true ts) (all_built es)

pub one_more : (all done : List Built) (e : Entry) (left it : List Entry) → it ≡ e ∷ left → all ≡ done ++ as_built it
    → all ≡ (done ++ (e.0, e.1, true) ∷ []) ++ as_built left
one_more all done e left it steps so_far =
    so_far ∙ ap (λ es. done ++ as_built es) steps ∙ sym (append_assoc done ((e.0, e.1, true) ∷ []) (as_built left))

pub all_done : (es : List Entry) (done : List Built) (it : List Entry) → it ≡ [] → as_built es ≡ done ++ as_built it
    → built_view done ≡ map_fields es
all_done es done it none so_far =
    sym (ap built_view (so_far ∙ ap (λ xs. done ++ as_built xs) none ∙ append-nil done)) ∙ all_built es

-- ---- names and types, one after the other

module _ {A : Type 0} (name : A → List ℕ) where
  abbrev pub left_of : ℕ → List A → List StaticType → FieldTypes → FieldTypes
  left_of i fs ts done = put_each (map name (drop i fs)) (map (λ t. static_view t) ts) done

  pub next_put : (fs : List A) (i : ℕ) (f : A) (t : StaticType) (ts : List StaticType) (done : FieldTypes)
      → slice_get fs i ≡ some f
      → left_of i fs (t ∷ ts) done ≡ left_of (suc i) fs ts (put_required (name f) (static_view t) done)
  next_put [] i f t ts done e = absurd cc
  next_put (x ∷ fs) zero f t ts done e =
      ap (λ g. put_each (map name fs) (map (λ u. static_view u) ts) (put_required (name g) (static_view t) done))
      (some_same x f e)
  next_put (x ∷ fs) (suc i) f t ts done e = next_put fs i f t ts done e

  pub no_name : (fs : List A) (i : ℕ) (ts : List StaticType) (done : FieldTypes) → slice_get fs i ≡ None
      → left_of i fs ts done ≡ done
  no_name [] zero ts done e = refl
  no_name [] (suc i) ts done e = refl
  no_name (x ∷ fs) zero ts done e = absurd cc
  no_name (x ∷ fs) (suc i) ts done e = no_name fs i ts done e

no_more : (ks : List (List ℕ)) (done : FieldTypes) → put_each ks [] done ≡ done
no_more [] done = refl
no_more (k ∷ ks) done = refl

pub no_type : {A : Type 0} (name : A → List ℕ) (fs : List A) (i : ℕ) (done : FieldTypes)
    → left_of name i fs [] done ≡ done
no_type name fs i done = no_more (map name (drop i fs)) done
