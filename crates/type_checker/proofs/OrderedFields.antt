-- A binary search among the fields that a schema declares, which are in order.
use Rattle.std.proofs.Common.{◌≡◌, ℕ, zero, suc, ◌≤◌, ◌<◌, false, List, [], ◌∷◌, length, get_or, refl, ap, sym, subst, ◌∙◌, inl, inr, arith, Ok, Err}
use Rattle.std.specs.List.Sorted.{IsBinarySearchResult, IsNonDecreasingBy}
use Rattle.std.specs.Ordering.{ordering_index}
use Rattle.std.specs.Str.{bytes_eq}
use Rattle.std.specs.Cmp.{alike_right, tied_itself}
use Rattle.std.specs.declared.cmp.Ordering.{Ordering}
use Rattle.std.specs.declared.cmp.Ordering.TheVariants.{Less, Equal, Greater}
use Rattle.std.proofs.lemmas.Bool.{cases_lt, cases_Bool}
use Rattle.std.proofs.lemmas.Slice.Eq.{bytes_eq-Decides}
use Rattle.values.specs.Names.{text_cmp, text_cmp-IsTotalOrder, text_cmp-IsAntisymmetric}
use Rattle.typing.specs.Types as types
use Rattle.typing.specs.Types.{FieldTypes, undeclared, declared_as, field_declared_at}
use Rattle.typing.specs.Ordered.{IsBefore, AreOrdered}
use Rattle.schema_types.specs.CedarViews.{cedar_view, cedar_fields_view}
use Rattle.type_checker.specs.FromSchemas.{static, static_fields}
use Rattle.type_checker.proofs.FieldLists.{Declared}

abbrev shown : List Declared → FieldTypes
shown fs = static_fields (cedar_fields_view fs)

-- a key that is below the first is below each
before_each : (k : List ℕ) (fs : List Declared) (i : ℕ) (d : Declared) → IsBefore k (shown fs) → AreOrdered (shown fs)
    → i < length fs → text_cmp k (get_or fs i d).0 ≡ Less
before_each k [] i d first up less = absurd (omega (arith, less))
before_each k (f ∷ fs) zero d first up less = first
before_each k (f ∷ fs) (suc i) d first up less =
    let low : i < length fs = omega (arith, less) in
    text_cmp-IsTotalOrder.trans k f.0 (get_or fs i d).0 first (before_each f.0 fs i d up.1 up.2 low)

ascends : (fs : List Declared) (i j : ℕ) (d : Declared) → AreOrdered (shown fs) → i < j → j < length fs
    → text_cmp (get_or fs i d).0 (get_or fs j d).0 ≡ Less
ascends [] i j d up below less = absurd (omega (arith, less))
ascends (f ∷ fs) i zero d up below less = absurd (omega (arith, below))
ascends (f ∷ fs) zero (suc j) d up below less =
    let low : j < length fs = omega (arith, less) in
    before_each f.0 fs j d up.1 up.2 low
ascends (f ∷ fs) (suc i) (suc j) d up below less =
    let nearer : i < j = omega (arith, below) in
    let low : j < length fs = omega (arith, less) in
    ascends fs i j d up.2 nearer low

-- what a greater one compares as is no less
rises : (a b x : List ℕ) → text_cmp a b ≡ Less → (r : Ordering) → text_cmp b x ≡ r → ordering_index (text_cmp a x) ≤ ordering_index r
rises a b x lt Less e = rw (text_cmp-IsTotalOrder.trans a b x lt e) (omega arith)
rises a b x lt Equal e = rw (sym (alike_right text_cmp-IsTotalOrder b x a e) ∙ lt) (omega arith)
rises a b x lt Greater e = top (text_cmp a x)
  where
    top : (o : Ordering) → ordering_index o ≤ 2
    top Less = omega arith
    top Equal = omega arith
    top Greater = omega arith

comparisons_rise : (fs : List Declared) (k : List ℕ) → AreOrdered (shown fs) → IsNonDecreasingBy (λ f. ordering_index (text_cmp f.0 k)) fs
comparisons_rise fs k up i j d le lt = elim (cases_lt i j) [
  | inl below ↦ rises (get_or fs i d).0 (get_or fs j d).0 k (ascends fs i j d up below lt) (text_cmp (get_or fs j d).0 k) refl
  | inr above ↦ let same : i ≡ j = omega arith in rw same (omega arith)
]

-- ---- what is declared

apart_by : (k l : List ℕ) → (text_cmp l k ≡ Equal → ⊥) → bytes_eq k l ≡ false
apart_by k l n = elim (cases_Bool (bytes_eq k l)) [
  | inl e ↦ absurd (n (ap (λ m. text_cmp m k) (sym ((bytes_eq-Decides k l).0 e)) ∙ tied_itself text_cmp-IsTotalOrder k))
  | inr e ↦ e
]

-- the field of a place, where it has the key
at_place : (fs : List Declared) (k : List ℕ) (i : ℕ) (d : Declared) → AreOrdered (shown fs) → i < length fs
    → (get_or fs i d).0 ≡ k
    → field_declared_at k (shown fs) ≡ declared_as (get_or fs i d).2 (static (cedar_view (get_or fs i d).1))
at_place [] k i d up less e = absurd (omega (arith, less))
at_place (f ∷ fs) k zero d up less e = rw ((bytes_eq-Decides k f.0).1 (sym e)) refl
at_place (f ∷ fs) k (suc i) d up less e =
    let low : i < length fs = omega (arith, less) in
    let below = subst (λ l. text_cmp f.0 l ≡ Less) e (before_each f.0 fs i d up.1 up.2 low) in
    rw (apart_by k f.0 (λ tied. cc (below, tied))) (at_place fs k i d up.2 low e)

nowhere : (fs : List Declared) (k : List ℕ) → ((i : ℕ) (d : Declared) → i < length fs → text_cmp (get_or fs i d).0 k ≡ Equal → ⊥)
    → field_declared_at k (shown fs) ≡ undeclared
nowhere [] k none = refl
nowhere (f ∷ fs) k none =
    let first : 0 < length (f ∷ fs) = omega arith in
    rw (apart_by k f.0 (none 0 f first))
    (nowhere fs k (λ i d less e. let more : suc i < length (f ∷ fs) = omega (arith, less) in none (suc i) d more e))

abbrev told : Declared → types.Declared
told f = declared_as f.2 (static (cedar_view f.1))

pub found_place : (fs : List Declared) (k : List ℕ) (i : ℕ) (f : Declared) → AreOrdered (shown fs) → i < length fs
    → IsBinarySearchResult (λ g. text_cmp g.0 k) fs (Ok i) → f ≡ get_or fs i f
    → declared_as f.2 (static (cedar_view f.1)) ≡ field_declared_at k (shown fs)
found_place fs k i f up less at is =
    ap told is ∙ sym (at_place fs k i f up less (text_cmp-IsAntisymmetric _ k (at f)))

pub found_nowhere : (fs : List Declared) (k : List ℕ) (i : ℕ) → AreOrdered (shown fs)
    → IsBinarySearchResult (λ f. text_cmp f.0 k) fs (Err i) → undeclared ≡ field_declared_at k (shown fs)
found_nowhere fs k i up parted = sym (nowhere fs k apart)
  where
    apart : (j : ℕ) (d : Declared) → j < length fs → text_cmp (get_or fs j d).0 k ≡ Equal → ⊥
    apart j d lt tied =
        let parts = parted (comparisons_rise fs k up) in
        elim (cases_lt j i) [
          | inl below ↦ let less = parts.0 j d (omega arith) below in cc (less, tied)
          | inr above ↦ let greater = parts.1 j d above lt in cc (greater, tied)
        ]
