-- Whether two records of the schema have the same fields, place by place.
use Rattle.std.proofs.Common.{◌≡◌, ◌∙◌, ℕ, suc, ◌≤◌, ◌<◌, Bool, true, false, List, Option, Some, None, length, refl, ap, sym, subst, arith, if◌then◌else◌, ◌&&◌}
use Rattle.std.specs.Prelude.{slice_index_or}
use Rattle.std.proofs.lemmas.Option.{slice_get_read}
use Rattle.std.specs.Str.{bytes_eq}
use Rattle.typing.specs.Types.{StaticType, set_type, record_type, FieldTypes, no_field_types, field_type, same_requirement, field_before, common, common_fields}
use Rattle.schema_types.specs.CedarViews.{cedar_view, cedar_fields_view}
use Rattle.type_checker.specs.FromSchemas.{static, static_fields}
use Rattle.type_checker.specs.inner.Parts.{fields_count, fields_after}
use Rattle.type_checker.proofs.FieldLists.{Declared, behind_past}
use Rattle.type_checker.proofs.FieldPlaces.{declared_some}
use Rattle.type_checker.proofs.Weighing.{weight, weights, lighter}

abbrev some : {A : Type 0} → A → Option A
some x = Some x

-- the fields where they are the same, and else none
abbrev pub told : Bool → FieldTypes → Option FieldTypes
told c ts = if c then Some ts else None

-- of two types, by what was found
pub told_same : (s t : StaticType) (r : Bool) → r ≡ true → common s t ≡ (if r then some s else None) → common s t ≡ some s
told_same s t r e h = h ∙ ap (λ c. if c then some s else None) e

pub told_apart : (s t : StaticType) (r : Bool) → r ≡ false → common s t ≡ (if r then some s else None) → common s t ≡ None
told_apart s t r e h = h ∙ ap (λ c. if c then some s else None) e

-- ---- a field before others

told_before : (k : List ℕ) (s : StaticType) (a r : Bool) (xs : FieldTypes)
    → field_before k a (some s) (told r xs) ≡ told r (field_type k s a xs)
told_before k s a true xs = refl
told_before k s a false xs = refl

field_same : (k l : List ℕ) (s t : StaticType) (a b r : Bool) (xs ys : FieldTypes)
    → true ≡ (bytes_eq k l && same_requirement a b) → common s t ≡ some s → common_fields xs ys ≡ told r xs
    → common_fields (field_type k s a xs) (field_type l t b ys) ≡ told r (field_type k s a xs)
field_same k l s t a b r xs ys e h g =
    ap (λ c. if c then field_before k a (common s t) (common_fields xs ys) else None) (sym e)
    ∙ (ap (λ z. field_before k a z (common_fields xs ys)) h ∙ (ap (λ z. field_before k a (some s) z) g ∙ told_before k s a r xs))

field_apart : (k l : List ℕ) (s t : StaticType) (a b : Bool) (xs ys : FieldTypes)
    → false ≡ (bytes_eq k l && same_requirement a b) → common_fields (field_type k s a xs) (field_type l t b ys) ≡ None
field_apart k l s t a b xs ys e =
    ap (λ c. if c then field_before k a (common s t) (common_fields xs ys) else None) (sym e)

type_apart : (k l : List ℕ) (s t : StaticType) (a b : Bool) (xs ys : FieldTypes)
    → true ≡ (bytes_eq k l && same_requirement a b) → common s t ≡ None
    → common_fields (field_type k s a xs) (field_type l t b ys) ≡ None
type_apart k l s t a b xs ys e h =
    ap (λ c. if c then field_before k a (common s t) (common_fields xs ys) else None) (sym e)
    ∙ ap (λ z. field_before k a z (common_fields xs ys)) h

-- ---- all fields

before_none : (k : List ℕ) (r : Bool) (o : Option StaticType) → field_before k r o None ≡ None
before_none k r None = refl
before_none k r (Some s) = refl

none_before : (k : List ℕ) (r c : Bool) (o : Option StaticType) (p : Option FieldTypes) → p ≡ None
    → (if c then field_before k r o p else None) ≡ None
none_before k r true o p e = ap (λ z. field_before k r o z) e ∙ before_none k r o
none_before k r false o p e = refl

-- as many they have to be
pub count_differs : (vl vr : FieldTypes) → (fields_count vl ≡ fields_count vr → ⊥) → common_fields vl vr ≡ None
count_differs no_field_types no_field_types n = absurd (n refl)
count_differs no_field_types (field_type l t b ys) n = refl
count_differs (field_type k s a xs) no_field_types n = refl
count_differs (field_type k s a xs) (field_type l t b ys) n =
    none_before k a (bytes_eq k l && same_requirement a b) (common s t) (common_fields xs ys)
    (count_differs xs ys (λ e. n (ap (λ m. suc m) e)))

-- of all fields, by what is told of those from a place on
abbrev pub SameSoFar : FieldTypes → FieldTypes → ℕ → Type 0
SameSoFar vl vr i =
    (r : Bool) → common_fields (fields_after i vl) (fields_after i vr) ≡ told r (fields_after i vl)
    → common_fields vl vr ≡ told r vl

module _ (vl vr : FieldTypes) (i : ℕ) (k l : List ℕ) (s t : StaticType) (a b : Bool)
    (hl : fields_after i vl ≡ field_type k s a (fields_after (suc i) vl))
    (hr : fields_after i vr ≡ field_type l t b (fields_after (suc i) vr))
    (inv : SameSoFar vl vr i) where
  both_here : (r : Bool)
      → common_fields (field_type k s a (fields_after (suc i) vl)) (field_type l t b (fields_after (suc i) vr))
      ≡ told r (field_type k s a (fields_after (suc i) vl))
      → common_fields vl vr ≡ told r vl
  both_here r e =
      inv r (subst (λ x. common_fields x (fields_after i vr) ≡ told r x) (sym hl)
      (subst (λ y. common_fields (field_type k s a (fields_after (suc i) vl)) y
      ≡ told r (field_type k s a (fields_after (suc i) vl))) (sym hr) e))

  pub same_more : (n : ℕ) → n ≡ suc i → true ≡ (bytes_eq k l && same_requirement a b) → common s t ≡ some s
      → SameSoFar vl vr n
  same_more n next e h =
      subst (λ m. SameSoFar vl vr m) (sym next)
      (λ r g. both_here r (field_same k l s t a b r (fields_after (suc i) vl) (fields_after (suc i) vr) e h g))

  pub key_differs : false ≡ (bytes_eq k l && same_requirement a b) → common_fields vl vr ≡ None
  key_differs e = both_here false (field_apart k l s t a b (fields_after (suc i) vl) (fields_after (suc i) vr) e)

  pub type_differs : true ≡ (bytes_eq k l && same_requirement a b) → common s t ≡ None → common_fields vl vr ≡ None
  type_differs e h =
      both_here false (type_apart k l s t a b (fields_after (suc i) vl) (fields_after (suc i) vr) e h)

pub same_all : (vl vr : FieldTypes) (i : ℕ) → fields_count vl ≤ i → fields_count vr ≤ i → SameSoFar vl vr i
    → common_fields vl vr ≡ some vl
same_all vl vr i pl pr inv =
    inv true (subst (λ x. common_fields x (fields_after i vr) ≡ some x) (sym (behind_past vl i pl))
    (ap (λ y. common_fields no_field_types y) (behind_past vr i pr)))

-- ---- what the recursion goes down by

pub set_lighter : (t s : StaticType) (n : ℕ) → set_type t ≡ s → weight s ≡ n → weight t < n
set_lighter t s n e h =
    let more : suc (weight t) ≡ n = ap weight e ∙ h in
    omega (arith, more)

pub record_lighter : (ts : FieldTypes) (s : StaticType) (n : ℕ) → record_type ts ≡ s → weight s ≡ n → weights ts < n
record_lighter ts s n e h =
    let more : suc (weights ts) ≡ n = ap weight e ∙ h in
    omega (arith, more)

-- ---- as lists hold them

-- the field at a place
pub declared_here : (fs : List Declared) (i : ℕ) (f : Declared) → i < length fs → f ≡ slice_index_or fs i f
    → fields_after i (static_fields (cedar_fields_view fs))
    ≡ field_type f.0 (static (cedar_view f.1)) f.2 (fields_after (suc i) (static_fields (cedar_fields_view fs)))
declared_here fs i f less e = declared_some fs i f (slice_get_read fs (length fs) i f refl less e)

-- its type is less than all
pub declared_lighter : (fs : List Declared) (i : ℕ) (f : Declared) → i < length fs → f ≡ slice_index_or fs i f
    → weight (static (cedar_view f.1)) < weights (static_fields (cedar_fields_view fs))
declared_lighter fs i f less e =
    lighter (static_fields (cedar_fields_view fs)) i f.0 (static (cedar_view f.1)) f.2 _ (declared_here fs i f less e)
