-- What is known of the common type of two records, place by place.
use Rattle.std.proofs.Common.{◌≡◌, ◌∙◌, ℕ, suc, ◌≤◌, Bool, true, false, List, Option, Some, None, option_map, refl, ap, sym, subst, arith, if◌then◌else◌, ◌&&◌}
use Rattle.std.specs.Str.{bytes_eq}
use Rattle.typing.specs.Types.{StaticType, set_type, record_type, FieldTypes, no_field_types, field_type, same_requirement, field_before, common, common_fields}
use Rattle.type_checker.specs.inner.Parts.{part_view, fields_count, fields_after, before}
use Rattle.type_checker.specs.inner.Joins.{DescribesCommon, join_with}
use Rattle.type_checker.specs.inner.Rows.{paired}
use Rattle.type_checker.specs.declared.type_joins.Join.{Join}
use Rattle.type_checker.specs.declared.type_joins.Join.TheVariants as join
use Rattle.type_checker.specs.declared.parts.FieldPart.{FieldPart}
use Rattle.type_checker.specs.declared.parts.FieldPair.{FieldPair}
use Rattle.type_checker.proofs.FieldLists.{behind_past}

abbrev some : {A : Type 0} → A → Option A
some x = Some x

some_same : {A : Type 0} (x y : A) → some x ≡ some y → x ≡ y
some_same x y e = cc

none_there : {P : Type 0} → false ≡ true → P
none_there e = absurd cc

-- ---- sets and records

set_same : (s t : StaticType) → some (set_type s) ≡ some (set_type t) → some s ≡ some t
set_same s t e = cc

pub told_set : (j : Join) (t : StaticType) (o : Option StaticType) → DescribesCommon j t o → DescribesCommon j (set_type t) (option_map set_type o)
told_set join.Apart t o e = ap (option_map set_type) e
told_set join.Left t o e = ap (option_map set_type) e
told_set join.Wider t None h = none_there h.0
told_set join.Wider t (Some s) h = (refl, λ e. h.1 (set_same s t e))

record_same : (ss ts : FieldTypes) → some (record_type ss) ≡ some (record_type ts) → some ss ≡ some ts
record_same ss ts e = cc

pub told_record : (j : Join) (ts : FieldTypes) (o : Option FieldTypes) → DescribesCommon j ts o → DescribesCommon j (record_type ts) (option_map record_type o)
told_record join.Apart ts o e = ap (option_map record_type) e
told_record join.Left ts o e = ap (option_map record_type) e
told_record join.Wider ts None h = none_there h.0
told_record join.Wider ts (Some ss) h = (refl, λ e. h.1 (record_same ss ts e))

pub told_sets : (j : Join) (s t vl vr : StaticType) → set_type s ≡ vl → set_type t ≡ vr → DescribesCommon j s (common s t) → DescribesCommon j vl (common vl vr)
told_sets j s t vl vr el er h =
    subst (λ x. DescribesCommon j x (common x vr)) el
    (subst (λ y. DescribesCommon j (set_type s) (common (set_type s) y)) er (told_set j s (common s t) h))

pub told_records : (j : Join) (ss ts : FieldTypes) (vl vr : StaticType) → record_type ss ≡ vl → record_type ts ≡ vr
    → DescribesCommon j ss (common_fields ss ts) → DescribesCommon j vl (common vl vr)
told_records j ss ts vl vr el er h =
    subst (λ x. DescribesCommon j x (common x vr)) el
    (subst (λ y. DescribesCommon j (record_type ss) (common (record_type ss) y)) er (told_record j ss (common_fields ss ts) h))

-- ---- a field before others

type_same : (k : List ℕ) (q : Bool) (s t : StaticType) (us ts : FieldTypes) → some (field_type k s q us) ≡ some (field_type k t q ts) → some s ≡ some t
type_same k q s t us ts e = cc

rest_same : (k : List ℕ) (q : Bool) (s t : StaticType) (us ts : FieldTypes) → some (field_type k s q us) ≡ some (field_type k t q ts) → some us ≡ some ts
rest_same k q s t us ts e = cc

told_field : (k : List ℕ) (q : Bool) (t : StaticType) (ts : FieldTypes) (j r : Join) (o : Option StaticType) (p : Option FieldTypes)
    → DescribesCommon j t o → DescribesCommon r ts p → DescribesCommon (join_with r j) (field_type k t q ts) (field_before k q o p)
told_field k q t ts join.Apart join.Apart o p e h = ap (λ z. field_before k q z p) e
told_field k q t ts join.Apart join.Left o p e h = ap (λ z. field_before k q z p) e
told_field k q t ts join.Apart join.Wider o p e h = ap (λ z. field_before k q z p) e
told_field k q t ts join.Left join.Apart o p e h = ap (λ z. field_before k q z p) e ∙ ap (λ z. field_before k q (some t) z) h
told_field k q t ts join.Left join.Left o p e h = ap (λ z. field_before k q z p) e ∙ ap (λ z. field_before k q (some t) z) h
told_field k q t ts join.Left join.Wider o None e h = none_there h.0
told_field k q t ts join.Left join.Wider None (Some us) e h = absurd cc
told_field k q t ts join.Left join.Wider (Some s) (Some us) e h = (refl, λ g. h.1 (rest_same k q s t us ts g))
told_field k q t ts join.Wider r None p e h = none_there e.0
told_field k q t ts join.Wider join.Apart (Some s) p e h = ap (λ z. field_before k q (some s) z) h
told_field k q t ts join.Wider join.Left (Some s) None e h = absurd cc
told_field k q t ts join.Wider join.Left (Some s) (Some us) e h = (refl, λ g. e.1 (type_same k q s t us ts g))
told_field k q t ts join.Wider join.Wider (Some s) None e h = none_there h.0
told_field k q t ts join.Wider join.Wider (Some s) (Some us) e h = (refl, λ g. e.1 (type_same k q s t us ts g))

-- two fields that go together
step_told : (o p : Option FieldPart) (q : FieldPair) (j r : Join) (xs ys : FieldTypes) → some q ≡ paired o p
    → DescribesCommon j (part_view q.left) (common (part_view q.left) (part_view q.right)) → DescribesCommon r xs (common_fields xs ys)
    → DescribesCommon (join_with r j) (before o xs) (common_fields (before o xs) (before p ys))
step_told None p q j r xs ys e h g = absurd cc
step_told (Some a) None q j r xs ys e h g = absurd cc
step_told (Some a) (Some b) q j r xs ys e h g = at (bytes_eq a.key.now b.key.now && same_requirement a.required b.required) e
  where
    at : (c : Bool)
        → some q ≡ (if c then some {A = FieldPair} (record { key = a.key; left = a.part; right = b.part; required = a.required }) else None)
        → DescribesCommon (join_with r j) (field_type a.key.now (part_view a.part) a.required xs)
        (if c then field_before a.key.now a.required (common (part_view a.part) (part_view b.part)) (common_fields xs ys) else None)
    at false f = absurd cc
    at true f =
        let told = subst (λ (z : FieldPair). DescribesCommon j (part_view z.left) (common (part_view z.left) (part_view z.right)))
        (some_same _ _ f) h in
        told_field a.key.now a.required (part_view a.part) xs j r (common (part_view a.part) (part_view b.part)) (common_fields xs ys) told g

-- ---- all fields

with_with : (r j s : Join) → join_with (join_with r j) s ≡ join_with r (join_with j s)
with_with join.Apart j s = refl
with_with join.Left j s = refl
with_with join.Wider join.Apart s = refl
with_with join.Wider join.Left s = refl
with_with join.Wider join.Wider join.Apart = refl
with_with join.Wider join.Wider join.Left = refl
with_with join.Wider join.Wider join.Wider = refl

-- of all fields, by what is known of those from a place on
abbrev pub SoFar : Join → FieldTypes → FieldTypes → ℕ → Type 0
SoFar j vl vr i =
    (r : Join) → DescribesCommon r (fields_after i vl) (common_fields (fields_after i vl) (fields_after i vr))
    → DescribesCommon (join_with r j) vl (common_fields vl vr)

pub at_first : (vl vr : FieldTypes) → SoFar join.Left vl vr 0
at_first vl vr join.Apart h = h
at_first vl vr join.Left h = h
at_first vl vr join.Wider h = h

pub one_more : (vl vr : FieldTypes) (i n : ℕ) (o p : Option FieldPart) (q : FieldPair) (j s t : Join) → n ≡ suc i
    → SoFar s vl vr i → fields_after i vl ≡ before o (fields_after (suc i) vl)
    → fields_after i vr ≡ before p (fields_after (suc i) vr) → some q ≡ paired o p
    → DescribesCommon j (part_view q.left) (common (part_view q.left) (part_view q.right)) → t ≡ join_with j s → SoFar t vl vr n
one_more vl vr i n o p q j s t next inv hl hr e h with_j =
    subst (λ m. SoFar t vl vr m) (sym next) (subst (λ u. SoFar u vl vr (suc i)) (sym with_j) step)
  where
    step : SoFar (join_with j s) vl vr (suc i)
    step r rest =
        subst (λ u. DescribesCommon u vl (common_fields vl vr)) (with_with r j s)
        (inv (join_with r j)
        (subst (λ x. DescribesCommon (join_with r j) x (common_fields x (fields_after i vr))) (sym hl)
        (subst (λ y. DescribesCommon (join_with r j) (before o (fields_after (suc i) vl)) (common_fields (before o (fields_after (suc i) vl)) y))
        (sym hr) (step_told o p q j r (fields_after (suc i) vl) (fields_after (suc i) vr) e h rest))))

-- behind all fields there is nothing more
pub at_last : (vl vr : FieldTypes) (i n : ℕ) (s : Join) → SoFar s vl vr i → n ≡ fields_count vl → i ≡ n
    → fields_after n vr ≡ no_field_types → DescribesCommon s vl (common_fields vl vr)
at_last vl vr i n s inv count same e =
    let past : fields_count vl ≤ i = omega (arith, count, same) in
    inv join.Left
    (subst (λ x. common_fields x (fields_after i vr) ≡ some x) (sym (behind_past vl i past))
    (ap (λ y. common_fields no_field_types y) (ap (λ k. fields_after k vr) same ∙ e)))

-- or fields of the right
pub right_longer : (vl vr : FieldTypes) (i n : ℕ) (s : Join) (f : FieldPart) (rest : FieldTypes) → SoFar s vl vr i
    → n ≡ fields_count vl → i ≡ n → fields_after n vr ≡ before (some f) rest → common_fields vl vr ≡ None
right_longer vl vr i n s f rest inv count same e =
    let past : fields_count vl ≤ i = omega (arith, count, same) in
    inv join.Apart
    (ap (λ x. common_fields x (fields_after i vr)) (behind_past vl i past)
    ∙ ap (λ y. common_fields no_field_types y) (ap (λ k. fields_after k vr) same ∙ e))
