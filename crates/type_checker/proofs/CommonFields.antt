-- The common fields of two records, place by place.
use Rattle.std.proofs.Common.{◌≡◌, ◌∙◌, ℕ, zero, suc, ◌<◌, ◌≤◌, Bool, true, false, List, [], ◌∷◌, ◌++◌, Option, Some, None, option_map, refl, ap, sym, subst, arith, if◌then◌else◌, ◌&&◌}
use Rattle.std.specs.Str.{bytes_eq}
use Rattle.typing.specs.Types as types
use Rattle.typing.specs.Types.{record_type, FieldTypes, no_field_types, field_type, same_requirement, field_before, common, common_fields}
use Rattle.type_checker.specs.Views.{static_view}
use Rattle.type_checker.specs.inner.Parts.{part_view, built_view, fields_count, fields_after, before}
use Rattle.type_checker.specs.inner.Rows.{paired}
use Rattle.type_checker.specs.declared.static_type.StaticType.{StaticType}
use Rattle.type_checker.specs.declared.parts.FieldPart.{FieldPart}
use Rattle.type_checker.specs.declared.parts.FieldPair.{FieldPair}
use Rattle.type_checker.proofs.FieldLists.{Built, behind_past}
use Rattle.type_checker.proofs.Weighing.{weight, weights, lighter}

abbrev some : {A : Type 0} → A → Option A
some x = Some x

some_same : {A : Type 0} (x y : A) → some x ≡ some y → x ≡ y
some_same x y e = cc

-- these fields, and then the others
abbrev pub after : List Built → Option FieldTypes → Option FieldTypes
after [] o = o
after (f ∷ fs) o = option_map (field_type f.0.now (static_view f.1) f.2) (after fs o)

pub after_none : (fs : List Built) → after fs None ≡ None
after_none [] = refl
after_none (f ∷ fs) = ap (option_map (field_type f.0.now (static_view f.1) f.2)) (after_none fs)

pub after_all : (fs : List Built) → after fs (Some no_field_types) ≡ Some (built_view fs)
after_all [] = refl
after_all (f ∷ fs) = ap (option_map (field_type f.0.now (static_view f.1) f.2)) (after_all fs)

pub after_more : (fs : List Built) (f : Built) (o : Option FieldTypes)
    → after (fs ++ f ∷ []) o ≡ after fs (option_map (field_type f.0.now (static_view f.1) f.2) o)
after_more [] f o = refl
after_more (g ∷ fs) f o = ap (option_map (field_type g.0.now (static_view g.1) g.2)) (after_more fs f o)

field_some : (k : List ℕ) (r : Bool) (u : types.StaticType) (o : Option FieldTypes)
    → field_before k r (Some u) o ≡ option_map (field_type k u r) o
field_some k r u None = refl
field_some k r u (Some ts) = refl

-- two fields that go together, with the common type of both
pub step_both : (o p : Option FieldPart) (q : FieldPair) (u : types.StaticType) (xs ys : FieldTypes) → paired o p ≡ some q
    → common (part_view q.left) (part_view q.right) ≡ some u
    → common_fields (before o xs) (before p ys) ≡ option_map (field_type q.key.now u q.required) (common_fields xs ys)
step_both None p q u xs ys e h = absurd cc
step_both (Some a) None q u xs ys e h = absurd cc
step_both (Some a) (Some b) q u xs ys e h = at (bytes_eq a.key.now b.key.now && same_requirement a.required b.required) e
  where
    at : (c : Bool)
        → (if c then some (record { key = a.key; left = a.part; right = b.part; required = a.required }) else None) ≡ some q
        → (if c then field_before a.key.now a.required (common (part_view a.part) (part_view b.part)) (common_fields xs ys) else None)
        ≡ option_map (field_type q.key.now u q.required) (common_fields xs ys)
    at false f = absurd cc
    at true f =
        let same = some_same _ _ f in
        subst (λ (z : FieldPair). common (part_view z.left) (part_view z.right) ≡ some u
        → field_before a.key.now a.required (common (part_view a.part) (part_view b.part)) (common_fields xs ys)
        ≡ option_map (field_type z.key.now u z.required) (common_fields xs ys)) same
        (λ g. rw g (field_some a.key.now a.required u (common_fields xs ys))) h

-- and without one
pub step_none : (o p : Option FieldPart) (q : FieldPair) (xs ys : FieldTypes) → paired o p ≡ some q
    → common (part_view q.left) (part_view q.right) ≡ None → common_fields (before o xs) (before p ys) ≡ None
step_none None p q xs ys e h = absurd cc
step_none (Some a) None q xs ys e h = absurd cc
step_none (Some a) (Some b) q xs ys e h = at (bytes_eq a.key.now b.key.now && same_requirement a.required b.required) e
  where
    at : (c : Bool)
        → (if c then some (record { key = a.key; left = a.part; right = b.part; required = a.required }) else None) ≡ some q
        → (if c then field_before a.key.now a.required (common (part_view a.part) (part_view b.part)) (common_fields xs ys) else None)
        ≡ None
    at false f = refl
    at true f =
        let same = some_same _ _ f in
        subst (λ (z : FieldPair). common (part_view z.left) (part_view z.right) ≡ None
        → field_before a.key.now a.required (common (part_view a.part) (part_view b.part)) (common_fields xs ys) ≡ None) same
        (λ g. rw g refl) h

-- fields that do not go together
pub step_apart : (o p : Option FieldPart) (xs ys : FieldTypes) → paired o p ≡ None → (o ≡ None → ⊥)
    → common_fields (before o xs) (before p ys) ≡ None
step_apart None p xs ys e n = absurd (n refl)
step_apart (Some a) None xs ys e n = refl
step_apart (Some a) (Some b) xs ys e n = at (bytes_eq a.key.now b.key.now && same_requirement a.required b.required) e
  where
    at : (c : Bool)
        → (if c then some {A = FieldPair} (record { key = a.key; left = a.part; right = b.part; required = a.required }) else None) ≡ None
        → (if c then field_before a.key.now a.required (common (part_view a.part) (part_view b.part)) (common_fields xs ys) else None)
        ≡ None
    at false f = refl
    at true f = absurd cc

-- before the end there is a field
pub is_there : (ts : FieldTypes) (i : ℕ) (o : Option FieldPart) (rest : FieldTypes) → i < fields_count ts
    → fields_after i ts ≡ before o rest → o ≡ None → ⊥
is_there no_field_types i o rest less e n = omega (arith, less)
is_there (field_type k t r ts) zero None rest less e n = absurd cc
is_there (field_type k t r ts) zero (Some f) rest less e n = absurd cc
is_there (field_type k t r ts) (suc i) o rest less e n =
    let low : i < fields_count ts = omega (arith, less) in
    is_there ts i o rest low e n

-- ---- one place, and the end

pub both_at : (vl vr : FieldTypes) (i : ℕ) (o p : Option FieldPart) (z : Option FieldTypes)
    → fields_after i vl ≡ before o (fields_after (suc i) vl) → fields_after i vr ≡ before p (fields_after (suc i) vr)
    → common_fields (before o (fields_after (suc i) vl)) (before p (fields_after (suc i) vr)) ≡ z
    → common_fields (fields_after i vl) (fields_after i vr) ≡ z
both_at vl vr i o p z hl hr e =
    ap (λ x. common_fields x (fields_after i vr)) hl
    ∙ (ap (λ y. common_fields (before o (fields_after (suc i) vl)) y) hr ∙ e)

pub ends_none : (vl vr : FieldTypes) (fs : List Built) (a b : FieldTypes)
    → common_fields vl vr ≡ after fs (common_fields a b) → common_fields a b ≡ None
    → None ≡ option_map record_type (common_fields vl vr)
ends_none vl vr fs a b inv e = sym (ap (λ z. option_map record_type z) (inv ∙ (ap (λ z. after fs z) e ∙ after_none fs)))

pub more : (vl vr : FieldTypes) (fs : List Built) (i j : ℕ) (o p : Option FieldPart) (q : FieldPair) (ty : StaticType)
    → j ≡ suc i
    → common_fields vl vr ≡ after fs (common_fields (fields_after i vl) (fields_after i vr))
    → fields_after i vl ≡ before o (fields_after (suc i) vl) → fields_after i vr ≡ before p (fields_after (suc i) vr)
    → some q ≡ paired o p → common (part_view q.left) (part_view q.right) ≡ some (static_view ty)
    → common_fields vl vr ≡ after (fs ++ (q.key, ty, q.required) ∷ []) (common_fields (fields_after j vl) (fields_after j vr))
more vl vr fs i j o p q ty next inv hl hr e h =
    subst (λ n. common_fields vl vr ≡ after (fs ++ (q.key, ty, q.required) ∷ []) (common_fields (fields_after n vl) (fields_after n vr))) (sym next)
    (inv ∙ (ap (λ z. after fs z) (both_at vl vr i o p _ hl hr (step_both o p q (static_view ty) _ _ (sym e) h))
    ∙ sym (after_more fs (q.key, ty, q.required) (common_fields (fields_after (suc i) vl) (fields_after (suc i) vr)))))

-- behind all fields of the left, those of the right
at_end : (vl vr : FieldTypes) (i n : ℕ) (z : FieldTypes) → n ≡ fields_count vl → i ≡ n → fields_after n vr ≡ z
    → common_fields (fields_after i vl) (fields_after i vr) ≡ common_fields no_field_types z
at_end vl vr i n z count same e =
    let past : fields_count vl ≤ i = omega (arith, count, same) in
    ap (λ x. common_fields x (fields_after i vr)) (behind_past vl i past)
    ∙ ap (λ y. common_fields no_field_types y) (ap (λ k. fields_after k vr) same ∙ e)

pub last_some : (vl vr : FieldTypes) (fs : List Built) (i n : ℕ) (f : FieldPart) (rest : FieldTypes)
    → common_fields vl vr ≡ after fs (common_fields (fields_after i vl) (fields_after i vr))
    → n ≡ fields_count vl → i ≡ n → fields_after n vr ≡ before (some f) rest
    → None ≡ option_map record_type (common_fields vl vr)
last_some vl vr fs i n f rest inv count same e = ends_none vl vr fs (fields_after i vl) (fields_after i vr) inv (at_end vl vr i n _ count same e)

pub last_none : (vl vr : FieldTypes) (fs : List Built) (i n : ℕ)
    → common_fields vl vr ≡ after fs (common_fields (fields_after i vl) (fields_after i vr))
    → n ≡ fields_count vl → i ≡ n → fields_after n vr ≡ no_field_types
    → some (record_type (built_view fs)) ≡ option_map record_type (common_fields vl vr)
last_none vl vr fs i n inv count same e =
    sym (ap (λ z. option_map record_type z) (inv ∙ (ap (λ z. after fs z) (at_end vl vr i n no_field_types count same e) ∙ after_all fs)))

-- the recursion goes down
pub pair_lighter : (vl : FieldTypes) (i : ℕ) (o p : Option FieldPart) (q : FieldPair) (rest : FieldTypes)
    → fields_after i vl ≡ before o rest → some q ≡ paired o p → weight (part_view q.left) < weights vl
pair_lighter vl i None p q rest hl e = absurd cc
pair_lighter vl i (Some a) None q rest hl e = absurd cc
pair_lighter vl i (Some a) (Some b) q rest hl e = at (bytes_eq a.key.now b.key.now && same_requirement a.required b.required) e
  where
    at : (c : Bool)
        → some q ≡ (if c then some {A = FieldPair} (record { key = a.key; left = a.part; right = b.part; required = a.required }) else None)
        → weight (part_view q.left) < weights vl
    at false f = absurd cc
    at true f =
        subst (λ (z : FieldPair). weight (part_view z.left) < weights vl) (sym (some_same _ _ f))
        (lighter vl i a.key.now (part_view a.part) a.required rest hl)
