-- Facts about values and types: what a common type has, what stays of its type.
use Rattle.std.specs.Prelude.{◌≡◌, ℕ, List, [], ◌∷◌, Bool, true, false, ◌&&◌, Contains, Option, Some, None, if◌then◌else◌, refl}
use Rattle.std.proofs.Common.{inl, inr, ap, sym, ◌∙◌, subst}
use Rattle.std.proofs.lemmas.Bool.{false≢true}
use Rattle.std.proofs.lemmas.Slice.Eq.{bytes_eq-Decides}
use Rattle.std.proofs.lemmas.Map.Text.{is_eq-slice_cmp}
use Rattle.std.specs.Str.{bytes_eq}
use Rattle.std.specs.Option.{option_map, option_and_then}
use Rattle.std.specs.Ordering.{match_ordering, is_eq}
use Rattle.std.specs.declared.cmp.Ordering.{Ordering}
use Rattle.std.specs.declared.cmp.Ordering.TheVariants as order
use Rattle.values.specs.Uids.{text_cmp, text_cmp-IsAntisymmetric}
use Rattle.values.specs.Fields.{Field, put, find_field}
use Rattle.values.specs.Sets.{IsSetOf}
use Rattle.values.specs.Values.{PlainValue, PlainValues, PlainFields, set, record_of, values_of, fields_of, list_of, pairs_of, pairs_of-fields_of}
use Rattle.typing.specs.Types
use Rattle.typing.specs.Types.{StaticType, FieldTypes, Declared, common, common_fields, common_of, declared_as, field_declared_at, put_required, field_before, same_requirement}
use Rattle.typing.specs.Membership
use Rattle.typing.specs.Membership.{Of, EachOf, FieldOf}
use Rattle.plain.proofs.Members.{Contains-here, Contains-there, Contains-cases, Contains-none}

-- ---- tests

abbrev pub false_no_true : {A : Type 0} → false ≡ true → A
false_no_true e = absurd (false≢true e)

pub Some-same : {A : Type 0} {a b : A} → Some a ≡ Some b → a ≡ b
Some-same e = cc

pub None-Some : {A G : Type 0} {a : A} → None ≡ Some a → G
None-Some e = absurd (cc)

pub and_cases : (a b : Bool) → (a && b) ≡ true → (a ≡ true) × (b ≡ true)
and_cases true b e = (refl, e)
and_cases false b e = false_no_true e

pub same_name : (m n : List ℕ) → bytes_eq m n ≡ true → m ≡ n
same_name m n e = (bytes_eq-Decides m n).0 e

same_requirement_is : (a b : Bool) → same_requirement a b ≡ true → a ≡ b
same_requirement_is true b e = sym e
same_requirement_is false true e = false_no_true e
same_requirement_is false false e = refl

-- ---- common types

-- each value of s is one of t
abbrev pub Widens : StaticType → StaticType → Type 0
Widens s t = (v : PlainValue) → Of v s → Of v t

abbrev Covers : StaticType → StaticType → Option StaticType → Type 0
Covers s t None = Unit {0}
Covers s t (Some u) = Widens s u × Widens t u

abbrev FieldsWiden : FieldTypes → FieldTypes → Type 0
FieldsWiden ss ts = (k : List ℕ) (o : Option PlainValue) → FieldOf o (field_declared_at k ss) → FieldOf o (field_declared_at k ts)

abbrev FieldsCover : FieldTypes → FieldTypes → Option FieldTypes → Type 0
FieldsCover ss ts None = Unit {0}
FieldsCover ss ts (Some us) = FieldsWiden ss us × FieldsWiden ts us

stays : (t : StaticType) → Widens t t
stays t v h = h

truth_widens : Widens Types.true_type Types.boolean_type
truth_widens _ Membership.of_true = Membership.of_boolean

falsity_widens : Widens Types.false_type Types.boolean_type
falsity_widens _ Membership.of_false = Membership.of_boolean

each_widens : {vs : PlainValues} {s u : StaticType} → Widens s u → EachOf vs s → EachOf vs u
each_widens f Membership.each_none = Membership.each_none
each_widens f (Membership.each_more h hs) = Membership.each_more (f _ h) (each_widens f hs)

set_widens : (s u : StaticType) → Widens s u → Widens (Types.set_type s) (Types.set_type u)
set_widens s u f _ (Membership.of_set h) = Membership.of_set (each_widens f h)

record_widens : (ss us : FieldTypes) → FieldsWiden ss us → Widens (Types.record_type ss) (Types.record_type us)
record_widens ss us f _ (Membership.of_record h) = Membership.of_record (λ k. f k _ (h k))

set_covers : (s t : StaticType) (o : Option StaticType) → Covers s t o → Covers (Types.set_type s) (Types.set_type t) (option_map Types.set_type o)
set_covers s t None h = tt
set_covers s t (Some u) h = (set_widens s u h.0, set_widens t u h.1)

record_covers : (ss ts : FieldTypes) (o : Option FieldTypes) → FieldsCover ss ts o → Covers (Types.record_type ss) (Types.record_type ts) (option_map Types.record_type o)
record_covers ss ts None h = tt
record_covers ss ts (Some us) h = (record_widens ss us h.0, record_widens ts us h.1)

entity_covers : (m n : List ℕ) (b : Bool) → (b ≡ true → m ≡ n) → Covers (Types.entity_type m) (Types.entity_type n) (if b then Some (Types.entity_type m) else None)
entity_covers m n true e = (stays (Types.entity_type m), λ v h. subst (λ k. Of v (Types.entity_type k)) (sym (e refl)) h)
entity_covers m n false e = tt

declared_widens : (r : Bool) {o : Option PlainValue} (s u : StaticType) → Widens s u → FieldOf o (declared_as r s) → FieldOf o (declared_as r u)
declared_widens true s u f (Membership.has_required h) = Membership.has_required (f _ h)
declared_widens false s u f Membership.left_out = Membership.left_out
declared_widens false s u f (Membership.has_optional h) = Membership.has_optional (f _ h)

-- what is declared at k, where b says that k is the first key
field_widens : (b r : Bool) {o : Option PlainValue} (s u : StaticType) (d e : Declared) → Widens s u → (FieldOf o d → FieldOf o e)
    → FieldOf o (if b then declared_as r s else d) → FieldOf o (if b then declared_as r u else e)
field_widens true r s u d e f g h = declared_widens r s u f h
field_widens false r s u d e f g h = g h

more_cover : (k : List ℕ) (r : Bool) (s t : StaticType) (ss ts : FieldTypes) (o : Option StaticType) (p : Option FieldTypes) → Covers s t o → FieldsCover ss ts p
    → FieldsCover (Types.field_type k s r ss) (Types.field_type k t r ts) (field_before k r o p)
more_cover k r s t ss ts (Some u) (Some us) h hs = (
  λ l o. field_widens (bytes_eq l k) r s u _ _ h.0 (hs.0 l o),
  λ l o. field_widens (bytes_eq l k) r t u _ _ h.1 (hs.1 l o),
)
more_cover k r s t ss ts (Some u) None h hs = tt
more_cover k r s t ss ts None p h hs = tt

same_field_cover : (k l : List ℕ) (r q b : Bool) (s t : StaticType) (ss ts : FieldTypes) (o : Option FieldTypes) → (b ≡ true → (k ≡ l) × (r ≡ q))
    → FieldsCover (Types.field_type k s r ss) (Types.field_type k t r ts) o
    → FieldsCover (Types.field_type k s r ss) (Types.field_type l t q ts) (if b then o else None)
same_field_cover k l r q true s t ss ts o e h =
    subst (λ m. FieldsCover (Types.field_type k s r ss) (Types.field_type m t q ts) o) (e refl).0
    (subst (λ p. FieldsCover (Types.field_type k s r ss) (Types.field_type k t p ts) o) (e refl).1 h)
same_field_cover k l r q false s t ss ts o e h = tt

same_head : (k l : List ℕ) (r q : Bool) → (bytes_eq k l && same_requirement r q) ≡ true → (k ≡ l) × (r ≡ q)
same_head k l r q e = let c = and_cases (bytes_eq k l) (same_requirement r q) e in (same_name k l c.0, same_requirement_is r q c.1)

mutual
  -- a common type has the values of both types
  covers : (s t : StaticType) → Covers s t (common s t)
  covers Types.true_type Types.true_type = (λ v h. h, λ v h. h)
  covers Types.true_type Types.false_type = (truth_widens, falsity_widens)
  covers Types.true_type Types.boolean_type = (truth_widens, λ v h. h)
  covers Types.false_type Types.true_type = (falsity_widens, truth_widens)
  covers Types.false_type Types.false_type = (λ v h. h, λ v h. h)
  covers Types.false_type Types.boolean_type = (falsity_widens, λ v h. h)
  covers Types.boolean_type Types.true_type = (λ v h. h, truth_widens)
  covers Types.boolean_type Types.false_type = (λ v h. h, falsity_widens)
  covers Types.boolean_type Types.boolean_type = (λ v h. h, λ v h. h)
  covers Types.long_type Types.long_type = (λ v h. h, λ v h. h)
  covers Types.text_type Types.text_type = (λ v h. h, λ v h. h)
  covers (Types.entity_type m) (Types.entity_type n) = entity_covers m n (bytes_eq m n) (same_name m n)
  covers (Types.set_type s) (Types.set_type t) = set_covers s t (common s t) (covers s t)
  covers (Types.record_type ss) (Types.record_type ts) = record_covers ss ts (common_fields ss ts) (fields_cover ss ts)
  covers Types.decimal_type Types.decimal_type = (λ v h. h, λ v h. h)
  covers Types.ipaddr_type Types.ipaddr_type = (λ v h. h, λ v h. h)
  covers s t = tt

  fields_cover : (ss ts : FieldTypes) → FieldsCover ss ts (common_fields ss ts)
  fields_cover Types.no_field_types Types.no_field_types = (λ k o h. h, λ k o h. h)
  fields_cover (Types.field_type k s r ss) (Types.field_type l t q ts) =
      same_field_cover k l r q (bytes_eq k l && same_requirement r q) s t ss ts (field_before k r (common s t) (common_fields ss ts))
      (same_head k l r q) (more_cover k r s t ss ts (common s t) (common_fields ss ts) (covers s t) (fields_cover ss ts))
  fields_cover ss ts = tt

pub common_has : (s t u : StaticType) → common s t ≡ Some u → Widens s u × Widens t u
common_has s t u e = let P : Option StaticType → Type 0 = Covers s t in subst P e (covers s t)

-- ---- sets

-- each value is of the type at its place
abbrev pub AllOf : List PlainValue → List StaticType → Type 0
AllOf [] [] = Unit {0}
AllOf (v ∷ vs) (t ∷ ts) = Of v t × AllOf vs ts
AllOf vs ts = ⊥

-- each value is of the type
abbrev pub EachIn : List PlainValue → StaticType → Type 0
EachIn [] t = Unit {0}
EachIn (v ∷ vs) t = Of v t × EachIn vs t

HasAll : StaticType → List StaticType → StaticType → Type 0
HasAll t ts u = Widens t u × ((vs : List PlainValue) → AllOf vs ts → EachIn vs u)

no_more : (t u : StaticType) (vs : List PlainValue) → AllOf vs [] → EachIn vs u
no_more t u [] h = tt
no_more t u (v ∷ vs) h = absurd h

one_more : (s u : StaticType) (ss : List StaticType) → Widens s u → ((vs : List PlainValue) → AllOf vs ss → EachIn vs u) → (vs : List PlainValue)
    → AllOf vs (s ∷ ss) → EachIn vs u
one_more s u ss f g [] h = absurd h
one_more s u ss f g (v ∷ vs) h = (f v h.0, g vs h.1)

next_has_all : (t s : StaticType) (ss : List StaticType) (u : StaticType) (o : Option StaticType) → common t s ≡ o
    → ((w : StaticType) → common_of w ss ≡ Some u → HasAll w ss u) → option_and_then (λ w. common_of w ss) o ≡ Some u
    → HasAll t (s ∷ ss) u
unfolding HasAll
next_has_all t s ss u None c f e = None-Some e
next_has_all t s ss u (Some w) c f e =
    let both = common_has t s w c in
    let rest = f w e in
    (λ v h. rest.0 v (both.0 v h), one_more s u ss (λ v h. rest.0 v (both.1 v h)) rest.1)

-- the common type of several has the values of all
has_all : (t : StaticType) (ts : List StaticType) (u : StaticType) → common_of t ts ≡ Some u → HasAll t ts u
unfolding HasAll
has_all t [] u e = (λ v h. subst (Of v) (Some-same e) h, λ vs h. no_more t u vs h)
has_all t (s ∷ ss) u e = next_has_all t s ss u (common t s) refl (λ w h. has_all w ss u h) e

pub common_of_has : (t : StaticType) (ts : List StaticType) (u : StaticType) → common_of t ts ≡ Some u → (v : PlainValue) (vs : List PlainValue)
    → Of v t → AllOf vs ts → EachIn (v ∷ vs) u
unfolding HasAll
common_of_has t ts u e v vs h hs = let all = has_all t ts u e in (all.0 v h, all.1 vs hs)

each_in_at : (vs : List PlainValue) (t : StaticType) → EachIn vs t → (v : PlainValue) → Contains vs v → Of v t
each_in_at [] t h v c = Contains-none v c
each_in_at (w ∷ ws) t h v c = elim (Contains-cases w ws v c) [
  | inl e ↦ subst (λ x. Of x t) e h.0
  | inr m ↦ each_in_at ws t h.1 v m
]

each_from : (vs : List PlainValue) (t : StaticType) → ((v : PlainValue) → Contains vs v → Of v t) → EachOf (values_of vs) t
each_from [] t f = Membership.each_none
each_from (v ∷ vs) t f = Membership.each_more (f v (Contains-here v vs)) (each_from vs t (λ w c. f w (Contains-there v vs w c)))

pub each_at : {vs : PlainValues} {t : StaticType} → EachOf vs t → (v : PlainValue) → Contains (list_of vs) v → Of v t
each_at Membership.each_none v c = Contains-none v c
each_at (Membership.each_more {v = w} {vs = ws} {t} h hs) v c = elim (Contains-cases w (list_of ws) v c) [
  | inl e ↦ subst (λ x. Of x t) e h
  | inr m ↦ each_at hs v m
]

-- a set of values of a type is a set of that type
pub set_of : (vs s : List PlainValue) (t : StaticType) → IsSetOf vs s → EachIn vs t → Of (set (values_of s)) (Types.set_type t)
set_of vs s t i h = Membership.of_set (each_from s t (λ v c. each_in_at vs t h v ((i.members v).0 c)))

-- ---- fields that are put

-- what stands at k, where the tests b and c exclude one another
swap : {A : Type 0} (b c : Bool) (x y z : A) → (b ≡ true → c ≡ true → ⊥) → (if b then x else (if c then y else z)) ≡ (if c then y else (if b then x else z))
swap true true x y z h = absurd (h refl refl)
swap true false x y z h = refl
swap false c x y z h = refl

again : {A : Type 0} (b : Bool) (x y z : A) → (if b then x else z) ≡ (if b then x else (if b then y else z))
again true x y z = refl
again false x y z = refl

by_order : {A : Type 0} (o : Ordering) (x y : A) → match_ordering o x y x ≡ (if is_eq o then y else x)
by_order order.Less x y = refl
by_order order.Equal x y = refl
by_order order.Greater x y = refl

pub find_first : (l : List ℕ) (f : Field) (fs : List Field) → find_field l (f ∷ fs) ≡ (if bytes_eq l f.0 then Some f.1 else find_field l fs)
find_first l f fs =
    by_order (text_cmp l f.0) (find_field l fs) (Some f.1) ∙ ap (λ b. if b then Some f.1 else find_field l fs) (is_eq-slice_cmp l f.0)

equal_only : (p : Ordering) → is_eq p ≡ true → p ≡ order.Equal
equal_only order.Less e = false_no_true e
equal_only order.Equal e = refl
equal_only order.Greater e = false_no_true e

no_two : (k j l : List ℕ) (o : Ordering) → text_cmp k j ≡ o → (o ≡ order.Equal → ⊥) → bytes_eq l j ≡ true → bytes_eq l k ≡ true → ⊥
no_two k j l o e n h g =
    n (sym e ∙ (ap (λ i. text_cmp i j) (sym (same_name l k g) ∙ same_name l j h) ∙ equal_only (text_cmp j j) (is_eq-slice_cmp j j ∙ (bytes_eq-Decides j j).1 refl)))

found_after_put : (l k : List ℕ) (v : PlainValue) (f : Field) (fs gs : List Field) (o : Ordering) → text_cmp k f.0 ≡ o
    → find_field l gs ≡ (if bytes_eq l k then Some v else find_field l fs)
    → find_field l (match_ordering o ((k, v) ∷ f ∷ fs) ((f.0, v) ∷ fs) (f ∷ gs)) ≡ (if bytes_eq l k then Some v else find_field l (f ∷ fs))
found_after_put l k v f fs gs order.Less e h = find_first l (k, v) (f ∷ fs)
found_after_put l k v f fs gs order.Equal e h =
    find_first l (f.0, v) fs
    ∙ (subst (λ i. (if bytes_eq l f.0 then Some v else find_field l fs) ≡ (if bytes_eq l i then Some v else (if bytes_eq l f.0 then Some f.1 else find_field l fs)))
    (sym (text_cmp-IsAntisymmetric k f.0 e)) (again (bytes_eq l f.0) (Some v) (Some f.1) (find_field l fs))
    ∙ ap (λ x. if bytes_eq l k then Some v else x) (sym (find_first l f fs)))
found_after_put l k v f fs gs order.Greater e h =
    find_first l f gs
    ∙ (ap (λ x. if bytes_eq l f.0 then Some f.1 else x) h
    ∙ (swap (bytes_eq l f.0) (bytes_eq l k) (Some f.1) (Some v) (find_field l fs) (no_two k f.0 l order.Greater e (λ i. cc))
    ∙ ap (λ x. if bytes_eq l k then Some v else x) (sym (find_first l f fs))))

find_put : (l k : List ℕ) (v : PlainValue) (fs : List Field) → find_field l (put k v fs) ≡ (if bytes_eq l k then Some v else find_field l fs)
find_put l k v [] = find_first l (k, v) []
find_put l k v (f ∷ fs) = found_after_put l k v f fs (put k v fs) (text_cmp k f.0) refl (find_put l k v fs)

declared_after_put : (l k j : List ℕ) (r : Bool) (t s : StaticType) (ts us : FieldTypes) (o : Ordering) → text_cmp k j ≡ o
    → field_declared_at l us ≡ (if bytes_eq l k then Types.required t else field_declared_at l ts)
    → field_declared_at l (match_ordering o (Types.field_type k t true (Types.field_type j s r ts)) (Types.field_type j t true ts) (Types.field_type j s r us))
    ≡ (if bytes_eq l k then Types.required t else (if bytes_eq l j then declared_as r s else field_declared_at l ts))
declared_after_put l k j r t s ts us order.Less e h = refl
declared_after_put l k j r t s ts us order.Equal e h =
    subst (λ i. (if bytes_eq l j then Types.required t else field_declared_at l ts) ≡ (if bytes_eq l i then Types.required t else (if bytes_eq l j then declared_as r s else field_declared_at l ts)))
    (sym (text_cmp-IsAntisymmetric k j e)) (again (bytes_eq l j) (Types.required t) (declared_as r s) (field_declared_at l ts))
declared_after_put l k j r t s ts us order.Greater e h =
    ap (λ x. if bytes_eq l j then declared_as r s else x) h
    ∙ swap (bytes_eq l j) (bytes_eq l k) (declared_as r s) (Types.required t) (field_declared_at l ts) (no_two k j l order.Greater e (λ i. cc))

declared_put : (l k : List ℕ) (t : StaticType) (ts : FieldTypes) → field_declared_at l (put_required k t ts) ≡ (if bytes_eq l k then Types.required t else field_declared_at l ts)
declared_put l k t Types.no_field_types = refl
declared_put l k t (Types.field_type j s r ts) = declared_after_put l k j r t s ts (put_required k t ts) (text_cmp k j) refl (declared_put l k t ts)

-- the fields fit the types, key by key
abbrev pub FieldsFit : List Field → FieldTypes → Type 0
FieldsFit fs ts = (k : List ℕ) → FieldOf (find_field k fs) (field_declared_at k ts)

put_case : (b : Bool) {o : Option PlainValue} {d : Declared} (v : PlainValue) (t : StaticType) → Of v t → FieldOf o d
    → FieldOf (if b then Some v else o) (if b then Types.required t else d)
put_case true v t h g = Membership.has_required h
put_case false v t h g = g

pub put_fits : (k : List ℕ) (v : PlainValue) (t : StaticType) (fs : List Field) (ts : FieldTypes) → Of v t → FieldsFit fs ts
    → FieldsFit (put k v fs) (put_required k t ts)
put_fits k v t fs ts h g = λ l.
    subst (λ o. FieldOf o (field_declared_at l (put_required k t ts))) (sym (find_put l k v fs))
    (subst (λ d. FieldOf (if bytes_eq l k then Some v else find_field l fs) d) (sym (declared_put l k t ts)) (put_case (bytes_eq l k) v t h (g l)))

pub record_fits : (fs : List Field) (ts : FieldTypes) → FieldsFit fs ts → Of (record_of (fields_of fs)) (Types.record_type ts)
record_fits fs ts h = Membership.of_record (λ k. subst (λ gs. FieldOf (find_field k gs) (field_declared_at k ts)) (sym (pairs_of-fields_of fs)) (h k))

pub fields_fit : (fs : List Field) (ts : FieldTypes) → Of (record_of (fields_of fs)) (Types.record_type ts) → FieldsFit fs ts
fields_fit fs ts h = λ k. subst (λ gs. FieldOf (find_field k gs) (field_declared_at k ts)) (pairs_of-fields_of fs) (at k h)
  where
    at : {gs : PlainFields} {us : FieldTypes} (k : List ℕ) → Of (record_of gs) (Types.record_type us) → FieldOf (find_field k (pairs_of gs)) (field_declared_at k us)
    at k (Membership.of_record f) = f k
