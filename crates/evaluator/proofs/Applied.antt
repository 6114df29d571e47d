-- What operators, `in`, fields and `has` compute is what their rules give, where a test decides who is above whom.
use Rattle.std.specs.Prelude.{◌≡◌, ◌⊎◌, ◌↔◌, ℕ, ℤ, neg_ℤ, ◌+ℤ◌, ◌-ℤ◌, ◌*ℤ◌, int_lt, int_le, List, [], ◌∷◌, map, Bool}
use Rattle.std.specs.Prelude.{not, ◌||◌, IsTrue, Contains, Option, Some, None, is_some, Ok, Err, refl}
use Rattle.std.proofs.Common.{inl, inr, ap, sym, subst, ◌∙◌}
use Rattle.std.specs.List.{list_any, list_all}
use Rattle.std.specs.Ordering.{is_eq}
use Rattle.std.specs.Str.{bytes_eq}
use Rattle.std.proofs.lemmas.Slice.Eq.{bytes_eq-Decides}
use Rattle.values.specs.extensions.Network.{Network}
use Rattle.values.specs.extensions.DecimalText.{IsDecimalText}
use Rattle.values.specs.extensions.NetworkText.{IsNetworkText}
use Rattle.values.specs.declared.entity_uid.EntityUid.{EntityUid}
use Rattle.values.specs.Fields.{Field, find_field}
use Rattle.values.specs.Sets.{has_member}
use Rattle.values.specs.Values.{PlainValue, PlainValues, PlainFields, boolean, long, text, entity, set, record_of}
use Rattle.values.specs.Values.{decimal, ipaddr, list_of, pairs_of}
use Rattle.values.specs.ValueOrder.{value_cmp}
use Rattle.values.specs.Laws.{SetsHoldTheirMembers, SetsAreOneList, MemberTestIsExact}
use Rattle.plain.proofs.Members.{Contains-here, Contains-there, Contains-cases, Contains-none}
use Rattle.ancestor_search.specs.Decided.{Decides}
use Rattle.grammar_core.specs.LikeTest.{is_match, is_match-Decides}
use Rattle.grammar_core.specs.declared.operator.Unary.{Unary}
use Rattle.grammar_core.specs.declared.operator.Unary.TheVariants.{Not, Negate, Like, Is}
use Rattle.grammar_core.specs.declared.operator.Binary.{Binary}
use Rattle.grammar_core.specs.declared.operator.Binary.TheVariants as ops
use Rattle.evaluator_steps.specs.Attributes.{AttributeGives}
use Rattle.evaluator_steps.specs.Attributes as of_stored
use Rattle.evaluator.specs.declared.fault.EvalFault.TheVariants.{EntityDoesNotExist, AttrDoesNotExist, TypeError}
use Rattle.evaluator.specs.Outcomes.{EvaluationResult, boolean_in, long_in, text_in, entity_uid_in, members_in}
use Rattle.evaluator.specs.Outcomes.{record_fields_in}
use Rattle.ancestor_search.specs.Hierarchy.{IsIn}
use Rattle.evaluator.specs.Operators as rule
use Rattle.evaluator.specs.Operators.{Entities, UnaryGives, BinaryGives, FieldGives, HasGives, NumbersGive, TakesNumbers}
use Rattle.evaluator.specs.Operators.{TakesSets}
use Rattle.evaluator.specs.inner.Computing.{DecidedEntities, decided_entities, and_then, demanded, two_demanded, truth}
use Rattle.evaluator.specs.inner.Computing.{bounded, apply_unary, is_in, in_members, in_value, numbers, sets}
use Rattle.evaluator.specs.inner.Computing.{apply_binary, found_or, attribute, field_of, has_attribute}
use Rattle.evaluator.specs.inner.Computing.{has_field}
use Rattle.evaluator.proofs.ByKind.{boolean_cases, long_cases, text_cases, entity_cases, members_cases}
use Rattle.evaluator.proofs.Telling.{tells_test, test_is, int_lt_iff, int_le_iff, comes_bounded, bounded_is}
use Rattle.evaluator.proofs.Telling.{value_eq_iff, any_iff, all_iff, is_in_iff}

-- a text is of one decimal at most, and of one address at most
abbrev pub OneDecimal : Type 0
OneDecimal = (t : List ℕ) (y z : ℤ) → IsDecimalText t y → IsDecimalText t z → y ≡ z

abbrev pub OneNetwork : Type 0
OneNetwork = (t : List ℕ) (m n : Network) → IsNetworkText t m → IsNetworkText t n → m ≡ n

-- the laws of the crates below that are used here
pub record LawsBelow : Type 0 where
  pub decimals : OneDecimal
  pub networks : OneNetwork
  pub made : SetsHoldTheirMembers
  pub one : SetsAreOneList
  pub told : MemberTestIsExact

-- where something else was demanded
pub other : {A : Type 0} (f : A → EvaluationResult) (R : EvaluationResult → Type 0) (o : Option A) → o ≡ None → R (Err TypeError) → R (and_then (demanded o) f)
other f R o e h = subst (λ x. R (and_then (demanded x) f)) (sym e) h

pub other_is : {A : Type 0} (f : A → EvaluationResult) (o : Option A) → o ≡ None → and_then (demanded o) f ≡ Err TypeError
other_is f o e = ap (λ x. and_then (demanded x) f) e

pub others_are : {A B : Type 0} (f : A → B → EvaluationResult) (o : Option A) (p : Option B) → (o ≡ None) ⊎ (p ≡ None) → and_then (demanded o) (λ x. and_then (demanded p) (λ y. f x y)) ≡ Err TypeError
others_are f None p h = refl
others_are f (Some x) p (inl e) = absurd (cc)
others_are f (Some x) p (inr e) = ap (λ q. and_then (demanded q) (f x)) e

-- both are asked for, and then what they hold is gone on with
pub two_others : {A B : Type 0} (f : A × B → EvaluationResult) (R : EvaluationResult → Type 0) (o : Option A) (p : Option B) → (o ≡ None) ⊎ (p ≡ None) → R (Err TypeError) → R (and_then (two_demanded o p) f)
two_others f R None p h r = r
two_others f R (Some x) p (inl e) r = absurd (cc)
two_others f R (Some x) p (inr e) r = subst (λ q. R (and_then (two_demanded (Some x) q) f)) (sym e) r

pub two_others_are : {A B : Type 0} (f : A × B → EvaluationResult) (o : Option A) (p : Option B) → (o ≡ None) ⊎ (p ≡ None) → and_then (two_demanded o p) f ≡ Err TypeError
two_others_are f o p h = two_others f (λ r. r ≡ Err TypeError) o p h refl

-- ---- one operand

pub unary_exists : (op : Unary) (v : PlainValue) → UnaryGives op v (apply_unary op v)
unary_exists Not v = boolean_cases (λ v. UnaryGives Not v (apply_unary Not v))
    (λ b. rule.negation)
    (λ v e. other (λ b. truth (not b)) (UnaryGives Not v) (boolean_in v) e (rule.negation_of_other e)) v
unary_exists Negate v = long_cases (λ v. UnaryGives Negate v (apply_unary Negate v))
    (λ z. rule.opposite (comes_bounded (neg_ℤ z)))
    (λ v e. other (λ z. bounded (neg_ℤ z)) (UnaryGives Negate v) (long_in v) e (rule.opposite_of_other e)) v
unary_exists (Like pattern) v = text_cases (λ v. UnaryGives (Like pattern) v (apply_unary (Like pattern) v))
    (λ t. rule.like_text (tells_test (is_match pattern t) (is_match-Decides pattern t)))
    (λ v e. other (λ t. truth (is_match pattern t)) (UnaryGives (Like pattern) v) (text_in v) e (rule.like_of_other e)) v
unary_exists (Is name) v = entity_cases (λ v. UnaryGives (Is name) v (apply_unary (Is name) v))
    (λ u. rule.is_entity (tells_test (bytes_eq u.type_name name) (bytes_eq-Decides u.type_name name)))
    (λ v e. other (λ u. truth (bytes_eq u.type_name name)) (UnaryGives (Is name) v) (entity_uid_in v) e (rule.is_of_other e)) v

pub unary_is : (op : Unary) (v : PlainValue) (r : EvaluationResult) → UnaryGives op v r → apply_unary op v ≡ r
unary_is _ _ _ rule.negation = refl
unary_is _ _ _ (rule.negation_of_other {v} e) = other_is (λ b. truth (not b)) (boolean_in v) e
unary_is _ _ _ (rule.opposite {z} {r} h) = bounded_is (neg_ℤ z) r h
unary_is _ _ _ (rule.opposite_of_other {v} e) = other_is (λ z. bounded (neg_ℤ z)) (long_in v) e
unary_is _ _ _ (rule.like_text {pattern} {t} {r} h) = test_is (is_match pattern t) (is_match-Decides pattern t) r h
unary_is _ _ _ (rule.like_of_other {pattern} {v} e) = other_is (λ t. truth (is_match pattern t)) (text_in v) e
unary_is _ _ _ (rule.is_entity {name} {u} {r} h) = test_is (bytes_eq u.type_name name) (bytes_eq-Decides u.type_name name) r h
unary_is _ _ _ (rule.is_of_other {name} {v} e) = other_is (λ u. truth (bytes_eq u.type_name name)) (entity_uid_in v) e

-- ---- lists of entities

pub all_entities : (vs : List PlainValue) → ((us : List EntityUid) × (vs ≡ map entity us)) ⊎ ((v : PlainValue) × Contains vs v × (entity_uid_in v ≡ None))
all_entities [] = inl ([], refl)
all_entities (v ∷ vs) = entity_cases (λ v. ((us : List EntityUid) × (v ∷ vs ≡ map entity us)) ⊎ ((w : PlainValue) × Contains (v ∷ vs) w × (entity_uid_in w ≡ None)))
    (λ u. elim (all_entities vs) [
      | inl h ↦ inl (u ∷ h.0, ap (λ ws. entity u ∷ ws) h.1)
      | inr h ↦ inr (h.0, Contains-there (entity u) vs h.0 h.1, h.2)
    ])
    (λ v e. inr (v, Contains-here v vs, e)) v

fault_anyway : {A : Type 0} (o : Option A) → and_then {A = A} {B = Bool} (demanded o) (λ b. Err TypeError) ≡ Err TypeError
fault_anyway None = refl
fault_anyway (Some a) = refl

-- ---- what is stored of an entity

found_gives : (stored : Option (List Field)) (name : List ℕ) (fs : List Field) (o : Option PlainValue) → stored ≡ Some fs → find_field name fs ≡ o
    → AttributeGives EntityDoesNotExist AttrDoesNotExist stored name (found_or AttrDoesNotExist o)
found_gives stored name fs None s e = of_stored.no_attribute fs s e
found_gives stored name fs (Some v) s e = of_stored.attribute fs s e

attribute_from : (stored : Option (List Field)) (name : List ℕ) (o : Option (List Field)) → stored ≡ o → AttributeGives EntityDoesNotExist AttrDoesNotExist stored name (attribute o name)
attribute_from stored name None s = of_stored.not_stored s
attribute_from stored name (Some fs) s = found_gives stored name fs (find_field name fs) s refl

attribute_gives : (stored : Option (List Field)) (name : List ℕ) → AttributeGives EntityDoesNotExist AttrDoesNotExist stored name (attribute stored name)
attribute_gives stored name = attribute_from stored name stored refl

pub attribute_is : (stored : Option (List Field)) (name : List ℕ) (r : EvaluationResult) → AttributeGives EntityDoesNotExist AttrDoesNotExist stored name r → attribute stored name ≡ r
attribute_is stored name _ (of_stored.attribute fs s e) = ap (λ o. attribute o name) s ∙ ap (found_or AttrDoesNotExist) e
attribute_is stored name _ (of_stored.no_attribute fs s e) = ap (λ o. attribute o name) s ∙ ap (found_or AttrDoesNotExist) e
attribute_is stored name _ (of_stored.not_stored s) = ap (λ o. attribute o name) s

module _ (W : Entities) (ancestor_test : EntityUid → EntityUid → Bool) (D : Decides W.parents ancestor_test) where
  abbrev pub E : DecidedEntities
  E = decided_entities W.stored ancestor_test

  members_are : (a : EntityUid) (us : List EntityUid) → in_members E a (map entity us) ≡ Ok (list_any (is_in E a) us)
  members_are a [] = refl
  members_are a (u ∷ us) = ap (λ r. and_then r (λ rest. Ok (is_in E a u || rest))) (members_are a us)

  mixed_are : (a : EntityUid) (vs : List PlainValue) (v : PlainValue) → Contains vs v → entity_uid_in v ≡ None → in_members E a vs ≡ Err TypeError
  mixed_are a [] v c e = absurd (Contains-none v c)
  mixed_are a (w ∷ vs) v c e = elim (Contains-cases w vs v c) [
    | inl same ↦ ap (λ o. and_then (demanded o) (λ b. and_then (in_members E a vs) (λ rest. Ok (is_in E a b || rest)))) (ap entity_uid_in same ∙ e)
    | inr m ↦ ap (λ r. and_then (demanded (entity_uid_in w)) (λ b. and_then r (λ rest. Ok (is_in E a b || rest)))) (mixed_are a vs v m e) ∙ fault_anyway (entity_uid_in w)
  ]

  some_iff : (a : EntityUid) (us : List EntityUid) → IsTrue (list_any (is_in E a) us) ↔ ((u : EntityUid) × Contains us u × IsIn W.parents a u)
  some_iff a us = any_iff (is_in E a) (IsIn W.parents a) (λ u. is_in_iff W ancestor_test D a u) us

  in_set_is : (a : EntityUid) (vs : List PlainValue) (us : List EntityUid) → vs ≡ map entity us → and_then (in_members E a vs) truth ≡ truth (list_any (is_in E a) us)
  in_set_is a vs us e = ap (λ ws. and_then (in_members E a ws) truth) e ∙ ap (λ r. and_then r truth) (members_are a us)

  set_exists : (a : EntityUid) (vs : PlainValues) → BinaryGives W ops.In (entity a) (set vs) (and_then (in_members E a (list_of vs)) truth)
  set_exists a vs = elim (all_entities (list_of vs)) [
    | inl h ↦ subst (BinaryGives W ops.In (entity a) (set vs)) (sym (in_set_is a (list_of vs) h.0 h.1))
        (rule.in_set h.0 h.1 (tells_test (list_any (is_in E a) h.0) (some_iff a h.0)))
    | inr h ↦ subst (BinaryGives W ops.In (entity a) (set vs)) (sym (ap (λ r. and_then r truth) (mixed_are a (list_of vs) h.0 h.1 h.2)))
        (rule.in_mixed_set h.0 h.1 h.2)
  ]

  in_exists : (a : EntityUid) (w : PlainValue) → BinaryGives W ops.In (entity a) w (in_value E a w)
  in_exists a (entity b) = rule.in_entity (tells_test (is_in E a b) (is_in_iff W ancestor_test D a b))
  in_exists a (set vs) = set_exists a vs
  in_exists a (boolean b) = rule.in_other refl refl
  in_exists a (long z) = rule.in_other refl refl
  in_exists a (text t) = rule.in_other refl refl
  in_exists a (record_of fs) = rule.in_other refl refl
  in_exists a (decimal z) = rule.in_other refl refl
  in_exists a (ipaddr n) = rule.in_other refl refl

  in_other_is : (a : EntityUid) (w : PlainValue) → entity_uid_in w ≡ None → members_in w ≡ None → in_value E a w ≡ Err TypeError
  in_other_is a (entity b) e f = absurd (cc)
  in_other_is a (set vs) e f = absurd (cc)
  in_other_is a (boolean b) e f = refl
  in_other_is a (long z) e f = refl
  in_other_is a (text t) e f = refl
  in_other_is a (record_of fs) e f = refl
  in_other_is a (decimal z) e f = refl
  in_other_is a (ipaddr n) e f = refl

  -- ---- two operands

  numbers_exist : (op : Binary) (f : ℤ → ℤ → EvaluationResult) → TakesNumbers op → ((x y : ℤ) → BinaryGives W op (long x) (long y) (f x y)) → (v w : PlainValue) → BinaryGives W op v w (numbers f v w)
  numbers_exist op f takes h v w = long_cases (λ v. BinaryGives W op v w (numbers f v w))
      (λ x. long_cases (λ w. BinaryGives W op (long x) w (numbers f (long x) w)) (h x)
      (λ w e. two_others (λ p. f p.0 p.1) (BinaryGives W op (long x) w) (Some x) (long_in w) (inr e) (rule.no_numbers takes (inr e))) w)
      (λ v e. two_others (λ p. f p.0 p.1) (BinaryGives W op v w) (long_in v) (long_in w) (inl e) (rule.no_numbers takes (inl e))) v

  sets_exist : (op : Binary) (f : List PlainValue → List PlainValue → Bool) → TakesSets op → ((vs ws : PlainValues) → BinaryGives W op (set vs) (set ws) (truth (f (list_of vs) (list_of ws)))) → (v w : PlainValue) → BinaryGives W op v w (sets f v w)
  sets_exist op f takes h v w = members_cases (λ v. BinaryGives W op v w (sets f v w))
      (λ x. members_cases (λ w. BinaryGives W op (set x) w (sets f (set x) w)) (h x)
      (λ w e. other (λ y. truth (f (list_of x) y)) (BinaryGives W op (set x) w) (members_in w) e (rule.no_sets takes (inr e))) w)
      (λ v e. other (λ x. and_then (demanded (members_in w)) (λ y. truth (f x y))) (BinaryGives W op v w) (members_in v) e (rule.no_sets takes (inl e))) v

  pub binary_exists : LawsBelow → (op : Binary) (v w : PlainValue) → BinaryGives W op v w (apply_binary E op v w)
  binary_exists L ops.Equal v w = rule.equal (tells_test (is_eq (value_cmp v w)) (value_eq_iff v w))
  binary_exists L ops.In v w = entity_cases (λ v. BinaryGives W ops.In v w (apply_binary E ops.In v w)) (λ a. in_exists a w)
      (λ v e. other (λ a. in_value E a w) (BinaryGives W ops.In v w) (entity_uid_in v) e (rule.other_in e)) v
  binary_exists L ops.Less v w = numbers_exist ops.Less (λ x y. truth (int_lt x y)) tt (λ x y. rule.of_numbers (tells_test (int_lt x y) (int_lt_iff x y))) v w
  binary_exists L ops.LessOrEqual v w = numbers_exist ops.LessOrEqual (λ x y. truth (int_le x y)) tt (λ x y. rule.of_numbers (tells_test (int_le x y) (int_le_iff x y))) v w
  binary_exists L ops.Add v w = numbers_exist ops.Add (λ x y. bounded (x +ℤ y)) tt (λ x y. rule.of_numbers (comes_bounded (x +ℤ y))) v w
  binary_exists L ops.Subtract v w = numbers_exist ops.Subtract (λ x y. bounded (x -ℤ y)) tt (λ x y. rule.of_numbers (comes_bounded (x -ℤ y))) v w
  binary_exists L ops.Multiply v w = numbers_exist ops.Multiply (λ x y. bounded (x *ℤ y)) tt (λ x y. rule.of_numbers (comes_bounded (x *ℤ y))) v w
  binary_exists L ops.Contains v w = members_cases (λ v. BinaryGives W ops.Contains v w (apply_binary E ops.Contains v w))
      (λ vs. rule.contains (tells_test (has_member (list_of vs) w) (L.told (list_of vs) w)))
      (λ v e. other (λ x. truth (has_member x w)) (BinaryGives W ops.Contains v w) (members_in v) e (rule.other_contains e)) v
  binary_exists L ops.ContainsAll v w = sets_exist ops.ContainsAll (λ x y. list_all (has_member x) y) tt
      (λ vs ws. rule.contains_all (tells_test (list_all (has_member (list_of vs)) (list_of ws)) (all_iff (has_member (list_of vs)) (λ u. Contains (list_of vs) u) (L.told (list_of vs)) (list_of ws)))) v w
  binary_exists L ops.ContainsAny v w = sets_exist ops.ContainsAny (λ x y. list_any (has_member x) y) tt
      (λ vs ws. rule.contains_any (tells_test (list_any (has_member (list_of vs)) (list_of ws)) (any_iff (has_member (list_of vs)) (λ u. Contains (list_of vs) u) (L.told (list_of vs)) (list_of ws)))) v w

  no_numbers_are : (op : Binary) (v w : PlainValue) → TakesNumbers op → (long_in v ≡ None) ⊎ (long_in w ≡ None) → apply_binary E op v w ≡ Err TypeError
  no_numbers_are ops.Less v w takes h = two_others_are (λ p. truth (int_lt p.0 p.1)) (long_in v) (long_in w) h
  no_numbers_are ops.LessOrEqual v w takes h = two_others_are (λ p. truth (int_le p.0 p.1)) (long_in v) (long_in w) h
  no_numbers_are ops.Add v w takes h = two_others_are (λ p. bounded (p.0 +ℤ p.1)) (long_in v) (long_in w) h
  no_numbers_are ops.Subtract v w takes h = two_others_are (λ p. bounded (p.0 -ℤ p.1)) (long_in v) (long_in w) h
  no_numbers_are ops.Multiply v w takes h = two_others_are (λ p. bounded (p.0 *ℤ p.1)) (long_in v) (long_in w) h
  no_numbers_are op v w takes h = absurd takes

  of_numbers_is : (op : Binary) (x y : ℤ) (r : EvaluationResult) → NumbersGive op x y r → apply_binary E op (long x) (long y) ≡ r
  of_numbers_is ops.Less x y r h = test_is (int_lt x y) (int_lt_iff x y) r h
  of_numbers_is ops.LessOrEqual x y r h = test_is (int_le x y) (int_le_iff x y) r h
  of_numbers_is ops.Add x y r h = bounded_is (x +ℤ y) r h
  of_numbers_is ops.Subtract x y r h = bounded_is (x -ℤ y) r h
  of_numbers_is ops.Multiply x y r h = bounded_is (x *ℤ y) r h
  of_numbers_is op x y r h = absurd h

  no_sets_are : (op : Binary) (v w : PlainValue) → TakesSets op → (members_in v ≡ None) ⊎ (members_in w ≡ None) → apply_binary E op v w ≡ Err TypeError
  no_sets_are ops.ContainsAll v w takes h = others_are (λ x y. truth (list_all (has_member x) y)) (members_in v) (members_in w) h
  no_sets_are ops.ContainsAny v w takes h = others_are (λ x y. truth (list_any (has_member x) y)) (members_in v) (members_in w) h
  no_sets_are op v w takes h = absurd takes

  pub binary_is : LawsBelow → (op : Binary) (v w : PlainValue) (r : EvaluationResult) → BinaryGives W op v w r → apply_binary E op v w ≡ r
  binary_is L _ _ _ _ (rule.equal {v} {w} {r} h) = test_is (is_eq (value_cmp v w)) (value_eq_iff v w) r h
  binary_is L _ _ _ _ (rule.of_numbers {op} {x} {y} {r} h) = of_numbers_is op x y r h
  binary_is L _ _ _ _ (rule.no_numbers {op} {v} {w} takes h) = no_numbers_are op v w takes h
  binary_is L _ _ _ _ (rule.in_entity {a} {b} {r} h) = test_is (is_in E a b) (is_in_iff W ancestor_test D a b) r h
  binary_is L _ _ _ _ (rule.in_set {a} {vs} {r} us e h) = in_set_is a (list_of vs) us e ∙ test_is (list_any (is_in E a) us) (some_iff a us) r h
  binary_is L _ _ _ _ (rule.in_mixed_set {a} {vs} v c e) = ap (λ r. and_then r truth) (mixed_are a (list_of vs) v c e)
  binary_is L _ _ _ _ (rule.in_other {a} {w} e f) = in_other_is a w e f
  binary_is L _ _ _ _ (rule.other_in {v} {w} e) = other_is (λ a. in_value E a w) (entity_uid_in v) e
  binary_is L _ _ _ _ (rule.contains {vs} {w} {r} h) = test_is (has_member (list_of vs) w) (L.told (list_of vs) w) r h
  binary_is L _ _ _ _ (rule.other_contains {v} {w} e) = other_is (λ x. truth (has_member x w)) (members_in v) e
  binary_is L _ _ _ _ (rule.contains_all {vs} {ws} {r} h) = test_is (list_all (has_member (list_of vs)) (list_of ws)) (all_iff (has_member (list_of vs)) (λ u. Contains (list_of vs) u) (L.told (list_of vs)) (list_of ws)) r h
  binary_is L _ _ _ _ (rule.contains_any {vs} {ws} {r} h) = test_is (list_any (has_member (list_of vs)) (list_of ws)) (any_iff (has_member (list_of vs)) (λ u. Contains (list_of vs) u) (L.told (list_of vs)) (list_of ws)) r h
  binary_is L _ _ _ _ (rule.no_sets {op} {v} {w} takes h) = no_sets_are op v w takes h

  -- ---- fields and attributes

  found_exists : (name : List ℕ) (fs : PlainFields) (o : Option PlainValue) → find_field name (pairs_of fs) ≡ o → FieldGives W name (record_of fs) (found_or AttrDoesNotExist o)
  found_exists name fs None e = rule.no_field e
  found_exists name fs (Some v) e = rule.field e

  pub field_exists : (name : List ℕ) (v : PlainValue) → FieldGives W name v (field_of E name v)
  field_exists name (record_of fs) = found_exists name fs (find_field name (pairs_of fs)) refl
  field_exists name (entity u) = rule.of_entity (attribute_gives (W.stored u) name)
  field_exists name (boolean b) = rule.field_of_other refl refl
  field_exists name (long z) = rule.field_of_other refl refl
  field_exists name (text t) = rule.field_of_other refl refl
  field_exists name (set vs) = rule.field_of_other refl refl
  field_exists name (decimal z) = rule.field_of_other refl refl
  field_exists name (ipaddr n) = rule.field_of_other refl refl

  field_other_is : (name : List ℕ) (v : PlainValue) → record_fields_in v ≡ None → entity_uid_in v ≡ None → field_of E name v ≡ Err TypeError
  field_other_is name (record_of fs) e f = absurd (cc)
  field_other_is name (entity u) e f = absurd (cc)
  field_other_is name (boolean b) e f = refl
  field_other_is name (long z) e f = refl
  field_other_is name (text t) e f = refl
  field_other_is name (set vs) e f = refl
  field_other_is name (decimal z) e f = refl
  field_other_is name (ipaddr n) e f = refl

  pub field_is : (name : List ℕ) (v : PlainValue) (r : EvaluationResult) → FieldGives W name v r → field_of E name v ≡ r
  field_is name _ _ (rule.field {fs} {v} e) = ap (found_or AttrDoesNotExist) e
  field_is name _ _ (rule.no_field {fs} e) = ap (found_or AttrDoesNotExist) e
  field_is name _ _ (rule.of_entity {u} {r} g) = attribute_is (W.stored u) name r g
  field_is name _ _ (rule.field_of_other {v} e f) = field_other_is name v e f

  has_exists_of : (name : List ℕ) (u : EntityUid) (s : Option (List Field)) → W.stored u ≡ s → HasGives W name (entity u) (truth (has_attribute s name))
  has_exists_of name u None e = rule.none_stored e
  has_exists_of name u (Some fs) e = rule.has_attribute fs e (tells_test (is_some (find_field name fs)) ((λ h. h), (λ h. h)))

  pub has_exists : (name : List ℕ) (v : PlainValue) → HasGives W name v (has_field E name v)
  has_exists name (record_of fs) = rule.has_field (tells_test (is_some (find_field name (pairs_of fs))) ((λ h. h), (λ h. h)))
  has_exists name (entity u) = has_exists_of name u (W.stored u) refl
  has_exists name (boolean b) = rule.has_of_other refl refl
  has_exists name (long z) = rule.has_of_other refl refl
  has_exists name (text t) = rule.has_of_other refl refl
  has_exists name (set vs) = rule.has_of_other refl refl
  has_exists name (decimal z) = rule.has_of_other refl refl
  has_exists name (ipaddr n) = rule.has_of_other refl refl

  has_other_is : (name : List ℕ) (v : PlainValue) → record_fields_in v ≡ None → entity_uid_in v ≡ None → has_field E name v ≡ Err TypeError
  has_other_is name (record_of fs) e f = absurd (cc)
  has_other_is name (entity u) e f = absurd (cc)
  has_other_is name (boolean b) e f = refl
  has_other_is name (long z) e f = refl
  has_other_is name (text t) e f = refl
  has_other_is name (set vs) e f = refl
  has_other_is name (decimal z) e f = refl
  has_other_is name (ipaddr n) e f = refl

  pub has_is : (name : List ℕ) (v : PlainValue) (r : EvaluationResult) → HasGives W name v r → has_field E name v ≡ r
  has_is name _ _ (rule.has_field {fs} {r} h) = test_is (is_some (find_field name (pairs_of fs))) ((λ h. h), (λ h. h)) r h
  has_is name _ _ (rule.has_attribute {u} {r} fs s h) = ap (λ o. truth (has_attribute o name)) s ∙ test_is (is_some (find_field name fs)) ((λ h. h), (λ h. h)) r h
  has_is name _ _ (rule.none_stored {u} s) = ap (λ o. truth (has_attribute o name)) s
  has_is name _ _ (rule.has_of_other {v} e f) = has_other_is name v e f
