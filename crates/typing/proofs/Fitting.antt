-- Each row's demand on types is enough for its operation on values.
use Rattle.std.specs.Prelude.{◌≡◌, ◌⊎◌, ℕ, ℤ, List, Bool, true, false, ◌||◌, Contains, IsSome, Option, Some, None, Ok}
use Rattle.std.specs.Prelude.{Err, if◌then◌else◌, refl}
use Rattle.std.specs.Bool.{Decides}
use Rattle.std.proofs.Common.{inl, inr, ap, sym, ◌∙◌, subst}
use Rattle.std.proofs.lemmas.Bool.{cases_Bool, false≢true}
use Rattle.std.proofs.lemmas.Slice.Eq.{bytes_eq-Decides}
use Rattle.std.specs.Str.{bytes_eq}
use Rattle.values.specs.declared.entity_uid.EntityUid.{EntityUid}
use Rattle.values.specs.declared.request.Request.{Request}
use Rattle.values.specs.Fields.{Field, find_field}
use Rattle.values.specs.Values.{PlainValue, PlainFields, boolean, entity, record_of, pairs_of}
use Rattle.grammar_core.specs.declared.operator.Unary.{Unary}
use Rattle.grammar_core.specs.declared.operator.Unary.TheVariants as unary
use Rattle.grammar_core.specs.declared.operator.Binary.{Binary}
use Rattle.grammar_core.specs.declared.operator.Binary.TheVariants as binary
use Rattle.grammar_core.specs.declared.operator.UnaryCall.{UnaryCall}
use Rattle.grammar_core.specs.declared.operator.BinaryCall.{BinaryCall}
use Rattle.grammar_core.specs.declared.operator.BinaryCall.TheVariants as call
use Rattle.evaluator.specs.declared.fault.EvalFault.TheVariants as fault
use Rattle.evaluator.specs.Outcomes
use Rattle.evaluator.specs.Outcomes.{EvaluationResult, IsTruthOf, IsChecked}
use Rattle.evaluator.specs.ancestor_search.Hierarchy.{IsIn}
use Rattle.evaluator.specs.evaluator_steps.Attributes
use Rattle.evaluator.specs.Operators
use Rattle.evaluator.specs.Operators.{Entities, UnaryGives, BinaryGives, FieldGives, HasGives, UnaryCallGives}
use Rattle.evaluator.specs.Operators.{BinaryCallGives, TakesAddress, TakesDecimals}
use Rattle.typing.specs.Types
use Rattle.typing.specs.Types.{StaticType, Declared, field_declared_at, common, truth_type}
use Rattle.typing.specs.Membership
use Rattle.typing.specs.Membership.{Of, FieldOf}
use Rattle.typing.specs.Environment.{Environment}
use Rattle.typing.specs.Rows
use Rattle.typing.specs.Rows.{Row, may_be_in}
use Rattle.typing.specs.Conforming
use Rattle.typing.specs.Conforming.{Conforms, Fits}
use Rattle.typing.proofs.Members.{Contains-mapped}
use Rattle.typing.proofs.Values.{false_no_true, None-Some, Some-same, same_name, each_at, fields_fit, FieldsFit}

-- an outcome fits the type that a row names, if it names one
abbrev pub FitsRow : Row → EvaluationResult → Type 0
FitsRow (Ok t) r = Fits t r
FitsRow (Err n) r = Unit {0}

-- nothing is there, and something is
none_there : {A G : Type 0} {a : A} → Some a ≡ None → G
none_there e = None-Some (sym e)

neither : {A B G : Type 0} {a : A} {b : B} → (Some a ≡ None) ⊎ (Some b ≡ None) → G
neither (inl e) = none_there e
neither (inr e) = none_there e

truth_fits : {P : Type 0} {r : EvaluationResult} → IsTruthOf P r → Fits Types.boolean_type r
truth_fits (Outcomes.holds p) = Membership.of_boolean
truth_fits (Outcomes.fails n) = Membership.of_boolean

comes_fits : {z : ℤ} {r : EvaluationResult} → IsChecked z r → Fits Types.long_type r
comes_fits (Outcomes.fits f) = Membership.of_long
comes_fits (Outcomes.overflows n) = Conforming.number_out_of_bounds

-- a test that is settled already
pub decided_fits : {P : Type 0} {r : EvaluationResult} (b : Bool) → Decides b P → IsTruthOf P r → Fits (truth_type b) r
decided_fits true d (Outcomes.holds p) = Membership.of_true
decided_fits true d (Outcomes.fails n) = absurd (n (d.0 refl))
decided_fits false d (Outcomes.holds p) = false_no_true (d.1 p)
decided_fits false d (Outcomes.fails n) = Membership.of_false

-- False where the test has to fail
no_more : {P : Type 0} {r : EvaluationResult} (c : Bool) → (P → c ≡ true) → IsTruthOf P r → Fits (if c then Types.boolean_type else Types.false_type) r
no_more true f t = truth_fits t
no_more false f (Outcomes.holds p) = false_no_true (f p)
no_more false f (Outcomes.fails n) = Membership.of_false

common_fits : {P : Type 0} {r : EvaluationResult} (o : Option StaticType) → IsTruthOf P r → FitsRow (Rows.if_common o) r
common_fits None t = tt
common_fits (Some u) t = truth_fits t

-- ---- one operand

not_fits : {v : PlainValue} {s : StaticType} {r : EvaluationResult} → Of v s → UnaryGives unary.Not v r → FitsRow (Rows.unary_type unary.Not s) r
not_fits Membership.of_true Operators.negation = Membership.of_false
not_fits Membership.of_true (Operators.negation_of_other e) = none_there e
not_fits Membership.of_false Operators.negation = Membership.of_true
not_fits Membership.of_false (Operators.negation_of_other e) = none_there e
not_fits Membership.of_boolean Operators.negation = Membership.of_boolean
not_fits Membership.of_boolean (Operators.negation_of_other e) = none_there e
not_fits h g = tt

negate_fits : {v : PlainValue} {s : StaticType} {r : EvaluationResult} → Of v s → UnaryGives unary.Negate v r → FitsRow (Rows.unary_type unary.Negate s) r
negate_fits Membership.of_long (Operators.opposite c) = comes_fits c
negate_fits Membership.of_long (Operators.opposite_of_other e) = none_there e
negate_fits h g = tt

like_fits : (p : List (List ℕ)) {v : PlainValue} {s : StaticType} {r : EvaluationResult} → Of v s → UnaryGives (unary.Like p) v r → FitsRow (Rows.unary_type (unary.Like p) s) r
like_fits p Membership.of_text (Operators.like_text t) = truth_fits t
like_fits p Membership.of_text (Operators.like_of_other e) = none_there e
like_fits p h g = tt

is_fits : (n : List ℕ) {v : PlainValue} {s : StaticType} {r : EvaluationResult} → Of v s → UnaryGives (unary.Is n) v r → FitsRow (Rows.unary_type (unary.Is n) s) r
is_fits n (Membership.of_entity {u} {n = m} e) (Operators.is_entity t) =
    decided_fits (bytes_eq m n) (λ b. e ∙ same_name m n b, λ p. (bytes_eq-Decides m n).1 (sym e ∙ p)) t
is_fits n (Membership.of_entity e) (Operators.is_of_other f) = none_there f
is_fits n h g = tt

pub unary_fits : (op : Unary) {v : PlainValue} {s : StaticType} {r : EvaluationResult} → Of v s → UnaryGives op v r → FitsRow (Rows.unary_type op s) r
unary_fits unary.Not h g = not_fits h g
unary_fits unary.Negate h g = negate_fits h g
unary_fits (unary.Like p) h g = like_fits p h g
unary_fits (unary.Is n) h g = is_fits n h g

-- ---- two operands

equal_tells : {W : Entities} {v w : PlainValue} {r : EvaluationResult} → BinaryGives W binary.Equal v w r → IsTruthOf (v ≡ w) r
equal_tells (Operators.equal t) = t
equal_tells (Operators.of_numbers n) = absurd n
equal_tells (Operators.no_numbers i e) = absurd i
equal_tells (Operators.no_sets i e) = absurd i

same_entity : {a b : EntityUid} → entity a ≡ entity b → a ≡ b
same_entity e = cc

equal_row : {v w : PlainValue} {s t : StaticType} {r : EvaluationResult} → Of v s → Of w t → IsTruthOf (v ≡ w) r → FitsRow (Rows.equal_type s t) r
equal_row (Membership.of_entity {u = a} {n = m} e) (Membership.of_entity {u = b} {n} f) k =
    no_more (bytes_eq m n) (λ p. (bytes_eq-Decides m n).1 (sym e ∙ (ap (λ u. u.type_name) (same_entity p) ∙ f))) k
equal_row {s} {t} h g k = common_fits (common s t) k

less_fits : {W : Entities} (env : Environment) {v w : PlainValue} {s t : StaticType} {r : EvaluationResult} → Of v s → Of w t → BinaryGives W binary.Less v w r → FitsRow (Rows.binary_type env binary.Less s t) r
less_fits env Membership.of_long Membership.of_long (Operators.of_numbers n) = truth_fits n
less_fits env Membership.of_long Membership.of_long (Operators.no_numbers i e) = neither e
less_fits env Membership.of_long Membership.of_long (Operators.no_sets i e) = absurd i
less_fits env h g k = tt

less_or_equal_fits : {W : Entities} (env : Environment) {v w : PlainValue} {s t : StaticType} {r : EvaluationResult} → Of v s → Of w t → BinaryGives W binary.LessOrEqual v w r → FitsRow (Rows.binary_type env binary.LessOrEqual s t) r
less_or_equal_fits env Membership.of_long Membership.of_long (Operators.of_numbers n) = truth_fits n
less_or_equal_fits env Membership.of_long Membership.of_long (Operators.no_numbers i e) = neither e
less_or_equal_fits env Membership.of_long Membership.of_long (Operators.no_sets i e) = absurd i
less_or_equal_fits env h g k = tt

add_fits : {W : Entities} (env : Environment) {v w : PlainValue} {s t : StaticType} {r : EvaluationResult} → Of v s → Of w t → BinaryGives W binary.Add v w r → FitsRow (Rows.binary_type env binary.Add s t) r
add_fits env Membership.of_long Membership.of_long (Operators.of_numbers n) = comes_fits n
add_fits env Membership.of_long Membership.of_long (Operators.no_numbers i e) = neither e
add_fits env Membership.of_long Membership.of_long (Operators.no_sets i e) = absurd i
add_fits env h g k = tt

subtract_fits : {W : Entities} (env : Environment) {v w : PlainValue} {s t : StaticType} {r : EvaluationResult} → Of v s → Of w t → BinaryGives W binary.Subtract v w r → FitsRow (Rows.binary_type env binary.Subtract s t) r
subtract_fits env Membership.of_long Membership.of_long (Operators.of_numbers n) = comes_fits n
subtract_fits env Membership.of_long Membership.of_long (Operators.no_numbers i e) = neither e
subtract_fits env Membership.of_long Membership.of_long (Operators.no_sets i e) = absurd i
subtract_fits env h g k = tt

multiply_fits : {W : Entities} (env : Environment) {v w : PlainValue} {s t : StaticType} {r : EvaluationResult} → Of v s → Of w t → BinaryGives W binary.Multiply v w r → FitsRow (Rows.binary_type env binary.Multiply s t) r
multiply_fits env Membership.of_long Membership.of_long (Operators.of_numbers n) = comes_fits n
multiply_fits env Membership.of_long Membership.of_long (Operators.no_numbers i e) = neither e
multiply_fits env Membership.of_long Membership.of_long (Operators.no_sets i e) = absurd i
multiply_fits env h g k = tt

contains_fits : {W : Entities} (env : Environment) {v w : PlainValue} {s t : StaticType} {r : EvaluationResult} → Of v s → Of w t → BinaryGives W binary.Contains v w r → FitsRow (Rows.binary_type env binary.Contains s t) r
contains_fits env {t} (Membership.of_set {t = s} h) g (Operators.contains k) = common_fits (common s t) k
contains_fits env (Membership.of_set h) g (Operators.other_contains e) = none_there e
contains_fits env (Membership.of_set h) g (Operators.no_numbers i e) = absurd i
contains_fits env (Membership.of_set h) g (Operators.no_sets i e) = absurd i
contains_fits env h g k = tt

contains_all_fits : {W : Entities} (env : Environment) {v w : PlainValue} {s t : StaticType} {r : EvaluationResult} → Of v s → Of w t → BinaryGives W binary.ContainsAll v w r → FitsRow (Rows.binary_type env binary.ContainsAll s t) r
contains_all_fits env (Membership.of_set {t = s} h) (Membership.of_set {t} g) (Operators.contains_all k) = common_fits (common s t) k
contains_all_fits env (Membership.of_set h) (Membership.of_set g) (Operators.no_numbers i e) = absurd i
contains_all_fits env (Membership.of_set h) (Membership.of_set g) (Operators.no_sets i e) = neither e
contains_all_fits env h g k = tt

contains_any_fits : {W : Entities} (env : Environment) {v w : PlainValue} {s t : StaticType} {r : EvaluationResult} → Of v s → Of w t → BinaryGives W binary.ContainsAny v w r → FitsRow (Rows.binary_type env binary.ContainsAny s t) r
contains_any_fits env (Membership.of_set {t = s} h) (Membership.of_set {t} g) (Operators.contains_any k) = common_fits (common s t) k
contains_any_fits env (Membership.of_set h) (Membership.of_set g) (Operators.no_numbers i e) = absurd i
contains_any_fits env (Membership.of_set h) (Membership.of_set g) (Operators.no_sets i e) = neither e
contains_any_fits env h g k = tt

or_first : (a b : Bool) → a ≡ true → (a || b) ≡ true
or_first true b e = refl
or_first false b e = false_no_true e

or_second : (a b : Bool) → b ≡ true → (a || b) ≡ true
or_second true b e = refl
or_second false b e = e

entity_named : {u : EntityUid} {n : List ℕ} → Of (entity u) (Types.entity_type n) → u.type_name ≡ n
entity_named (Membership.of_entity e) = e

no_entity : {v : PlainValue} {n : List ℕ} {G : Type 0} → Of v (Types.entity_type n) → Outcomes.entity_uid_in v ≡ None → G
no_entity (Membership.of_entity e) f = none_there f

module _ (env : Environment) (W : Entities) (q : Request) (C : Conforms env W q) where
  -- where an entity is in another their types allow it
  in_allowed : (a b : EntityUid) → IsIn W.parents a b → may_be_in env a.type_name b.type_name ≡ true
  in_allowed a b (inl e) =
      or_second (env.is_action_type a.type_name) _ (or_second (env.is_action_type b.type_name) _
      (or_first (bytes_eq a.type_name b.type_name) (env.may_have_ancestor a.type_name b.type_name)
      ((bytes_eq-Decides a.type_name b.type_name).1 (ap (λ u. u.type_name) e))))
  in_allowed a b (inr p) = elim (cases_Bool (env.is_action_type a.type_name)) [
    | inl i ↦ or_first (env.is_action_type a.type_name) _ i
    | inr n ↦ or_second (env.is_action_type a.type_name) _ (or_second (env.is_action_type b.type_name) _
        (or_second (bytes_eq a.type_name b.type_name) (env.may_have_ancestor a.type_name b.type_name) (C.ancestors a b n p)))
  ]

  may_be : (a b : EntityUid) (m n : List ℕ) → a.type_name ≡ m → b.type_name ≡ n → IsIn W.parents a b → may_be_in env m n ≡ true
  may_be a b m n e f h =
      subst (λ k. may_be_in env k n ≡ true) e (subst (λ k. may_be_in env a.type_name k ≡ true) f (in_allowed a b h))

  in_fits : {v w : PlainValue} {s t : StaticType} {r : EvaluationResult} → Of v s → Of w t → BinaryGives W binary.In v w r → FitsRow (Rows.binary_type env binary.In s t) r
  in_fits (Membership.of_entity {u = a} {n = m} e) (Membership.of_entity {u = b} {n} f) (Operators.in_entity k) =
      no_more (may_be_in env m n) (λ p. may_be a b m n e f p) k
  in_fits (Membership.of_entity e) (Membership.of_entity f) (Operators.in_other i j) = none_there i
  in_fits (Membership.of_entity e) (Membership.of_entity f) (Operators.other_in i) = none_there i
  in_fits (Membership.of_entity e) (Membership.of_entity f) (Operators.no_numbers i j) = absurd i
  in_fits (Membership.of_entity e) (Membership.of_entity f) (Operators.no_sets i j) = absurd i
  in_fits (Membership.of_entity {u = a} {n = m} e) (Membership.of_set {vs} {t = Types.entity_type n} hs) (Operators.in_set us same k) =
      no_more (may_be_in env m n)
      (λ p. may_be a p.0 m n e (entity_named (each_at hs (entity p.0) (subst (λ ws. Contains ws (entity p.0)) (sym same) (Contains-mapped entity us p.0 p.1)))) p.2) k
  in_fits (Membership.of_entity e) (Membership.of_set {t = Types.entity_type n} hs) (Operators.in_mixed_set v c i) = no_entity (each_at hs v c) i
  in_fits (Membership.of_entity e) (Membership.of_set {t = Types.entity_type n} hs) (Operators.in_other i j) = none_there j
  in_fits (Membership.of_entity e) (Membership.of_set {t = Types.entity_type n} hs) (Operators.other_in i) = none_there i
  in_fits (Membership.of_entity e) (Membership.of_set {t = Types.entity_type n} hs) (Operators.no_numbers i j) = absurd i
  in_fits (Membership.of_entity e) (Membership.of_set {t = Types.entity_type n} hs) (Operators.no_sets i j) = absurd i
  in_fits h g k = tt

  pub binary_fits : (op : Binary) {v w : PlainValue} {s t : StaticType} {r : EvaluationResult} → Of v s → Of w t → BinaryGives W op v w r → FitsRow (Rows.binary_type env op s t) r
  binary_fits binary.Equal h g k = equal_row h g (equal_tells k)
  binary_fits binary.In h g k = in_fits h g k
  binary_fits binary.Less h g k = less_fits env h g k
  binary_fits binary.LessOrEqual h g k = less_or_equal_fits env h g k
  binary_fits binary.Add h g k = add_fits env h g k
  binary_fits binary.Subtract h g k = subtract_fits env h g k
  binary_fits binary.Multiply h g k = multiply_fits env h g k
  binary_fits binary.Contains h g k = contains_fits env h g k
  binary_fits binary.ContainsAll h g k = contains_all_fits env h g k
  binary_fits binary.ContainsAny h g k = contains_any_fits env h g k

  -- ---- fields

  access_some : (b : Bool) {v : PlainValue} {d : Declared} → FieldOf (Some v) d → FitsRow (Rows.access_type b d) (Ok v)
  access_some true (Membership.has_optional h) = h
  access_some false (Membership.has_optional h) = tt
  access_some b (Membership.has_required h) = h

  access_none : (b : Bool) {d : Declared} (r : EvaluationResult) → FieldOf None d → (b ≡ true → ⊥) → FitsRow (Rows.access_type b d) r
  access_none b r Membership.absent n = tt
  access_none true r Membership.left_out n = absurd (n refl)
  access_none false r Membership.left_out n = tt

  -- the field is there, where the test says that it is known
  tells_some : {P : Type 0} → IsTruthOf P (Ok (boolean true)) → P
  tells_some (Outcomes.holds p) = p

  record_there : {k : List ℕ} {fs : PlainFields} → HasGives W k (record_of fs) (Ok (boolean true)) → IsSome (find_field k (pairs_of fs))
  record_there (Operators.has_field t) = tells_some t

  entity_there : {k : List ℕ} {u : EntityUid} → HasGives W k (entity u) (Ok (boolean true)) → (fs : List Field) × (W.stored u ≡ Some fs) × IsSome (find_field k fs)
  entity_there (Operators.has_attribute fs s t) = (fs, s, tells_some t)

  none_some : {A G : Type 0} (o : Option A) → o ≡ None → IsSome o → G
  none_some None e s = absurd (false≢true s)
  none_some (Some a) e s = none_there e

  stored_there : {k : List ℕ} {u : EntityUid} (fs : List Field) → W.stored u ≡ Some fs → HasGives W k (entity u) (Ok (boolean true)) → IsSome (find_field k fs)
  stored_there {k} fs s h = let p = entity_there h in subst (λ gs. IsSome (find_field k gs)) (Some-same (sym p.1 ∙ s)) p.2

  missing_fits : (row : Row) → FitsRow row (Err fault.EntityDoesNotExist)
  missing_fits (Ok t) = Conforming.entity_is_missing
  missing_fits (Err n) = tt

  -- the attributes of a stored entity of this type
  attributes_of : (u : EntityUid) (n : List ℕ) (fs : List Field) → u.type_name ≡ n → W.stored u ≡ Some fs → FieldsFit fs (env.attributes n)
  attributes_of u n fs e s = subst (λ m. FieldsFit fs (env.attributes m)) e (fields_fit fs (env.attributes u.type_name) (C.attributes u fs s))

  pub field_fits : (b : Bool) (k : List ℕ) {v : PlainValue} {s : StaticType} {r : EvaluationResult} → Of v s → (b ≡ true → HasGives W k v (Ok (boolean true)))
      → FieldGives W k v r → FitsRow (Rows.field_type_of env b k s) r
  field_fits b k (Membership.of_record {fs} {ts} h) n (Operators.field e) = access_some b (subst (λ o. FieldOf o (field_declared_at k ts)) e (h k))
  field_fits b k (Membership.of_record {fs} {ts} h) n (Operators.no_field e) =
      access_none b _ (subst (λ o. FieldOf o (field_declared_at k ts)) e (h k)) (λ i. none_some _ e (record_there (n i)))
  field_fits b k (Membership.of_record h) n (Operators.field_of_other e f) = none_there e
  field_fits b k (Membership.of_entity {u} {n = m} e) n (Operators.of_entity (Attributes.attribute fs s f)) =
      access_some b (subst (λ o. FieldOf o (field_declared_at k (env.attributes m))) f (attributes_of u m fs e s k))
  field_fits b k (Membership.of_entity {u} {n = m} e) n (Operators.of_entity (Attributes.no_attribute fs s f)) =
      access_none b _ (subst (λ o. FieldOf o (field_declared_at k (env.attributes m))) f (attributes_of u m fs e s k)) (λ i. none_some _ f (stored_there fs s (n i)))
  field_fits b k (Membership.of_entity {n = m} e) n (Operators.of_entity (Attributes.not_stored s)) = missing_fits (Rows.access_type b (field_declared_at k (env.attributes m)))
  field_fits b k (Membership.of_entity e) n (Operators.field_of_other f g) = none_there g
  field_fits b k h n g = tt

  record_has_fits : {o : Option PlainValue} {d : Declared} {r : EvaluationResult} → FieldOf o d → IsTruthOf (IsSome o) r → Fits (Rows.record_has d) r
  record_has_fits Membership.absent (Outcomes.holds p) = absurd (false≢true p)
  record_has_fits Membership.absent (Outcomes.fails n) = Membership.of_false
  record_has_fits Membership.left_out t = truth_fits t
  record_has_fits (Membership.has_optional h) t = truth_fits t
  record_has_fits (Membership.has_required h) (Outcomes.holds p) = Membership.of_true
  record_has_fits (Membership.has_required h) (Outcomes.fails n) = absurd (n refl)

  entity_has_fits : {o : Option PlainValue} {d : Declared} {r : EvaluationResult} → FieldOf o d → IsTruthOf (IsSome o) r → Fits (Rows.entity_has d) r
  entity_has_fits Membership.absent (Outcomes.holds p) = absurd (false≢true p)
  entity_has_fits Membership.absent (Outcomes.fails n) = Membership.of_false
  entity_has_fits Membership.left_out t = truth_fits t
  entity_has_fits (Membership.has_optional h) t = truth_fits t
  entity_has_fits (Membership.has_required h) t = truth_fits t

  missing_has_fits : (d : Declared) → Fits (Rows.entity_has d) (Ok (boolean false))
  missing_has_fits Types.undeclared = Membership.of_false
  missing_has_fits (Types.optional t) = Membership.of_boolean
  missing_has_fits (Types.required t) = Membership.of_boolean

  known_has : {P : Type 0} {r : EvaluationResult} (b : Bool) (t : StaticType) → (b ≡ true → P) → IsTruthOf P r → Fits t r → Fits (if b then Types.true_type else t) r
  known_has true t h (Outcomes.holds p) g = Membership.of_true
  known_has true t h (Outcomes.fails n) g = absurd (n (h refl))
  known_has false t h k g = g

  unknown_has : (b : Bool) (t : StaticType) → (b ≡ true → ⊥) → Fits t (Ok (boolean false)) → Fits (if b then Types.true_type else t) (Ok (boolean false))
  unknown_has true t n g = absurd (n refl)
  unknown_has false t n g = g

  pub has_fits : (b : Bool) (k : List ℕ) {v : PlainValue} {s : StaticType} {r : EvaluationResult} → Of v s → (b ≡ true → HasGives W k v (Ok (boolean true)))
      → HasGives W k v r → FitsRow (Rows.has_type env b k s) r
  has_fits b k (Membership.of_record {fs} {ts} h) n (Operators.has_field t) =
      known_has b (Rows.record_has (field_declared_at k ts)) (λ i. record_there (n i)) t (record_has_fits (h k) t)
  has_fits b k (Membership.of_record h) n (Operators.has_of_other e f) = none_there e
  has_fits b k (Membership.of_entity {u} {n = m} e) n (Operators.has_attribute fs s t) =
      known_has b (Rows.entity_has (field_declared_at k (env.attributes m))) (λ i. stored_there fs s (n i)) t (entity_has_fits (attributes_of u m fs e s k) t)
  has_fits b k (Membership.of_entity {n = m} e) n (Operators.none_stored s) =
      unknown_has b (Rows.entity_has (field_declared_at k (env.attributes m))) (λ i. let p = entity_there (n i) in None-Some (sym s ∙ p.1)) (missing_has_fits _)
  has_fits b k (Membership.of_entity e) n (Operators.has_of_other f g) = none_there g
  has_fits b k h n g = tt

-- ---- calls

pub address_fits : {called : UnaryCall} {v : PlainValue} {s : StaticType} {r : EvaluationResult} → TakesAddress called → Of v s → UnaryCallGives called v r → FitsRow (Rows.address_test_type s) r
address_fits i Membership.of_ipaddr (Operators.of_address j t) = truth_fits t
address_fits i Membership.of_ipaddr (Operators.of_no_address j e) = none_there e
address_fits i Membership.of_ipaddr (Operators.decimal_of_other e) = absurd i
address_fits i Membership.of_ipaddr (Operators.address_of_other e) = absurd i
address_fits i h g = tt

decimals_fit : {called : BinaryCall} {v w : PlainValue} {s t : StaticType} {r : EvaluationResult} → TakesDecimals called → Of v s → Of w t → BinaryCallGives called v w r → FitsRow (Rows.of_decimals s t) r
decimals_fit i Membership.of_decimal Membership.of_decimal (Operators.of_decimals j t) = truth_fits t
decimals_fit i Membership.of_decimal Membership.of_decimal (Operators.no_decimals j e) = neither e
decimals_fit i Membership.of_decimal Membership.of_decimal (Operators.no_addresses e) = absurd i
decimals_fit i h g k = tt

addresses_fit : {v w : PlainValue} {s t : StaticType} {r : EvaluationResult} → Of v s → Of w t → BinaryCallGives call.IsInRange v w r → FitsRow (Rows.of_addresses s t) r
addresses_fit Membership.of_ipaddr Membership.of_ipaddr (Operators.in_range t) = truth_fits t
addresses_fit Membership.of_ipaddr Membership.of_ipaddr (Operators.no_decimals i e) = absurd i
addresses_fit Membership.of_ipaddr Membership.of_ipaddr (Operators.no_addresses e) = neither e
addresses_fit h g k = tt

pub call_fits : (called : BinaryCall) {v w : PlainValue} {s t : StaticType} {r : EvaluationResult} → Of v s → Of w t → BinaryCallGives called v w r → FitsRow (Rows.call_type called s t) r
call_fits call.LessThan h g k = decimals_fit tt h g k
call_fits call.LessThanOrEqual h g k = decimals_fit tt h g k
call_fits call.GreaterThan h g k = decimals_fit tt h g k
call_fits call.GreaterThanOrEqual h g k = decimals_fit tt h g k
call_fits call.IsInRange h g k = addresses_fit h g k
