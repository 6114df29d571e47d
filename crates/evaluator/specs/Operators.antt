-- Defines the results of operators and calls on values, by one case for each rule.
-- Source: Cedar reference guide 4.0, "Operators and functions"; cedar-spec, cedar-lean/Cedar/Spec/Evaluator.lean
-- (`apply₁`, `apply₂`, `inₑ`, `inₛ`, `hasAttr`, `getAttr`) and ExtFun.lean (`call`).
use Rattle.std.specs.Prelude.{◌≡◌, ◌⊎◌, ⊤, ℕ, ℤ, neg_ℤ, ◌+ℤ◌, ◌-ℤ◌, ◌*ℤ◌, ◌≤ℤ◌, ◌<ℤ◌, List, map, Bool, false, not}
use Rattle.std.specs.Prelude.{Contains, Option, Some, None, IsSome, Ok, Err}
use Rattle.values.specs.extensions.declared.ip_net.Version.TheVariants.{V4, V6}
use Rattle.values.specs.extensions.Network.{Network, IsWithin, loopback_v4, loopback_v6, multicast_v4, multicast_v6}
use Rattle.values.specs.extensions.DecimalText.{IsDecimalText}
use Rattle.values.specs.extensions.NetworkText.{IsNetworkText}
use Rattle.values.specs.declared.entity_uid.EntityUid.{EntityUid}
use Rattle.values.specs.Fields.{Field, find_field}
use Rattle.values.specs.Values.{PlainValue, PlainValues, PlainFields, boolean, long, text, entity, set, record_of}
use Rattle.values.specs.Values.{decimal, ipaddr, list_of, pairs_of}
use Rattle.ancestor_search.specs.Hierarchy.{Parents, IsIn}
use Rattle.grammar_core.specs.Like.{Matches}
use Rattle.grammar_core.specs.declared.operator.Unary.{Unary}
use Rattle.grammar_core.specs.declared.operator.Unary.TheVariants.{Not, Negate, Like, Is}
use Rattle.grammar_core.specs.declared.operator.Binary.{Binary}
use Rattle.grammar_core.specs.declared.operator.Binary.TheVariants.{Equal, In, Less, LessOrEqual, Add, Subtract}
use Rattle.grammar_core.specs.declared.operator.Binary.TheVariants.{Multiply, Contains as ContainsOne, ContainsAll}
use Rattle.grammar_core.specs.declared.operator.Binary.TheVariants.{ContainsAny}
use Rattle.grammar_core.specs.declared.operator.UnaryCall.{UnaryCall}
use Rattle.grammar_core.specs.declared.operator.UnaryCall.TheVariants.{Ip, Decimal, IsIpv4, IsIpv6, IsLoopback}
use Rattle.grammar_core.specs.declared.operator.UnaryCall.TheVariants.{IsMulticast}
use Rattle.grammar_core.specs.declared.operator.BinaryCall.{BinaryCall}
use Rattle.grammar_core.specs.declared.operator.BinaryCall.TheVariants.{LessThan, LessThanOrEqual, GreaterThan}
use Rattle.grammar_core.specs.declared.operator.BinaryCall.TheVariants.{GreaterThanOrEqual, IsInRange}
use Rattle.evaluator_steps.specs.Attributes.{AttributeGives}
use Rattle.evaluator.specs.declared.fault.EvalFault.TheVariants.{EntityDoesNotExist, AttrDoesNotExist, TypeError}
use Rattle.evaluator.specs.declared.fault.EvalFault.TheVariants.{ExtensionError}
use Rattle.evaluator.specs.Outcomes.{EvaluationResult, IsTruthOf, IsChecked, boolean_in, long_in, text_in}
use Rattle.evaluator.specs.Outcomes.{entity_uid_in, members_in, record_fields_in, decimal_in, network_in}

-- `Entities` is the entity data of an evaluation: the attributes of each stored entity, and the parents of each entity.
pub record Entities : Type 0 where
  pub stored : EntityUid → Option (List Field)
  pub parents : Parents

-- `entities_with stored parents` is the entity data with the attributes `stored` and the parents `parents`.
abbrev pub entities_with : (EntityUid → Option (List Field)) → Parents → Entities
entities_with stored parents = record { stored = stored; parents = parents }

-- `UnaryGives op v r` holds if `r` is the result of the operator `op` on `v`.
pub data UnaryGives : Unary → PlainValue → EvaluationResult → Type 0 where
  negation : {b : Bool} → UnaryGives Not (boolean b) (Ok (boolean (not b)))
  negation_of_other : {v : PlainValue} → boolean_in v ≡ None → UnaryGives Not v (Err TypeError)
  opposite : {z : ℤ} {r : EvaluationResult} → IsChecked (neg_ℤ z) r → UnaryGives Negate (long z) r
  opposite_of_other : {v : PlainValue} → long_in v ≡ None → UnaryGives Negate v (Err TypeError)
  like_text : {pattern : List (List ℕ)} {t : List ℕ} {r : EvaluationResult} → IsTruthOf (Matches pattern t) r
      → UnaryGives (Like pattern) (text t) r
  like_of_other : {pattern : List (List ℕ)} {v : PlainValue} → text_in v ≡ None
      → UnaryGives (Like pattern) v (Err TypeError)
  is_entity : {name : List ℕ} {u : EntityUid} {r : EvaluationResult} → IsTruthOf (u.type_name ≡ name) r
      → UnaryGives (Is name) (entity u) r
  is_of_other : {name : List ℕ} {v : PlainValue} → entity_uid_in v ≡ None → UnaryGives (Is name) v (Err TypeError)

-- `NumbersGive op x y r` holds if `op` is `<`, `<=`, `+`, `-` or `*`, and `r` is its result on the integers `x` and
-- `y`.
abbrev pub NumbersGive : Binary → ℤ → ℤ → EvaluationResult → Type 0
NumbersGive Less x y r = IsTruthOf (x <ℤ y) r
NumbersGive LessOrEqual x y r = IsTruthOf (x ≤ℤ y) r
NumbersGive Add x y r = IsChecked (x +ℤ y) r
NumbersGive Subtract x y r = IsChecked (x -ℤ y) r
NumbersGive Multiply x y r = IsChecked (x *ℤ y) r
NumbersGive op x y r = ⊥

-- `TakesNumbers op` holds if both operands of `op` must be integers, and `TakesSets op` if both must be sets.
abbrev pub TakesNumbers : Binary → Type 0
TakesNumbers Less = ⊤
TakesNumbers LessOrEqual = ⊤
TakesNumbers Add = ⊤
TakesNumbers Subtract = ⊤
TakesNumbers Multiply = ⊤
TakesNumbers op = ⊥

abbrev pub TakesSets : Binary → Type 0
TakesSets ContainsAll = ⊤
TakesSets ContainsAny = ⊤
TakesSets op = ⊥

-- `BinaryGives W op v w r` holds if `r` is the result of the operator `op` on `v` and `w`, over the entities of `W`.
-- For two entities, `a in b` tests whether `a` is `b` or a descendant of `b`. If `b` is a set, all of whose members
-- must be entities, `a in b` tests whether `a` is a member or a descendant of a member.
pub data BinaryGives (W : Entities) : Binary → PlainValue → PlainValue → EvaluationResult → Type 0 where
  equal : {v w : PlainValue} {r : EvaluationResult} → IsTruthOf (v ≡ w) r → BinaryGives W Equal v w r
  of_numbers : {op : Binary} {x y : ℤ} {r : EvaluationResult} → NumbersGive op x y r
      → BinaryGives W op (long x) (long y) r
  no_numbers : {op : Binary} {v w : PlainValue} → TakesNumbers op → (long_in v ≡ None) ⊎ (long_in w ≡ None)
      → BinaryGives W op v w (Err TypeError)
  in_entity : {a b : EntityUid} {r : EvaluationResult} → IsTruthOf (IsIn W.parents a b) r
      → BinaryGives W In (entity a) (entity b) r
  in_set : {a : EntityUid} {vs : PlainValues} {r : EvaluationResult} (us : List EntityUid)
      → list_of vs ≡ map entity us →
      IsTruthOf ((u : EntityUid) × Contains us u × IsIn W.parents a u) r → BinaryGives W In (entity a) (set vs) r
  in_mixed_set : {a : EntityUid} {vs : PlainValues} (v : PlainValue) → Contains (list_of vs) v → entity_uid_in v ≡ None
      → BinaryGives W In (entity a) (set vs) (Err TypeError)
  in_other : {a : EntityUid} {w : PlainValue} → entity_uid_in w ≡ None → members_in w ≡ None
      → BinaryGives W In (entity a) w (Err TypeError)
  other_in : {v w : PlainValue} → entity_uid_in v ≡ None → BinaryGives W In v w (Err TypeError)
  contains : {vs : PlainValues} {w : PlainValue} {r : EvaluationResult} → IsTruthOf (Contains (list_of vs) w) r
      → BinaryGives W ContainsOne (set vs) w r
  other_contains : {v w : PlainValue} → members_in v ≡ None → BinaryGives W ContainsOne v w (Err TypeError)
  contains_all : {vs ws : PlainValues} {r : EvaluationResult}
      → IsTruthOf ((v : PlainValue) → Contains (list_of ws) v → Contains (list_of vs) v) r →
      BinaryGives W ContainsAll (set vs) (set ws) r
  contains_any : {vs ws : PlainValues} {r : EvaluationResult}
      → IsTruthOf ((v : PlainValue) × Contains (list_of ws) v × Contains (list_of vs) v) r →
      BinaryGives W ContainsAny (set vs) (set ws) r
  no_sets : {op : Binary} {v w : PlainValue} → TakesSets op → (members_in v ≡ None) ⊎ (members_in w ≡ None)
      → BinaryGives W op v w (Err TypeError)

-- `FieldGives W name v r` holds if `r` is the result of `v.name`, over the entities of `W`.
pub data FieldGives (W : Entities) (name : List ℕ) : PlainValue → EvaluationResult → Type 0 where
  field : {fs : PlainFields} {v : PlainValue} → find_field name (pairs_of fs) ≡ Some v
      → FieldGives W name (record_of fs) (Ok v)
  no_field : {fs : PlainFields} → find_field name (pairs_of fs) ≡ None
      → FieldGives W name (record_of fs) (Err AttrDoesNotExist)
  of_entity : {u : EntityUid} {r : EvaluationResult}
      → AttributeGives EntityDoesNotExist AttrDoesNotExist (W.stored u) name r → FieldGives W name (entity u) r
  field_of_other : {v : PlainValue} → record_fields_in v ≡ None → entity_uid_in v ≡ None
      → FieldGives W name v (Err TypeError)

-- `HasGives W name v r` holds if `r` is the result of `v has name`, over the entities of `W`.
pub data HasGives (W : Entities) (name : List ℕ) : PlainValue → EvaluationResult → Type 0 where
  has_field : {fs : PlainFields} {r : EvaluationResult} → IsTruthOf (IsSome (find_field name (pairs_of fs))) r
      → HasGives W name (record_of fs) r
  has_attribute : {u : EntityUid} {r : EvaluationResult} (fs : List Field) → W.stored u ≡ Some fs
      → IsTruthOf (IsSome (find_field name fs)) r → HasGives W name (entity u) r
  none_stored : {u : EntityUid} → W.stored u ≡ None → HasGives W name (entity u) (Ok (boolean false))
  has_of_other : {v : PlainValue} → record_fields_in v ≡ None → entity_uid_in v ≡ None
      → HasGives W name v (Err TypeError)

-- `IsTested called n` holds if the test `called` is true of the IP address `n`.
abbrev pub IsTested : UnaryCall → Network → Type 0
IsTested IsIpv4 n = n.version ≡ V4
IsTested IsIpv6 n = n.version ≡ V6
IsTested IsLoopback n = IsWithin n loopback_v4 ⊎ IsWithin n loopback_v6
IsTested IsMulticast n = IsWithin n multicast_v4 ⊎ IsWithin n multicast_v6
IsTested called n = ⊥

-- `TakesAddress called` holds if the operand of `called` must be an IP address.
abbrev pub TakesAddress : UnaryCall → Type 0
TakesAddress Ip = ⊥
TakesAddress Decimal = ⊥
TakesAddress called = ⊤

-- `UnaryCallGives called v r` holds if `r` is the result of the call `called` on `v`.
pub data UnaryCallGives : UnaryCall → PlainValue → EvaluationResult → Type 0 where
  reads_decimal : {t : List ℕ} {z : ℤ} → IsDecimalText t z → UnaryCallGives Decimal (text t) (Ok (decimal z))
  no_decimal : {t : List ℕ} → ((z : ℤ) → ¬ IsDecimalText t z) → UnaryCallGives Decimal (text t) (Err ExtensionError)
  decimal_of_other : {v : PlainValue} → text_in v ≡ None → UnaryCallGives Decimal v (Err TypeError)
  reads_address : {t : List ℕ} {n : Network} → IsNetworkText t n → UnaryCallGives Ip (text t) (Ok (ipaddr n))
  no_address : {t : List ℕ} → ((n : Network) → ¬ IsNetworkText t n) → UnaryCallGives Ip (text t) (Err ExtensionError)
  address_of_other : {v : PlainValue} → text_in v ≡ None → UnaryCallGives Ip v (Err TypeError)
  of_address : {called : UnaryCall} {n : Network} {r : EvaluationResult} → TakesAddress called
      → IsTruthOf (IsTested called n) r → UnaryCallGives called (ipaddr n) r
  of_no_address : {called : UnaryCall} {v : PlainValue} → TakesAddress called → network_in v ≡ None
      → UnaryCallGives called v (Err TypeError)

-- `AreCompared called x y` holds if the comparison `called` is true of the decimals `x` and `y`.
abbrev pub AreCompared : BinaryCall → ℤ → ℤ → Type 0
AreCompared LessThan x y = x <ℤ y
AreCompared LessThanOrEqual x y = x ≤ℤ y
AreCompared GreaterThan x y = y <ℤ x
AreCompared GreaterThanOrEqual x y = y ≤ℤ x
AreCompared IsInRange x y = ⊥

-- `TakesDecimals called` holds if both operands of `called` must be decimals.
abbrev pub TakesDecimals : BinaryCall → Type 0
TakesDecimals IsInRange = ⊥
TakesDecimals called = ⊤

-- `BinaryCallGives called v w r` holds if `r` is the result of the call `called` on `v` and `w`.
pub data BinaryCallGives : BinaryCall → PlainValue → PlainValue → EvaluationResult → Type 0 where
  of_decimals : {called : BinaryCall} {x y : ℤ} {r : EvaluationResult} → TakesDecimals called
      → IsTruthOf (AreCompared called x y) r → BinaryCallGives called (decimal x) (decimal y) r
  in_range : {m n : Network} {r : EvaluationResult} → IsTruthOf (IsWithin m n) r
      → BinaryCallGives IsInRange (ipaddr m) (ipaddr n) r
  no_decimals : {called : BinaryCall} {v w : PlainValue} → TakesDecimals called → (decimal_in v ≡ None)
      ⊎ (decimal_in w ≡ None) →
      BinaryCallGives called v w (Err TypeError)
  no_addresses : {v w : PlainValue} → (network_in v ≡ None) ⊎ (network_in w ≡ None)
      → BinaryCallGives IsInRange v w (Err TypeError)
