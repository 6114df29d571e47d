-- Defines the outcome of an expression as a function that computes it. The function is given a test of ancestors. If
-- the test decides the ancestor relation, the outcome is the one of the relation `EvaluatesTo` (Evaluation.antt).
use Rattle.std.specs.Prelude.{◌≡◌, ◌≢◌, ℕ, ℤ, pos, neg_ℤ, ◌+ℤ◌, ◌-ℤ◌, ◌*ℤ◌, int_lt, int_le, List, [], ◌∷◌, Bool, true}
use Rattle.std.specs.Prelude.{false, not, ◌&&◌, ◌||◌, if◌then◌else◌, Option, Some, None, is_some, Result, Ok, Err}
use Rattle.std.specs.Prelude.{MatchResult}
use Rattle.std.proofs.Common.{inl, inr}
use Rattle.std.specs.List.{list_any, list_all}
use Rattle.std.specs.Ordering.{is_eq}
use Rattle.std.specs.Str.{bytes_eq}
use Rattle.values.specs.extensions.declared.ip_net.Version.{Version}
use Rattle.values.specs.extensions.declared.ip_net.Version.TheVariants.{V4, V6}
use Rattle.values.specs.extensions.Network.{Network, loopback_v4, loopback_v6, multicast_v4, multicast_v6}
use Rattle.values.specs.extensions.DecimalText.{IsDecimalText}
use Rattle.values.specs.extensions.NetworkText.{IsNetworkText}
use Rattle.values.specs.declared.entity_uid.EntityUid.{EntityUid}
use Rattle.values.specs.declared.request.Request.{Request}
use Rattle.values.specs.Names.{uid_cmp}
use Rattle.values.specs.Fields.{Field, put, find_field}
use Rattle.values.specs.Sets.{set_list, has_member}
use Rattle.values.specs.Values.{PlainValue, boolean, long, entity, set, record_of, decimal, ipaddr, list_of, values_of}
use Rattle.values.specs.Values.{pairs_of, fields_of}
use Rattle.values.specs.ValueOrder.{value_cmp}
use Rattle.grammar_core.specs.LikeTest.{is_match}
use Rattle.grammar_core.specs.declared.operator.Unary.{Unary}
use Rattle.grammar_core.specs.declared.operator.Unary.TheVariants.{Not, Negate, Like, Is}
use Rattle.grammar_core.specs.declared.operator.Binary.{Binary}
use Rattle.grammar_core.specs.declared.operator.Binary.TheVariants.{Equal, In, Less, LessOrEqual, Add, Subtract}
use Rattle.grammar_core.specs.declared.operator.Binary.TheVariants.{Multiply, Contains, ContainsAll, ContainsAny}
use Rattle.grammar_core.specs.declared.operator.UnaryCall.{UnaryCall}
use Rattle.grammar_core.specs.declared.operator.UnaryCall.TheVariants.{Ip, Decimal, IsIpv4, IsIpv6, IsLoopback}
use Rattle.grammar_core.specs.declared.operator.UnaryCall.TheVariants.{IsMulticast}
use Rattle.grammar_core.specs.declared.operator.BinaryCall.{BinaryCall}
use Rattle.grammar_core.specs.declared.operator.BinaryCall.TheVariants.{LessThan, LessThanOrEqual, GreaterThan}
use Rattle.grammar_core.specs.declared.operator.BinaryCall.TheVariants.{GreaterThanOrEqual, IsInRange}
use Rattle.grammar_core.specs.declared.expr.Named.{Named}
use Rattle.grammar_core.specs.declared.expr.Expr.{Expr}
use Rattle.grammar_core.specs.declared.expr.Expr.TheOpen.{Expr-F}
use Rattle.grammar_core.specs.declared.expr.Expr.TheFolds.{fold-Expr}
use Rattle.evaluator.specs.declared.fault.EvalFault.{EvalFault}
use Rattle.evaluator.specs.declared.numbers.Numbers.{Numbers}
use Rattle.evaluator.specs.declared.fault.EvalFault.TheVariants.{EntityDoesNotExist, AttrDoesNotExist, TypeError}
use Rattle.evaluator.specs.declared.fault.EvalFault.TheVariants.{ArithBoundsError, ExtensionError, NoMemory}
use Rattle.values.specs.extensions.Decided.{Decided, is_proved}
use Rattle.values.specs.extensions.TextsDecided.{decimal_text_decided, network_text_decided, in_either_decided}
use Rattle.values.specs.extensions.TextsDecided.{within_decided}
use Rattle.evaluator.specs.Outcomes.{EvaluationResult, boolean_in, long_in, text_in, entity_uid_in, members_in}
use Rattle.evaluator.specs.Outcomes.{decimal_in, network_in}
use Rattle.evaluator.specs.Evaluation.{literal_value, variable_value}

-- A `DecidedEntities` is the entity data over which `meaning` evaluates: the attributes of each stored entity, and a
-- test of the ancestor relation.
pub record DecidedEntities : Type 0 where
  pub stored : EntityUid → Option (List Field)
  pub ancestor_test : EntityUid → EntityUid → Bool

-- `decided_entities stored ancestor_test` is the entity data with the attributes `stored` and the test `ancestor_test`.
-- For two entities `a` and `b`, `ancestor_test a b` tests whether `a` is an ancestor of `b`.
abbrev pub decided_entities : (EntityUid → Option (List Field)) → (EntityUid → EntityUid → Bool) → DecidedEntities
decided_entities stored ancestor_test = record { stored = stored; ancestor_test = ancestor_test }

-- `and_then r f` is `f` of the value in `r`, or the error in `r`.
abbrev pub and_then : {A B : Type 0} → Result A EvalFault → (A → Result B EvalFault) → Result B EvalFault
and_then (Ok v) f = f v
and_then (Err e) f = Err e

-- `demanded o` is the content in `o`, or `TypeError` if `o` is `None` (for a value of another kind).
abbrev pub demanded : {A : Type 0} → Option A → Result A EvalFault
demanded None = Err TypeError
demanded (Some a) = Ok a

-- `two_demanded a b` are the contents in `a` and `b`, or `TypeError` if `a` or `b` is `None`.
abbrev pub two_demanded : {A B : Type 0} → Option A → Option B → Result (A × B) EvalFault
two_demanded a b = and_then (demanded a) (λ x. and_then (demanded b) (λ y. Ok (x, y)))

-- `truth b` is the boolean value `b`.
abbrev pub truth : Bool → EvaluationResult
truth b = Ok (boolean b)

-- `is_bounded z` tests whether `z` fits in signed 64 bits: whether it is at least -2^63 and less than 2^63.
abbrev pub is_bounded : ℤ → Bool
is_bounded z = int_le (neg_ℤ (pos 9223372036854775808)) z && int_lt z (pos 9223372036854775808)

-- `bounded z` is the integer `z` as a value, or `ArithBoundsError` if it does not fit in signed 64 bits.
abbrev pub bounded : ℤ → EvaluationResult
bounded z = if is_bounded z then Ok (long z) else Err ArithBoundsError

-- `number_or_fault o` is the integer in `o` as a value, or `ArithBoundsError` if checked arithmetic gives `None`.
abbrev pub number_or_fault : Option ℤ → EvaluationResult
number_or_fault None = Err ArithBoundsError
number_or_fault (Some z) = Ok (long z)

-- `apply_unary op v` is the outcome of the operator `op` on `v`.
abbrev pub apply_unary : Unary → PlainValue → EvaluationResult
apply_unary Not v = and_then (demanded (boolean_in v)) (λ b. truth (not b))
apply_unary Negate v = and_then (demanded (long_in v)) (λ z. bounded (neg_ℤ z))
apply_unary (Like pattern) v = and_then (demanded (text_in v)) (λ t. truth (is_match pattern t))
apply_unary (Is name) v = and_then (demanded (entity_uid_in v)) (λ u. truth (bytes_eq u.type_name name))

-- `is_in E a b` tests whether `a` is `b` or, by the test `E.ancestor_test`, a descendant of `b`.
abbrev pub is_in : DecidedEntities → EntityUid → EntityUid → Bool
is_in E a b = is_eq (uid_cmp a b) || E.ancestor_test b a

-- `in_members E a vs` tests whether `a` is a member of `vs` or, by the test `E.ancestor_test`, a descendant of one; it
-- gives `TypeError` if a member is not an entity.
abbrev pub in_members : DecidedEntities → EntityUid → List PlainValue → Result Bool EvalFault
in_members E a [] = Ok false
in_members E a (v ∷ vs) =
    and_then (demanded (entity_uid_in v)) (λ b. and_then (in_members E a vs) (λ rest. Ok (is_in E a b || rest)))

-- `in_value E a v` is the outcome of `a in v` over the entity data `E`, where `v` must be an entity or a set of
-- entities.
abbrev pub in_value : DecidedEntities → EntityUid → PlainValue → EvaluationResult
in_value E a (entity b) = truth (is_in E a b)
in_value E a (set vs) = and_then (in_members E a (list_of vs)) truth
in_value E a v = Err TypeError

-- `numbers f v w` is the outcome of `f` on the integers in `v` and `w`; `TypeError` if `v` or `w` is not an integer.
abbrev pub numbers : (ℤ → ℤ → EvaluationResult) → PlainValue → PlainValue → EvaluationResult
numbers f v w = and_then (two_demanded (long_in v) (long_in w)) (λ p. f p.0 p.1)

-- `sets f v w` is the outcome of the test `f` on the members of `v` and those of `w`; `TypeError` if `v` or `w` is not
-- a set.
abbrev pub sets : (List PlainValue → List PlainValue → Bool) → PlainValue → PlainValue → EvaluationResult
sets f v w = and_then (demanded (members_in v)) (λ x. and_then (demanded (members_in w)) (λ y. truth (f x y)))

-- `apply_binary E op v w` is the outcome of the operator `op` on `v` and `w`, over the entity data `E`.
abbrev pub apply_binary : DecidedEntities → Binary → PlainValue → PlainValue → EvaluationResult
apply_binary E Equal v w = truth (is_eq (value_cmp v w))
apply_binary E In v w = and_then (demanded (entity_uid_in v)) (λ a. in_value E a w)
apply_binary E Less v w = numbers (λ x y. truth (int_lt x y)) v w
apply_binary E LessOrEqual v w = numbers (λ x y. truth (int_le x y)) v w
apply_binary E Add v w = numbers (λ x y. bounded (x +ℤ y)) v w
apply_binary E Subtract v w = numbers (λ x y. bounded (x -ℤ y)) v w
apply_binary E Multiply v w = numbers (λ x y. bounded (x *ℤ y)) v w
apply_binary E Contains v w = and_then (demanded (members_in v)) (λ x. truth (has_member x w))
apply_binary E ContainsAll v w = sets (λ x y. list_all (has_member x) y) v w
apply_binary E ContainsAny v w = sets (λ x y. list_any (has_member x) y) v w

-- `found_or e o` is the value of `o`, or the error `e` if `o` is `None`.
abbrev pub found_or : EvalFault → Option PlainValue → EvaluationResult
found_or e None = Err e
found_or e (Some v) = Ok v

-- `attribute o name` is the attribute `name` of an entity with the attributes `o`, or an error if the entity is not
-- stored (`None`) or has no such attribute.
abbrev pub attribute : Option (List Field) → List ℕ → EvaluationResult
attribute None name = Err EntityDoesNotExist
attribute (Some fs) name = found_or AttrDoesNotExist (find_field name fs)

-- `field_of E name v` is the outcome of `v.name`, over the entity data `E`.
abbrev pub field_of : DecidedEntities → List ℕ → PlainValue → EvaluationResult
field_of E name (record_of fs) = found_or AttrDoesNotExist (find_field name (pairs_of fs))
field_of E name (entity u) = attribute (E.stored u) name
field_of E name v = Err TypeError

-- `has_attribute o name` tests whether an entity with the attributes `o` has the attribute `name`; an entity that is
-- not stored (`None`) has none.
abbrev pub has_attribute : Option (List Field) → List ℕ → Bool
has_attribute None name = false
has_attribute (Some fs) name = is_some (find_field name fs)

-- `has_field E name v` is the outcome of `v has name`, over the entity data `E`.
abbrev pub has_field : DecidedEntities → List ℕ → PlainValue → EvaluationResult
has_field E name (record_of fs) = truth (is_some (find_field name (pairs_of fs)))
has_field E name (entity u) = truth (has_attribute (E.stored u) name)
has_field E name v = Err TypeError

-- `decimal_read d` is the decimal that a string denotes, and `network_read d` the IP address, or `ExtensionError` if
-- the string denotes none; `d` decides whether the string denotes one.
abbrev pub decimal_read : {t : List ℕ} → Decided ((z : ℤ) × IsDecimalText t z) → EvaluationResult
decimal_read (inl h) = Ok (decimal h.0)
decimal_read (inr n) = Err ExtensionError

abbrev pub network_read : {t : List ℕ} → Decided ((n : Network) × IsNetworkText t n) → EvaluationResult
network_read (inl h) = Ok (ipaddr h.0)
network_read (inr n) = Err ExtensionError

-- `is_v4 version` tests whether `version` is IPv4.
abbrev pub is_v4 : Version → Bool
is_v4 V4 = true
is_v4 V6 = false

-- `tested f v` is the outcome of the test `f` on the IP address in `v`; `TypeError` if `v` is not an IP address.
abbrev pub tested : (Network → Bool) → PlainValue → EvaluationResult
tested f v = and_then (demanded (network_in v)) (λ n. truth (f n))

-- `apply_unary_call f v` is the outcome of the extension function or method `f` on `v`.
abbrev pub apply_unary_call : UnaryCall → PlainValue → EvaluationResult
apply_unary_call Decimal v = and_then (demanded (text_in v)) (λ t. decimal_read (decimal_text_decided t))
apply_unary_call Ip v = and_then (demanded (text_in v)) (λ t. network_read (network_text_decided t))
apply_unary_call IsIpv4 v = tested (λ n. is_v4 n.version) v
apply_unary_call IsIpv6 v = tested (λ n. not (is_v4 n.version)) v
apply_unary_call IsLoopback v = tested (λ n. is_proved (in_either_decided n loopback_v4 loopback_v6)) v
apply_unary_call IsMulticast v = tested (λ n. is_proved (in_either_decided n multicast_v4 multicast_v6)) v

-- `decimals f v w` is the outcome of the test `f` on the decimals in `v` and `w`; `TypeError` if `v` or `w` is not a
-- decimal.
abbrev pub decimals : (ℤ → ℤ → Bool) → PlainValue → PlainValue → EvaluationResult
decimals f v w = and_then (two_demanded (decimal_in v) (decimal_in w)) (λ p. truth (f p.0 p.1))

-- `networks f v w` is the outcome of the test `f` on the IP addresses in `v` and `w`; `TypeError` if `v` or `w` is not
-- an IP address.
abbrev pub networks : (Network → Network → Bool) → PlainValue → PlainValue → EvaluationResult
networks f v w = and_then (demanded (network_in v)) (λ x. and_then (demanded (network_in w)) (λ y. truth (f x y)))

-- `apply_binary_call f v w` is the outcome of the method `f` on `v` and `w`.
abbrev pub apply_binary_call : BinaryCall → PlainValue → PlainValue → EvaluationResult
apply_binary_call LessThan v w = decimals (λ x y. int_lt x y) v w
apply_binary_call LessThanOrEqual v w = decimals (λ x y. int_le x y) v w
apply_binary_call GreaterThan v w = decimals (λ x y. int_lt y x) v w
apply_binary_call GreaterThanOrEqual v w = decimals (λ x y. int_le y x) v w
apply_binary_call IsInRange v w = networks (λ m n. is_proved (within_decided m n)) v w

-- `each rs` are the values of the outcomes `rs` in order, or the first error.
abbrev pub each : List EvaluationResult → Result (List PlainValue) EvalFault
each [] = Ok []
each (r ∷ rs) = and_then r (λ v. and_then (each rs) (λ vs. Ok (v ∷ vs)))

-- `each_field fs done` are the fields `done`, with each name of `fs` set in order to its value, or the first error.
abbrev pub each_field : List (Named EvaluationResult) → List Field → Result (List Field) EvalFault
each_field [] done = Ok done
each_field (f ∷ fs) done = and_then f.value (λ v. each_field fs (put f.name v done))

-- `as_test r` is the boolean in the outcome `r`, the error in `r`, or `TypeError` if the value is not a boolean.
abbrev pub as_test : EvaluationResult → Result Bool EvalFault
as_test r = and_then r (λ v. demanded (boolean_in v))

-- `choice a b c` is the outcome of `if`, given the outcomes `a` of its test, `b` of its first branch and `c` of its
-- second.
abbrev pub choice : EvaluationResult → EvaluationResult → EvaluationResult → EvaluationResult
choice a b c = and_then (as_test a) (λ t. if t then b else c)

-- `both a b` is the outcome of `&&`, given the outcomes `a` and `b` of its operands; `b` matters only if `a` is true.
abbrev pub both : EvaluationResult → EvaluationResult → EvaluationResult
both a b = and_then (as_test a) (λ t. if t then and_then (as_test b) truth else truth false)

-- `either a b` is the outcome of `||`, given the outcomes `a` and `b` of its operands; `b` matters only if `a` is
-- false.
abbrev pub either : EvaluationResult → EvaluationResult → EvaluationResult
either a b = and_then (as_test a) (λ t. if t then truth true else and_then (as_test b) truth)

-- `meaning_step q E x` is the outcome of an expression under the request `q`, over the entity data `E`; `x` is the
-- expression with each operand replaced by its outcome.
abbrev pub meaning_step : Request → DecidedEntities → Expr-F EvaluationResult → EvaluationResult
meaning_step q E (Expr-F.Literal l) = Ok (literal_value l)
meaning_step q E (Expr-F.Variable x) = Ok (variable_value x q)
meaning_step q E (Expr-F.If a b c) = choice a b c
meaning_step q E (Expr-F.And a b) = both a b
meaning_step q E (Expr-F.Or a b) = either a b
meaning_step q E (Expr-F.Unary op a) = and_then a (apply_unary op)
meaning_step q E (Expr-F.Binary op a b) = and_then a (λ v. and_then b (apply_binary E op v))
meaning_step q E (Expr-F.Field a name) = and_then a (field_of E name)
meaning_step q E (Expr-F.Has a name) = and_then a (has_field E name)
meaning_step q E (Expr-F.Set rs) = and_then (each rs) (λ vs. Ok (set (values_of (set_list vs))))
meaning_step q E (Expr-F.Record fs) = and_then (each_field fs []) (λ done. Ok (record_of (fields_of done)))
meaning_step q E (Expr-F.UnaryCall called a) = and_then a (apply_unary_call called)
meaning_step q E (Expr-F.BinaryCall called a b) = and_then a (λ v. and_then b (apply_binary_call called v))

-- `meaning q E x` is the outcome of the expression `x` under the request `q`, over the entity data `E`.
abbrev pub meaning : Request → DecidedEntities → Expr → EvaluationResult
meaning q E = fold-Expr EvaluationResult (meaning_step q E)

-- `named_meaning q E f` is the field `f` with the outcome of its expression under the request `q`, over the entity data
-- `E`.
abbrev pub named_meaning : Request → DecidedEntities → Named Expr → Named EvaluationResult
named_meaning q E f = record { name = f.name; value = meaning q E f.value }

-- `Answers r m` holds if the result `r` of the code is the outcome `m`, or `NoMemory`.
abbrev pub Answers : {A : Type 0} → Result A EvalFault → Result A EvalFault → Type 0
Answers r m = MatchResult r (λ v. m ≡ Ok v) (λ e. e ≢ NoMemory → m ≡ Err e)

-- `AnswersNext given f r` holds if, for each outcome `m` that `given` answers, `r` answers `f` of the value in `m`, or
-- the error in `m`.
abbrev pub AnswersNext : {A B : Type 0} → Result A EvalFault → (A → Result B EvalFault) → Result B EvalFault → Type 0
AnswersNext {A} given f r = (m : Result A EvalFault) → Answers given m → Answers r (and_then m f)

-- `AnswersInto given P r` holds if, for each outcome `m` that `given` answers, `r` is a success and `P` holds of the
-- value in `m`, or `r` is the error in `m`, or `NoMemory`.
abbrev pub AnswersInto : {A : Type 0} → EvaluationResult → (PlainValue → Type 0) → Result A EvalFault → Type 0
AnswersInto given P r = (m : EvaluationResult) → Answers given m
    → MatchResult r (λ _. (v : PlainValue) × (m ≡ Ok v) × P v) (λ e. e ≢ NoMemory → m ≡ Err e)

-- `AnswersNumber r m` holds if `r` is the integer in the outcome `m`, `None` if the value in `m` is of another kind,
-- the error in `m`, or `NoMemory`.
abbrev pub AnswersNumber : Result (Option ℤ) EvalFault → EvaluationResult → Type 0
AnswersNumber r m = MatchResult r (λ n. (v : PlainValue) × (m ≡ Ok v) × (n ≡ long_in v)) (λ e. e ≢ NoMemory → m ≡ Err e)

-- `AnswersNumbers r a b` holds if `r` has the integers in the outcomes `a` and `b`, each `None` for a value of another
-- kind, or is the first error in them, or `NoMemory`.
abbrev pub AnswersNumbers : Result Numbers EvalFault → EvaluationResult → EvaluationResult → Type 0
AnswersNumbers r a b = MatchResult r
    (λ ns. (v w : PlainValue) × (a ≡ Ok v) × (b ≡ Ok w) × (ns.first ≡ long_in v) × (ns.second ≡ long_in w))
    (λ e. e ≢ NoMemory → (f : PlainValue → PlainValue → EvaluationResult) → and_then a (λ v. and_then b (f v)) ≡ Err e)
