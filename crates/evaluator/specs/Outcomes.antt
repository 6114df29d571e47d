-- Defines the outcomes of evaluation, and the content of values by their kind.
-- Source: Cedar reference guide 4.0, "Operators and functions".
use Rattle.std.specs.Prelude.{ℕ, ℤ, List, Bool, true, false, Option, Some, None, Result, Ok, Err, FitsSigned}
use Rattle.std.specs.Int.{w64}
use Rattle.values.specs.extensions.Network.{Network}
use Rattle.values.specs.declared.entity_uid.EntityUid.{EntityUid}
use Rattle.values.specs.Fields.{Field}
use Rattle.values.specs.Values.{PlainValue, boolean, long, text, entity, set, record_of, decimal, ipaddr, list_of}
use Rattle.values.specs.Values.{pairs_of}
use Rattle.evaluator.specs.declared.fault.EvalFault.{EvalFault}
use Rattle.evaluator.specs.declared.fault.EvalFault.TheVariants.{ArithBoundsError}

-- An `EvaluationResult` is a value, or an error.
abbrev pub EvaluationResult : Type 0
EvaluationResult = Result PlainValue EvalFault

-- Each of these eight functions gives the content of a value of one kind, and `None` for a value of another kind. In
-- order, the contents are a boolean, an integer, a string, an entity, the members of a set, the fields of a record, a
-- decimal, and an IP address.

abbrev pub boolean_in : PlainValue → Option Bool
boolean_in (boolean b) = Some b
boolean_in v = None

abbrev pub long_in : PlainValue → Option ℤ
long_in (long z) = Some z
long_in v = None

abbrev pub text_in : PlainValue → Option (List ℕ)
text_in (text t) = Some t
text_in v = None

abbrev pub entity_uid_in : PlainValue → Option EntityUid
entity_uid_in (entity u) = Some u
entity_uid_in v = None

abbrev pub members_in : PlainValue → Option (List PlainValue)
members_in (set vs) = Some (list_of vs)
members_in v = None

abbrev pub record_fields_in : PlainValue → Option (List Field)
record_fields_in (record_of fs) = Some (pairs_of fs)
record_fields_in v = None

abbrev pub decimal_in : PlainValue → Option ℤ
decimal_in (decimal z) = Some z
decimal_in v = None

abbrev pub network_in : PlainValue → Option Network
network_in (ipaddr n) = Some n
network_in v = None

-- `IsTruthOf P r` holds if `r` is `true` and `P` holds, or `r` is `false` and `P` does not hold.
pub data IsTruthOf (P : Type 0) : EvaluationResult → Type 0 where
  holds : P → IsTruthOf P (Ok (boolean true))
  fails : ¬ P → IsTruthOf P (Ok (boolean false))

-- `IsChecked z r` holds if `r` is the integer `z`, which fits in signed 64 bits, or `ArithBoundsError` if it does not
-- fit.
pub data IsChecked : ℤ → EvaluationResult → Type 0 where
  fits : {z : ℤ} → FitsSigned w64 z → IsChecked z (Ok (long z))
  overflows : {z : ℤ} → ¬ FitsSigned w64 z → IsChecked z (Err ArithBoundsError)
