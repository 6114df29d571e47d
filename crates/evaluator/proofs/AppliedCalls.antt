-- What calls with one operand and with two compute is what their rules give.
use Rattle.std.specs.Prelude.{◌≡◌, ◌⊎◌, ℕ, ℤ, int_lt, int_le, List, Bool, not, Some, None, Ok, Err, refl}
use Rattle.std.proofs.Common.{inl, inr, ap}
use Rattle.values.specs.extensions.Network.{Network, loopback_v4, loopback_v6, multicast_v4, multicast_v6}
use Rattle.values.specs.extensions.DecimalText.{IsDecimalText}
use Rattle.values.specs.extensions.NetworkText.{IsNetworkText}
use Rattle.values.specs.Values.{PlainValue, text, decimal, ipaddr}
use Rattle.grammar_core.specs.declared.operator.UnaryCall.{UnaryCall}
use Rattle.grammar_core.specs.declared.operator.UnaryCall.TheVariants as one
use Rattle.grammar_core.specs.declared.operator.BinaryCall.{BinaryCall}
use Rattle.grammar_core.specs.declared.operator.BinaryCall.TheVariants as two
use Rattle.evaluator.specs.declared.fault.EvalFault.TheVariants.{TypeError, ExtensionError}
use Rattle.values.specs.extensions.Decided.{Decided, is_proved}
use Rattle.values.specs.extensions.TextsDecided.{decimal_text_decided, network_text_decided, in_either_decided}
use Rattle.values.specs.extensions.TextsDecided.{within_decided}
use Rattle.evaluator.specs.Outcomes.{EvaluationResult, IsTruthOf, text_in, decimal_in, network_in}
use Rattle.evaluator.specs.Operators as rule
use Rattle.evaluator.specs.Operators.{UnaryCallGives, BinaryCallGives, IsTested, TakesAddress, AreCompared}
use Rattle.evaluator.specs.Operators.{TakesDecimals}
use Rattle.evaluator.specs.inner.Computing.{and_then, demanded, truth, decimal_read, network_read, is_v4, tested}
use Rattle.evaluator.specs.inner.Computing.{apply_unary_call, decimals, networks, apply_binary_call}
use Rattle.evaluator.proofs.ByKind.{text_cases, decimal_cases, network_cases}
use Rattle.evaluator.proofs.Telling.{told_iff, tells_test, test_is, int_lt_iff, int_le_iff, v4_iff, v6_iff}
use Rattle.evaluator.proofs.Applied.{OneDecimal, OneNetwork, LawsBelow, other, other_is, others_are, two_others}
use Rattle.evaluator.proofs.Applied.{two_others_are}

-- ---- calls with one operand

decimal_exists : (t : List ℕ) (d : Decided ((z : ℤ) × IsDecimalText t z)) → UnaryCallGives one.Decimal (text t) (decimal_read d)
decimal_exists t (inl h) = rule.reads_decimal h.1
decimal_exists t (inr n) = rule.no_decimal (λ z h. n (z, h))

pub decimal_is : OneDecimal → (t : List ℕ) (d : Decided ((z : ℤ) × IsDecimalText t z)) (z : ℤ) → IsDecimalText t z → decimal_read d ≡ Ok (decimal z)
decimal_is one_each t (inl h) z k = ap (λ y. Ok (decimal y)) (one_each t h.0 z h.1 k)
decimal_is one_each t (inr n) z k = absurd (n (z, k))

no_decimal_is : (t : List ℕ) (d : Decided ((z : ℤ) × IsDecimalText t z)) → ((z : ℤ) → ¬ IsDecimalText t z) → decimal_read d ≡ Err ExtensionError
no_decimal_is t (inl h) n = absurd (n h.0 h.1)
no_decimal_is t (inr m) n = refl

network_exists : (t : List ℕ) (d : Decided ((n : Network) × IsNetworkText t n)) → UnaryCallGives one.Ip (text t) (network_read d)
network_exists t (inl h) = rule.reads_address h.1
network_exists t (inr n) = rule.no_address (λ z h. n (z, h))

pub network_is : OneNetwork → (t : List ℕ) (d : Decided ((n : Network) × IsNetworkText t n)) (n : Network) → IsNetworkText t n → network_read d ≡ Ok (ipaddr n)
network_is one_each t (inl h) n k = ap (λ y. Ok (ipaddr y)) (one_each t h.0 n h.1 k)
network_is one_each t (inr m) n k = absurd (m (n, k))

pub no_network_is : (t : List ℕ) (d : Decided ((n : Network) × IsNetworkText t n)) → ((n : Network) → ¬ IsNetworkText t n) → network_read d ≡ Err ExtensionError
no_network_is t (inl h) n = absurd (n h.0 h.1)
no_network_is t (inr m) n = refl

tested_exists : (called : UnaryCall) (f : Network → Bool) → TakesAddress called → ((n : Network) → UnaryCallGives called (ipaddr n) (truth (f n))) → (v : PlainValue) → UnaryCallGives called v (tested f v)
tested_exists called f takes h v = network_cases (λ v. UnaryCallGives called v (tested f v)) h
    (λ v e. other (λ n. truth (f n)) (UnaryCallGives called v) (network_in v) e (rule.of_no_address takes e)) v

pub unary_call_exists : (called : UnaryCall) (v : PlainValue) → UnaryCallGives called v (apply_unary_call called v)
unary_call_exists one.Decimal v = text_cases (λ v. UnaryCallGives one.Decimal v (apply_unary_call one.Decimal v))
    (λ t. decimal_exists t (decimal_text_decided t))
    (λ v e. other (λ t. decimal_read (decimal_text_decided t)) (UnaryCallGives one.Decimal v) (text_in v) e (rule.decimal_of_other e)) v
unary_call_exists one.Ip v = text_cases (λ v. UnaryCallGives one.Ip v (apply_unary_call one.Ip v))
    (λ t. network_exists t (network_text_decided t))
    (λ v e. other (λ t. network_read (network_text_decided t)) (UnaryCallGives one.Ip v) (text_in v) e (rule.address_of_other e)) v
unary_call_exists one.IsIpv4 v = tested_exists one.IsIpv4 (λ n. is_v4 n.version) tt (λ n. rule.of_address tt (tells_test (is_v4 n.version) (v4_iff n.version))) v
unary_call_exists one.IsIpv6 v = tested_exists one.IsIpv6 (λ n. not (is_v4 n.version)) tt (λ n. rule.of_address tt (tells_test (not (is_v4 n.version)) (v6_iff n.version))) v
unary_call_exists one.IsLoopback v = tested_exists one.IsLoopback (λ n. is_proved (in_either_decided n loopback_v4 loopback_v6)) tt
    (λ n. rule.of_address tt (tells_test (is_proved (in_either_decided n loopback_v4 loopback_v6)) (told_iff (in_either_decided n loopback_v4 loopback_v6)))) v
unary_call_exists one.IsMulticast v = tested_exists one.IsMulticast (λ n. is_proved (in_either_decided n multicast_v4 multicast_v6)) tt
    (λ n. rule.of_address tt (tells_test (is_proved (in_either_decided n multicast_v4 multicast_v6)) (told_iff (in_either_decided n multicast_v4 multicast_v6)))) v

no_address_is : (called : UnaryCall) (v : PlainValue) → TakesAddress called → network_in v ≡ None → apply_unary_call called v ≡ Err TypeError
no_address_is one.Ip v h e = absurd h
no_address_is one.Decimal v h e = absurd h
no_address_is one.IsIpv4 v h e = other_is (λ n. truth (is_v4 n.version)) (network_in v) e
no_address_is one.IsIpv6 v h e = other_is (λ n. truth (not (is_v4 n.version))) (network_in v) e
no_address_is one.IsLoopback v h e = other_is (λ n. truth (is_proved (in_either_decided n loopback_v4 loopback_v6))) (network_in v) e
no_address_is one.IsMulticast v h e = other_is (λ n. truth (is_proved (in_either_decided n multicast_v4 multicast_v6))) (network_in v) e

of_address_is : (called : UnaryCall) → TakesAddress called → (n : Network) (r : EvaluationResult) → IsTruthOf (IsTested called n) r → apply_unary_call called (ipaddr n) ≡ r
of_address_is one.Ip h n r t = absurd h
of_address_is one.Decimal h n r t = absurd h
of_address_is one.IsIpv4 h n r t = test_is (is_v4 n.version) (v4_iff n.version) r t
of_address_is one.IsIpv6 h n r t = test_is (not (is_v4 n.version)) (v6_iff n.version) r t
of_address_is one.IsLoopback h n r t = test_is (is_proved (in_either_decided n loopback_v4 loopback_v6)) (told_iff (in_either_decided n loopback_v4 loopback_v6)) r t
of_address_is one.IsMulticast h n r t = test_is (is_proved (in_either_decided n multicast_v4 multicast_v6)) (told_iff (in_either_decided n multicast_v4 multicast_v6)) r t

pub unary_call_is : LawsBelow → (called : UnaryCall) (v : PlainValue) (r : EvaluationResult) → UnaryCallGives called v r → apply_unary_call called v ≡ r
unary_call_is L _ _ _ (rule.reads_decimal {t} {z} h) = decimal_is L.decimals t (decimal_text_decided t) z h
unary_call_is L _ _ _ (rule.no_decimal {t} n) = no_decimal_is t (decimal_text_decided t) n
unary_call_is L _ _ _ (rule.decimal_of_other {v} e) = other_is (λ t. decimal_read (decimal_text_decided t)) (text_in v) e
unary_call_is L _ _ _ (rule.reads_address {t} {n} h) = network_is L.networks t (network_text_decided t) n h
unary_call_is L _ _ _ (rule.no_address {t} n) = no_network_is t (network_text_decided t) n
unary_call_is L _ _ _ (rule.address_of_other {v} e) = other_is (λ t. network_read (network_text_decided t)) (text_in v) e
unary_call_is L _ _ _ (rule.of_address {called} {n} {r} takes h) = of_address_is called takes n r h
unary_call_is L _ _ _ (rule.of_no_address {called} {v} takes e) = no_address_is called v takes e

-- ---- calls with two operands

decimals_exist : (called : BinaryCall) (f : ℤ → ℤ → Bool) → TakesDecimals called → ((x y : ℤ) → BinaryCallGives called (decimal x) (decimal y) (truth (f x y))) →
    (v w : PlainValue) → BinaryCallGives called v w (decimals f v w)
decimals_exist called f takes h v w = decimal_cases (λ v. BinaryCallGives called v w (decimals f v w))
    (λ x. decimal_cases (λ w. BinaryCallGives called (decimal x) w (decimals f (decimal x) w)) (h x)
    (λ w e. two_others (λ p. truth (f p.0 p.1)) (BinaryCallGives called (decimal x) w) (Some x) (decimal_in w) (inr e) (rule.no_decimals takes (inr e))) w)
    (λ v e. two_others (λ p. truth (f p.0 p.1)) (BinaryCallGives called v w) (decimal_in v) (decimal_in w) (inl e) (rule.no_decimals takes (inl e))) v

networks_exist : (v w : PlainValue) → BinaryCallGives two.IsInRange v w (networks (λ m n. is_proved (within_decided m n)) v w)
networks_exist v w = network_cases (λ v. BinaryCallGives two.IsInRange v w (networks (λ m n. is_proved (within_decided m n)) v w))
    (λ x. network_cases (λ w. BinaryCallGives two.IsInRange (ipaddr x) w (networks (λ m n. is_proved (within_decided m n)) (ipaddr x) w))
    (λ y. rule.in_range (tells_test (is_proved (within_decided x y)) (told_iff (within_decided x y))))
    (λ w e. other (λ y. truth (is_proved (within_decided x y))) (BinaryCallGives two.IsInRange (ipaddr x) w) (network_in w) e (rule.no_addresses (inr e))) w)
    (λ v e. other (λ x. and_then (demanded (network_in w)) (λ y. truth (is_proved (within_decided x y)))) (BinaryCallGives two.IsInRange v w) (network_in v) e (rule.no_addresses (inl e))) v

pub binary_call_exists : (called : BinaryCall) (v w : PlainValue) → BinaryCallGives called v w (apply_binary_call called v w)
binary_call_exists two.LessThan v w = decimals_exist two.LessThan (λ x y. int_lt x y) tt (λ x y. rule.of_decimals tt (tells_test (int_lt x y) (int_lt_iff x y))) v w
binary_call_exists two.LessThanOrEqual v w = decimals_exist two.LessThanOrEqual (λ x y. int_le x y) tt (λ x y. rule.of_decimals tt (tells_test (int_le x y) (int_le_iff x y))) v w
binary_call_exists two.GreaterThan v w = decimals_exist two.GreaterThan (λ x y. int_lt y x) tt (λ x y. rule.of_decimals tt (tells_test (int_lt y x) (int_lt_iff y x))) v w
binary_call_exists two.GreaterThanOrEqual v w = decimals_exist two.GreaterThanOrEqual (λ x y. int_le y x) tt (λ x y. rule.of_decimals tt (tells_test (int_le y x) (int_le_iff y x))) v w
binary_call_exists two.IsInRange v w = networks_exist v w

no_decimals_are : (called : BinaryCall) (v w : PlainValue) → TakesDecimals called → (decimal_in v ≡ None) ⊎ (decimal_in w ≡ None) → apply_binary_call called v w ≡ Err TypeError
no_decimals_are two.LessThan v w takes h = two_others_are (λ p. truth (int_lt p.0 p.1)) (decimal_in v) (decimal_in w) h
no_decimals_are two.LessThanOrEqual v w takes h = two_others_are (λ p. truth (int_le p.0 p.1)) (decimal_in v) (decimal_in w) h
no_decimals_are two.GreaterThan v w takes h = two_others_are (λ p. truth (int_lt p.1 p.0)) (decimal_in v) (decimal_in w) h
no_decimals_are two.GreaterThanOrEqual v w takes h = two_others_are (λ p. truth (int_le p.1 p.0)) (decimal_in v) (decimal_in w) h
no_decimals_are two.IsInRange v w takes h = absurd takes

of_decimals_is : (called : BinaryCall) → TakesDecimals called → (x y : ℤ) (r : EvaluationResult) → IsTruthOf (AreCompared called x y) r → apply_binary_call called (decimal x) (decimal y) ≡ r
of_decimals_is two.LessThan h x y r t = test_is (int_lt x y) (int_lt_iff x y) r t
of_decimals_is two.LessThanOrEqual h x y r t = test_is (int_le x y) (int_le_iff x y) r t
of_decimals_is two.GreaterThan h x y r t = test_is (int_lt y x) (int_lt_iff y x) r t
of_decimals_is two.GreaterThanOrEqual h x y r t = test_is (int_le y x) (int_le_iff y x) r t
of_decimals_is two.IsInRange h x y r t = absurd h

pub binary_call_is : (called : BinaryCall) (v w : PlainValue) (r : EvaluationResult) → BinaryCallGives called v w r → apply_binary_call called v w ≡ r
binary_call_is _ _ _ _ (rule.of_decimals {called} {x} {y} {r} takes h) = of_decimals_is called takes x y r h
binary_call_is _ _ _ _ (rule.in_range {m} {n} {r} h) = test_is (is_proved (within_decided m n)) (told_iff (within_decided m n)) r h
binary_call_is _ _ _ _ (rule.no_decimals {called} {v} {w} takes h) = no_decimals_are called v w takes h
binary_call_is _ _ _ _ (rule.no_addresses {v} {w} h) = others_are (λ x y. truth (is_proved (within_decided x y))) (network_in v) (network_in w) h
