-- Values that are no sets and no records: the reading function gives what JSON states.
use Rattle.std.proofs.Common.{◌≡◌, ◌∙◌, ℕ, ℤ, pos, negsuc, List, [], ◌∷◌, Bool, true, false, cond, Option, Some, None}
use Rattle.std.proofs.Common.{Ok, refl, sym, ap, subst, arith, ◌<◌}
use Rattle.std.specs.Prelude.{◌^◌, codes, FitsSigned, nat_lt}
use Rattle.std.specs.Int.{w64}
use Rattle.std.specs.Str.{bytes_eq}
use Rattle.std.proofs.lemmas.Bool.{lt-ltb, ltb-true}
use Rattle.std.proofs.lemmas.Int.{ints}
use Rattle.serde_json.specs.Data.{Num, Data, unsigned, negative, float}
use Rattle.serde_json.specs.Data as json
use Rattle.serde_json.specs.Find.{get, as_i64, as_integer, as_str}
use Rattle.json_words.specs.ReadsAs.{◌>>=◌, or_fault, demand}
use Rattle.json_words.specs.Keys.{has_only}
use Rattle.json_words.specs.Json.{text_at}
use Rattle.json_words.proofs.EachLemmas.{bind_ok}
use Rattle.values.specs.extensions.DecimalText.{IsDecimalText}
use Rattle.values.specs.extensions.NetworkText.{IsNetworkText}
use Rattle.values.specs.extensions.Network.{Network}
use Rattle.values.specs.extensions.TextsDecided.{decimal_text_decided, network_text_decided, decimal_of, network_of}
use Rattle.values.proofs.of_extensions.SignedTexts.{one_decimal}
use Rattle.values.proofs.of_extensions.CanonicalNetworks.{one_network}
use Rattle.values.specs.declared.entity_uid.EntityUid.{EntityUid}
use Rattle.values.specs.Values as value
use Rattle.values.specs.Values.{PlainValue}
use Rattle.entity_uids.specs.Uids.{IsUid, IsRead, uid_in, plain_uid_in}
use Rattle.entity_uids.specs.Laws.{OneUid, UidsAreFound}
use Rattle.entities.specs.declared.fault.EntityFault.TheVariants.{WrongType}
use Rattle.schema_types.specs.Cedar as type
use Rattle.schema_types.specs.Cedar.{Cedar}
use Rattle.entities.specs.Typing.{under_key, plain_call, call_in, argument_in, boolean_in, is_long}
use Rattle.entities.specs.Typing.{long_of, long_in, text_in, entity_in, decimal_in, ipaddr_in, leaf, typed_value}
use Rattle.entities.specs.StatedValues.{IsCall, IsArgument, Reads}
use Rattle.entities.specs.StatedValues as stated
use Rattle.entities.proofs.ReadingSteps.{done, ok_is, some_of, passes, same_bytes, bytes_same, found_of, found_is, none_some}
use Rattle.entities.proofs.ReadingSteps.{some_is}

-- the laws of names
pub record Names : Type 0 where
  pub one : OneUid
  pub found : UidsAreFound

-- ---- names

uid_read : (d : Data) (u : EntityUid) (o : Option EntityUid) → IsRead (IsUid d) o → o ≡ Some u → IsUid d u
uid_read d u (Some v) is e = subst (IsUid d) (some_is v u e) is
uid_read d u None is e = absurd (none_some u None refl e)

pub uid_is : Names → (d : Data) (u : EntityUid) → uid_in d ≡ Some u → IsUid d u
uid_is names d u e = uid_read d u (uid_in d) (names.found d) e

uid_known : OneUid → (d : Data) (u : EntityUid) (o : Option EntityUid) → IsRead (IsUid d) o → IsUid d u → o ≡ Some u
uid_known one d u (Some v) is h = ap (λ (w : EntityUid). Some w) (one d v u is h)
uid_known one d u None is h = absurd (is u h)

pub is_uid : Names → (d : Data) (u : EntityUid) → IsUid d u → uid_in d ≡ Some u
is_uid names d u h = uid_known names.one d u (uid_in d) (names.found d) h

-- ---- integers

long_fits : (z : ℤ) → is_long z ≡ true → FitsSigned w64 z
long_fits (pos n) e = let small : n < 2 ^ 63 = ltb-true n (2 ^ 63) e in omega (arith, ints)
long_fits (negsuc n) e = let small : n < 2 ^ 63 = ltb-true n (2 ^ 63) e in omega (arith, ints)

fits_long : (z : ℤ) → FitsSigned w64 z → is_long z ≡ true
fits_long (pos n) fits = let small : n < 2 ^ 63 = omega (arith, ints) in lt-ltb n (2 ^ 63) small
fits_long (negsuc n) fits = let small : n < 2 ^ 63 = omega (arith, ints) in lt-ltb n (2 ^ 63) small

-- what is read as 64 bits is that integer
small_some : (b : Bool) (n : ℕ) (z : ℤ) → cond b (Some (pos n)) None ≡ Some z → pos n ≡ z
small_some true n z e = some_is (pos n) z e
small_some false n z e = absurd cc

integer_of : (n : Num) (z : ℤ) → as_i64 n ≡ Some z → as_integer n ≡ Some z
integer_of (unsigned n) z e = ap (λ (w : ℤ). Some w) (small_some (nat_lt n (2 ^ 63)) n z e)
integer_of (negative y) z e = e
integer_of (float x) z e = absurd cc

of_integer : (n : Num) (z : ℤ) → as_integer n ≡ Some z → is_long z ≡ true → as_i64 n ≡ Some z
of_integer (unsigned n) z e fits =
    let same : pos n ≡ z = some_is (pos n) z e in
    let small : nat_lt n (2 ^ 63) ≡ true = subst (λ (w : ℤ). is_long w ≡ true) (sym same) fits in
    ap (λ (b : Bool). cond b (Some (pos n)) None) small ∙ e
of_integer (negative y) z e fits = e
of_integer (float x) z e fits = absurd cc

-- ---- arguments

call_is : (name : List ℕ) (d : Data) (s : List ℕ) → plain_call name d ≡ done s → IsCall name d s
unfolding plain_call
call_is name d s e =
    let a = bind_ok (demand WrongType (has_only (codes "fn" ∷ codes "arg" ∷ []) d)) (λ u. or_fault WrongType (text_at (codes "fn") d) >>= λ given. or_fault WrongType (text_at (codes "arg") d) >>= λ x. demand WrongType (bytes_eq given name) >>= λ q. Ok x) s e in
    let b = bind_ok (or_fault WrongType (text_at (codes "fn") d)) (λ given. or_fault WrongType (text_at (codes "arg") d) >>= λ x. demand WrongType (bytes_eq given name) >>= λ q. Ok x) s a.2 in
    let c = bind_ok (or_fault WrongType (text_at (codes "arg") d)) (λ x. demand WrongType (bytes_eq b.0 name) >>= λ q. Ok x) s b.2 in
    let q = bind_ok (demand WrongType (bytes_eq b.0 name)) (λ q. Ok c.0) s c.2 in
    let given : text_at (codes "fn") d ≡ Some b.0 = some_of WrongType (text_at (codes "fn") d) b.0 b.1 in
    let arg : text_at (codes "arg") d ≡ Some c.0 = some_of WrongType (text_at (codes "arg") d) c.0 c.1 in
    record {
      alone = passes WrongType (has_only (codes "fn" ∷ codes "arg" ∷ []) d) a.0 a.1;
      called = given ∙ ap (λ (x : List ℕ). Some x) (bytes_same b.0 name (passes WrongType (bytes_eq b.0 name) q.0 q.1));
      given = arg ∙ ap (λ (x : List ℕ). Some x) (ok_is c.0 s q.2);
    }

is_call : (name : List ℕ) (d : Data) (s : List ℕ) → IsCall name d s → plain_call name d ≡ done s
unfolding plain_call
is_call name d s h = rw (h.alone, h.called, h.given, same_bytes name name refl) refl

under_is : (name : List ℕ) (d : Data) (s : List ℕ) (o : Option Data) → get (codes "__extn") d ≡ o
    → (under_key (codes "__extn") d o >>= λ inner. plain_call name inner) ≡ done s → IsArgument name d s
under_is name d s None at e = stated.call d s at (call_is name d s e)
under_is name d s (Some inner) at e =
    let a = bind_ok (under_key (codes "__extn") d (Some inner)) (λ x. plain_call name x) s e in
    let b = bind_ok (demand WrongType (has_only (codes "__extn" ∷ []) d)) (λ u. Ok inner) a.0 a.1 in
    stated.call_under d inner s at (passes WrongType (has_only (codes "__extn" ∷ []) d) b.0 b.1)
    (subst (λ (x : Data). IsCall name x s) (sym (ok_is inner a.0 b.2)) (call_is name a.0 s a.2))

called_is : (name : List ℕ) (d : Data) (s : List ℕ) → call_in name d ≡ done s → IsArgument name d s
unfolding call_in
called_is name d s e = under_is name d s (get (codes "__extn") d) refl e

argument_is : (name : List ℕ) (d : Data) (s : List ℕ) → argument_in name d ≡ done s → IsArgument name d s
unfolding argument_in
argument_is name json.null s e = called_is name json.null s e
argument_is name (json.boolean b) s e = called_is name (json.boolean b) s e
argument_is name (json.number n) s e = called_is name (json.number n) s e
argument_is name (json.string x) s e = subst (IsArgument name (json.string x)) (ok_is x s e) (stated.bare_text x)
argument_is name (json.array ds) s e = called_is name (json.array ds) s e
argument_is name (json.object ms) s e = called_is name (json.object ms) s e

-- what has only some keys is no text
no_text : (keys : List (List ℕ)) (d : Data) → has_only keys d ≡ true → as_str d ≡ None
no_text keys json.null h = refl
no_text keys (json.boolean b) h = refl
no_text keys (json.number n) h = refl
no_text keys (json.string s) h = absurd cc
no_text keys (json.array ds) h = refl
no_text keys (json.object ms) h = refl

is_argument : (name : List ℕ) (d : Data) (s : List ℕ) → IsArgument name d s → argument_in name d ≡ done s
unfolding argument_in call_in
is_argument name d s (stated.bare_text x) = refl
is_argument name d s (stated.call e x at h) =
    rw (no_text (codes "fn" ∷ codes "arg" ∷ []) e h.alone, at, is_call name e x h) refl
is_argument name d s (stated.call_under e inner x at alone h) =
    rw (no_text (codes "__extn" ∷ []) e alone, at, alone, is_call name inner x h) refl

-- ---- each type, of what was read

boolean_is : (d : Data) (v : PlainValue) → boolean_in d ≡ done v → Reads type.boolean d v
unfolding boolean_in
boolean_is json.null v e = absurd cc
boolean_is (json.boolean b) v e = subst (Reads type.boolean (json.boolean b)) (ok_is (value.boolean b) v e) (stated.boolean b)
boolean_is (json.number n) v e = absurd cc
boolean_is (json.string s) v e = absurd cc
boolean_is (json.array ds) v e = absurd cc
boolean_is (json.object ms) v e = absurd cc

text_is : (d : Data) (v : PlainValue) → text_in d ≡ done v → Reads type.text d v
unfolding text_in
text_is json.null v e = absurd cc
text_is (json.boolean b) v e = absurd cc
text_is (json.number n) v e = absurd cc
text_is (json.string s) v e = subst (Reads type.text (json.string s)) (ok_is (value.text s) v e) (stated.text s)
text_is (json.array ds) v e = absurd cc
text_is (json.object ms) v e = absurd cc

number_is : (n : Num) (v : PlainValue) → (or_fault WrongType (as_i64 n) >>= λ z. long_of z) ≡ done v → Reads type.long (json.number n) v
number_is n v e =
    let b = bind_ok (or_fault WrongType (as_i64 n)) (λ z. long_of z) v e in
    let c = bind_ok (demand WrongType (is_long b.0)) (λ u. Ok (value.long b.0)) v b.2 in
    subst (Reads type.long (json.number n)) (ok_is (value.long b.0) v c.2)
    (stated.long n b.0 (integer_of n b.0 (some_of WrongType (as_i64 n) b.0 b.1)) (long_fits b.0 (passes WrongType (is_long b.0) c.0 c.1)))

long_is : (d : Data) (v : PlainValue) → long_in d ≡ done v → Reads type.long d v
unfolding long_in
long_is json.null v e = absurd cc
long_is (json.boolean b) v e = absurd cc
long_is (json.number n) v e = number_is n v e
long_is (json.string s) v e = absurd cc
long_is (json.array ds) v e = absurd cc
long_is (json.object ms) v e = absurd cc

entity_is : Names → (name : List ℕ) (d : Data) (v : PlainValue) → entity_in name d ≡ done v → Reads (type.entity name) d v
unfolding entity_in
entity_is names name d v e =
    let a = bind_ok (or_fault WrongType (uid_in d)) (λ u. demand WrongType (bytes_eq u.type_name name) >>= λ q. Ok (value.entity u)) v e in
    let b = bind_ok (demand WrongType (bytes_eq a.0.type_name name)) (λ q. Ok (value.entity a.0)) v a.2 in
    subst (Reads (type.entity name) d) (ok_is (value.entity a.0) v b.2)
    (stated.entity name d a.0 (uid_is names d a.0 (some_of WrongType (uid_in d) a.0 a.1)) (bytes_same a.0.type_name name (passes WrongType (bytes_eq a.0.type_name name) b.0 b.1)))

decimal_is : (d : Data) (v : PlainValue) → decimal_in d ≡ done v → Reads type.decimal d v
unfolding decimal_in
decimal_is d v e =
    let a = bind_ok (argument_in (codes "decimal") d) (λ s. or_fault WrongType (decimal_of s) >>= λ z. Ok (value.decimal z)) v e in
    let b = bind_ok (or_fault WrongType (decimal_of a.0)) (λ z. Ok (value.decimal z)) v a.2 in
    subst (Reads type.decimal d) (ok_is (value.decimal b.0) v b.2)
    (stated.decimal d a.0 b.0 (argument_is (codes "decimal") d a.0 a.1) (found_of (decimal_text_decided a.0) b.0 (some_of WrongType (decimal_of a.0) b.0 b.1)))

ipaddr_is : (d : Data) (v : PlainValue) → ipaddr_in d ≡ done v → Reads type.ipaddr d v
unfolding ipaddr_in
ipaddr_is d v e =
    let a = bind_ok (argument_in (codes "ip") d) (λ s. or_fault WrongType (network_of s) >>= λ n. Ok (value.ipaddr n)) v e in
    let b = bind_ok (or_fault WrongType (network_of a.0)) (λ n. Ok (value.ipaddr n)) v a.2 in
    subst (Reads type.ipaddr d) (ok_is (value.ipaddr b.0) v b.2)
    (stated.ipaddr d a.0 b.0 (argument_is (codes "ip") d a.0 a.1) (found_of (network_text_decided a.0) b.0 (some_of WrongType (network_of a.0) b.0 b.1)))

pub leaf_is : Names → (t : Cedar) (d : Data) (v : PlainValue) → leaf t d ≡ done v → Reads t d v
leaf_is names type.boolean d v e = boolean_is d v e
leaf_is names type.long d v e = long_is d v e
leaf_is names type.text d v e = text_is d v e
leaf_is names (type.entity name) d v e = entity_is names name d v e
leaf_is names (type.set t) d v e = absurd cc
leaf_is names (type.record_of fs) d v e = absurd cc
leaf_is names type.decimal d v e = decimal_is d v e
leaf_is names type.ipaddr d v e = ipaddr_is d v e

-- ---- each type, of what is stated

pub is_long_value : (n : Num) (z : ℤ) → as_integer n ≡ Some z → FitsSigned w64 z → typed_value type.long (json.number n) ≡ done (value.long z)
unfolding typed_value long_in
is_long_value n z e fits = let small = fits_long z fits in rw (of_integer n z e small, small) refl

-- what is no set and no record is read as a leaf, whatever the JSON
entity_leaf : (name : List ℕ) (d : Data) → typed_value (type.entity name) d ≡ entity_in name d
unfolding typed_value entity_in uid_in plain_uid_in
entity_leaf name json.null = refl
entity_leaf name (json.boolean b) = refl
entity_leaf name (json.number n) = refl
entity_leaf name (json.string s) = refl
entity_leaf name (json.array ds) = refl
entity_leaf name (json.object ms) = refl

decimal_leaf : (d : Data) → typed_value type.decimal d ≡ decimal_in d
unfolding typed_value decimal_in argument_in call_in plain_call
decimal_leaf json.null = refl
decimal_leaf (json.boolean b) = refl
decimal_leaf (json.number n) = refl
decimal_leaf (json.string s) = refl
decimal_leaf (json.array ds) = refl
decimal_leaf (json.object ms) = refl

ipaddr_leaf : (d : Data) → typed_value type.ipaddr d ≡ ipaddr_in d
unfolding typed_value ipaddr_in argument_in call_in plain_call
ipaddr_leaf json.null = refl
ipaddr_leaf (json.boolean b) = refl
ipaddr_leaf (json.number n) = refl
ipaddr_leaf (json.string s) = refl
ipaddr_leaf (json.array ds) = refl
ipaddr_leaf (json.object ms) = refl

entity_made : (name : List ℕ) (d : Data) (u : EntityUid) → uid_in d ≡ Some u → bytes_eq u.type_name name ≡ true → entity_in name d ≡ done (value.entity u)
unfolding entity_in
entity_made name d u e same = rw (e, same) refl

decimal_made : (d : Data) (s : List ℕ) (z : ℤ) → argument_in (codes "decimal") d ≡ done s → decimal_of s ≡ Some z → decimal_in d ≡ done (value.decimal z)
unfolding decimal_in
decimal_made d s z e f = rw (e, f) refl

ipaddr_made : (d : Data) (s : List ℕ) (n : Network) → argument_in (codes "ip") d ≡ done s → network_of s ≡ Some n → ipaddr_in d ≡ done (value.ipaddr n)
unfolding ipaddr_in
ipaddr_made d s n e f = rw (e, f) refl

decimal_one : (s : List ℕ) (x y : ℤ) → IsDecimalText s x → IsDecimalText s y → x ≡ y
decimal_one s x y p q = one_decimal s x y p.0 q.0

pub is_entity_value : Names → (name : List ℕ) (d : Data) (u : EntityUid) → IsUid d u → u.type_name ≡ name → typed_value (type.entity name) d ≡ done (value.entity u)
is_entity_value names name d u is same = entity_leaf name d ∙ entity_made name d u (is_uid names d u is) (same_bytes u.type_name name same)

pub is_decimal_value : (d : Data) (s : List ℕ) (z : ℤ) → IsArgument (codes "decimal") d s → IsDecimalText s z → typed_value type.decimal d ≡ done (value.decimal z)
is_decimal_value d s z is text =
    decimal_leaf d ∙ decimal_made d s z (is_argument (codes "decimal") d s is) (found_is (decimal_text_decided s) z (decimal_one s) text)

pub is_ipaddr_value : (d : Data) (s : List ℕ) (n : Network) → IsArgument (codes "ip") d s → IsNetworkText s n → typed_value type.ipaddr d ≡ done (value.ipaddr n)
is_ipaddr_value d s n is text =
    ipaddr_leaf d ∙ ipaddr_made d s n (is_argument (codes "ip") d s is) (found_is (network_text_decided s) n (one_network s) text)
