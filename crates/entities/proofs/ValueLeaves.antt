-- The JSON of a value that is no set and no record is read as it.
use Rattle.std.proofs.Common.{◌≡◌, ◌∙◌, ℕ, ℤ, pos, negsuc, List, [], ◌∷◌, Bool, true, false, cond, Option, Some, None}
use Rattle.std.proofs.Common.{Result, Ok, Err, refl, sym, ap, subst, inl, inr}
use Rattle.std.specs.Prelude.{IfSome, IsNone, ◌^◌, codes, FitsSigned, ⊤}
use Rattle.std.specs.Int.{w64}
use mir.Val.{to_z, of_z}
use Rattle.std.proofs.Common.{arith, ◌<◌}
use Rattle.std.proofs.lemmas.Bool.{lt-ltb}
use Rattle.std.proofs.lemmas.Int.{ints, to_z-of_z}
use Rattle.std.specs.Str.{bytes_eq}
use Rattle.std.proofs.lemmas.Slice.Eq.{bytes_eq-Decides}
use Rattle.serde_json.specs.Data.{Data}
use Rattle.serde_json.specs.Find.{get, as_i64, as_bool, as_number, as_str, of_integer}
use Rattle.json_words.specs.ReadsAs.{◌>>=◌, or_fault, demand}
use Rattle.json_words.specs.Keys.{has_only}
use Rattle.json_words.specs.Json.{text_at}
use Rattle.json_words.proofs.EachLemmas.{bind_ok}
use Rattle.values.specs.extensions.DecimalText.{IsDecimalText, decimal_text}
use Rattle.values.specs.extensions.NetworkText.{IsNetworkText, network_text}
use Rattle.values.specs.extensions.Network.{Network}
use Rattle.values.proofs.of_extensions.SignedTexts.{one_decimal}
use Rattle.values.proofs.of_extensions.CanonicalNetworks.{one_network, network_reads_back}
use Rattle.values.proofs.of_extensions.CanonicalDecimals.{reads_back}
use Rattle.values.specs.declared.entity_uid.EntityUid.{EntityUid}
use Rattle.values.specs.Values.{PlainValue, boolean, long, text, entity, decimal, ipaddr}
use Rattle.entities.specs.declared.fault.EntityFault.{EntityFault}
use Rattle.entities.specs.declared.fault.EntityFault.TheVariants.{WrongType}
use Rattle.values.specs.extensions.Decided.{Decided, witness}
use Rattle.values.specs.extensions.TextsDecided.{decimal_text_decided, network_text_decided, decimal_of, network_of}
use Rattle.schema_types.specs.Cedar as cedar
use Rattle.schema_types.specs.Cedar.{Cedar}
use Rattle.entities.specs.Typing.{plain_call, call_in, argument_in, boolean_in, is_long, long_of, long_in, text_in}
use Rattle.entities.specs.Typing.{entity_in, decimal_in, ipaddr_in, leaf, inside, typed_value}
use Rattle.entity_uids.specs.Uids.{uid_in, plain_uid_in, uid_made_of, uid_under, entity_json}
use Rattle.values.specs.Paths.{is_path}
use Rattle.entities.specs.CanonicalValues.{call_json, value_json}
use Rattle.entities.proofs.NetworksFit.{network_fits}

abbrev pub done : {A : Type 0} → A → Result A EntityFault
done x = Ok x

pub ok_is : {A : Type 0} (x y : A) → done x ≡ done y → x ≡ y
ok_is x y e = cc

pub some_from : {A : Type 0} (f : EntityFault) (o : Option A) (x : A) → or_fault f o ≡ done x → o ≡ Some x
some_from f (Some y) x e = cc
some_from f None x e = absurd cc

pub some_of : {A : Type 0} (o : Option A) (x : A) → or_fault WrongType o ≡ done x → o ≡ Some x
some_of o x e = some_from WrongType o x e

-- what is read where a fault inside does not show
pub inside_ok : {A : Type 0} (r : Result A EntityFault) (x : A) → inside r ≡ done x → r ≡ Ok x
inside_ok (Ok y) x e = e
inside_ok (Err f) x e = absurd cc

same_bytes : (s : List ℕ) → bytes_eq s s ≡ true
same_bytes s = (bytes_eq-Decides s s).1 refl

-- ---- texts of extensions

pub found_of : {A : Type 0} {P : A → Type 0} (d : Decided ((a : A) × P a)) (a : A) → witness d ≡ Some a → P a
found_of {P = P} (inl h) a e = let same : h.0 ≡ a = cc in subst P same h.1
found_of (inr n) a e = absurd cc

pub found_is : {A : Type 0} {P : A → Type 0} (d : Decided ((a : A) × P a)) (a : A) → ((x y : A) → P x → P y → x ≡ y) → P a → witness d ≡ Some a
found_is {A = A} (inl h) a one p = ap (λ (b : A). Some b) (one h.0 a h.1 p)
found_is (inr n) a one p = absurd (n (a, p))

pub found_none : {A : Type 0} {P : A → Type 0} (d : Decided ((a : A) × P a)) → ((a : A) → ¬ (P a)) → None ≡ witness d
found_none (inl h) n = absurd (n h.0 h.1)
found_none (inr m) n = refl

pub decimal_one : (s : List ℕ) (x y : ℤ) → IsDecimalText s x → IsDecimalText s y → x ≡ y
decimal_one s x y p q = one_decimal s x y p.0 q.0

pub decimal_back : (s : List ℕ) (z : ℤ) → decimal_of s ≡ Some z → decimal_of (decimal_text z) ≡ Some z
decimal_back s z e =
    let was : IsDecimalText s z = found_of (decimal_text_decided s) z e in
    found_is (decimal_text_decided (decimal_text z)) z (decimal_one (decimal_text z)) (reads_back z was.1)

pub network_back : (s : List ℕ) (n : Network) → network_of s ≡ Some n → network_of (network_text n) ≡ Some n
network_back s n e =
    let was : IsNetworkText s n = found_of (network_text_decided s) n e in
    found_is (network_text_decided (network_text n)) n (one_network (network_text n)) (network_reads_back n (network_fits s n was))

-- ---- calls and entities

pub call_back : (name s : List ℕ) → argument_in name (call_json name s) ≡ Ok s
unfolding argument_in call_in plain_call
call_back name s = rw (same_bytes name) refl

-- a name that was read has a Path for its type
path_if : (b : Bool) (name id : List ℕ) (u : EntityUid) → is_path name ≡ b → cond b (Some (record { type_name = name; id = id })) None ≡ Some u → is_path u.type_name ≡ true
path_if true name id u is e = let same : record { type_name = name; id = id } ≡ u = cc in subst (λ (w : EntityUid). is_path w.type_name ≡ true) same is
path_if false name id u is e = absurd cc

path_made : (name id : Option (List ℕ)) (u : EntityUid) → uid_made_of name id ≡ Some u → is_path u.type_name ≡ true
path_made None id u e = absurd cc
path_made (Some name) None u e = absurd cc
path_made (Some name) (Some id) u e = path_if (is_path name) name id u refl e

where_true : (b : Bool) (o : Option EntityUid) (u : EntityUid) → cond b o None ≡ Some u → o ≡ Some u
where_true true o u e = e
where_true false o u e = absurd cc

path_plain : (d : Data) (u : EntityUid) → plain_uid_in d ≡ Some u → is_path u.type_name ≡ true
unfolding plain_uid_in
path_plain d u e =
    path_made (text_at (codes "type") d) (text_at (codes "id") d) u
    (where_true (has_only (codes "type" ∷ codes "id" ∷ []) d) (uid_made_of (text_at (codes "type") d) (text_at (codes "id") d)) u e)

path_under : (d : Data) (inner : Option Data) (u : EntityUid) → uid_under d inner ≡ Some u → is_path u.type_name ≡ true
path_under d None u e = path_plain d u e
path_under d (Some inner) u e = path_plain inner u (where_true (has_only (codes "__entity" ∷ []) d) (plain_uid_in inner) u e)

path_of_uid : (d : Data) (u : EntityUid) → uid_in d ≡ Some u → is_path u.type_name ≡ true
unfolding uid_in
path_of_uid d u e = path_under d (get (codes "__entity") d) u e

uid_back : (u : EntityUid) → is_path u.type_name ≡ true → uid_in (entity_json u) ≡ Some u
unfolding uid_in plain_uid_in
uid_back u path = rw path refl

-- ---- numbers

-- a Long is written as a number that is read as it
integer_back : (z : ℤ) → is_long z ≡ true → as_i64 (of_integer z) ≡ Some z
integer_back (pos n) fits = rw fits refl
integer_back (negsuc n) fits = refl

fits_if : (b : Bool) (u : ⊤) → demand WrongType b ≡ done u → b ≡ true
fits_if true u e = refl
fits_if false u e = absurd cc

-- ---- each kind: forwards

long_step : (z : ℤ) → is_long z ≡ true → as_i64 (of_integer z) ≡ Some z → typed_value cedar.long (value_json (long z)) ≡ Ok (long z)
unfolding typed_value long_in
long_step z fits e = rw (e, fits) refl

entity_step : (name : List ℕ) (u : EntityUid) → is_path u.type_name ≡ true → demand WrongType (bytes_eq u.type_name name) ≡ done tt → typed_value (cedar.entity name) (value_json (entity u)) ≡ Ok (entity u)
unfolding typed_value entity_in
entity_step name u path same = rw (uid_back u path, same) refl

decimal_step : (z : ℤ) → decimal_of (decimal_text z) ≡ Some z → typed_value cedar.decimal (value_json (decimal z)) ≡ Ok (decimal z)
unfolding typed_value decimal_in
decimal_step z e = rw (call_back (codes "decimal") (decimal_text z), e) refl

ipaddr_step : (n : Network) → network_of (network_text n) ≡ Some n → typed_value cedar.ipaddr (value_json (ipaddr n)) ≡ Ok (ipaddr n)
unfolding typed_value ipaddr_in
ipaddr_step n e = rw (call_back (codes "ip") (network_text n), e) refl

boolean_step : (b : Bool) → typed_value cedar.boolean (value_json (boolean b)) ≡ Ok (boolean b)
unfolding typed_value boolean_in
boolean_step b = refl

text_step : (s : List ℕ) → typed_value cedar.text (value_json (text s)) ≡ Ok (text s)
unfolding typed_value text_in
text_step s = refl

-- ---- each kind: again

boolean_again : (d : Data) (v : PlainValue) → boolean_in d ≡ Ok v → typed_value cedar.boolean (value_json v) ≡ Ok v
unfolding boolean_in
boolean_again d v e =
    let a = bind_ok (or_fault WrongType (as_bool d)) (λ b. Ok (boolean b)) v e in
    subst (λ (w : PlainValue). typed_value cedar.boolean (value_json w) ≡ Ok w) (ok_is (boolean a.0) v a.2) (boolean_step a.0)

long_again : (d : Data) (v : PlainValue) → long_in d ≡ Ok v → typed_value cedar.long (value_json v) ≡ Ok v
unfolding long_in
long_again d v e =
    let a = bind_ok (or_fault WrongType (as_number d)) (λ n. or_fault WrongType (as_i64 n) >>= λ z. long_of z) v e in
    let b = bind_ok (or_fault WrongType (as_i64 a.0)) (λ z. long_of z) v a.2 in
    let c = bind_ok (demand WrongType (is_long b.0)) (λ u. Ok (long b.0)) v b.2 in
    let fits : is_long b.0 ≡ true = fits_if (is_long b.0) c.0 c.1 in
    subst (λ (w : PlainValue). typed_value cedar.long (value_json w) ≡ Ok w) (ok_is (long b.0) v c.2) (long_step b.0 fits (integer_back b.0 fits))

text_again : (d : Data) (v : PlainValue) → text_in d ≡ Ok v → typed_value cedar.text (value_json v) ≡ Ok v
unfolding text_in
text_again d v e =
    let a = bind_ok (or_fault WrongType (as_str d)) (λ s. Ok (text s)) v e in
    subst (λ (w : PlainValue). typed_value cedar.text (value_json w) ≡ Ok w) (ok_is (text a.0) v a.2) (text_step a.0)

pub entity_again : (name : List ℕ) (d : Data) (v : PlainValue) → entity_in name d ≡ Ok v → typed_value (cedar.entity name) (value_json v) ≡ Ok v
unfolding entity_in
entity_again name d v e =
    let a = bind_ok (or_fault WrongType (uid_in d)) (λ u. demand WrongType (bytes_eq u.type_name name) >>= λ q. Ok (entity u)) v e in
    let b = bind_ok (demand WrongType (bytes_eq a.0.type_name name)) (λ q. Ok (entity a.0)) v a.2 in
    subst (λ (w : PlainValue). typed_value (cedar.entity name) (value_json w) ≡ Ok w) (ok_is (entity a.0) v b.2)
    (entity_step name a.0 (path_of_uid d a.0 (some_of (uid_in d) a.0 a.1)) b.1)

pub decimal_again : (d : Data) (v : PlainValue) → decimal_in d ≡ Ok v → typed_value cedar.decimal (value_json v) ≡ Ok v
unfolding decimal_in
decimal_again d v e =
    let a = bind_ok (argument_in (codes "decimal") d) (λ s. or_fault WrongType (decimal_of s) >>= λ z. Ok (decimal z)) v e in
    let b = bind_ok (or_fault WrongType (decimal_of a.0)) (λ z. Ok (decimal z)) v a.2 in
    subst (λ (w : PlainValue). typed_value cedar.decimal (value_json w) ≡ Ok w) (ok_is (decimal b.0) v b.2) (decimal_step b.0 (decimal_back a.0 b.0 (some_of (decimal_of a.0) b.0 b.1)))

pub ipaddr_again : (d : Data) (v : PlainValue) → ipaddr_in d ≡ Ok v → typed_value cedar.ipaddr (value_json v) ≡ Ok v
unfolding ipaddr_in
ipaddr_again d v e =
    let a = bind_ok (argument_in (codes "ip") d) (λ s. or_fault WrongType (network_of s) >>= λ n. Ok (ipaddr n)) v e in
    let b = bind_ok (or_fault WrongType (network_of a.0)) (λ n. Ok (ipaddr n)) v a.2 in
    subst (λ (w : PlainValue). typed_value cedar.ipaddr (value_json w) ≡ Ok w) (ok_is (ipaddr b.0) v b.2) (ipaddr_step b.0 (network_back a.0 b.0 (some_of (network_of a.0) b.0 b.1)))

pub leaf_again : (t : Cedar) (d : Data) (v : PlainValue) → leaf t d ≡ Ok v → typed_value t (value_json v) ≡ Ok v
leaf_again cedar.boolean d v e = boolean_again d v e
leaf_again cedar.long d v e = long_again d v e
leaf_again cedar.text d v e = text_again d v e
leaf_again (cedar.entity name) d v e = entity_again name d v e
leaf_again (cedar.set t) d v e = absurd cc
leaf_again (cedar.record_of fs) d v e = absurd cc
leaf_again cedar.decimal d v e = decimal_again d v e
leaf_again cedar.ipaddr d v e = ipaddr_again d v e

-- ---- integers of 64 bits

pub long_here : (z : ℤ) → FitsSigned w64 z → long_of z ≡ Ok (long z)
long_here (pos n) fits = let small : n < 2 ^ 63 = omega (arith, ints) in rw (lt-ltb n (2 ^ 63) small) refl
long_here (negsuc n) fits = let small : n < 2 ^ 63 = omega (arith, ints) in rw (lt-ltb n (2 ^ 63) small) refl

-- what is made of such an integer
pub long_made : (z : ℤ) (v : PlainValue) → FitsSigned w64 z → v ≡ long (to_z w64 (of_z w64 z)) → long_of z ≡ Ok v
long_made z v fits made = long_here z fits ∙ ap (λ (w : PlainValue). done w) (sym (made ∙ ap long (to_z-of_z w64 z fits)))

-- ---- what the parsers answer

pub decimal_parsed : (s : List ℕ) (o : Option ℤ) → IfSome o (IsDecimalText s) → (IsNone o → (z : ℤ) → ¬ (IsDecimalText s z)) → o ≡ decimal_of s
decimal_parsed s (Some z) p n = sym (found_is (decimal_text_decided s) z (decimal_one s) p)
decimal_parsed s None p n = found_none (decimal_text_decided s) (n refl)

pub network_parsed : (s : List ℕ) (o : Option Network) → IfSome o (IsNetworkText s) → (IsNone o → (m : Network) → ¬ (IsNetworkText s m)) → o ≡ network_of s
network_parsed s (Some m) p n = sym (found_is (network_text_decided s) m (one_network s) p)
network_parsed s None p n = found_none (network_text_decided s) (n refl)
