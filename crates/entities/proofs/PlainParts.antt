-- Names, integers and the texts of extensions are plain JSON.
use Rattle.std.proofs.Common.{◌≡◌, ℕ, suc, ℤ, pos, negsuc, ◌/◌, ◌%◌, ◌<◌, ◌^◌, List, [], ◌∷◌, ◌++◌, Bool, true, false}
use Rattle.std.proofs.Common.{cond, refl, arith, Option, Some, None, option_and_then, ltb-true, subst, Less, Equal}
use Rattle.std.proofs.Common.{Greater, Ordering}
use Rattle.std.specs.Prelude.{codes}
use Rattle.std.specs.Str.{IsUtf8}
use Rattle.std.specs.Fmt.{decimal, digits}
use Rattle.std.specs.Ordering.{nat_cmp, match_ordering}
use Rattle.std.specs.Cmp.Lexicographic.{slice_cmp}
use Rattle.std.proofs.lemmas.Str.{IsUtf8-append}
use Rattle.serde_json.specs.Data.{Data, null, boolean, number, string, array, object, Members, no_members, member}
use Rattle.serde_json.specs.Find.{get, get_member, as_str, of_integer}
use Rattle.json_words.specs.Json.{text_at}
use Rattle.json_words.specs.Keys.{has_only}
use Rattle.json_words.specs.Ascending.{DataAscends, MembersAscend}
use Rattle.json_words.specs.Plain.{IsWhole, IsPlain}
use Rattle.json_words.proofs.AsciiLemmas.{ascii_is_utf8}
use Rattle.values.specs.extensions.DecimalText.{magnitude_text, decimal_text}
use Rattle.values.specs.extensions.Network.{Network}
use Rattle.values.specs.extensions.NetworkText.{ipv4_text, groups_text, address_text, network_text}
use Rattle.values.specs.extensions.declared.ip_net.Version.{Version}
use Rattle.values.specs.extensions.declared.ip_net.Version.TheVariants.{V4, V6}
use Rattle.values.specs.declared.entity_uid.EntityUid.{EntityUid}
use Rattle.values.specs.Paths.{is_path}
use Rattle.entity_uids.specs.Uids.{uid_made_of, plain_uid_in, uid_under, uid_in, uid_json, entity_json}
use Rattle.entities.specs.Typing.{is_long}
use Rattle.entities.specs.CanonicalValues.{call_json}
use Rattle.entities.specs.Texts.{HasUtf8, MembersHaveUtf8}
use Rattle.entities.proofs.AsciiTexts.{decimal_is_utf8, hexadecimal_is_utf8}

abbrev some : {A : Type 0} → A → Option A
some x = Some x

-- ---- what stands in JSON that bytes are

-- its texts are UTF-8, and the keys of its objects ascend
pub record IsClean (d : Data) : Type 0 where
  pub utf8 : HasUtf8 d
  pub ascend : DataAscends d

member_at : (o : Ordering) (more : Option Data) (here d : Data) → (more ≡ some d → IsClean d) → IsClean here
    → match_ordering o more (Some here) more ≡ some d → IsClean d
member_at Less more here d rest one e = rest e
member_at Equal more here d rest one e = let same : here ≡ d = cc in subst IsClean same one
member_at Greater more here d rest one e = rest e

member_is_clean : (k : List ℕ) (ms : Members) (d : Data) → MembersHaveUtf8 ms → MembersAscend ms
    → get_member k ms ≡ some d → IsClean d
member_is_clean k no_members d u a e = absurd cc
member_is_clean k (member l x ms) d u a e = member_at (slice_cmp nat_cmp k l) (get_member k ms) x d
    (member_is_clean k ms d u.2 a.1) (record { utf8 = u.1; ascend = a.0 }) e

pub get_is_clean : (k : List ℕ) (d x : Data) → IsClean d → get k d ≡ some x → IsClean x
get_is_clean k null x h e = absurd cc
get_is_clean k (boolean b) x h e = absurd cc
get_is_clean k (number n) x h e = absurd cc
get_is_clean k (string s) x h e = absurd cc
get_is_clean k (array ds) x h e = absurd cc
get_is_clean k (object ms) x h e = member_is_clean k ms x h.utf8 h.ascend.1 e

pub str_is_utf8 : (d : Data) (s : List ℕ) → HasUtf8 d → as_str d ≡ some s → IsUtf8 s
str_is_utf8 null s h e = absurd cc
str_is_utf8 (boolean b) s h e = absurd cc
str_is_utf8 (number n) s h e = absurd cc
str_is_utf8 (string t) s h e = let same : t ≡ s = cc in subst IsUtf8 same h
str_is_utf8 (array ds) s h e = absurd cc
str_is_utf8 (object ms) s h e = absurd cc

text_is_utf8 : (k : List ℕ) (d : Data) (s : List ℕ) → IsClean d → text_at k d ≡ some s → IsUtf8 s
text_is_utf8 k d s h e = by (get k d) refl e
  where
    by : (o : Option Data) → get k d ≡ o → option_and_then as_str o ≡ some s → IsUtf8 s
    by None at e = absurd cc
    by (Some x) at e = str_is_utf8 x s (get_is_clean k d x h at).utf8 e

-- ---- names

-- both texts of a uid are UTF-8
pub record IsUidInUtf8 (u : EntityUid) : Type 0 where
  pub type_name : IsUtf8 u.type_name
  pub id : IsUtf8 u.id

uid_if : (b : Bool) (u v : EntityUid) → IsUidInUtf8 u → cond b (Some u) None ≡ some v → IsUidInUtf8 v
uid_if true u v h e = let same : u ≡ v = cc in subst IsUidInUtf8 same h
uid_if false u v h e = absurd cc

uid_made : (name id : Option (List ℕ)) (u : EntityUid) → ((s : List ℕ) → name ≡ some s → IsUtf8 s)
    → ((s : List ℕ) → id ≡ some s → IsUtf8 s) → uid_made_of name id ≡ some u → IsUidInUtf8 u
uid_made None id u p q e = absurd cc
uid_made (Some name) None u p q e = absurd cc
uid_made (Some name) (Some id) u p q e =
    uid_if (is_path name) (record { type_name = name; id = id }) u
    (record { type_name = p name refl; id = q id refl }) e

where_true : (b : Bool) (o : Option EntityUid) (u : EntityUid) → cond b o None ≡ some u → o ≡ some u
where_true true o u e = e
where_true false o u e = absurd cc

plain_uid : (d : Data) (u : EntityUid) → IsClean d → plain_uid_in d ≡ some u → IsUidInUtf8 u
unfolding plain_uid_in
plain_uid d u h e =
    let name = text_at (codes "type") d in
    let id = text_at (codes "id") d in
    uid_made name id u (λ s. text_is_utf8 (codes "type") d s h) (λ s. text_is_utf8 (codes "id") d s h)
    (where_true (has_only (codes "type" ∷ codes "id" ∷ []) d) (uid_made_of name id) u e)

pub uid_is_utf8 : (d : Data) (u : EntityUid) → IsClean d → uid_in d ≡ some u → IsUidInUtf8 u
unfolding uid_in
uid_is_utf8 d u h e = by (get (codes "__entity") d) refl e
  where
    by : (o : Option Data) → get (codes "__entity") d ≡ o → uid_under d o ≡ some u → IsUidInUtf8 u
    by None at e = plain_uid d u h e
    by (Some x) at e = plain_uid x u (get_is_clean (codes "__entity") d x h at)
        (where_true (has_only (codes "__entity" ∷ []) d) (plain_uid_in x) u e)

pub uid_is_plain : (u : EntityUid) → IsUidInUtf8 u → IsPlain (uid_json u)
uid_is_plain u h =
    (ascii_is_utf8 (codes "id") refl, h.id, (refl, tt), (ascii_is_utf8 (codes "type") refl, h.type_name, tt, tt))

pub entity_is_plain : (u : EntityUid) → IsUidInUtf8 u → IsPlain (entity_json u)
entity_is_plain u h = (ascii_is_utf8 (codes "__entity") refl, uid_is_plain u h, tt, tt)

-- ---- integers

pub long_is_whole : (z : ℤ) → is_long z ≡ true → IsWhole (of_integer z)
long_is_whole (pos n) h = let small : n < 2 ^ 63 = ltb-true _ _ h in omega arith
long_is_whole (negsuc n) h = ltb-true _ _ h

-- ---- extensions

-- one text behind another, with a sign between them
beside : (sign xs ys : List ℕ) → IsUtf8 sign → IsUtf8 xs → IsUtf8 ys → IsUtf8 (xs ++ sign ++ ys)
beside sign xs ys s p q = IsUtf8-append (xs ++ sign) ys (IsUtf8-append xs sign p s) q

dotted : (xs ys : List ℕ) → IsUtf8 xs → IsUtf8 ys → IsUtf8 (xs ++ codes "." ++ ys)
dotted xs ys = beside (codes ".") xs ys (ascii_is_utf8 (codes ".") refl)

coloned : (xs ys : List ℕ) → IsUtf8 xs → IsUtf8 ys → IsUtf8 (xs ++ codes ":" ++ ys)
coloned xs ys = beside (codes ":") xs ys (ascii_is_utf8 (codes ":") refl)

digit_more : (xs : List ℕ) (n : ℕ) → IsUtf8 xs → IsUtf8 (xs ++ decimal n)
digit_more xs n p = IsUtf8-append xs (decimal n) p (decimal_is_utf8 n)

size_is_utf8 : (n : ℕ) → IsUtf8 (magnitude_text n)
size_is_utf8 n =
    digit_more _ (n % 10) (digit_more _ (n / 10 % 10) (digit_more _ (n / 100 % 10)
    (dotted (decimal (n / 10000)) (decimal (n / 1000 % 10)) (decimal_is_utf8 (n / 10000))
    (decimal_is_utf8 (n / 1000 % 10)))))

pub decimal_text_is_utf8 : (z : ℤ) → IsUtf8 (decimal_text z)
decimal_text_is_utf8 (pos n) = size_is_utf8 n
decimal_text_is_utf8 (negsuc n) =
    IsUtf8-append (codes "-") (magnitude_text (suc n)) (ascii_is_utf8 (codes "-") refl) (size_is_utf8 (suc n))

ipv4_is_utf8 : (n : ℕ) → IsUtf8 (ipv4_text n)
ipv4_is_utf8 n =
    dotted _ (decimal (n % 256)) (dotted _ (decimal (n / 2 ^ 8 % 256))
    (dotted (decimal (n / 2 ^ 24 % 256)) (decimal (n / 2 ^ 16 % 256)) (decimal_is_utf8 (n / 2 ^ 24 % 256))
    (decimal_is_utf8 (n / 2 ^ 16 % 256))) (decimal_is_utf8 (n / 2 ^ 8 % 256))) (decimal_is_utf8 (n % 256))

abbrev hexadecimal : ℕ → List ℕ
hexadecimal n = digits 16 false n

groups_are_utf8 : (n : ℕ) → IsUtf8 (groups_text n)
groups_are_utf8 n =
    coloned _ (hexadecimal (n % 65536)) (coloned _ (hexadecimal (n / 2 ^ 16 % 65536))
    (coloned (hexadecimal (n / 2 ^ 48)) (hexadecimal (n / 2 ^ 32 % 65536)) (hexadecimal_is_utf8 (n / 2 ^ 48))
    (hexadecimal_is_utf8 (n / 2 ^ 32 % 65536))) (hexadecimal_is_utf8 (n / 2 ^ 16 % 65536)))
    (hexadecimal_is_utf8 (n % 65536))

address_is_utf8 : (v : Version) (n : ℕ) → IsUtf8 (address_text v n)
address_is_utf8 V4 n = ipv4_is_utf8 n
address_is_utf8 V6 n = coloned (groups_text (n / 2 ^ 64)) (groups_text (n % 2 ^ 64)) (groups_are_utf8 (n / 2 ^ 64))
    (groups_are_utf8 (n % 2 ^ 64))

pub network_text_is_utf8 : (n : Network) → IsUtf8 (network_text n)
network_text_is_utf8 n =
    beside (codes "/") (address_text n.version n.address) (decimal n.prefix) (ascii_is_utf8 (codes "/") refl)
    (address_is_utf8 n.version n.address) (decimal_is_utf8 n.prefix)

pub call_is_plain : (name argument : List ℕ) → IsUtf8 name → IsUtf8 argument → IsPlain (call_json name argument)
call_is_plain name argument n a = (
  ascii_is_utf8 (codes "__extn") refl,
  (ascii_is_utf8 (codes "arg") refl, a, (refl, tt), (ascii_is_utf8 (codes "fn") refl, n, tt, tt)),
  tt,
  tt,
)
