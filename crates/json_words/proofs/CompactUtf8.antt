-- The compact text of plain JSON is UTF-8, and so bytes that are read back as this JSON.
use Rattle.std.proofs.Common.{◌≡◌, ◌∙◌, ◌≤◌, ℕ, suc, ◌<◌, ◌^◌, pos, negsuc, List, Bool, true, false, [], ◌∷◌, ◌++◌, Some, refl, arith}
use Rattle.std.specs.Fmt.{decimal}
use Rattle.std.specs.Str.{IsUtf8}
use Rattle.std.proofs.lemmas.Fmt.{IsAscii-decimal}
use Rattle.std.proofs.lemmas.Str.{IsUtf8-append, IsUtf8-nil, IsUtf8-from_ascii}
use Rattle.json.specs.Token.{Token}
use Rattle.json.specs.Print.{quoted, token_text}
use Rattle.json.proofs.Printed.Utf8.{IsUtf8-quoted, IsUtf8-boolean}
use Rattle.serde_json.specs.Data.{unsigned, negative, float, Data, null, boolean, number, string, array, object, depth}
use Rattle.serde_json.specs.Data.{Items, no_items, item, Members, no_members, member}
use Rattle.serde_json.specs.Read.{max_depth}
use Rattle.serde_json.specs.Written.{comma_if, compact_text, items_text, members_text}
use Rattle.json_words.specs.Json.{json_of}
use Rattle.json_words.specs.Plain.{IsPlain, ArePlain, HasPlain, CompactReadsBack}
use Rattle.json_words.proofs.AsciiLemmas.{are_ascii, ascii_is_utf8}
use Rattle.json_words.proofs.JsonLemmas.{json_of-text}

-- of a key in the source, at `refl`
pub key_is_utf8 : (s : List ℕ) → are_ascii s ≡ true → IsUtf8 s
key_is_utf8 s plain = ascii_is_utf8 s plain

decimal_is_utf8 : (n : ℕ) → n < 2 ^ 64 → IsUtf8 (decimal n)
decimal_is_utf8 n h = IsUtf8-from_ascii (decimal n) (IsAscii-decimal n h)

-- a byte of ASCII in front
ascii_first : (x : ℕ) (xs : List ℕ) → are_ascii (x ∷ []) ≡ true → IsUtf8 xs → IsUtf8 (x ∷ xs)
ascii_first x xs small h = IsUtf8-append (x ∷ []) xs (ascii_is_utf8 (x ∷ []) small) h

comma_is_utf8 : (later : Bool) → IsUtf8 (comma_if later)
comma_is_utf8 true = ascii_is_utf8 (44 ∷ []) refl
comma_is_utf8 false = IsUtf8-nil

mutual
  pub compact_utf8 : (d : Data) → IsPlain d → IsUtf8 (compact_text d)
  compact_utf8 null h = ascii_is_utf8 (token_text Token.null) refl
  compact_utf8 (boolean b) h = IsUtf8-boolean b
  compact_utf8 (number (unsigned n)) h = decimal_is_utf8 n h
  compact_utf8 (number (negative (pos n))) h = absurd h
  compact_utf8 (number (negative (negsuc n))) h = ascii_first 45 _ refl (decimal_is_utf8 (suc n) (omega (arith, h)))
  compact_utf8 (number (float x)) h = absurd h
  compact_utf8 (string s) h = IsUtf8-quoted s h
  compact_utf8 (array ds) h = ascii_first 91 (items_text false ds) refl (items_utf8 false ds h)
  compact_utf8 (object ms) h = ascii_first 123 (members_text false ms) refl (members_utf8 false ms h)

  items_utf8 : (later : Bool) (ds : Items) → ArePlain ds → IsUtf8 (items_text later ds)
  items_utf8 later no_items h = ascii_is_utf8 (93 ∷ []) refl
  items_utf8 later (item d ds) h =
      let rest = IsUtf8-append (compact_text d) (items_text true ds) (compact_utf8 d h.0) (items_utf8 true ds h.1) in
      IsUtf8-append (comma_if later) (compact_text d ++ items_text true ds) (comma_is_utf8 later) rest

  members_utf8 : (later : Bool) (ms : Members) → HasPlain ms → IsUtf8 (members_text later ms)
  members_utf8 later no_members h = ascii_is_utf8 (125 ∷ []) refl
  members_utf8 later (member k d ms) h =
      let text = compact_text d ++ members_text true ms in
      let more = members_utf8 true ms h.3 in
      let rest = IsUtf8-append (compact_text d) (members_text true ms) (compact_utf8 d h.1) more in
      IsUtf8-append (comma_if later) (quoted k ++ 58 ∷ text) (comma_is_utf8 later)
      (IsUtf8-append (quoted k) (58 ∷ text) (IsUtf8-quoted k h.0) (ascii_first 58 text refl rest))

-- plain JSON is what its compact text is
pub json_again : CompactReadsBack → (d : Data) → IsPlain d → depth d ≤ max_depth → json_of (compact_text d) ≡ Some d
json_again back d plain shallow = json_of-text (compact_text d) (compact_utf8 d plain) ∙ back d plain shallow
