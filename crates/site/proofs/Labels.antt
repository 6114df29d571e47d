-- The label of a schema, which is hexadecimal digits, is UTF-8.
use Rattle.std.specs.Prelude.{◌≡◌, ◌∷◌, [], ◌&&◌, ℕ, List, Bool, true, nat_lt, refl}
use Rattle.std.specs.Str.{IsUtf8, IsAscii}
use Rattle.std.proofs.Common.{ltb-true}
use Rattle.std.proofs.lemmas.Bool.{and_parts}
use Rattle.std.proofs.lemmas.Str.{IsUtf8-from_ascii}
use Rattle.std.proofs.lemmas.Str.Ascii.{IsAscii-nil, IsAscii-cons}
use Rattle.hex.specs.Hex.{encode_lower, lower_digits}
use Rattle.hex.proofs.HexLemmas.{IsAscii-encode_with}

abbrev are_small : List ℕ → Bool
are_small [] = true
are_small (x ∷ xs) = nat_lt x 128 && are_small xs

small_is_ascii : (xs : List ℕ) → are_small xs ≡ true → IsAscii xs
small_is_ascii [] h = IsAscii-nil
small_is_ascii (x ∷ xs) h =
    let parts = and_parts (nat_lt x 128) (are_small xs) h in
    IsAscii-cons x xs (ltb-true x 128 parts.0) (small_is_ascii xs parts.1)

pub digits_are_utf8 : (bytes : List ℕ) → IsUtf8 (encode_lower bytes)
digits_are_utf8 bytes =
    IsUtf8-from_ascii (encode_lower bytes) (IsAscii-encode_with lower_digits bytes (small_is_ascii lower_digits refl))
