-- Texts of digits and signs are UTF-8.
use Rattle.std.proofs.Common.{◌≡◌, ℕ, zero, suc, ◌/◌, ◌%◌, ◌<◌, ◌==◌, Bool, true, false, cond, List, [], ◌∷◌}
use Rattle.std.proofs.Common.{arith}
use Rattle.std.specs.Str.{IsAscii, IsUtf8}
use Rattle.std.specs.Fmt.{digits, digits_onto, digit_glyph, decimal}
use Rattle.std.proofs.lemmas.Bool.Decides.{nat_tests}
use Rattle.std.proofs.lemmas.Str.{IsUtf8-from_ascii, IsUtf8-append}
use Rattle.std.proofs.lemmas.Str.Ascii.{IsAscii-nil, IsAscii-cons}
use Rattle.json_words.proofs.AsciiLemmas.{are_ascii, ascii_is_utf8}

glyph_is_ascii : (d : ℕ) → d < 16 → digit_glyph false d < 128
glyph_is_ascii d h = grind (arith, nat_tests)

-- whatever the number: too many of its digits are cut off
onto_is_ascii : (base k n : ℕ) (acc : List ℕ) → ((m : ℕ) → m % base < 16) → IsAscii acc
    → IsAscii (digits_onto k base false n acc)
onto_is_ascii base zero n acc small h = h
onto_is_ascii base (suc k) n acc small h =
    let front = digit_glyph false (n % base) ∷ acc in
    let glyph = glyph_is_ascii (n % base) (small n) in
    let last : IsAscii front = IsAscii-cons (digit_glyph false (n % base)) acc glyph h in
    either (n / base == 0) front (digits_onto k base false (n / base) front) last
    (onto_is_ascii base k (n / base) front small last)
  where
    either : (b : Bool) (xs ys : List ℕ) → IsAscii xs → IsAscii ys → IsAscii (cond b xs ys)
    either true xs ys p q = p
    either false xs ys p q = q

pub decimal_is_utf8 : (n : ℕ) → IsUtf8 (decimal n)
unfolding digits
decimal_is_utf8 n = IsUtf8-from_ascii (decimal n) (onto_is_ascii 10 64 n [] (λ m. omega arith) IsAscii-nil)

pub hexadecimal_is_utf8 : (n : ℕ) → IsUtf8 (digits 16 false n)
unfolding digits
hexadecimal_is_utf8 n = IsUtf8-from_ascii (digits 16 false n) (onto_is_ascii 16 64 n [] (λ m. omega arith) IsAscii-nil)

-- a byte of ASCII in front
pub ascii_first : (x : ℕ) (xs : List ℕ) → are_ascii (x ∷ []) ≡ true → IsUtf8 xs → IsUtf8 (x ∷ xs)
ascii_first x xs small h = IsUtf8-append (x ∷ []) xs (ascii_is_utf8 (x ∷ []) small) h
