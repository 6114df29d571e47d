-- Defines which strings are decimals, the number of ten-thousandths that each denotes, and the canonical strings.
-- Source: Cedar reference guide 4.0, the data type decimal and the function `decimal`.
-- Rules of this product: the canonical string.
use Rattle.std.specs.Prelude.{◌≡◌, ℕ, suc, ℤ, pos, negsuc, ◌*◌, ◌/◌, ◌%◌, ◌^◌, ◌≤◌, List, ◌++◌, length, codes}
use Rattle.std.specs.Prelude.{FitsSigned, neg_ℤ}
use Rattle.std.specs.Int.{w64}
use Rattle.std.specs.Str.Parse.{IsNumeral, digits_value}
use Rattle.std.specs.Fmt.{decimal}

-- `IsUnsignedText text n` holds if `text` is one or more digits, a point, and one to four digits, and denotes `n`
-- ten-thousandths.
pub record IsUnsignedText (text : List ℕ) (n : ℕ) : Type 0 where
  pub whole : List ℕ
  pub fraction : List ℕ
  pub spelled : text ≡ whole ++ codes "." ++ fraction
  pub whole_digits : IsNumeral 10 whole
  pub fraction_digits : IsNumeral 10 fraction
  pub short : length fraction ≤ 4
  pub value : n * 10 ^ length fraction ≡ digits_value 10 (whole ++ fraction) * 10000

-- `IsSignedText text z` holds if `text` is an optional `-` and an unsigned text (`IsUnsignedText`), and denotes `z`
-- ten-thousandths.
pub data IsSignedText : List ℕ → ℤ → Type 0 where
  plain : {text : List ℕ} {n : ℕ} → IsUnsignedText text n → IsSignedText text (pos n)
  minus : {text : List ℕ} {n : ℕ} → IsUnsignedText text n → IsSignedText (codes "-" ++ text) (neg_ℤ (pos n))

-- `IsDecimalText text z` holds if `IsSignedText text z` holds and `z` fits in signed 64 bits.
abbrev pub IsDecimalText : List ℕ → ℤ → Type 0
IsDecimalText text z = IsSignedText text z × FitsSigned w64 z

-- `magnitude_text n` is the canonical string of `n` ten-thousandths: the whole part, a point, and four digits.
abbrev pub magnitude_text : ℕ → List ℕ
magnitude_text n = decimal (n / 10000) ++ codes "." ++ decimal (n / 1000 % 10) ++ decimal (n / 100 % 10)
    ++ decimal (n / 10 % 10) ++ decimal (n % 10)

-- `decimal_text z` is the canonical string of `z` ten-thousandths: exactly four digits after the point, no unnecessary
-- leading zeros, and no `-` on zero.
abbrev pub decimal_text : ℤ → List ℕ
decimal_text (pos n) = magnitude_text n
decimal_text (negsuc n) = codes "-" ++ magnitude_text (suc n)
