-- A decimal's canonical text is a text of it.
use Rattle.std.proofs.Common.{◌≡◌, ℕ, suc, ◌+◌, ◌*◌, ◌/◌, ◌%◌, ◌^◌, ◌<◌, List, [], ◌∷◌, ◌++◌, length, refl, sym, ◌∙◌, ap, arith, append_assoc, lit≤, lit<, false}
use Rattle.std.specs.Prelude.{ℤ, pos, negsuc, FitsSigned}
use Rattle.std.specs.Int.{w64}
use Rattle.std.specs.Fmt.{decimal, digit_glyph}
use Rattle.std.proofs.lemmas.Bool.{lt-ltb}
use Rattle.std.specs.Char.{digit_value}
use Rattle.std.proofs.lemmas.Str.{digit_value_digit}
use Rattle.std.proofs.lemmas.Int.{ints}
use Rattle.std.proofs.lemmas.Fmt.{decimal_is_IsNumeral, decimal_digit}
use Rattle.std.specs.Str.Parse.{IsNumeral, digits_value}
use Rattle.extensions.specs.DecimalText.{IsUnsignedText, plain, minus, IsDecimalText, magnitude_text, decimal_text}
use Rattle.extensions.proofs.DecimalTexts.{digits_value-append}

digit_of : (d : ℕ) → d < 10 → digit_value (48 + d) ≡ d
digit_of d h = let is = digit_value_digit (48 + d) (omega arith, omega arith) in omega arith

-- a number of one digit
pub one_glyph : (d : ℕ) → d < 10 → decimal d ≡ digit_glyph false d ∷ []
one_glyph d h = decimal_digit d h ∙ sym (rw (lt-ltb d 10 h) refl)

-- four digits behind one another
joined : (xs : List ℕ) (a b c d : ℕ) → a < 10 → b < 10 → c < 10 → d < 10 →
    xs ++ decimal a ++ decimal b ++ decimal c ++ decimal d ≡ xs ++ ((48 + a) ∷ (48 + b) ∷ (48 + c) ∷ (48 + d) ∷ [])
joined xs a b c d ha hb hc hd = rw (decimal_digit a ha, decimal_digit b hb, decimal_digit c hc, decimal_digit d hd) (simp append_assoc)

four_digits : (a b c d : ℕ) → a < 10 → b < 10 → c < 10 → d < 10 → IsNumeral 10 ((48 + a) ∷ (48 + b) ∷ (48 + c) ∷ (48 + d) ∷ [])
four_digits a b c d ha hb hc hd = (lit< tt, (rw (digit_of a ha) ha, (rw (digit_of b hb) hb, (rw (digit_of c hc) hc, (rw (digit_of d hd) hd, tt)))))

four_value : (a b c d : ℕ) → a < 10 → b < 10 → c < 10 → d < 10 →
    digits_value 10 ((48 + a) ∷ (48 + b) ∷ (48 + c) ∷ (48 + d) ∷ []) ≡ ((a * 10 + b) * 10 + c) * 10 + d
four_value a b c d ha hb hc hd = rw (digit_of a ha, digit_of b hb, digit_of c hc, digit_of d hd) (omega arith)

split : (n : ℕ) → (n / 10000) * 10000 + (((n / 1000 % 10 * 10 + n / 100 % 10) * 10 + n / 10 % 10) * 10 + n % 10) ≡ n
split n = omega arith

total : (w n f : ℕ) (xs ys : List ℕ) → digits_value 10 xs ≡ w → digits_value 10 ys ≡ f → length ys ≡ 4 → w * 10000 + f ≡ n → digits_value 10 (xs ++ ys) ≡ n
total w n f xs ys d e l h = digits_value-append xs ys ∙ (rw (d, e, l) h)

pub size_reads_back : (n : ℕ) → n < 2 ^ 64 → IsUnsignedText (magnitude_text n) n
size_reads_back n h =
    let whole = decimal_is_IsNumeral (n / 10000) (omega arith) in
    let value = total (n / 10000) n (((n / 1000 % 10 * 10 + n / 100 % 10) * 10 + n / 10 % 10) * 10 + n % 10) (decimal (n / 10000))
    ((48 + n / 1000 % 10) ∷ (48 + n / 100 % 10) ∷ (48 + n / 10 % 10) ∷ (48 + n % 10) ∷ []) whole.1
    (four_value (n / 1000 % 10) (n / 100 % 10) (n / 10 % 10) (n % 10) (omega arith) (omega arith) (omega arith) (omega arith)) refl (split n) in
    record {
      whole = decimal (n / 10000);
      fraction = (48 + n / 1000 % 10) ∷ (48 + n / 100 % 10) ∷ (48 + n / 10 % 10) ∷ (48 + n % 10) ∷ [];
      spelled = joined (decimal (n / 10000) ++ (46 ∷ [])) (n / 1000 % 10) (n / 100 % 10) (n / 10 % 10) (n % 10) (omega arith) (omega arith) (omega arith) (omega arith);
      whole_digits = whole.0;
      fraction_digits = four_digits (n / 1000 % 10) (n / 100 % 10) (n / 10 % 10) (n % 10) (omega arith) (omega arith) (omega arith) (omega arith);
      short = lit≤ tt;
      value = ap (λ (m : ℕ). m * 10000) (sym value);
    }

pub reads_back : (z : ℤ) → FitsSigned w64 z → IsDecimalText (decimal_text z) z
reads_back (pos n) h = (plain (size_reads_back n (omega (arith, ints))), h)
reads_back (negsuc n) h = (minus (size_reads_back (suc n) (omega (arith, ints))), h)
