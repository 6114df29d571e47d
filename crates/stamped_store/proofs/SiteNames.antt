-- Names of sites: their bytes are ASCII, and five digits are one and are ordered as their numbers.
use Prim.Native.Char.{code}
use Rattle.std.specs.Prelude.{◌≡◌, ◌↔◌, ◌≤◌, ◌<◌, ◌+◌, ◌-◌, ◌/◌, ◌%◌, ℕ, true, ◌||◌, ◌&&◌, ◌==◌, nat_le, List, [], ◌∷◌, ◌++◌, length, replicate, refl, cond}
use Rattle.std.proofs.Common.{sym, subst, ◌∙◌, ap, arith, ⊎_elim}
use Rattle.std.proofs.lemmas.Bool.{cases_lt, or_cases, and_parts, and_from, eqb-true, leb-true, le-leb, lt-ltb, agree_below_at}
use Rattle.std.proofs.lemmas.Fmt.{decimal_digit, decimal_step}
use Rattle.std.proofs.lemmas.Str.{IsUtf8-from_ascii}
use Rattle.std.proofs.lemmas.Str.Ascii.{IsAscii-nil, IsAscii-cons}
use Rattle.std.specs.Fmt.{decimal}
use Rattle.std.specs.List.{list_all}
use Rattle.std.specs.Str.{IsAscii, IsUtf8}
use Rattle.std.specs.Ordering.{nat_cmp, ordering_then, ordering_reverse}
use Rattle.std.specs.Cmp.Lexicographic.{slice_cmp}
use Rattle.std.specs.declared.cmp.Ordering.{Ordering}
use Rattle.std.specs.declared.cmp.Ordering.TheVariants.{Less, Equal, Greater}
use Rattle.std.proofs.lemmas.Cmp.{ranked, by_ranked, nat_cmp_total, nat_list_cmp_total, tied_itself}
use Rattle.std.specs.FinMap.{nat_cmp-IsAntisymmetric}
use Rattle.plain.specs.Words.{AllAre, is_letter, is_digit, is_word_byte}
use Rattle.stamped_store.specs.SiteNames.{IsSiteName, is_site_byte, is_site_name, five_digits}

up_to : (c low high : ℕ) → (nat_le low c && nat_le c high) ≡ true → c ≤ high
up_to c low high h = leb-true c high (and_parts (nat_le low c) (nat_le c high) h).1

is_below : (c d : ℕ) → d < 128 → (c == d) ≡ true → c < 128
is_below c d small h = let same : c ≡ d = eqb-true c d h in omega arith

letter_is_ascii : (c : ℕ) → is_letter c ≡ true → c < 128
unfolding is_letter
letter_is_ascii c h = ⊎_elim (λ under. is_below c (code "_") (omega arith) under)
    (λ cased. ⊎_elim (λ low. let top = up_to c (code "a") (code "z") low in omega arith) (λ high. let top = up_to c (code "A") (code "Z") high in omega arith)
    (or_cases (nat_le (code "a") c && nat_le c (code "z")) (nat_le (code "A") c && nat_le c (code "Z")) cased))
    (or_cases (c == code "_") ((nat_le (code "a") c && nat_le c (code "z")) || (nat_le (code "A") c && nat_le c (code "Z"))) h)

word_byte_is_ascii : (c : ℕ) → is_word_byte c ≡ true → c < 128
unfolding is_word_byte is_digit
word_byte_is_ascii c h = ⊎_elim (λ letter. letter_is_ascii c letter) (λ digit. let top = up_to c (code "0") (code "9") digit in omega arith)
    (or_cases (is_letter c) (is_digit c) h)

pub site_byte_is_ascii : (c : ℕ) → is_site_byte c ≡ true → c < 128
unfolding is_site_byte
site_byte_is_ascii c h = ⊎_elim (λ word. word_byte_is_ascii c word)
    (λ mark. ⊎_elim (λ dash. is_below c (code "-") (omega arith) dash) (λ dot. is_below c (code ".") (omega arith) dot)
    (or_cases (c == code "-") (c == code ".") mark))
    (or_cases (is_word_byte c) ((c == code "-") || (c == code ".")) h)

names_are_ascii : (name : List ℕ) → AllAre is_site_byte name → IsAscii name
names_are_ascii [] h = IsAscii-nil
names_are_ascii (c ∷ cs) h = IsAscii-cons c cs (site_byte_is_ascii c h.0) (names_are_ascii cs h.1)

-- a site's name is a text
pub names_are_texts : (name : List ℕ) → IsSiteName name → IsUtf8 name
names_are_texts name h = IsUtf8-from_ascii name (names_are_ascii name h.bytes)

-- ---- the test
bytes_tested : (name : List ℕ) → list_all is_site_byte name ≡ true → AllAre is_site_byte name
bytes_tested [] h = tt
bytes_tested (c ∷ cs) h = let both = and_parts (is_site_byte c) (list_all is_site_byte cs) h in (both.0, bytes_tested cs both.1)

bytes_pass : (name : List ℕ) → AllAre is_site_byte name → list_all is_site_byte name ≡ true
bytes_pass [] h = refl
bytes_pass (c ∷ cs) h = and_from (is_site_byte c) (list_all is_site_byte cs) h.0 (bytes_pass cs h.1)

-- the test tells exactly the names of sites
pub names_are_told : (name : List ℕ) → (is_site_name name ≡ true) ↔ IsSiteName name
unfolding is_site_name
names_are_told name = (
  (λ h.
      let parts = and_parts (nat_le 1 (length name) && nat_le (length name) 32) (list_all is_site_byte name) h in
      let bounds = and_parts (nat_le 1 (length name)) (nat_le (length name) 32) parts.0 in
      record { some = leb-true 1 (length name) bounds.0; short = leb-true (length name) 32 bounds.1; bytes = bytes_tested name parts.1 }),
  (λ h. and_from (nat_le 1 (length name) && nat_le (length name) 32) (list_all is_site_byte name)
      (and_from (nat_le 1 (length name)) (nat_le (length name) 32) (le-leb 1 (length name) h.some) (le-leb (length name) 32 h.short)) (bytes_pass name h.bytes)),
)

-- ---- five digits
-- the last digit of a number
abbrev pub last_digit : ℕ → ℕ
last_digit n = code "0" + n % 10

-- the five last digits of a number, one by one
abbrev pub spelled : ℕ → List ℕ
spelled n = last_digit (n / 10000) ∷ last_digit (n / 1000) ∷ last_digit (n / 100) ∷ last_digit (n / 10) ∷ last_digit n ∷ []

-- numbers of one to five digits in decimal
one_digit_spelled : (n : ℕ) → n < 10 → decimal n ≡ last_digit n ∷ []
one_digit_spelled n high = decimal_digit n high ∙ ap (λ c. c ∷ []) (omega arith)

one_more : (n : ℕ) (ds : List ℕ) → 10 ≤ n → n < 100000 → decimal (n / 10) ≡ ds → decimal n ≡ ds ++ last_digit n ∷ []
one_more n ds low high is = decimal_step n low (omega arith) ∙ ap (λ front. front ++ last_digit n ∷ []) is

two_digits_spelled : (n : ℕ) → 10 ≤ n → n < 100 → decimal n ≡ last_digit (n / 10) ∷ last_digit n ∷ []
two_digits_spelled n low high = one_more n _ low (omega arith) (one_digit_spelled (n / 10) (omega arith))

three_digits_spelled : (n : ℕ) → 100 ≤ n → n < 1000 → decimal n ≡ last_digit (n / 10 / 10) ∷ last_digit (n / 10) ∷ last_digit n ∷ []
three_digits_spelled n low high = one_more n _ (omega arith) (omega arith) (two_digits_spelled (n / 10) (omega arith) (omega arith))

four_digits_spelled : (n : ℕ) → 1000 ≤ n → n < 10000 → decimal n ≡ last_digit (n / 10 / 10 / 10) ∷ last_digit (n / 10 / 10) ∷ last_digit (n / 10) ∷ last_digit n ∷ []
four_digits_spelled n low high = one_more n _ (omega arith) (omega arith) (three_digits_spelled (n / 10) (omega arith) (omega arith))

all_digits_spelled : (n : ℕ) → 10000 ≤ n → n < 100000 → decimal n ≡ last_digit (n / 10 / 10 / 10 / 10) ∷ last_digit (n / 10 / 10 / 10) ∷ last_digit (n / 10 / 10) ∷ last_digit (n / 10) ∷ last_digit n ∷ []
all_digits_spelled n low high = one_more n _ (omega arith) (omega arith) (four_digits_spelled (n / 10) (omega arith) (omega arith))

pub five : {a b c d e v w x y z : ℕ} → a ≡ v → b ≡ w → c ≡ x → d ≡ y → e ≡ z → (a ∷ b ∷ c ∷ d ∷ e ∷ []) ≡ (v ∷ w ∷ x ∷ y ∷ z ∷ [])
five p q r s t = λ i. p i ∷ q i ∷ r i ∷ s i ∷ t i ∷ []

-- decimal digits behind zeros
behind_zeros : List ℕ → List ℕ
behind_zeros ds = replicate (5 - length ds) (code "0") ++ ds

-- five digits are a number's five last, one by one
pub five_digits_spelled : (n : ℕ) → n < 100000 → five_digits n ≡ spelled n
unfolding behind_zeros
five_digits_spelled n high = ⊎_elim
    (λ one. ap behind_zeros (one_digit_spelled n one) ∙ five (omega arith) (omega arith) (omega arith) (omega arith) refl)
    (λ more. ⊎_elim
    (λ two. ap behind_zeros (two_digits_spelled n more two) ∙ five (omega arith) (omega arith) (omega arith) refl refl)
    (λ more. ⊎_elim
    (λ three. ap behind_zeros (three_digits_spelled n more three) ∙ five (omega arith) (omega arith) (omega arith) refl refl)
    (λ more. ⊎_elim
    (λ four. ap behind_zeros (four_digits_spelled n more four) ∙ five (omega arith) (omega arith) (omega arith) refl refl)
    (λ more. ap behind_zeros (all_digits_spelled n more high) ∙ five (omega arith) (omega arith) (omega arith) refl refl)
    (cases_lt n 10000))
    (cases_lt n 1000))
    (cases_lt n 100))
    (cases_lt n 10)

digit_is_site_byte : (n : ℕ) → is_site_byte (last_digit n) ≡ true
unfolding is_site_byte is_word_byte is_digit is_letter
digit_is_site_byte n = by_digit (n % 10) (omega arith)
  where
    by_digit : (d : ℕ) → d < 10 → is_site_byte (code "0" + d) ≡ true
    by_digit d small = agree_below_at (λ k. is_site_byte (code "0" + k)) (λ k. true) 10 d refl small

pub spelled_are_names : (n : ℕ) → IsSiteName (spelled n)
spelled_are_names n = record {
  some = omega arith;
  short = omega arith;
  bytes = (digit_is_site_byte (n / 10000), (digit_is_site_byte (n / 1000), (digit_is_site_byte (n / 100), (digit_is_site_byte (n / 10), (digit_is_site_byte n, tt)))));
}

pub five_digits_are_names : (n : ℕ) → n < 100000 → IsSiteName (five_digits n)
five_digits_are_names n high = subst IsSiteName (sym (five_digits_spelled n high)) (spelled_are_names n)

-- ---- the order of five digits
pub less : (m n : ℕ) → m < n → nat_cmp m n ≡ Less
less m n h = ap (λ t. cond t Less (cond (m == n) Equal Greater)) (lt-ltb m n h)

pub equal : (m n : ℕ) → m ≡ n → nat_cmp m n ≡ Equal
equal m n h = ap (nat_cmp m) (sym h) ∙ tied_itself nat_cmp_total m

pub greater : (m n : ℕ) → n < m → nat_cmp m n ≡ Greater
greater m n h = nat_cmp_total.antisymm m n ∙ ap ordering_reverse (less n m h)

pub then_assoc : (a b c : Ordering) → ordering_then (ordering_then a b) c ≡ ordering_then a (ordering_then b c)
then_assoc Less b c = refl
then_assoc Equal b c = refl
then_assoc Greater b c = refl

pub then_equal : (a : Ordering) → ordering_then a Equal ≡ a
then_equal Less = refl
then_equal Equal = refl
then_equal Greater = refl

-- what stands in front of the last digit goes first
by_last : (m n : ℕ) → nat_cmp m n ≡ ordering_then (nat_cmp (m / 10) (n / 10)) (nat_cmp (last_digit m) (last_digit n))
by_last m n = by_ranked (m / 10 < n / 10) (m / 10 ≡ n / 10) (n / 10 < m / 10) (nat_cmp (m / 10) (n / 10)) (ranked (m / 10) (n / 10) (nat_cmp (m / 10) (n / 10)) refl)
    (λ is h. less m n (omega arith) ∙ sym (ap (λ o. ordering_then o (nat_cmp (last_digit m) (last_digit n))) is))
    (λ is h. in_front is h)
    (λ is h. greater m n (omega arith) ∙ sym (ap (λ o. ordering_then o (nat_cmp (last_digit m) (last_digit n))) is))
  where
    in_front : nat_cmp (m / 10) (n / 10) ≡ Equal → m / 10 ≡ n / 10 → nat_cmp m n ≡ ordering_then (nat_cmp (m / 10) (n / 10)) (nat_cmp (last_digit m) (last_digit n))
    in_front is h = by_ranked (m < n) (m ≡ n) (n < m) (nat_cmp m n) (ranked m n (nat_cmp m n) refl)
        (λ at l. at ∙ sym (ap (λ o. ordering_then o (nat_cmp (last_digit m) (last_digit n))) is ∙ less (last_digit m) (last_digit n) (omega arith)))
        (λ at l. at ∙ sym (ap (λ o. ordering_then o (nat_cmp (last_digit m) (last_digit n))) is ∙ equal (last_digit m) (last_digit n) (omega arith)))
        (λ at l. at ∙ sym (ap (λ o. ordering_then o (nat_cmp (last_digit m) (last_digit n))) is ∙ greater (last_digit m) (last_digit n) (omega arith)))

-- the order of the parts of two numbers in front of this many of their last digits
front : (m n a b : ℕ) → m / 10 ≡ a → n / 10 ≡ b → nat_cmp m n ≡ ordering_then (nat_cmp a b) (nat_cmp (last_digit m) (last_digit n))
front m n a b is_a is_b = by_last m n ∙ ap (λ k. ordering_then (nat_cmp k (n / 10)) (nat_cmp (last_digit m) (last_digit n))) is_a
    ∙ ap (λ k. ordering_then (nat_cmp a k) (nat_cmp (last_digit m) (last_digit n))) is_b

-- nothing stands in front of one digit
one_digit : (m n : ℕ) → m < 10 → n < 10 → nat_cmp m n ≡ nat_cmp (last_digit m) (last_digit n)
one_digit m n small low = front m n 0 0 (omega arith) (omega arith)

spelled_cmp : (m n : ℕ) → m < 100000 → n < 100000 → slice_cmp nat_cmp (spelled m) (spelled n) ≡ nat_cmp m n
spelled_cmp m n small low =
    let digit : ℕ → Ordering = λ k. nat_cmp (last_digit (m / k)) (last_digit (n / k)) in
    let ones : Ordering = nat_cmp (last_digit m) (last_digit n) in
    sym (
    front m n (m / 10) (n / 10) refl refl
    ∙ ap (λ o. ordering_then o ones) (
    front (m / 10) (n / 10) (m / 100) (n / 100) (omega arith) (omega arith)
    ∙ ap (λ o. ordering_then o (digit 10)) (
    front (m / 100) (n / 100) (m / 1000) (n / 1000) (omega arith) (omega arith)
    ∙ ap (λ o. ordering_then o (digit 100)) (
    front (m / 1000) (n / 1000) (m / 10000) (n / 10000) (omega arith) (omega arith)
    ∙ ap (λ o. ordering_then o (digit 1000)) (one_digit (m / 10000) (n / 10000) (omega arith) (omega arith)))))
    ∙ turned (digit 10000) (digit 1000) (digit 100) (digit 10) ones)
  where
    turned : (a b c d e : Ordering) → ordering_then (ordering_then (ordering_then (ordering_then a b) c) d) e
        ≡ ordering_then a (ordering_then b (ordering_then c (ordering_then d (ordering_then e Equal))))
    turned a b c d e =
        then_assoc (ordering_then (ordering_then a b) c) d e
        ∙ then_assoc (ordering_then a b) c (ordering_then d e)
        ∙ then_assoc a b (ordering_then c (ordering_then d e))
        ∙ ap (λ o. ordering_then a (ordering_then b (ordering_then c (ordering_then d o)))) (sym (then_equal e))

-- five digits are ordered as the numbers that they are of
pub five_digits_cmp : (m n : ℕ) → m < 100000 → n < 100000 → slice_cmp nat_cmp (five_digits m) (five_digits n) ≡ nat_cmp m n
five_digits_cmp m n small low =
    ap (λ (name : List ℕ). slice_cmp nat_cmp name (five_digits n)) (five_digits_spelled m small)
    ∙ ap (λ (name : List ℕ). slice_cmp nat_cmp (spelled m) name) (five_digits_spelled n low)
    ∙ spelled_cmp m n small low

-- and numbers of the same five digits are one
pub five_digits_tell : (m n : ℕ) → m < 100000 → n < 100000 → five_digits m ≡ five_digits n → m ≡ n
five_digits_tell m n small low same = nat_cmp-IsAntisymmetric m n
    (sym (five_digits_cmp m n small low) ∙ ap (λ (name : List ℕ). slice_cmp nat_cmp name (five_digits n)) same ∙ tied_itself nat_list_cmp_total (five_digits n))
