-- Defines names of sites.
-- Rules of this product: 1 to 32 bytes, each an ASCII letter, a digit, `-`, `_` or `.`. So a name needs no escapes in a
-- command line, a path, a JSON string or a line of a log, and it is short enough to be part of a stamp.
use Prim.Native.Char.{code}
use Rattle.std.specs.Prelude.{◌≡◌, ◌↔◌, ◌≤◌, ◌<◌, ◌-◌, ℕ, Bool, true, ◌&&◌, ◌||◌, ◌==◌, nat_le}
use Rattle.std.specs.Prelude.{List, [], ◌∷◌, ◌++◌, ◌+◌, ◌*◌, length, drop, take, replicate}
use Rattle.std.specs.List.{list_all}
use Rattle.std.specs.Fmt.{decimal}
use Rattle.std.specs.Str.{IsUtf8}
use Rattle.plain.specs.Words.{AllAre, is_word_byte}

-- `is_site_byte c` tests whether the byte `c` is an ASCII letter, a digit, `_`, `-` or `.`.
unfoldable pub is_site_byte : ℕ → Bool
is_site_byte c = is_word_byte c || ((c == code "-") || (c == code "."))

-- `IsSiteName name` holds if `name` is the name of a site.
pub record IsSiteName (name : List ℕ) : Type 0 where
  pub some : 1 ≤ length name
  pub short : length name ≤ 32
  pub bytes : AllAre is_site_byte name

-- `is_site_name name` tests whether `name` is the name of a site.
unfoldable pub is_site_name : List ℕ → Bool
is_site_name name = (nat_le 1 (length name) && nat_le (length name) 32) && list_all is_site_byte name

-- `SiteTestIsExact`: the test `is_site_name` is true of exactly the names of sites.
abbrev pub SiteTestIsExact : Type 0
SiteTestIsExact = (name : List ℕ) → (is_site_name name ≡ true) ↔ IsSiteName name

-- `SiteNamesAreTexts`: the name of a site is valid UTF-8.
abbrev pub SiteNamesAreTexts : Type 0
SiteNamesAreTexts = (name : List ℕ) → IsSiteName name → IsUtf8 name

-- ---- names of sites from numbers

-- `five_digits n` is the number `n`, below 100,000, in decimal with leading zeros up to five digits.
abbrev pub five_digits : ℕ → List ℕ
five_digits n = replicate (5 - length (decimal n)) (code "0") ++ decimal n

-- `SiteDigitsAreNames`: the five digits of a number below 100,000 are the name of a site.
abbrev pub SiteDigitsAreNames : Type 0
SiteDigitsAreNames = (n : ℕ) → n < 100000 → IsSiteName (five_digits n)

-- ---- representation of a name

-- `padded name` is `name`, followed by zeros up to 32 bytes.
abbrev pub padded : List ℕ → List ℕ
padded name = name ++ drop (length name) (replicate 32 0)

-- `KeepsName bytes len` holds if the first `len` of the 32 bytes `bytes` are a site's name and the rest are zeros: the
-- representation of a name in the code.
pub record KeepsName (bytes : List ℕ) (len : ℕ) : Type 0 where
  pub named : IsSiteName (take len bytes)
  pub counted : length (take len bytes) ≡ len
  pub whole : bytes ≡ padded (take len bytes)

-- ---- comparison of names

-- `spelt n bs` is the big-endian number whose bytes are those of `n`, followed by `bs`.
abbrev pub spelt : ℕ → List ℕ → ℕ
spelt n [] = n
spelt n (b ∷ bs) = spelt (n * 256 + b) bs

-- `word_at at bytes` are the eight bytes of `bytes` from the offset `at` on, as a big-endian number.
abbrev pub word_at : ℕ → List ℕ → ℕ
word_at at bytes = spelt 0 (take 8 (drop at bytes))
