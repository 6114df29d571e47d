-- Defines identifiers and paths of the policy language, as lists of bytes.
-- Source: Cedar reference guide 4.0, "Grammar specification for Cedar policy syntax": IDENT, RESERVED and Path.
-- Rules of this product: `__cedar` is reserved too.
use Prim.Native.Char.{code}
use Rattle.std.specs.Prelude.{◌≡◌, ℕ, suc, Bool, true, ◌&&◌, ◌||◌, ◌==◌, nat_le, if◌then◌else◌, List, [], ◌∷◌, ◌++◌}
use Rattle.std.specs.Prelude.{Contains, codes}

-- `is_letter c` tests whether the byte `c` is `_` or an ASCII letter.
unfoldable pub is_letter : ℕ → Bool
is_letter c =
    (c == code "_") || ((nat_le (code "a") c && nat_le c (code "z"))
    || (nat_le (code "A") c && nat_le c (code "Z")))

-- `is_digit c` tests whether the byte `c` is an ASCII digit, and `is_word_byte c` whether it is `_`, an ASCII letter or
-- an ASCII digit.
unfoldable pub is_digit : ℕ → Bool
is_digit c = nat_le (code "0") c && nat_le c (code "9")

unfoldable pub is_word_byte : ℕ → Bool
is_word_byte c = is_letter c || is_digit c

-- `AllAre p cs` holds if each of `cs` passes the test `p`.
abbrev pub AllAre : (ℕ → Bool) → List ℕ → Type 0
AllAre p [] = Unit {0}
AllAre p (c ∷ cs) = (p c ≡ true) × AllAre p cs

-- `run p cs` is the number of leading elements of `cs` that pass the test `p`.
abbrev pub run : (ℕ → Bool) → List ℕ → ℕ
run p [] = 0
run p (c ∷ cs) = if p c then suc (run p cs) else 0

-- `IsWord cs` holds if `cs` is a letter or `_`, followed by letters, `_` and digits.
abbrev pub IsWord : List ℕ → Type 0
IsWord [] = ⊥
IsWord (c ∷ cs) = (is_letter c ≡ true) × AllAre is_word_byte cs

-- `reserved_words` lists the words that are not identifiers.
abbrev pub reserved_words : List (List ℕ)
reserved_words = codes "true" ∷ codes "false" ∷ codes "if" ∷ codes "then" ∷ codes "else" ∷ codes "in" ∷ codes "is"
    ∷ codes "like" ∷ codes "has" ∷ codes "__cedar" ∷ []

-- `IsReserved word` holds if `word` is reserved.
abbrev pub IsReserved : List ℕ → Type 0
IsReserved word = Contains reserved_words word

-- `IsIdent word` holds if `word` is an Ident: a word that is not reserved.
abbrev pub IsIdent : List ℕ → Type 0
IsIdent word = IsWord word × (IsReserved word → ⊥)

-- `AreIdents words` holds if each of `words` is an Ident.
abbrev pub AreIdents : List (List ℕ) → Type 0
AreIdents [] = Unit {0}
AreIdents (word ∷ words) = IsIdent word × AreIdents words

-- `joined_path first more` is the word `first` and the words `more`, with `::` between each two.
abbrev pub joined_path : List ℕ → List (List ℕ) → List ℕ
joined_path first [] = first
joined_path first (next ∷ more) = first ++ codes "::" ++ joined_path next more

-- `IsPath text` holds if `text` is a Path = Ident { "::" Ident }, without whitespace or comments.
abbrev pub IsPath : List ℕ → Type 0
IsPath text = (first : List ℕ) × (more : List (List ℕ)) × AreIdents (first ∷ more) × (text ≡ joined_path first more)
