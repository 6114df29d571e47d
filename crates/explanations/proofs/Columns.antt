-- The line and the column behind one character more, and how many characters a text has.
use Rattle.std.proofs.Common.{◌≡◌, ℕ, ◌+◌, ◌≤◌, not, List, [], ◌∷◌, ◌++◌, length, take, refl, arith, subst}
use Rattle.std.proofs.Common.{Bool, false, cond, sum_by}
use Rattle.std.specs.Str.{IsUtf8, chars}
use Rattle.std.proofs.lemmas.List.{reverse-append, take_all}
use Rattle.std.proofs.lemmas.Str.{length-le-encodes, encodes-chars}
use Rattle.std.proofs.lemmas.List.Sums.{suffix_len-le-length, sum_by-append, count_by-le-length}
use Rattle.std.proofs.lemmas.Bool.Decides.{nat_tests}
use Rattle.explanations.specs.LineAndColumn.{is_line_feed, line_after, column_after}

abbrev feed_count : ℕ → ℕ
feed_count c = cond (is_line_feed c) 1 0

-- behind a line feed the next line comes
pub line-line_feed : (before : List ℕ) (c : ℕ) → c ≡ 10 → line_after (before ++ c ∷ []) ≡ line_after before + 1
line-line_feed before c is = rw is (omega (arith, sum_by-append feed_count before (10 ∷ [])))

-- behind any other character the same
pub line-character : (before : List ℕ) (c : ℕ) → (c ≡ 10 → ⊥) → line_after (before ++ c ∷ []) ≡ line_after before
line-character before c other =
    let no_feed : is_line_feed c ≡ false = grind (arith, nat_tests) in
    let none : sum_by feed_count (c ∷ []) ≡ 0 = rw no_feed (omega arith) in
    omega (arith, none, sum_by-append feed_count before (c ∷ []))

pub line_le : (before : List ℕ) → line_after before ≤ 1 + length before
line_le before = omega (arith, count_by-le-length is_line_feed before)

abbrev ends_no_line : ℕ → Bool
ends_no_line c = not (is_line_feed c)

-- behind a line feed the first column comes
pub column-line_feed : (before : List ℕ) (c : ℕ) → c ≡ 10 → column_after (before ++ c ∷ []) ≡ 1
column-line_feed before c is = rw is rw (reverse-append before (10 ∷ [])) refl

-- behind any other character the next one
pub column-character : (before : List ℕ) (c : ℕ) → (c ≡ 10 → ⊥) → column_after (before ++ c ∷ []) ≡ column_after before + 1
column-character before c other =
    let no_end : is_line_feed c ≡ false = grind (arith, nat_tests) in
    rw (reverse-append before (c ∷ []))
    rw no_end (omega arith)

pub column_le : (before : List ℕ) → column_after before ≤ 1 + length before
column_le before = omega (arith, suffix_len-le-length ends_no_line before)

-- a text has at most as many characters as bytes
pub characters_le_bytes : (text : List ℕ) → IsUtf8 text → length (chars text) ≤ length text
characters_le_bytes text utf8 = subst (λ bytes. length (chars text) ≤ length bytes) (encodes-chars text utf8) (length-le-encodes (chars text))

-- so many of them are all of them
pub all_characters : (text : List ℕ) → IsUtf8 text → take (length text) (chars text) ≡ chars text
all_characters text utf8 = take_all (length text) (chars text) (characters_le_bytes text utf8)
