-- Defines line and column of a byte of a text, both counted from 1.
-- Rules of this product: a line ends after a line feed, so the line of a place is 1 + the number of line feeds before
-- it; its column is 1 + the number of characters (not bytes) since the last of these line feeds, or since the text's
-- beginning.
use Rattle.std.specs.Prelude.{ℕ, ◌+◌, ◌-◌, ◌<◌, ◌≤◌, ◌==◌, Bool, not, List, [], count_by, IsCharBoundary}
use Rattle.std.specs.Prelude.{slice_index_or}
use Rattle.std.specs.List.{suffix_len}
use Rattle.std.specs.Str.Lines.{lines}

-- `is_line_feed c` tests for a line feed (10), the character that ends a line.
abbrev pub is_line_feed : ℕ → Bool
is_line_feed c = c == 10

-- `line_after before` is the line after the characters `before`: 1 + the number of line feeds among them.
abbrev pub line_after : List ℕ → ℕ
line_after before = 1 + count_by is_line_feed before

-- `column_after before` is the column after the characters `before`: 1 + the number of characters after their last
-- line feed.
abbrev pub column_after : List ℕ → ℕ
column_after before = 1 + suffix_len (λ c. not (is_line_feed c)) before

-- `line_of text number` is the line of `text` with this number, without its line end; the first line for the number 0;
-- nothing if there is no such line.
abbrev pub line_of : List ℕ → ℕ → List ℕ
line_of text number = slice_index_or (lines text) (number - 1) []

-- `IsStartAt text at start` holds if `start` is the last offset, not greater than `at`, at which a character begins
-- or the text ends.
abbrev pub IsStartAt : List ℕ → ℕ → ℕ → Type 0
IsStartAt text at start = (start ≤ at) × IsCharBoundary text start
    × ((other : ℕ) → start < other → other ≤ at → ¬ (IsCharBoundary text other))
