-- Defines a text of one line.
-- Source: RFC 8259, section 7: a string of JSON has no control character below U+0020.
-- Rules of this product: each line of a log ends with its only line feed.
use Rattle.std.specs.Prelude.{◌≡◌, ℕ, Bool, false, ◌==◌, List, ◌++◌, codes}
use Rattle.std.specs.List.{list_any}

-- `is_line_feed b` tests whether the byte `b` is a line feed.
abbrev pub is_line_feed : ℕ → Bool
is_line_feed b = b == 10

-- `HasNoLineFeed bytes` holds if no byte of `bytes` is a line feed.
abbrev pub HasNoLineFeed : List ℕ → Type 0
HasNoLineFeed bytes = list_any is_line_feed bytes ≡ false

-- `IsOneLine bytes` holds if `bytes` end with their only line feed.
abbrev pub IsOneLine : List ℕ → Type 0
IsOneLine bytes = (front : List ℕ) × (bytes ≡ front ++ codes "\n") × HasNoLineFeed front
