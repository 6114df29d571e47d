-- Defines the whole lines of a file. A line ends in a line feed; what follows the last line feed is not a whole line.
-- Source: POSIX.1-2017, section 3.206 (line; 3.195 incomplete line).
use Rattle.std.specs.Prelude.{◌≢◌, ℕ, List, [], ◌∷◌, ◌++◌, ◌==◌, if◌then◌else◌}
use Rattle.std.specs.List.{AllByRecursion}

-- `lines_after front bytes` are the whole lines of `front ++ bytes`, where `front` has no line feed.
abbrev pub lines_after : List ℕ → List ℕ → List (List ℕ)
lines_after front [] = []
lines_after front (b ∷ bytes) =
    if b == 10 then front ∷ lines_after [] bytes else lines_after (front ++ b ∷ []) bytes

-- `whole_lines bytes` are the whole lines of `bytes`, each without its line feed.
abbrev pub whole_lines : List ℕ → List (List ℕ)
whole_lines bytes = lines_after [] bytes

-- `written lines` are `lines`, each followed by a line feed.
abbrev pub written : List (List ℕ) → List ℕ
written [] = []
written (line ∷ lines) = line ++ 10 ∷ written lines

-- `IsLine line` holds if `line` has no line feed.
abbrev pub IsLine : List ℕ → Type 0
IsLine line = AllByRecursion (λ b. b ≢ 10) line

-- `AreLines lines` holds if no line of `lines` has a line feed.
abbrev pub AreLines : List (List ℕ) → Type 0
AreLines lines = AllByRecursion IsLine lines
