-- Defines the lines of a script.
-- Rules of this product: each line ends with a line feed, which the last one may lack. A carriage return before a line
-- feed belongs to the line; in JSON it is whitespace.
use Rattle.std.specs.Prelude.{ℕ, ◌==◌, List, [], ◌∷◌, if◌then◌else◌}
use Prim.Native.Char.{code}

-- `line_end` is a line feed.
abbrev pub line_end : ℕ
line_end = code "\n"

-- `begun_with b ls` are the lines `ls`, the first with the byte `b` in front; if `ls` is empty, the line of `b` alone.
abbrev pub begun_with : ℕ → List (List ℕ) → List (List ℕ)
begun_with b [] = (b ∷ []) ∷ []
begun_with b (l ∷ ls) = (b ∷ l) ∷ ls

-- `lines bytes` are the lines of `bytes`, without their line feeds.
abbrev pub lines : List ℕ → List (List ℕ)
lines [] = []
lines (b ∷ bs) = if b == line_end then [] ∷ lines bs else begun_with b (lines bs)
