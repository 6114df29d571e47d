-- Defines the line with which a site answers a merge.
-- Source: docs/formats.md, "Routes of a site".
-- Rules of this product: compact JSON with one key; the count has decimal digits.
use Rattle.std.specs.Prelude.{◌≡◌, ℕ, ◌<◌, ◌++◌, List, length, true, codes}
use Rattle.std.specs.Char.{is_ascii_digit}
use Rattle.std.specs.List.{list_all}

-- `IsTakenLine line` holds if `line` is `{"taken":n}`, where n is one or more decimal digits.
pub record IsTakenLine (line : List ℕ) : Type 0 where
  pub digits : List ℕ
  pub some : 0 < length digits
  pub are_digits : list_all is_ascii_digit digits ≡ true
  pub is : line ≡ codes "{\"taken\":" ++ (digits ++ codes "}")
