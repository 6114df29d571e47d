-- Defines the meaning of `like`.
-- Source: Cedar reference guide, "Operators: like" (`*` matches any run of characters, the empty one too; every other
-- character matches itself).
use Rattle.std.specs.Prelude.{◌≡◌, ℕ, List, [], ◌∷◌}
use Rattle.std.specs.List.{AllZip, concat}
use Rattle.std.specs.Str.{IsUtf8}

-- An `Element` of a pattern is a literal text, or a star, the wildcard.
pub data Element : Type 0 where
  literal : List ℕ → Element
  star : Element

-- `after_stars texts` are the literals `texts`, with a star before each.
abbrev pub after_stars : List (List ℕ) → List Element
after_stars [] = []
after_stars (text ∷ texts) = star ∷ literal text ∷ after_stars texts

-- `elements texts` are the elements of the pattern whose literal texts are `texts`, with a star between adjacent ones.
abbrev pub elements : List (List ℕ) → List Element
elements [] = []
elements (text ∷ texts) = literal text ∷ after_stars texts

-- `IsPieceOf e piece` holds if the element `e` matches `piece`: a literal matches only itself, a star any UTF-8 string.
abbrev pub IsPieceOf : Element → List ℕ → Type 0
IsPieceOf (literal text) piece = piece ≡ text
IsPieceOf star piece = IsUtf8 piece

-- `IsJoined es text` holds if `text` is a concatenation of pieces that the elements of `es` match, one for each in
-- order.
pub record IsJoined (es : List Element) (text : List ℕ) : Type 0 where
  pub pieces : List (List ℕ)
  pub each_matches : AllZip IsPieceOf es pieces
  pub joined : text ≡ concat pieces

-- `Matches pattern text` holds if `text` matches the pattern whose literal texts are `pattern`.
abbrev pub Matches : List (List ℕ) → List ℕ → Type 0
Matches pattern text = IsJoined (elements pattern) text
