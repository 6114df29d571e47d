-- Defines when a number that is computed from a tree is the number of the tokens that derive the tree.
-- Source: Cedar reference guide 4.0, "Grammar specification for Cedar policy syntax".
use Rattle.std.specs.Prelude.{◌≡◌, ℕ, List, length}
use Rattle.grammar_syntax.specs.declared.token.Token.{Token}
use Rattle.grammar_syntax.specs.Lang.{Lang}

-- `IsCounted L count` holds if each list of tokens that derives a value in the language `L` has the length that `count`
-- gives for the value.
abbrev pub IsCounted : {A : Type 0} → Lang A → (A → ℕ) → Type 0
IsCounted L count = (ts : List Token) (x : _) → L ts x → length ts ≡ count x
