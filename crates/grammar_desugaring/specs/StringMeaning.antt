-- Defines functions that give a string its value, and a pattern its literal texts.
-- Source: Cedar reference guide 4.0, "Data types: String" and "Operators: like".
use Rattle.std.specs.Prelude.{◌≡◌, ℕ, List}
use Rattle.grammar_syntax.specs.Strings.{IsStringOf, IsPatternOf}

-- A `StringMeaning` has two functions of a string as it is written, with its quotes. `value` gives the value of a
-- string without `\*`. `pattern` gives the literal texts before, between and after the wildcards of a string. Both
-- agree with the grammar of strings and escapes. For example, the value of `"a\n"` has two bytes, an `a` and a line
-- feed. For any other text the functions may give anything.
pub record StringMeaning : Type 0 where
  pub value : List ℕ → List ℕ
  pub pattern : List ℕ → List (List ℕ)
  pub value_is : (v spelling : List ℕ) → IsStringOf v spelling → v ≡ value spelling
  pub pattern_is : (literals : List (List ℕ)) (spelling : List ℕ) → IsPatternOf literals spelling
      → literals ≡ pattern spelling
