-- Defines the meaning of a string, by functions whose type (`StringMeaning`) says that they follow the grammar of
-- strings and their escapes.
-- Source: Cedar reference guide 4.0, "Data types: String" and "Operators: like".
use Rattle.std.specs.Prelude.{◌≡◌, ℕ, List}
use Rattle.grammar_syntax.specs.Strings.{IsStringOf, IsPatternOf}
use Rattle.grammar_desugaring.specs.inner.StringReading.{string_meaning}

-- `value_of spelling` is the value of `spelling`, a string without `\*`.
abbrev pub value_of : List ℕ → List ℕ
value_of = string_meaning.value

-- `pattern_of spelling` are the literal texts of the string `spelling` as a pattern, with a wildcard between adjacent
-- ones.
abbrev pub pattern_of : List ℕ → List (List ℕ)
pattern_of = string_meaning.pattern

-- ## Theorems

-- `ValueIsValue`: the value of a string by its grammar is `value_of`.
abbrev pub ValueIsValue : Type 0
ValueIsValue = (value spelling : List ℕ) → IsStringOf value spelling → value ≡ value_of spelling

-- `PatternIsPattern`: the literal texts of a string by its grammar are `pattern_of`.
abbrev pub PatternIsPattern : Type 0
PatternIsPattern = (literals : List (List ℕ)) (spelling : List ℕ) → IsPatternOf literals spelling →
    literals ≡ pattern_of spelling
