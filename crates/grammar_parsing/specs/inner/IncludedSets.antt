-- Defines which token kinds are in each set that the parsers of expressions use.
use Rattle.grammar_parsing.specs.declared.token_sets.TokenSet.{TokenSet}
use Rattle.grammar_parsing.specs.declared.token_sets.TokenSet.TheVariants as set
use Rattle.grammar_syntax.specs.Kinds.{Kinds}
use Rattle.grammar_parsing.specs.Expressions.{booleans, keys, patterns, signs, comparisons}
use Rattle.grammar_parsing.specs.inner.Reading.{openers, access_firsts, firsts}

-- `included set` are the token kinds in `set`.
abbrev pub included : TokenSet → Kinds
included set.Booleans = booleans
included set.Keys = keys
included set.Patterns = patterns
included set.Signs = signs
included set.Comparisons = comparisons
included set.Openers = openers
included set.AccessStarts = access_firsts
included set.ExpressionStarts = firsts
