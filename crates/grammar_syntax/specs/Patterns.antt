-- Defines which kinds of tokens may be patterns.
-- Source: Cedar reference guide 4.0, "Grammar specification for Cedar policy syntax".
use Rattle.std.specs.Prelude.{true, false}
use Rattle.grammar_syntax.specs.declared.token.TokenKind.TheVariants as k
use Rattle.grammar_syntax.specs.Kinds.{Kinds}

-- `patterns` are the kinds of a Pattern: a string in which `\*` may occur.
abbrev pub patterns : Kinds
patterns k.Text = true
patterns k.StarText = true
patterns _ = false
