-- What goes on with each production.
use Rattle.std.proofs.Common.{true, false, ◌||◌}
use Rattle.grammar_syntax.specs.declared.token.TokenKind.TheVariants as k
use Rattle.grammar_syntax.specs.Kinds.{Kinds}
use Rattle.grammar_parsing.specs.Expressions.{comparisons, keys}
use Rattle.grammar_parsing.specs.inner.Reading.{firsts}

-- a variable, a Uid or a call, and any Primary
abbrev pub after_named : Kinds
after_named k.Colons = true
after_named k.LParen = true
after_named _ = false

-- an access
abbrev pub after_access : Kinds
after_access k.LParen = true
after_access _ = false

abbrev pub after_member : Kinds
after_member k.Dot = true
after_member k.LBracket = true
after_member kind = after_named kind

abbrev pub after_product : Kinds
after_product k.Star = true
after_product kind = after_member kind

abbrev pub after_sum : Kinds
after_sum k.Plus = true
after_sum k.Minus = true
after_sum kind = after_product kind

abbrev pub after_relation : Kinds
after_relation k.Has = true
after_relation k.Like = true
after_relation k.Is = true
after_relation kind = comparisons kind || after_sum kind

abbrev pub after_conjunction : Kinds
after_conjunction k.And = true
after_conjunction kind = after_relation kind

abbrev pub after_expr : Kinds
after_expr k.Or = true
after_expr kind = after_conjunction kind

-- a list of arguments, which may be empty
abbrev pub after_arguments : Kinds
after_arguments k.Comma = true
after_arguments kind = firsts kind || after_expr kind

-- a list of entries, which may be empty
abbrev pub after_entries : Kinds
after_entries k.Comma = true
after_entries kind = keys kind || after_expr kind
