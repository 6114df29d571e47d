-- Defines which kinds of tokens are identifiers, and which are reserved words.
-- Source: Cedar reference guide 4.0, "Grammar specification for Cedar policy syntax": IDENT and RESERVED; `permit`,
-- `when`, `principal` and the like are identifiers too, and may occur in a Path.
use Rattle.std.specs.Prelude.{◌≡◌, ◌↔◌, ℕ, Bool, true, false, List}
use Rattle.plain.specs.Words.{IsIdent, IsReserved}
use Rattle.grammar_syntax.specs.declared.token.TokenKind.{TokenKind}
use Rattle.grammar_syntax.specs.declared.token.TokenKind.TheVariants.{Ident, True, False, If, Then, Else, In, Is, Like}
use Rattle.grammar_syntax.specs.declared.token.TokenKind.TheVariants.{Has}
use Rattle.grammar_syntax.specs.declared.token.TokenKind.TheVariants.{Cedar, Permit, Forbid, When, Unless, Principal}
use Rattle.grammar_syntax.specs.declared.token.TokenKind.TheVariants.{Action}
use Rattle.grammar_syntax.specs.declared.token.TokenKind.TheVariants.{Resource, Context}
use Rattle.grammar_syntax.specs.Lexing.{IsToken}

-- `is_ident k` tests whether tokens of kind `k` are identifiers.
abbrev pub is_ident : TokenKind → Bool
is_ident Ident = true
is_ident Permit = true
is_ident Forbid = true
is_ident When = true
is_ident Unless = true
is_ident Principal = true
is_ident Action = true
is_ident Resource = true
is_ident Context = true
is_ident other = false

-- `is_reserved k` tests whether tokens of kind `k` are reserved words.
abbrev pub is_reserved : TokenKind → Bool
is_reserved True = true
is_reserved False = true
is_reserved If = true
is_reserved Then = true
is_reserved Else = true
is_reserved In = true
is_reserved Is = true
is_reserved Like = true
is_reserved Has = true
is_reserved Cedar = true
is_reserved other = false

-- `IdentsByKind`: a token has an identifier's kind if and only if its text is an identifier.
abbrev pub IdentsByKind : Type 0
IdentsByKind = (k : TokenKind) (w : List ℕ) → IsToken k w → (is_ident k ≡ true) ↔ IsIdent w

-- `ReservedByKind`: a token has a reserved word's kind if and only if its text is a reserved word.
abbrev pub ReservedByKind : Type 0
ReservedByKind = (k : TokenKind) (w : List ℕ) → IsToken k w → (is_reserved k ≡ true) ↔ IsReserved w

-- `IdentsAreTokens`: each identifier is the text of a token of an identifier's kind.
abbrev pub IdentsAreTokens : Type 0
IdentsAreTokens = (w : List ℕ) → IsIdent w → (k : TokenKind) × IsToken k w × (is_ident k ≡ true)
