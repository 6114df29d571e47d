-- Defines sets of token kinds.
use Rattle.std.specs.Prelude.{ℕ, Bool, ◌==◌}
use Rattle.grammar_syntax.specs.declared.token.TokenKind.{TokenKind}
use Rattle.grammar_syntax.specs.contracts.token.TokenKind.{the_type}
use denote.Enum.Declared.{tag_of}

-- `Kinds` is the type of sets of token kinds. A set is a test for its members.
abbrev pub Kinds : Type 0
Kinds = TokenKind → Bool

-- `number_of k` is the index of the variant `k`, which the derived `==` compares.
abbrev pub number_of : TokenKind → ℕ
number_of k = tag_of the_type k

-- `same_kind a b` tests whether the kinds `a` and `b` are equal.
unfoldable pub same_kind : TokenKind → TokenKind → Bool
same_kind a b = number_of a == number_of b

-- `only k` is the set whose only member is `k`.
abbrev pub only : TokenKind → Kinds
only k = λ other. same_kind other k
