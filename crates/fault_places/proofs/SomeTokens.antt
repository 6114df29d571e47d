-- An expression has a token.
use Rattle.std.proofs.Common.{◌≡◌, ℕ, ◌++◌, List, [], ◌∷◌, refl, ap, Option}
use Rattle.grammar_syntax.specs.declared.token.Token.{Token}
use Rattle.grammar_syntax.specs.declared.token.TokenKind.{TokenKind}
use Rattle.grammar_syntax.specs.declared.token.TokenKind.TheVariants as k
use Rattle.grammar_syntax.specs.Kinds.{Kinds, only}
use Rattle.grammar_syntax.specs.Lang.{Lang}
use Rattle.grammar_syntax.specs.Lang as lang
use Rattle.grammar_syntax.specs.declared.tree.ExprTree.{ExprTree}
use Rattle.grammar_parsing.specs.Expressions as g
use Rattle.grammar_parsing.specs.Expressions.{expr, any_expr, is_positive}
use Rattle.fault_places.proofs.Languages.{Shows, both_shows, past_shows, or_shows, gate_shows}

-- there is a first token
pub record Some_in (ts : List Token) : Type 0 where
  pub first : Token
  pub rest : List Token
  pub whole : ts ≡ first ∷ rest

front : (us vs : List Token) → Some_in us → Some_in (us ++ vs)
front us vs s = record { first = s.first; rest = s.rest ++ vs; whole = ap (λ ts. ts ++ vs) s.whole }

starts : (t : Token) (us : List Token) → Some_in (t ∷ us)
starts t us = record { first = t; rest = us; whole = refl }

-- what begins with a token, or with what has one
past_has : {A : Type 0} {M : Lang A} (kind : TokenKind) → Shows (lang.◌>>◌ (lang.one kind) M) (λ ts x. Some_in ts)
past_has kind = past_shows (only kind) (λ ts x. Some_in ts) (λ t us x m. starts t us)

first_has : {A B : Type 0} {L : Lang A} {M : A → Lang B} → Shows L (λ ts x. Some_in ts)
    → Shows (lang.◌>>=◌ L M) (λ ts x. Some_in ts)
first_has l = both_shows (λ ts x. Some_in ts) (λ us a d vs b m. front us vs (l us a d))

token_has : (ks : Kinds) → Shows (lang.of ks) (λ ts x. Some_in ts)
token_has ks ts x d = record { first = x; rest = []; whole = d.0 }

symbol_has : {A : Type 0} (meaning : TokenKind → Option A) → Shows (g.symbol meaning) (λ ts x. Some_in ts)
symbol_has meaning ts x d = record { first = d.0; rest = []; whole = d.1 }

module _ (levels : ℕ) where
  primary_has : Shows (g.primary (is_positive levels) (expr levels)) (λ ts x. Some_in ts)
  primary_has =
      or_shows (λ ts x. Some_in ts)
      (or_shows (λ ts x. Some_in ts) (first_has (symbol_has _))
      (or_shows (λ ts x. Some_in ts) (first_has (first_has (first_has (token_has _))))
      (gate_shows (λ ts x. Some_in ts) (is_positive levels) (g.call (is_positive levels) (expr levels)) (first_has (first_has (token_has _))))))
      (or_shows (λ ts x. Some_in ts)
      (gate_shows (λ ts x. Some_in ts) (is_positive levels) (g.nested (is_positive levels) (expr levels))
      (or_shows (λ ts x. Some_in ts) (past_has k.LParen)
      (or_shows (λ ts x. Some_in ts) (past_has k.LBracket) (past_has k.LBrace))))
      (or_shows (λ ts x. Some_in ts) (first_has (symbol_has _))
      (or_shows (λ ts x. Some_in ts) (first_has (token_has _)) (first_has (token_has _)))))

  unary_has : Shows (g.unary (is_positive levels) (expr levels)) (λ ts x. Some_in ts)
  unary_has =
      or_shows (λ ts x. Some_in ts) (or_shows (λ ts x. Some_in ts) (past_has k.Not) (first_has primary_has))
      (or_shows (λ ts x. Some_in ts) (past_has k.Minus) (first_has primary_has))

  level_has : Shows (g.level (is_positive levels) (expr levels)) (λ ts x. Some_in ts)
  level_has =
      or_shows (λ ts x. Some_in ts) (gate_shows (λ ts x. Some_in ts) (is_positive levels) (g.conditional (is_positive levels) (expr levels)) (past_has k.If))
      (first_has (first_has (first_has (first_has (first_has unary_has)))))

pub any_has : (ts : List Token) (x : ExprTree) → any_expr ts x → Some_in ts
unfolding expr
any_has ts x d = level_has d.0 ts x d.1
