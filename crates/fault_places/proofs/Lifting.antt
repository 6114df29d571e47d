-- What a production of expressions derives is an expression.
use Rattle.std.proofs.Common.{ℕ, zero, suc, List, [], refl, sym, inl, inr}
use Rattle.std.proofs.lemmas.List.{append-nil}
use Rattle.grammar_syntax.specs.declared.token.Token.{Token}
use Rattle.grammar_syntax.specs.declared.token.TokenKind.{TokenKind}
use Rattle.grammar_syntax.specs.declared.token.TokenKind.TheVariants as k
use Rattle.grammar_syntax.specs.Lang.{Lang}
use Rattle.grammar_syntax.specs.Lang as lang
use Rattle.grammar_syntax.specs.declared.tree.ExprTree.{ExprTree}
use Rattle.grammar_syntax.specs.declared.tree.ExprTree.TheVariants as tree
use Rattle.grammar_parsing.specs.Expressions as g
use Rattle.grammar_parsing.specs.Expressions.{expr, any_expr, is_positive}

pub any_level : (levels : ℕ) (ts : List Token) (x : ExprTree) → g.level (is_positive levels) (expr levels) ts x
    → any_expr ts x
unfolding expr
any_level levels ts x d = (levels, d)

pub any_inner : (levels : ℕ) (ts : List Token) (x : ExprTree) → expr levels ts x → any_expr ts x
unfolding expr
any_inner zero ts x d = absurd d
any_inner (suc levels) ts x d = (levels, d)

-- an operand without further pieces
pub alone_up : {A : Type 0} (first : Lang ExprTree) (piece : Lang A) (make : ExprTree → List A → ExprTree)
    (ts : List Token) (x : ExprTree) → first ts x → g.chain first piece make ts x
alone_up first piece make ts x d = record {
  front = ts;
  back = [];
  value = x;
  whole = sym (append-nil ts);
  first = d;
  second = record { front = []; back = []; value = []; whole = refl; first = refl; second = (refl, refl) };
}

module _ (levels : ℕ) where
  pub or_up : (ts : List Token) (x : ExprTree) → g.disjunction (is_positive levels) (expr levels) ts x → any_expr ts x
  or_up ts x d = any_level levels ts x (inr d)

  pub and_up : (ts : List Token) (x : ExprTree) → g.conjunction (is_positive levels) (expr levels) ts x → any_expr ts x
  and_up ts x d = or_up ts x (alone_up (g.conjunction (is_positive levels) (expr levels)) (lang.◌>>◌ (lang.one k.Or) (g.conjunction (is_positive levels) (expr levels))) tree.Or ts x d)

  pub relation_up : (ts : List Token) (x : ExprTree) → g.relation (is_positive levels) (expr levels) ts x → any_expr ts x
  relation_up ts x d = and_up ts x (alone_up (g.relation (is_positive levels) (expr levels)) (lang.◌>>◌ (lang.one k.And) (g.relation (is_positive levels) (expr levels))) tree.And ts x d)

  pub sum_up : (ts : List Token) (x : ExprTree) → g.sum (is_positive levels) (expr levels) ts x → any_expr ts x
  sum_up ts x d =
      relation_up ts x (record {
        front = ts;
        back = [];
        value = x;
        whole = sym (append-nil ts);
        first = d;
        second = inr (inr (inr (inr (refl, refl))));
      })

  pub product_up : (ts : List Token) (x : ExprTree) → g.product (is_positive levels) (expr levels) ts x → any_expr ts x
  product_up ts x d = sum_up ts x (alone_up (g.product (is_positive levels) (expr levels)) (g.term (is_positive levels) (expr levels)) tree.Sum ts x d)

  pub unary_up : (ts : List Token) (x : ExprTree) → g.unary (is_positive levels) (expr levels) ts x → any_expr ts x
  unary_up ts x d = product_up ts x (alone_up (g.unary (is_positive levels) (expr levels)) (lang.◌>>◌ (lang.one k.Star) (g.unary (is_positive levels) (expr levels))) tree.Product ts x d)

  -- a member is signed by no sign
  unsigned : (sign : TokenKind) (make : ExprTree → ExprTree) (n : ℕ) (ts : List Token) (x : ExprTree)
      → g.member (is_positive levels) (expr levels) ts x → g.signed (is_positive levels) (expr levels) sign make n ts x
  unsigned sign make zero ts x d = d
  unsigned sign make (suc n) ts x d = inr d

  pub member_up : (ts : List Token) (x : ExprTree) → g.member (is_positive levels) (expr levels) ts x → any_expr ts x
  member_up ts x d = unary_up ts x (inl (unsigned k.Not tree.Not 4 ts x d))

  pub primary_up : (ts : List Token) (x : ExprTree) → g.primary (is_positive levels) (expr levels) ts x → any_expr ts x
  primary_up ts x d = member_up ts x (alone_up (g.primary (is_positive levels) (expr levels)) (lang.◌or◌ (g.dotted (is_positive levels) (expr levels)) g.indexed) tree.Member ts x d)

  -- at most n signs are at most one more
  more_signs : (sign : TokenKind) (make : ExprTree → ExprTree) (n : ℕ) (ts : List Token) (x : ExprTree)
      → g.signed (is_positive levels) (expr levels) sign make n ts x
      → g.signed (is_positive levels) (expr levels) sign make (suc n) ts x
  more_signs sign make zero ts x d = inr d
  more_signs sign make (suc n) ts x (inl d) =
      inl (record {
        front = d.front;
        back = d.back;
        value = d.value;
        whole = d.whole;
        first = d.first;
        second = record {
          front = d.second.front;
          back = d.second.back;
          value = d.second.value;
          whole = d.second.whole;
          first = more_signs sign make n d.second.front d.second.value d.second.first;
          second = d.second.second;
        };
      })
  more_signs sign make (suc n) ts x (inr d) = inr d

  pub not_up : (ts : List Token) (x : ExprTree)
      → g.signed (is_positive levels) (expr levels) k.Not tree.Not 3 ts x → any_expr ts x
  not_up ts x d = unary_up ts x (inl (more_signs k.Not tree.Not 3 ts x d))

  pub minus_up : (ts : List Token) (x : ExprTree)
      → g.signed (is_positive levels) (expr levels) k.Minus tree.Minus 3 ts x → any_expr ts x
  minus_up ts x d = unary_up ts x (inr (more_signs k.Minus tree.Minus 3 ts x d))
