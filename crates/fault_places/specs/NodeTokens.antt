-- Defines what the tokens of a core node derive.
-- Source: Cedar reference guide 4.0, "Grammar specification for Cedar policy syntax" and "Operators and functions".
-- Rules of this product: a core node comes from the least expression that desugars to it. If desugaring makes two nodes
-- of one expression, as `!(a <= b)` of `a > b`, the inner one has no expression of its own.
use Rattle.std.specs.Prelude.{◌≡◌, ℕ, List, [], ◌∷◌, ◌++◌, Some}
use Rattle.std.specs.List.{AllByRecursion}
use Rattle.grammar_syntax.specs.declared.token.Token.{Token}
use Rattle.grammar_syntax.specs.declared.token.TokenKind.TheVariants as k
use Rattle.grammar_syntax.specs.Lang.{many}
use Rattle.grammar_syntax.specs.Lexing.{IsLexed}
use Rattle.grammar_syntax.specs.declared.name_trees.PathTree.{PathTree}
use Rattle.grammar_syntax.specs.declared.tree.Comparison.{Comparison}
use Rattle.grammar_syntax.specs.declared.tree.ExprTree.{ExprTree}
use Rattle.grammar_syntax.specs.declared.tree.ExprTree.TheVariants as tree
use Rattle.grammar_core.specs.declared.expr.Expr.{Expr}
use Rattle.grammar_core.specs.declared.expr.Expr.TheVariants as core
use Rattle.grammar_core.specs.declared.operator.Unary.TheVariants.{Not}
use Rattle.grammar_parsing.specs.declared.tree.Condition.{Condition}
use Rattle.grammar_parsing.specs.declared.tree.ConditionWord.TheVariants.{Unless}
use Rattle.grammar_parsing.specs.declared.tree.PolicyTree.{PolicyTree}
use Rattle.grammar_parsing.specs.Expressions.{any_expr, nesting_limit}
use Rattle.grammar_parsing.specs.Grammar.{annotation, entity_part, action_part, condition, policy}
use Rattle.policy_grammar.specs.declared.policy.Policy.{Policy}
use Rattle.policy_grammar.specs.grammar_desugaring.Core.{core_of}
use Rattle.policy_grammar.specs.Conditions.{condition_of}
use Rattle.policy_grammar.specs.CoreOf.{IsCoreOf}
use Rattle.policy_grammar.specs.PolicyExpression.{expression_of}
use Rattle.typing.specs.Places.{follow}
use Rattle.fault_places.specs.Places.{written_at}

-- `IsWritingOf text x e` holds if `x` is the least expression with which the core node `e` is written.
pub data IsWritingOf (text : List ℕ) (x : ExprTree) (e : Expr) : Type 0 where
  -- `e` is what `x` means
  itself : e ≡ core_of text x → IsWritingOf text x e
  -- `e` is what `!` negates in the meaning of `a > b`, `a >= b` or `a != b`
  negated : (a : ExprTree) (operator : Comparison) (b : ExprTree) → x ≡ tree.Compare a operator b
      → core_of text x ≡ core.Unary Not e → IsWritingOf text x e
  -- `e` is `a in b` in the meaning of `a is T in b`
  tested : (a : ExprTree) (path : PathTree) (b : ExprTree) (test : Expr) → x ≡ tree.IsIn a path b
      → core_of text x ≡ core.And test e → IsWritingOf text x e

-- `IsPlacedIn text tree path e before mine behind` holds if the tokens `mine` of a policy, which follow `before` and
-- precede `behind`, are those with which the core node `e` at `path` of the whole expression is written. Each case says
-- what these tokens derive.
pub data IsPlacedIn (text : List ℕ) (tree : PolicyTree) (path : List ℕ) (e : Expr) (before mine behind : List Token) :
    Type 0 where
  -- in a condition: the least expression
  of_expression : (x : ExprTree) → any_expr mine x → IsWritingOf text x e
      → IsPlacedIn text tree path e before mine behind
  -- the negation of an `unless`: the whole condition
  of_unless : (c : Condition) → condition nesting_limit mine c → c.word ≡ Unless → e ≡ condition_of text c
      → IsPlacedIn text tree path e before mine behind
  -- in the scope: one of its three parts
  of_principal : (rest : List ℕ) → path ≡ 0 ∷ rest → entity_part k.Principal mine tree.principal
      → IsPlacedIn text tree path e before mine behind
  of_action : (rest : List ℕ) → path ≡ 1 ∷ 0 ∷ rest → action_part mine tree.action
      → IsPlacedIn text tree path e before mine behind
  of_resource : (rest : List ℕ) → path ≡ 1 ∷ 1 ∷ 0 ∷ rest → entity_part k.Resource mine tree.resource
      → IsPlacedIn text tree path e before mine behind
  -- a conjunction of parts or conditions: the policy after its annotations
  of_policy : AllByRecursion (λ i. i ≡ 1) path → many annotation before tree.annotations → behind ≡ []
      → IsPlacedIn text tree path e before mine behind

-- `HasTokensIn text tree path e ts` holds if the tokens `ts` of a policy's text consist of tokens before, one or more
-- tokens of the core node `e` at `path` of the whole expression, and tokens after.
pub record HasTokensIn (text : List ℕ) (tree : PolicyTree) (path : List ℕ) (e : Expr) (ts : List Token) : Type 0 where
  pub before : List Token
  pub first : Token
  pub mine : List Token
  pub behind : List Token
  pub whole : ts ≡ before ++ (first ∷ mine ++ behind)
  pub found : written_at ts tree path ≡ Some (first ∷ mine)
  pub placed : IsPlacedIn text tree path e before (first ∷ mine) behind

-- ## Theorem

-- `NodesHaveTokens`: each core node of the whole expression of a policy has a place, as `HasTokensIn` says, in the
-- tokens of the policy's text.
abbrev pub NodesHaveTokens : Type 0
NodesHaveTokens =
    (text : List ℕ) (ts : List Token) (tree : PolicyTree) (whole : Policy) (path : List ℕ) (e : Expr) → IsLexed text ts
    → policy nesting_limit ts tree → IsCoreOf text tree whole → follow path (expression_of whole) ≡ Some e
    → HasTokensIn text tree path e ts
