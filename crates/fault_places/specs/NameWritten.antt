-- Defines what the tokens of a core node's name derive.
-- Source: Cedar reference guide 4.0, "Grammar specification for Cedar policy syntax" (Path, Uid).
-- Rules of this product: a node's own name is the entity of a literal, or the type of an `is`.
use Rattle.std.specs.Prelude.{◌≡◌, ℕ, List, ◌∷◌, ◌++◌, Option, Some, None}
use Rattle.grammar_syntax.specs.declared.token.Token.{Token}
use Rattle.grammar_syntax.specs.declared.name_trees.PathTree.{PathTree}
use Rattle.grammar_syntax.specs.declared.name_trees.UidTree.{UidTree}
use Rattle.grammar_syntax.specs.Lexing.{IsLexed}
use Rattle.grammar_syntax.specs.Grammar.{path, uid}
use Rattle.values.specs.declared.entity_uid.EntityUid.{EntityUid}
use Rattle.grammar_core.specs.declared.leaf.Literal.{Literal}
use Rattle.grammar_core.specs.declared.leaf.Literal.TheVariants as literal
use Rattle.grammar_core.specs.declared.operator.Unary.{Unary}
use Rattle.grammar_core.specs.declared.operator.Unary.TheVariants.{Is}
use Rattle.grammar_core.specs.declared.expr.Expr.{Expr}
use Rattle.grammar_core.specs.declared.expr.Expr.TheOpen.{Expr-F}
use Rattle.grammar_core.specs.declared.expr.Expr.TheViews.{out-Expr}
use Rattle.grammar_parsing.specs.declared.tree.PolicyTree.{PolicyTree}
use Rattle.grammar_parsing.specs.Expressions.{nesting_limit}
use Rattle.grammar_parsing.specs.Grammar.{policy}
use Rattle.policy_grammar.specs.declared.policy.Policy.{Policy}
use Rattle.policy_grammar.specs.grammar_desugaring.Meaning.{path_name, uid_of}
use Rattle.policy_grammar.specs.CoreOf.{IsCoreOf}
use Rattle.policy_grammar.specs.PolicyExpression.{expression_of}
use Rattle.typing.specs.Places.{follow}
use Rattle.fault_places.specs.Names.{named_at}

-- An `OwnName` is the name that a core node has itself.
pub data OwnName : Type 0 where
  entity : EntityUid → OwnName
  tested_type : List ℕ → OwnName

-- `name_of_literal l` is the entity of the literal `l`, if the literal has one.
abbrev pub name_of_literal : Literal → Option OwnName
name_of_literal (literal.Entity u) = Some (entity u)
name_of_literal l = None

-- `name_of_operator op` is the type of the operator `op`, if it is `is`.
abbrev pub name_of_operator : Unary → Option OwnName
name_of_operator (Is n) = Some (tested_type n)
name_of_operator op = None

-- `name_of (out-Expr e)` is the name that the core node `e` has itself, if it has one.
abbrev pub name_of : Expr-F Expr → Option OwnName
name_of (Expr-F.Literal l) = name_of_literal l
name_of (Expr-F.Unary op a) = name_of_operator op
name_of y = None

-- `IsNameWriting text mine n` holds if the tokens `mine` by themselves derive the name `n`, as a Uid or a Path.
pub data IsNameWriting (text : List ℕ) (mine : List Token) : OwnName → Type 0 where
  as_uid : (tree : UidTree) → uid mine tree → IsNameWriting text mine (entity (uid_of text tree))
  as_path : (tree : PathTree) → path mine tree → IsNameWriting text mine (tested_type (path_name text tree))

-- `NameHasTokensIn text tree path n ts` holds if the tokens `ts` of a policy's text consist of tokens before, one or
-- more tokens of the name `n` of the core node at `path`, and tokens after.
pub record NameHasTokensIn (text : List ℕ) (tree : PolicyTree) (path : List ℕ) (n : OwnName) (ts : List Token) :
    Type 0 where
  pub before : List Token
  pub first : Token
  pub mine : List Token
  pub behind : List Token
  pub whole : ts ≡ before ++ (first ∷ mine ++ behind)
  pub found : named_at ts tree path ≡ Some (first ∷ mine)
  pub derives : IsNameWriting text (first ∷ mine) n

-- ## Theorem

-- `NamesHaveTokens`: the name of each core node of the whole expression of a policy has a place in the policy's tokens.
abbrev pub NamesHaveTokens : Type 0
NamesHaveTokens =
    (text : List ℕ) (ts : List Token) (tree : PolicyTree) (whole : Policy) (path : List ℕ) (e : Expr) (n : OwnName)
    → IsLexed text ts → policy nesting_limit ts tree → IsCoreOf text tree whole
    → follow path (expression_of whole) ≡ Some e → name_of (out-Expr e) ≡ Some n → NameHasTokensIn text tree path n ts
