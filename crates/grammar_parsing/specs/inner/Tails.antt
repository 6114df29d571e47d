-- Defines how the tail of a Relation is parsed, and then joined to the Sum before the tail. Relation and Sum are
-- productions of Expressions.antt.
use Rattle.std.specs.Prelude.{Bool, Option, Some, None}
use Rattle.grammar_syntax.specs.declared.token.TokenKind.TheVariants as k
use Rattle.grammar_syntax.specs.declared.tree.ExprTree.{ExprTree}
use Rattle.grammar_syntax.specs.declared.tree.ExprTree.TheVariants as tree
use Rattle.grammar_syntax.specs.Kinds.{only}
use Rattle.grammar_syntax.specs.ParserCombinators.{Parser, take, token, pure, ◌>>=◌, ◌>>◌, either}
use Rattle.grammar_syntax.specs.Parsing.{path}
use Rattle.grammar_parsing.specs.Expressions.{comparison_of, comparisons, patterns, is_in}
use Rattle.grammar_parsing.specs.inner.Reading.{symbol, key, sum, maybe_inside}
use Rattle.grammar_parsing.specs.declared.relations.Tail.{Tail}
use Rattle.grammar_parsing.specs.declared.relations.Tail.TheVariants.{Compared, Has, Like, Is}

-- `form x tail` is the tree of the Relation of the Sum `x` and the tail `tail`.
abbrev pub form : ExprTree → Tail → ExprTree
form x (Compared operator y) = tree.Compare x operator y
form x (Has name) = tree.Has x name
form x (Like text) = tree.Like x text
form x (Is type_name y) = is_in x type_name y

-- `relate x o` is the tree of the Relation of the Sum `x` and the tail in `o`, or `x` if `o` is `None`.
abbrev pub relate : ExprTree → Option Tail → ExprTree
relate x None = x
relate x (Some tail) = form x tail

-- `has` parses "has" and a key.
unfoldable pub has : Parser (Option Tail)
has = do
  token k.Has
  name ← key
  pure (Some (Has name))

-- `like` parses "like" and a pattern.
unfoldable pub like : Parser (Option Tail)
like = do
  token k.Like
  text ← take patterns
  pure (Some (Like text))

-- In this module `may_nest` is whether one more level of nesting may be opened, and `inner` parses an expression of
-- that level.
module _ (may_nest : Bool) (inner : Parser ExprTree) where
  -- `compared` parses a comparison operator, of which "in" is one, and a Sum.
  unfoldable pub compared : Parser (Option Tail)
  compared = do
    operator ← symbol comparison_of
    y ← sum may_nest inner
    pure (Some (Compared operator y))

  -- `type_test` parses "is" Path [ "in" Sum ].
  unfoldable pub type_test : Parser (Option Tail)
  type_test = do
    token k.Is
    type_name ← path
    y ← maybe_inside may_nest inner
    pure (Some (Is type_name y))

  -- `test_tail` parses a tail that begins with "has", "like" or "is", or nothing.
  unfoldable pub test_tail : Parser (Option Tail)
  test_tail = either (only k.Has) has (either (only k.Like) like (either (only k.Is) type_test (pure None)))

  -- `tail` parses a tail, or nothing.
  unfoldable pub tail : Parser (Option Tail)
  tail = either comparisons compared test_tail

  -- `joined x` parses a tail after the Sum `x`, and gives the Relation of both; without a tail it gives `x`.
  unfoldable pub joined : ExprTree → Parser ExprTree
  joined x = tail >>= (λ found. pure (relate x found))
