-- Defines the grammar of expressions: which lists of tokens form an expression, and its syntax tree.
-- A comment in the notation of a grammar, such as `Key = Ident | String`, states what the definition below it accepts,
-- except for the limit of nesting.
-- Source: Cedar reference guide 4.0, "Grammar specification for Cedar policy syntax".
-- Rules of this product: the nesting of expressions is limited.
use Rattle.std.specs.Prelude.{◌≡◌, ℕ, zero, suc, Bool, true, false, List, [], ◌∷◌, Option, Some, None, is_some}
use Rattle.grammar_syntax.specs.declared.token.TokenKind.{TokenKind}
use Rattle.grammar_syntax.specs.declared.token.TokenKind.TheVariants as k
use Rattle.grammar_syntax.specs.declared.token.Token.{Token}
use Rattle.grammar_syntax.specs.declared.name_trees.PathTree.{PathTree}
use Rattle.grammar_syntax.specs.declared.tree.Access.{Access}
use Rattle.grammar_syntax.specs.declared.tree.Access.TheVariants as access
use Rattle.grammar_syntax.specs.declared.tree.Comparison.{Comparison}
use Rattle.grammar_syntax.specs.declared.tree.Comparison.TheVariants as comparison
use Rattle.grammar_syntax.specs.declared.tree.RecordEntry.{RecordEntry}
use Rattle.grammar_syntax.specs.declared.tree.KeyTree.{KeyTree}
use Rattle.grammar_syntax.specs.declared.tree.KeyTree.TheVariants.{Word, Quoted}
use Rattle.grammar_syntax.specs.declared.tree.Sign.{Sign}
use Rattle.grammar_syntax.specs.declared.tree.Sign.TheVariants.{Plus, Minus}
use Rattle.grammar_syntax.specs.declared.tree.Term.{Term}
use Rattle.grammar_syntax.specs.declared.tree.ExprTree.{ExprTree}
use Rattle.grammar_syntax.specs.declared.tree.ExprTree.TheVariants as tree
use Rattle.grammar_syntax.specs.declared.tree.RequestKeyword.{RequestKeyword}
use Rattle.grammar_syntax.specs.declared.tree.RequestKeyword.TheVariants as variable
use Rattle.grammar_syntax.specs.Kinds.{Kinds}
pub use Rattle.grammar_syntax.specs.Patterns.{patterns}
use Rattle.grammar_syntax.specs.Relations.{relation as one_tail}
use Rattle.grammar_syntax.specs.Lang.{Lang, of, one, empty, ◌>>=◌, ◌>>◌, ◌giving◌, ◌or◌, optional, many}
use Rattle.grammar_syntax.specs.Lang.{never}
use Rattle.grammar_syntax.specs.Lang.{at_any, gate}
use Rattle.grammar_syntax.specs.Grammar.{identifiers, path, uid}

-- ## Tokens whose meaning depends only on their kind

-- `symbol meaning`: one token; `meaning` maps its kind to the value of the production
abbrev pub symbol : {A : Type 0} → (TokenKind → Option A) → Lang A
symbol meaning ts a = (t : Token) × (ts ≡ t ∷ []) × (meaning t.kind ≡ Some a)

-- `known meaning` are the kinds that `meaning` maps to a value.
abbrev pub known : {A : Type 0} → (TokenKind → Option A) → Kinds
known meaning kind = is_some (meaning kind)

-- "true" | "false"
abbrev pub boolean_of : TokenKind → Option Bool
boolean_of k.True = Some true
boolean_of k.False = Some false
boolean_of _ = None

-- Variable = "principal" | "action" | "resource" | "context"
abbrev pub variable_of : TokenKind → Option RequestKeyword
variable_of k.Principal = Some variable.Principal
variable_of k.Action = Some variable.Action
variable_of k.Resource = Some variable.Resource
variable_of k.Context = Some variable.Context
variable_of _ = None

-- "+" | "-"
abbrev pub sign_of : TokenKind → Option Sign
sign_of k.Plus = Some Plus
sign_of k.Minus = Some Minus
sign_of _ = None

-- "<" | "<=" | ">" | ">=" | "==" | "!=" | "in"
abbrev pub comparison_of : TokenKind → Option Comparison
comparison_of k.Less = Some comparison.Less
comparison_of k.LessEqual = Some comparison.LessOrEqual
comparison_of k.Greater = Some comparison.Greater
comparison_of k.GreaterEqual = Some comparison.GreaterOrEqual
comparison_of k.Equal = Some comparison.Equal
comparison_of k.NotEqual = Some comparison.NotEqual
comparison_of k.In = Some comparison.In
comparison_of _ = None

-- `booleans`, `signs` and `comparisons` are the kinds that `boolean_of`, `sign_of` and `comparison_of` map to a value.
abbrev pub booleans : Kinds
booleans = known boolean_of

abbrev pub signs : Kinds
signs = known sign_of

abbrev pub comparisons : Kinds
comparisons = known comparison_of

-- ## Sets of kinds

-- `keys` are the kinds of a Key, which is one token: an Ident or a String.
abbrev pub keys : Kinds
keys k.Text = true
keys kind = identifiers kind

-- ## Productions

-- `joined make x more` is `make x more`, the tree of `x` with the pieces `more` after it; or `x` itself if `more` is
-- empty.
abbrev pub joined : {A : Type 0} → (ExprTree → List A → ExprTree) → ExprTree → List A → ExprTree
joined make x [] = x
joined make x (next ∷ more) = make x (next ∷ more)

-- `accessed name arguments` is an access by a dot: a call of the method `name` for a list `arguments`, even an empty
-- one; the field `name` for `None`.
abbrev pub accessed : Token → Option (List ExprTree) → Access (List ExprTree)
accessed name None = access.Field (Word name)
accessed name (Some arguments) = access.Method name arguments

-- `is_in x type_name y` is the tree of `x is T`, or of `x is T in y` if there is a `y`, where T is `type_name`.
abbrev pub is_in : ExprTree → PathTree → Option ExprTree → ExprTree
is_in x type_name None = tree.Is x type_name
is_in x type_name (Some y) = tree.IsIn x type_name y

-- `chain first piece make`: First { Piece }, where First is `first` and Piece is `piece`, with the tree that
-- `joined make` builds from the first and the pieces
abbrev pub chain : {A : Type 0} → Lang ExprTree → Lang A → (ExprTree → List A → ExprTree) → Lang ExprTree
chain first piece make = do
  x ← first
  more ← many piece
  empty (joined make x more)

-- Literal = "true" | "false" | Number | String
abbrev pub literal : Lang ExprTree
literal = (symbol boolean_of giving tree.Boolean) or (one k.Number giving tree.Number) or (one k.Text giving tree.Text)

-- Key = Ident | String
abbrev pub key : Lang KeyTree
key = (of identifiers giving Word) or (one k.Text giving Quoted)

-- "[" String "]"
abbrev pub indexed : Lang (Access (List ExprTree))
indexed = do
  one k.LBracket
  name ← one k.Text
  one k.RBracket
  empty (access.Field (Quoted name))

-- In this module `may_nest` is whether one more level of nesting may be opened, and `inner` is the language of the
-- expressions of that level.
module _ (may_nest : Bool) (inner : Lang ExprTree) where
  -- Arguments = [ Expr { "," Expr } ]
  abbrev pub arguments : Lang (List ExprTree)
  arguments = (do first ← inner; more ← many (one k.Comma >> inner); empty (first ∷ more)) or empty []

  -- "(" Arguments ")"
  abbrev pub called : Lang (List ExprTree)
  called = do
    one k.LParen
    found ← arguments
    one k.RParen
    empty found

  -- Call = Path "(" Arguments ")"
  abbrev pub call : Lang ExprTree
  call = do
    name ← path
    found ← called
    empty (tree.Call name found)

  -- Named = Variable | Uid | Call
  abbrev pub named : Lang ExprTree
  named = (symbol variable_of giving tree.Variable) or (uid giving tree.Uid) or gate may_nest call

  -- "(" Expr ")"
  abbrev pub parenthesized : Lang ExprTree
  parenthesized = do
    one k.LParen
    x ← inner
    one k.RParen
    empty (tree.Parentheses x)

  -- "[" Arguments "]"
  abbrev pub set : Lang ExprTree
  set = do
    one k.LBracket
    found ← arguments
    one k.RBracket
    empty (tree.Set found)

  -- Key ":" Expr
  abbrev pub entry : Lang (RecordEntry ExprTree)
  entry = do
    name ← key
    one k.Colon
    x ← inner
    empty (record { key = name; value = x })

  -- [ Key ":" Expr { "," Key ":" Expr } ]
  abbrev pub entries : Lang (List (RecordEntry ExprTree))
  entries = (do first ← entry; more ← many (one k.Comma >> entry); empty (first ∷ more)) or empty []

  -- "{" [ Key ":" Expr { "," Key ":" Expr } ] "}"
  abbrev pub braced : Lang ExprTree
  braced = do
    one k.LBrace
    found ← entries
    one k.RBrace
    empty (tree.Record found)

  -- "(" Expr ")" | "[" Arguments "]" | "{" [ Key ":" Expr { "," Key ":" Expr } ] "}"
  abbrev pub nested : Lang ExprTree
  nested = parenthesized or set or braced

  -- Primary = Variable | Uid | Call | "(" Expr ")" | "[" Arguments "]"
  --     | "{" [ Key ":" Expr { "," Key ":" Expr } ] "}" | Literal
  abbrev pub primary : Lang ExprTree
  primary = named or gate may_nest nested or literal

  -- [ "(" Arguments ")" ]
  abbrev pub maybe_called : Lang (Option (List ExprTree))
  maybe_called = gate may_nest (called giving Some) or empty None

  -- "." Ident [ "(" Arguments ")" ]
  abbrev pub dotted : Lang (Access (List ExprTree))
  dotted = do
    one k.Dot
    name ← of identifiers
    found ← maybe_called
    empty (accessed name found)

  -- Member = Primary { "." Ident [ "(" Arguments ")" ] | "[" String "]" }
  abbrev pub member : Lang ExprTree
  member = chain primary (dotted or indexed) tree.Member

  -- `signed sign make n`: at most `n` tokens of the kind `sign`, and a Member; `make x` is the tree of one such token
  -- with the operand `x`
  abbrev pub signed : TokenKind → (ExprTree → ExprTree) → ℕ → Lang ExprTree
  signed sign make zero = member
  signed sign make (suc n) = (do one sign; x ← signed sign make n; empty (make x)) or member

  -- Unary = up to four "!" Member | up to four "-" Member
  abbrev pub unary : Lang ExprTree
  unary = signed k.Not tree.Not 4 or signed k.Minus tree.Minus 4

  -- Product = Unary { "*" Unary }
  abbrev pub product : Lang ExprTree
  product = chain unary (one k.Star >> unary) tree.Product

  -- ("+" | "-") Product
  abbrev pub term : Lang (Term ExprTree)
  term = do
    sign ← symbol sign_of
    x ← product
    empty (record { sign = sign; operand = x })

  -- Sum = Product { ("+" | "-") Product }
  abbrev pub sum : Lang ExprTree
  sum = chain product term tree.Sum

  -- ("<" | "<=" | ">" | ">=" | "==" | "!=" | "in") Sum, after the Sum `x`
  abbrev pub compared : ExprTree → Lang ExprTree
  compared x = do
    operator ← symbol comparison_of
    y ← sum
    empty (tree.Compare x operator y)

  -- "has" (Ident | String), after the Sum `x`
  abbrev pub has : ExprTree → Lang ExprTree
  has x = do
    one k.Has
    name ← key
    empty (tree.Has x name)

  -- "like" Pattern, after the Sum `x`
  abbrev pub like : ExprTree → Lang ExprTree
  like x = do
    one k.Like
    pattern_text ← of patterns
    empty (tree.Like x pattern_text)

  -- "in" Sum
  abbrev pub inside : Lang ExprTree
  inside = one k.In >> sum

  -- "is" Path [ "in" Sum ], after the Sum `x`
  abbrev pub type_test : ExprTree → Lang ExprTree
  type_test x = do
    one k.Is
    type_name ← path
    y ← optional inside
    empty (is_in x type_name y)

  -- the optional part of the production Relation (below), after the Sum `x`
  abbrev pub tailed : ExprTree → Lang ExprTree
  tailed x = compared x or has x or like x or type_test x or empty x

  -- Relation = Sum [ ("<" | "<=" | ">" | ">=" | "==" | "!=" | "in") Sum
  --     | "has" (Ident | String) | "like" Pattern | "is" Path [ "in" Sum ] ]
  abbrev pub relation : Lang ExprTree
  relation = one_tail sum tailed

  -- And = Relation { "&&" Relation }
  abbrev pub conjunction : Lang ExprTree
  conjunction = chain relation (one k.And >> relation) tree.And

  -- Or = And { "||" And }
  abbrev pub disjunction : Lang ExprTree
  disjunction = chain conjunction (one k.Or >> conjunction) tree.Or

  -- "if" Expr "then" Expr "else" Expr
  abbrev pub conditional : Lang ExprTree
  conditional = do
    one k.If
    test ← inner
    consequent ← one k.Then >> inner
    alternative ← one k.Else >> inner
    empty (tree.If test consequent alternative)

  -- Expr = "if" Expr "then" Expr "else" Expr | Or
  abbrev pub level : Lang ExprTree
  level = gate may_nest conditional or disjunction

-- `is_positive n` tests whether `n`, the number of levels of nesting that may still be opened, is not 0.
abbrev pub is_positive : ℕ → Bool
is_positive zero = false
is_positive (suc n) = true

-- `expr levels`: Expr, with at most `levels` levels of nesting. The expression itself is on the first level;
-- parentheses (also those of a call, as in `f()`), the brackets of a set, braces and an `if` each open one more.
unfoldable pub expr : ℕ → Lang ExprTree
expr zero = never
expr (suc levels) = level (is_positive levels) (expr levels)

-- `nesting_limit` is the greatest number of levels. The expression `1` has one level and `(1)` has two, so an
-- expression may be in at most 63 pairs of parentheses.
abbrev pub nesting_limit : ℕ
nesting_limit = 64

-- `any_expr`: Expr, without a limit on nesting
abbrev pub any_expr : Lang ExprTree
any_expr = at_any expr
