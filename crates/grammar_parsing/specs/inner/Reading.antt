-- Defines how expressions are parsed, from the left with one token of lookahead. The productions are those of
-- Expressions.
use Rattle.std.specs.Prelude.{ℕ, zero, suc, Bool, true, false, List, [], ◌∷◌, Option, Some, None}
use Rattle.grammar_syntax.specs.declared.token.TokenKind.{TokenKind}
use Rattle.grammar_syntax.specs.declared.token.TokenKind.TheVariants as k
use Rattle.grammar_syntax.specs.declared.token.Token.{Token}
use Rattle.grammar_syntax.specs.declared.name_trees.PathTree.{PathTree}
use Rattle.grammar_syntax.specs.declared.name_trees.PathOrUid.{PathOrUid}
use Rattle.grammar_syntax.specs.declared.name_trees.PathOrUid.TheVariants as name
use Rattle.grammar_syntax.specs.declared.tree.Access.{Access}
use Rattle.grammar_syntax.specs.declared.tree.Access.TheVariants as access
use Rattle.grammar_syntax.specs.declared.tree.RecordEntry.{RecordEntry}
use Rattle.grammar_syntax.specs.declared.tree.KeyTree.{KeyTree}
use Rattle.grammar_syntax.specs.declared.tree.KeyTree.TheVariants.{Word, Quoted}
use Rattle.grammar_syntax.specs.declared.tree.Term.{Term}
use Rattle.grammar_syntax.specs.declared.tree.ExprTree.{ExprTree}
use Rattle.grammar_syntax.specs.declared.tree.ExprTree.TheVariants as tree
use Rattle.grammar_syntax.specs.declared.tree.RequestKeyword.{RequestKeyword}
use Rattle.grammar_syntax.specs.Kinds.{Kinds, only}
use Rattle.grammar_syntax.specs.ParserCombinators.{Parser, ParseResult, Read, Stop, Unexpected, take}
use Rattle.grammar_syntax.specs.ParserCombinators.{token, pure}
use Rattle.grammar_syntax.specs.ParserCombinators.{refuse, ◌>>=◌}
use Rattle.grammar_syntax.specs.ParserCombinators.{◌>>◌, either, optional, many, gate, too_deep}
use Rattle.grammar_syntax.specs.Grammar.{identifiers}
use Rattle.grammar_syntax.specs.Parsing.{path}
pub use Rattle.grammar_syntax.specs.Parsing.{path_of, name_by}
unfoldable pub use Rattle.grammar_syntax.specs.Parsing.{rest_of_name}
use Rattle.grammar_parsing.specs.Expressions.{boolean_of, variable_of, sign_of, comparison_of}
use Rattle.grammar_parsing.specs.Expressions.{booleans, keys, patterns, signs, comparisons}
use Rattle.grammar_parsing.specs.Expressions.{joined, accessed, is_in, is_positive}

-- ---- lookahead

-- `openers` are the kinds of the brackets that open a nested expression.
abbrev pub openers : Kinds
openers k.LParen = true
openers k.LBracket = true
openers k.LBrace = true
openers _ = false

-- `access_firsts` are the kinds of the first token of an access.
abbrev pub access_firsts : Kinds
access_firsts k.Dot = true
access_firsts k.LBracket = true
access_firsts _ = false

-- `firsts` are the kinds of the first token of an expression.
abbrev pub firsts : Kinds
firsts k.Number = true
firsts k.Text = true
firsts k.True = true
firsts k.False = true
firsts k.LParen = true
firsts k.LBracket = true
firsts k.LBrace = true
firsts k.Not = true
firsts k.Minus = true
firsts k.If = true
firsts kind = identifiers kind

-- ---- tokens whose meaning depends only on their kind

-- `symbol_by meaning t ts` parses the token `t`, before the tokens `ts`, by its meaning: the result is the value in
-- `meaning`, and `ts` remain. If `meaning` is `None`, parsing stops before `t`.
abbrev pub symbol_by : {A : Type 0} → Option A → Token → List Token → ParseResult A
symbol_by None t ts = Stop Unexpected (t ∷ ts)
symbol_by (Some a) t ts = Read a ts

-- `symbol meaning` parses a token to whose kind `meaning` gives a value; that value is the result.
unfoldable pub symbol : {A : Type 0} → (TokenKind → Option A) → Parser A
symbol meaning [] = Stop Unexpected []
symbol meaning (t ∷ ts) = symbol_by (meaning t.kind) t ts

-- ---- pieces without nesting

-- `literal` parses a boolean, a Number or a String.
unfoldable pub literal : Parser ExprTree
literal =
    either booleans (symbol boolean_of >>= (λ value. pure (tree.Boolean value)))
    (either (only k.Number) (token k.Number >>= (λ t. pure (tree.Number t)))
    (token k.Text >>= (λ t. pure (tree.Text t))))

-- `key` parses an identifier or a String.
unfoldable pub key : Parser KeyTree
key =
    either identifiers (take identifiers >>= (λ t. pure (Word t)))
    (token k.Text >>= (λ t. pure (Quoted t)))

-- `indexed` parses "[" String "]".
unfoldable pub indexed : Parser (Access (List ExprTree))
indexed = do
  token k.LBracket
  word ← token k.Text
  token k.RBracket
  pure (access.Field (Quoted word))

-- `variable_at first more` is the variable named by the Path of the words `first` and `more`, if there is one: only a
-- Path of one word names a variable.
abbrev pub variable_at : Token → List Token → Option RequestKeyword
variable_at first [] = variable_of first.kind
variable_at first (t ∷ ts) = None

-- `variable_by o` consumes no token, and has the variable `o` as its value; it stops with an error if `o` is `None`.
abbrev pub variable_by : Option RequestKeyword → Parser ExprTree
variable_by (Some variable) = pure (tree.Variable variable)
variable_by None = refuse

-- `alone p` consumes no token, and has the variable that the Path `p` names as its value; it stops with an error if `p`
-- names none.
unfoldable pub alone : PathTree → Parser ExprTree
alone p = variable_by (variable_at p.first p.more)

-- In this module `may_nest` is whether one more level of nesting may be opened, and `inner` parses an expression of
-- that level.
module _ (may_nest : Bool) (inner : Parser ExprTree) where
  -- ---- lists

  -- `next_argument` parses "," and an expression.
  unfoldable pub next_argument : Parser ExprTree
  next_argument = token k.Comma >> inner

  -- `rest_of_arguments first` parses the arguments after `first`; its value is all of them, `first` included.
  unfoldable pub rest_of_arguments : ExprTree → Parser (List ExprTree)
  rest_of_arguments first = many (only k.Comma) next_argument >>= (λ more. pure (first ∷ more))

  -- `arguments` parses expressions with commas between them, or none.
  unfoldable pub arguments : Parser (List ExprTree)
  arguments = either firsts (inner >>= rest_of_arguments) (pure [])

  -- `called` parses arguments in parentheses.
  unfoldable pub called : Parser (List ExprTree)
  called = do
    token k.LParen
    found ← arguments
    token k.RParen
    pure found

  -- `entry` parses a key, ":" and an expression.
  unfoldable pub entry : Parser (RecordEntry ExprTree)
  entry = do
    name ← key
    token k.Colon
    x ← inner
    pure (record { key = name; value = x })

  -- `next_entry` parses "," and an entry.
  unfoldable pub next_entry : Parser (RecordEntry ExprTree)
  next_entry = token k.Comma >> entry

  -- `rest_of_entries first` parses the entries after `first`; its value is all of them, `first` included.
  unfoldable pub rest_of_entries : RecordEntry ExprTree → Parser (List (RecordEntry ExprTree))
  rest_of_entries first = many (only k.Comma) next_entry >>= (λ more. pure (first ∷ more))

  -- `entries` parses entries with commas between them, or none.
  unfoldable pub entries : Parser (List (RecordEntry ExprTree))
  entries = either keys (entry >>= rest_of_entries) (pure [])

  -- ---- names: a variable, a Uid and a call all begin with an identifier; `rest_of_name` parses the rest of the Path
  -- or Uid that begins there

  -- `call_of p` parses the arguments of a call of the Path `p`.
  abbrev pub call_of : PathTree → Parser ExprTree
  call_of p = called >>= (λ found. pure (tree.Call p found))

  -- `call_or_variable p` parses the arguments of a call of the Path `p` if "(" comes next, which needs one more level
  -- of nesting; else `p` must name a variable.
  unfoldable pub call_or_variable : PathTree → Parser ExprTree
  call_or_variable p = either (only k.LParen) (gate may_nest (call_of p)) (alone p)

  -- `named_as n` parses what follows the name `n`: nothing after a Uid, maybe arguments after a Path.
  abbrev pub named_as : PathOrUid → Parser ExprTree
  named_as (name.Uid u) = pure (tree.Uid u)
  named_as (name.Path p) = call_or_variable p

  -- `rest_of_named first` parses a Uid, a call or a variable after its first word, `first`.
  unfoldable pub rest_of_named : Token → Parser ExprTree
  rest_of_named first = rest_of_name first >>= named_as

  -- `named` parses a Uid, a call or a variable.
  unfoldable pub named : Parser ExprTree
  named = take identifiers >>= rest_of_named

  -- ---- brackets

  -- `parenthesized` parses an expression in parentheses.
  unfoldable pub parenthesized : Parser ExprTree
  parenthesized = do
    token k.LParen
    x ← inner
    token k.RParen
    pure (tree.Parentheses x)

  -- `set` parses a set: expressions in "[" and "]".
  unfoldable pub set : Parser ExprTree
  set = do
    token k.LBracket
    found ← arguments
    token k.RBracket
    pure (tree.Set found)

  -- `braced` parses a record: entries in "{" and "}".
  unfoldable pub braced : Parser ExprTree
  braced = do
    token k.LBrace
    found ← entries
    token k.RBrace
    pure (tree.Record found)

  -- `nested` parses an expression in parentheses, a set or a record.
  unfoldable pub nested : Parser ExprTree
  nested = either (only k.LParen) parenthesized (either (only k.LBracket) set braced)

  -- `primary` parses a Primary of the grammar; a bracket needs one more level of nesting.
  unfoldable pub primary : Parser ExprTree
  primary = either identifiers named (either openers (gate may_nest nested) literal)

  -- ---- accesses

  -- `call_arguments` parses the arguments of a method.
  abbrev pub call_arguments : Parser (Option (List ExprTree))
  call_arguments = called >>= (λ found. pure (Some found))

  -- `maybe_called` parses the arguments of a method if "(" comes next, which needs one more level of nesting; else
  -- nothing.
  unfoldable pub maybe_called : Parser (Option (List ExprTree))
  maybe_called = either (only k.LParen) (gate may_nest call_arguments) (pure None)

  -- `dotted` parses ".", an identifier and maybe arguments.
  unfoldable pub dotted : Parser (Access (List ExprTree))
  dotted = do
    token k.Dot
    word ← take identifiers
    found ← maybe_called
    pure (accessed word found)

  -- `accessing` parses an access by a dot or by brackets.
  unfoldable pub accessing : Parser (Access (List ExprTree))
  accessing = either (only k.Dot) dotted indexed

  -- `accesses` parses accesses as long as one comes next.
  unfoldable pub accesses : Parser (List (Access (List ExprTree)))
  accesses = many access_firsts accessing

  -- `member` parses a Member of the grammar: a Primary and accesses.
  unfoldable pub member : Parser ExprTree
  member = do
    x ← primary
    more ← accesses
    pure (joined tree.Member x more)

  -- ---- operators

  -- `signed sign make n` parses at most `n` tokens of the kind `sign` and a Member, where `make x` is the tree of a
  -- sign with the operand `x`.
  unfoldable pub signed : TokenKind → (ExprTree → ExprTree) → ℕ → Parser ExprTree
  signed sign make zero = member
  signed sign make (suc n) = either (only sign) (do token sign; x ← signed sign make n; pure (make x)) member

  -- `unary` parses a Unary of the grammar: up to four "!" or four "-", and a Member.
  unfoldable pub unary : Parser ExprTree
  unary =
      either (only k.Not) (do token k.Not; x ← signed k.Not tree.Not 3; pure (tree.Not x))
      (signed k.Minus tree.Minus 4)

  -- `factor` parses "*" and a Unary.
  unfoldable pub factor : Parser ExprTree
  factor = token k.Star >> unary

  -- `factors` parses "*" and a Unary as long as "*" comes next.
  unfoldable pub factors : Parser (List ExprTree)
  factors = many (only k.Star) factor

  -- `product` parses a Product: one Unary or several, with "*" between each two.
  unfoldable pub product : Parser ExprTree
  product = do
    x ← unary
    more ← factors
    pure (joined tree.Product x more)

  -- `term` parses "+" or "-" and a Product.
  unfoldable pub term : Parser (Term ExprTree)
  term = do
    sign ← symbol sign_of
    x ← product
    pure (record { sign = sign; operand = x })

  -- `terms` parses terms as long as "+" or "-" comes next.
  unfoldable pub terms : Parser (List (Term ExprTree))
  terms = many signs term

  -- `sum` parses a Sum: one Product or several, with "+" or "-" between each two.
  unfoldable pub sum : Parser ExprTree
  sum = do
    x ← product
    more ← terms
    pure (joined tree.Sum x more)

  -- `compared x` parses a comparison operator, of which "in" is one, and a Sum, after the Sum `x`.
  unfoldable pub compared : ExprTree → Parser ExprTree
  compared x = do
    operator ← symbol comparison_of
    y ← sum
    pure (tree.Compare x operator y)

  -- `has x` parses "has" and a key, after the Sum `x`.
  unfoldable pub has : ExprTree → Parser ExprTree
  has x = do
    token k.Has
    name ← key
    pure (tree.Has x name)

  -- `like x` parses "like" and a pattern, after the Sum `x`.
  unfoldable pub like : ExprTree → Parser ExprTree
  like x = do
    token k.Like
    pattern_text ← take patterns
    pure (tree.Like x pattern_text)

  -- `inside` parses "in" and a Sum.
  unfoldable pub inside : Parser ExprTree
  inside = token k.In >> sum

  -- `maybe_inside` parses "in" and a Sum if "in" comes next, else nothing.
  unfoldable pub maybe_inside : Parser (Option ExprTree)
  maybe_inside = optional (only k.In) inside

  -- `type_test x` parses "is" Path [ "in" Sum ], after the Sum `x`.
  unfoldable pub type_test : ExprTree → Parser ExprTree
  type_test x = do
    token k.Is
    type_name ← path
    y ← maybe_inside
    pure (is_in x type_name y)

  -- `test_tail x` parses a tail of `x` that begins with "has", "like" or "is"; its value is `x` if none of these comes
  -- next.
  unfoldable pub test_tail : ExprTree → Parser ExprTree
  test_tail x = either (only k.Has) (has x) (either (only k.Like) (like x) (either (only k.Is) (type_test x) (pure x)))

  -- `related x` parses the tail, which may be empty, of the Relation that begins with the Sum `x`.
  unfoldable pub related : ExprTree → Parser ExprTree
  related x = either comparisons (compared x) (test_tail x)

  -- `relation` parses a Relation of the grammar.
  unfoldable pub relation : Parser ExprTree
  relation = sum >>= related

  -- `next_and` parses "&&" and a Relation.
  unfoldable pub next_and : Parser ExprTree
  next_and = token k.And >> relation

  -- `ands` parses "&&" and a Relation as long as "&&" comes next.
  unfoldable pub ands : Parser (List ExprTree)
  ands = many (only k.And) next_and

  -- `conjunction` parses one Relation or several, with "&&" between each two.
  unfoldable pub conjunction : Parser ExprTree
  conjunction = do
    x ← relation
    more ← ands
    pure (joined tree.And x more)

  -- `next_or` parses "||" and a conjunction.
  unfoldable pub next_or : Parser ExprTree
  next_or = token k.Or >> conjunction

  -- `ors` parses "||" and a conjunction as long as "||" comes next.
  unfoldable pub ors : Parser (List ExprTree)
  ors = many (only k.Or) next_or

  -- `disjunction` parses one conjunction or several, with "||" between each two.
  unfoldable pub disjunction : Parser ExprTree
  disjunction = do
    x ← conjunction
    more ← ors
    pure (joined tree.Or x more)

  -- `branch word` parses the keyword `word`, which is "then" or "else", and an expression.
  abbrev pub branch : TokenKind → Parser ExprTree
  branch word = token word >> inner

  -- `alternative` parses "else" and an expression.
  abbrev pub alternative : Parser ExprTree
  alternative = branch k.Else

  -- `consequent` parses "then" and an expression.
  abbrev pub consequent : Parser ExprTree
  consequent = branch k.Then

  -- `decided test then_tree` parses the rest of a conditional after its test `test` and its `then` branch `then_tree`.
  unfoldable pub decided : ExprTree → ExprTree → Parser ExprTree
  decided test then_tree = alternative >>= (λ else_tree. pure (tree.If test then_tree else_tree))

  -- `conditional_tail test` parses the rest of a conditional after its test, `test`.
  unfoldable pub conditional_tail : ExprTree → Parser ExprTree
  conditional_tail test = consequent >>= decided test

  -- `conditional` parses "if", a test and both branches.
  unfoldable pub conditional : Parser ExprTree
  conditional = do
    token k.If
    test ← inner
    conditional_tail test

  -- `level` parses an expression; a conditional needs one more level of nesting.
  unfoldable pub level : Parser ExprTree
  level = either (only k.If) (gate may_nest conditional) disjunction

-- `expr levels` parses an expression of at most `levels` levels of nesting, its own included.
unfoldable pub expr : ℕ → Parser ExprTree
expr zero = too_deep
expr (suc levels) = level (is_positive levels) (expr levels)
