-- Defines well-formed trees: each token is spelled in the text (`text` in each definition), and of a kind that its
-- position allows.
use Rattle.std.specs.Prelude.{◌≡◌, ℕ, true, List}
use Rattle.std.specs.List.{AllByRecursion}
use Rattle.grammar_syntax.specs.declared.token.TokenKind.TheVariants as k
use Rattle.grammar_syntax.specs.declared.token.Token.{Token}
use Rattle.grammar_syntax.specs.Lexing.{IsSpelledIn}
use Rattle.grammar_syntax.specs.declared.name_trees.PathTree.{PathTree}
use Rattle.grammar_syntax.specs.declared.name_trees.UidTree.{UidTree}
use Rattle.grammar_syntax.specs.declared.tree.Access.{Access}
use Rattle.grammar_syntax.specs.declared.tree.Access.TheVariants as access
use Rattle.grammar_syntax.specs.declared.tree.RecordEntry.{RecordEntry}
use Rattle.grammar_syntax.specs.declared.tree.KeyTree.{KeyTree}
use Rattle.grammar_syntax.specs.declared.tree.KeyTree.TheVariants.{Word, Quoted}
use Rattle.grammar_syntax.specs.declared.tree.Term.{Term}
use Rattle.grammar_syntax.specs.declared.tree.ExprTree.{ExprTree}
use Rattle.grammar_syntax.specs.Kinds.{Kinds, only}
use Rattle.grammar_syntax.specs.Grammar.{identifiers}
use Rattle.grammar_syntax.specs.Parts.{parts_of}

-- `TokenIn text kinds token` holds if `token` is spelled in `text`, and its kind is one of `kinds`.
pub record TokenIn (text : List ℕ) (kinds : Kinds) (token : Token) : Type 0 where
  pub spelled : IsSpelledIn text token
  pub kind : kinds token.kind ≡ true

-- `WellFormed text x` holds if each token of the tree `x` is spelled in `text`, and of a kind that its position allows.
pub record WellFormed (text : List ℕ) (x : ExprTree) : Type 0 where
  pub parts : AllByRecursion (λ p. TokenIn text p.kinds p.token) (parts_of x)

-- ## The same for the parts of a tree

-- `KeyIn text key` holds if `key` is an identifier or a String of `text`.
abbrev pub KeyIn : List ℕ → KeyTree → Type 0
KeyIn text (Word word) = TokenIn text identifiers word
KeyIn text (Quoted quoted) = TokenIn text (only k.Text) quoted

-- `PathIn text path` holds if the words of the Path `path` are identifiers of `text`.
pub record PathIn (text : List ℕ) (path : PathTree) : Type 0 where
  pub first : TokenIn text identifiers path.first
  pub more : AllByRecursion (TokenIn text identifiers) path.more

-- `UidIn text uid` holds if the words of the Uid `uid` are identifiers of `text`, and its id is a String of `text`.
pub record UidIn (text : List ℕ) (uid : UidTree) : Type 0 where
  pub path : PathIn text uid.path
  pub id : TokenIn text (only k.Text) uid.id

-- `AllWellFormed text xs` holds if each of the trees `xs` is well formed.
abbrev pub AllWellFormed : List ℕ → List ExprTree → Type 0
AllWellFormed text = AllByRecursion (WellFormed text)

-- `WellFormedEntry text entry` holds if the key and the value of `entry`, an entry of a record, are well formed.
pub record WellFormedEntry (text : List ℕ) (entry : RecordEntry ExprTree) : Type 0 where
  pub key : KeyIn text entry.key
  pub value : WellFormed text entry.value

-- `WellFormedTerm text term` holds if the operand of `term`, a term of a sum, is well formed.
pub record WellFormedTerm (text : List ℕ) (term : Term ExprTree) : Type 0 where
  pub operand : WellFormed text term.operand

-- `WellFormedAccess text access` holds if the key of `access`, or its method's name and arguments, are well formed.
abbrev pub WellFormedAccess : List ℕ → Access (List ExprTree) → Type 0
WellFormedAccess text (access.Field key) = KeyIn text key
WellFormedAccess text (access.Method name arguments) = TokenIn text identifiers name × AllWellFormed text arguments
