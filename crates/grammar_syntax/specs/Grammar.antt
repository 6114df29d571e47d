-- Defines the grammar of names: which trees of Paths and Uids a list of tokens derives. The comment above a definition
-- of a `Lang` states the production that the definition writes in Lang's combinators.
-- Source: Cedar reference guide 4.0, "Grammar specification for Cedar policy syntax".
-- Rules of this product: `__cedar` is reserved too, and so is not an Ident.
use Rattle.grammar_syntax.specs.declared.token.TokenKind.TheVariants as k
use Rattle.grammar_syntax.specs.Idents.{is_ident}
use Rattle.grammar_syntax.specs.declared.name_trees.PathTree.{PathTree}
use Rattle.grammar_syntax.specs.declared.name_trees.UidTree.{UidTree}
use Rattle.grammar_syntax.specs.Kinds.{Kinds}
use Rattle.grammar_syntax.specs.Lang.{Lang, of, one, empty, ◌>>=◌, ◌>>◌, many}

-- `identifiers`: Ident, a word that is not reserved.
abbrev pub identifiers : Kinds
identifiers = is_ident

-- `path`: Path = Ident { "::" Ident }
abbrev pub path : Lang PathTree
path = do
  first ← of identifiers
  more ← many (one k.Colons >> of identifiers)
  empty (record { first = first; more = more })

-- `uid`: Uid = Path "::" String
abbrev pub uid : Lang UidTree
uid = do
  type_name ← path
  one k.Colons
  id ← one k.Text
  empty (record { path = type_name; id = id })
