-- Defines the meaning of the tokens of a tree. In each definition `text` is the text that the tokens are in.
use Rattle.std.specs.Prelude.{ℕ, List, map}
use Rattle.plain.specs.Words.{joined_path}
use Rattle.values.specs.declared.entity_uid.EntityUid.{EntityUid}
use Rattle.grammar_syntax.specs.Lexing.{spelling_of}
use Rattle.grammar_core.specs.declared.leaf.Variable.{Variable}
use Rattle.grammar_core.specs.declared.leaf.Variable.TheVariants.{Principal, Action, Resource, Context}
use Rattle.grammar_core.specs.declared.operator.Binary.{Binary}
use Rattle.grammar_core.specs.declared.operator.Binary.TheVariants.{Add, Subtract}
use Rattle.grammar_syntax.specs.declared.name_trees.PathTree.{PathTree}
use Rattle.grammar_syntax.specs.declared.name_trees.UidTree.{UidTree}
use Rattle.grammar_syntax.specs.declared.tree.KeyTree.{KeyTree}
use Rattle.grammar_syntax.specs.declared.tree.KeyTree.TheVariants.{Word, Quoted}
use Rattle.grammar_syntax.specs.declared.tree.Sign.{Sign}
use Rattle.grammar_syntax.specs.declared.tree.Sign.TheVariants.{Plus, Minus}
use Rattle.grammar_syntax.specs.declared.tree.RequestKeyword as tree
use Rattle.grammar_syntax.specs.declared.tree.RequestKeyword.TheVariants as word
use Rattle.grammar_desugaring.specs.Strings.{value_of}

-- `variable_of word` is the variable of the keyword `word`.
abbrev pub variable_of : tree.RequestKeyword → Variable
variable_of word.Principal = Principal
variable_of word.Action = Action
variable_of word.Resource = Resource
variable_of word.Context = Context

-- `sign_of sign` is the operator of `sign`, the sign before a further term of a sum.
abbrev pub sign_of : Sign → Binary
sign_of Plus = Add
sign_of Minus = Subtract

-- `path_name text path` is the name of the Path `path`: its words with `::` between adjacent ones, without whitespace
-- and comments.
abbrev pub path_name : List ℕ → PathTree → List ℕ
path_name text path = joined_path (spelling_of text path.first) (map (spelling_of text) path.more)

-- `uid_of text tree` is the uid of `tree`: the name of its Path and the value of its string.
abbrev pub uid_of : List ℕ → UidTree → EntityUid
uid_of text tree = record { type_name = path_name text tree.path; id = value_of (spelling_of text tree.id) }

-- `name_of text key` is the name of `key`, which names a field: a word, or the value of a string.
abbrev pub name_of : List ℕ → KeyTree → List ℕ
name_of text (Word word) = spelling_of text word
name_of text (Quoted quoted) = value_of (spelling_of text quoted)

-- `place_of key` is the byte offset of `key`.
abbrev pub place_of : KeyTree → ℕ
place_of (Word word) = word.start
place_of (Quoted quoted) = quoted.start
