-- Defines the parts of a syntax tree: its tokens, each with the kinds that its position allows. A token whose meaning
-- is its kind alone, such as `+`, is not a part: the tree has that meaning in its place.
use Rattle.std.specs.Prelude.{List, [], ◌∷◌, ◌++◌, map}
use Rattle.std.specs.List.{flat_map}
use Rattle.grammar_syntax.specs.declared.token.TokenKind.TheVariants as k
use Rattle.grammar_syntax.specs.declared.token.Token.{Token}
use Rattle.grammar_syntax.specs.declared.name_trees.PathTree.{PathTree}
use Rattle.grammar_syntax.specs.declared.name_trees.UidTree.{UidTree}
use Rattle.grammar_syntax.specs.declared.tree.Access.{Access}
use Rattle.grammar_syntax.specs.declared.tree.Access.TheVariants as access
use Rattle.grammar_syntax.specs.declared.tree.RecordEntry.{RecordEntry}
use Rattle.grammar_syntax.specs.declared.tree.KeyTree.{KeyTree}
use Rattle.grammar_syntax.specs.declared.tree.KeyTree.TheVariants.{Word, Quoted}
use Rattle.grammar_syntax.specs.declared.tree.Term.{Term}
use Rattle.grammar_syntax.specs.declared.tree.ExprTree.{ExprTree}
use Rattle.grammar_syntax.specs.declared.tree.ExprTree.TheOpen.{ExprTree-F as tree}
use Rattle.grammar_syntax.specs.declared.tree.ExprTree.TheFolds.{fold-ExprTree}
use Rattle.grammar_syntax.specs.Kinds.{Kinds, only}
use Rattle.grammar_syntax.specs.Grammar.{identifiers}
use Rattle.grammar_syntax.specs.Patterns.{patterns}

-- A `Part` is a token, and the kinds that its position allows.
pub record Part : Type 0 where
  pub kinds : Kinds
  pub token : Token

-- `part kinds token` is the part of `token` at a position that allows `kinds`.
abbrev pub part : Kinds → Token → Part
part kinds token = record { kinds = kinds; token = token }

-- `key_part key` is the part of the key `key`: an identifier or a String.
abbrev pub key_part : KeyTree → Part
key_part (Word word) = part identifiers word
key_part (Quoted quoted) = part (only k.Text) quoted

-- `path_parts path` and `uid_parts uid` are the parts of the Path `path` and of the Uid `uid`.
abbrev pub path_parts : PathTree → List Part
path_parts path = part identifiers path.first ∷ map (part identifiers) path.more

abbrev pub uid_parts : UidTree → List Part
uid_parts uid = part (only k.Text) uid.id ∷ path_parts uid.path

-- `access_parts access`, `entry_parts entry` and `term_parts term` are the parts of the access `access`, of the entry
-- `entry` of a record and of the term `term` of a sum. In `access`, `entry` and `term`, each expression is replaced by
-- the list of its parts.
abbrev pub access_parts : Access (List (List Part)) → List Part
access_parts (access.Field key) = key_part key ∷ []
access_parts (access.Method name arguments) = part identifiers name ∷ flat_map (λ parts. parts) arguments

abbrev pub entry_parts : RecordEntry (List Part) → List Part
entry_parts entry = key_part entry.key ∷ entry.value

abbrev pub term_parts : Term (List Part) → List Part
term_parts term = term.operand

-- `all lists` are the parts of each of `lists`, in order.
abbrev all : List (List Part) → List Part
all = flat_map (λ parts. parts)

-- `parts_step x` are the parts of the node `x`, in which every subexpression is replaced by the list of its parts.
abbrev pub parts_step : tree (List Part) → List Part
parts_step (tree.Boolean value) = []
parts_step (tree.Number t) = part (only k.Number) t ∷ []
parts_step (tree.Text t) = part (only k.Text) t ∷ []
parts_step (tree.Variable variable) = []
parts_step (tree.Uid uid) = uid_parts uid
parts_step (tree.Call path arguments) = path_parts path ++ all arguments
parts_step (tree.Parentheses a) = a
parts_step (tree.Set members) = all members
parts_step (tree.Record entries) = flat_map entry_parts entries
parts_step (tree.Member a accesses) = a ++ flat_map access_parts accesses
parts_step (tree.Not a) = a
parts_step (tree.Minus a) = a
parts_step (tree.Product a more) = a ++ all more
parts_step (tree.Sum a terms) = a ++ flat_map term_parts terms
parts_step (tree.Compare a operator b) = a ++ b
parts_step (tree.Has a key) = a ++ key_part key ∷ []
parts_step (tree.Like a t) = a ++ part patterns t ∷ []
parts_step (tree.Is a path) = a ++ path_parts path
parts_step (tree.IsIn a path b) = a ++ (path_parts path ++ b)
parts_step (tree.And a more) = a ++ all more
parts_step (tree.Or a more) = a ++ all more
parts_step (tree.If a b c) = a ++ (b ++ c)

-- `parts_of x` are the parts of the expression `x`.
abbrev pub parts_of : ExprTree → List Part
parts_of = fold-ExprTree (List Part) parts_step

-- `parts_of_access access`, `parts_of_entry entry` and `parts_of_term term` are the parts of the access `access`, of
-- the entry `entry` of a record and of the term `term` of a sum.
abbrev pub parts_of_access : Access (List ExprTree) → List Part
parts_of_access (access.Field key) = key_part key ∷ []
parts_of_access (access.Method name arguments) = part identifiers name ∷ flat_map parts_of arguments

abbrev pub parts_of_entry : RecordEntry ExprTree → List Part
parts_of_entry entry = key_part entry.key ∷ parts_of entry.value

abbrev pub parts_of_term : Term ExprTree → List Part
parts_of_term term = parts_of term.operand
