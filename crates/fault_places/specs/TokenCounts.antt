-- Defines the number of tokens of each form of syntax tree.
-- Source: Cedar reference guide 4.0, "Grammar specification for Cedar policy syntax".
-- Rules of this product: trees keep no brackets, operators and keywords, so these are counted by the form.
use Rattle.std.specs.Prelude.{ℕ, zero, suc, ◌+◌, List, [], ◌∷◌, length, map}
use Rattle.grammar_syntax.specs.declared.name_trees.PathTree.{PathTree}
use Rattle.grammar_syntax.specs.declared.name_trees.UidTree.{UidTree}
use Rattle.grammar_syntax.specs.declared.tree.Access.{Access}
use Rattle.grammar_syntax.specs.declared.tree.Access.TheVariants as access
use Rattle.grammar_syntax.specs.declared.tree.RecordEntry.{RecordEntry}
use Rattle.grammar_syntax.specs.declared.tree.KeyTree.TheVariants.{Word, Quoted}
use Rattle.grammar_syntax.specs.declared.tree.Term.{Term}
use Rattle.grammar_syntax.specs.declared.tree.ExprTree.{ExprTree}
use Rattle.grammar_syntax.specs.declared.tree.ExprTree.TheOpen.{ExprTree-F as tree}
use Rattle.grammar_syntax.specs.declared.tree.ExprTree.TheFolds.{fold-ExprTree}

-- `path_count path` is the number of tokens of a Path: its words, and `::` between each two.
abbrev pub path_count : PathTree → ℕ
path_count path = 1 + length path.more + length path.more

-- `uid_count uid` is the number of tokens of a Uid: its Path, `::` and its string.
abbrev pub uid_count : UidTree → ℕ
uid_count uid = path_count uid.path + 2

-- `total ns` is the sum of the numbers `ns`.
abbrev pub total : List ℕ → ℕ
total [] = 0
total (n ∷ ns) = n + total ns

-- `each_count ns` is the number of tokens of pieces with the counts `ns`, each with one token more: an operator or a
-- comma before it, or a comma or the closing bracket after it.
abbrev pub each_count : List ℕ → ℕ
each_count [] = 0
each_count (n ∷ ns) = (n + 1) + each_count ns

-- `lone_count n` is how many tokens of a list of `n` items follow its opening bracket and belong to no item: 1, the
-- closing bracket, if the list is empty; else 0, since `each_count` counts the closing bracket with the last item.
abbrev pub lone_count : ℕ → ℕ
lone_count zero = 1
lone_count (suc n) = 0

-- `row_count ns` is the number of tokens of a list whose items have the counts `ns`, with its closing bracket and
-- without the opening one.
abbrev pub row_count : List ℕ → ℕ
row_count ns = lone_count (length ns) + each_count ns

-- `access_count x` is the number of tokens of the access `x`: of `.name`, of `["name"]`, or of `.name(..)`, given the
-- counts of the arguments.
abbrev pub access_count : Access (List ℕ) → ℕ
access_count (access.Field (Word word)) = 2
access_count (access.Field (Quoted quoted)) = 3
access_count (access.Method name arguments) = 3 + row_count arguments

-- `entry_items entry` is the number of tokens of `key: value`, given the count of the value.
abbrev pub entry_items : RecordEntry ℕ → ℕ
entry_items entry = 2 + entry.value

-- `count_step t` is the number of tokens of the syntax tree `t`, given the counts of its parts.
abbrev pub count_step : tree ℕ → ℕ
count_step (tree.Boolean value) = 1
count_step (tree.Number t) = 1
count_step (tree.Text t) = 1
count_step (tree.Variable variable) = 1
count_step (tree.Uid uid) = uid_count uid
count_step (tree.Call path arguments) = (path_count path + 1) + row_count arguments
count_step (tree.Parentheses a) = 1 + a + 1
count_step (tree.Set members) = 1 + row_count members
count_step (tree.Record entries) = 1 + row_count (map entry_items entries)
count_step (tree.Member a accesses) = a + total (map access_count accesses)
count_step (tree.Not a) = 1 + a
count_step (tree.Minus a) = 1 + a
count_step (tree.Product a more) = a + each_count more
count_step (tree.Sum a terms) = a + each_count (map (λ term. term.operand) terms)
count_step (tree.Compare a operator b) = (a + 1) + b
count_step (tree.Has a key) = a + 2
count_step (tree.Like a t) = a + 2
count_step (tree.Is a path) = (a + 1) + path_count path
count_step (tree.IsIn a path b) = ((a + 1) + path_count path + 1) + b
count_step (tree.And a more) = a + each_count more
count_step (tree.Or a more) = a + each_count more
count_step (tree.If a b c) = ((1 + a + 1) + b + 1) + c

-- `tree_count x` is the number of tokens of the expression `x`.
abbrev pub tree_count : ExprTree → ℕ
tree_count = fold-ExprTree ℕ count_step

-- `access_tree_count x`, `term_count term` and `entry_count entry` are the numbers of tokens of an access, of the
-- operand of a sum's term, and of a record's entry.
abbrev pub access_tree_count : Access (List ExprTree) → ℕ
access_tree_count (access.Field (Word word)) = 2
access_tree_count (access.Field (Quoted quoted)) = 3
access_tree_count (access.Method name arguments) = 3 + row_count (map tree_count arguments)

abbrev pub term_count : Term ExprTree → ℕ
term_count term = tree_count term.operand

abbrev pub entry_count : RecordEntry ExprTree → ℕ
entry_count entry = 2 + tree_count entry.value
