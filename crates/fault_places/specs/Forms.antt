-- Defines the written form of a core node, given the path to the node from the core node of a form around it. A written
-- form is an expression of the syntax tree, or the front of a chain, such as `a + b` of `a + b + c`.
-- Source: Cedar reference guide 4.0, "Grammar specification for Cedar policy syntax" and "Operators and functions".
-- Rules of this product: the operands of a core node are numbered from 0 in the order in which they are written. A
-- chain, such as `a + b + c`, is a first operand and further pieces (`+ b` and `+ c`), and groups to the left: the
-- first operand with some of the first pieces is a form. If rewriting made the node (`<=` of `>`, the parts of
-- `is .. in`), its form is the least one around it. Parentheses around a form do not belong to it.
use Rattle.std.specs.Prelude.{ℕ, zero, suc, ◌-◌, ◌==◌, if◌then◌else◌, Bool, true, false, List, [], ◌∷◌, length}
use Rattle.std.specs.Prelude.{map, take, drop}
use Rattle.std.specs.Prelude.{Option, Some, None, option_map, option_and_then, slice_get}
use Rattle.grammar_syntax.specs.declared.token.Token.{Token}
use Rattle.grammar_syntax.specs.declared.name_trees.PathTree.{PathTree}
use Rattle.grammar_syntax.specs.declared.tree.Access.{Access}
use Rattle.grammar_syntax.specs.declared.tree.Access.TheVariants as access
use Rattle.grammar_syntax.specs.declared.tree.Comparison.{Comparison}
use Rattle.grammar_syntax.specs.declared.tree.Comparison.TheVariants as is
use Rattle.grammar_syntax.specs.declared.tree.RecordEntry.{RecordEntry}
use Rattle.grammar_syntax.specs.declared.tree.Term.{Term}
use Rattle.grammar_syntax.specs.declared.tree.ExprTree.{ExprTree}
use Rattle.grammar_syntax.specs.declared.tree.ExprTree.TheOpen.{ExprTree-F as tree}
use Rattle.grammar_syntax.specs.declared.tree.ExprTree.TheFolds.{fold-ExprTree}
use Rattle.grammar_syntax.specs.declared.tree.ExprTree.TheViews.{out-ExprTree}
use Rattle.fault_places.specs.TokenCounts.{path_count, tree_count, access_tree_count, term_count, entry_count}
use Rattle.fault_places.specs.TokenCounts.{each_count, total}
use Rattle.fault_places.specs.declared.forms.FormNode.{FormNode}
use Rattle.fault_places.specs.declared.forms.FormNode.TheVariants as part
use Rattle.fault_places.specs.declared.forms.Form as code

-- A `Form` is a core node: the tree of its written form, which node of that form it is, and the tokens from the form's
-- first one on.
pub record Form : Type 0 where
  pub tree : ExprTree
  pub part : FormNode
  pub tokens : List Token

-- `form_of f` is the abstract value of the form `f` of the code.
abbrev pub form_of : code.Form → Form
form_of f = record { tree = f.tree.now; part = f.part; tokens = f.tokens.now }

-- `whole x ts` is the node of the expression `x`, which the tokens `ts` begin with.
abbrev pub whole : ExprTree → List Token → Form
whole x ts = record { tree = x; part = part.Whole; tokens = ts }

-- ## Parentheses

-- `depth_step t` is the depth of a syntax tree, given the depths of its parts `t`: one more for parentheses, else 0.
abbrev pub depth_step : tree ℕ → ℕ
depth_step (tree.Parentheses a) = suc a
depth_step _ = 0

-- `depth x` is the number of pairs of parentheses around the expression `x`.
abbrev pub depth : ExprTree → ℕ
depth = fold-ExprTree ℕ depth_step

-- `inside t x` is the expression in the parentheses `x`, whose tree is `t`; `x` itself if it is not in parentheses.
abbrev pub inside : tree ExprTree → ExprTree → ExprTree
inside (tree.Parentheses a) x = a
inside _ x = x

-- `peeled n x` is `x` without `n` pairs of parentheses.
abbrev pub peeled : ℕ → ExprTree → ExprTree
peeled zero x = x
peeled (suc n) x = peeled n (inside (out-ExprTree x) x)

-- `unwrapped f` is the form `f` without the parentheses around it.
abbrev pub unwrapped : Form → Form
unwrapped f =
    record { tree = peeled (depth f.tree) f.tree; part = f.part; tokens = drop (depth f.tree) f.tokens }

-- ## Chains: a first operand and further pieces, grouped to the left

-- `kept p n` is how many of the `n` further pieces of a chain belong to its node `p`.
abbrev pub kept : FormNode → ℕ → ℕ
kept part.Whole n = n
kept (part.First count) n = count
kept part.Test n = n
kept part.Inner n = n

-- `left_at f a n` is the left operand of a node of the chain `f`, whose first operand is `a`; this left operand has `n`
-- further pieces.
abbrev pub left_at : Form → ExprTree → ℕ → Form
left_at f a n =
    if n == 0 then whole a f.tokens else record { tree = f.tree; part = part.First n; tokens = f.tokens }

-- `piece_at a more ts i` is the operand of the further piece `i` of a chain, and `term_at a terms ts i` is that of a
-- sum. The tokens `ts` begin with the chain; the operand follows the first operand `a`, the earlier pieces and its own
-- operator.
abbrev pub piece_at : ExprTree → List ExprTree → List Token → ℕ → Option Form
piece_at a more ts i =
    option_map (λ b. whole b (drop 1 (drop (each_count (map tree_count (take i more))) (drop (tree_count a) ts))))
    (slice_get more i)

abbrev pub term_at : ExprTree → List (Term ExprTree) → List Token → ℕ → Option Form
term_at a terms ts i =
    option_map
    (λ b. whole b.operand (drop 1 (drop (each_count (map term_count (take i terms))) (drop (tree_count a) ts))))
    (slice_get terms i)

-- `chain_at f a right n i` is operand `i` of the node of the chain `f` that has the first operand `a` and `n` further
-- pieces, at least one: operand 0 is all before the last piece, operand 1 is that of the last piece. `right` gives the
-- operand of a piece by its index.
abbrev pub chain_at : Form → ExprTree → (ℕ → Option Form) → ℕ → ℕ → Option Form
chain_at f a right n i =
    if i == 0 then Some (left_at f a (n - 1)) else (if i == 1 then right (n - 1) else None)

-- ## Lists

-- `row_at items ts i` is item `i` of a list, whose opening bracket precedes the tokens `ts`.
abbrev pub row_at : List ExprTree → List Token → ℕ → Option Form
row_at items ts i =
    option_map (λ b. whole b (drop (each_count (map tree_count (take i items))) ts)) (slice_get items i)

-- `entry_at entries ts i` is the value of entry `i` of a record, whose opening brace precedes the tokens `ts`: the
-- value follows the entries before it, its key and its colon.
abbrev pub entry_at : List (RecordEntry ExprTree) → List Token → ℕ → Option Form
entry_at entries ts i =
    option_map (λ e. whole e.value (drop 2 (drop (each_count (map entry_count (take i entries))) ts)))
    (slice_get entries i)

-- `argument_at x ts i` is argument `i` of the access `x`, which the tokens `ts` begin with.
abbrev pub argument_at : Access (List ExprTree) → List Token → ℕ → Option Form
argument_at (access.Field key) ts i = None
argument_at (access.Method name arguments) ts i = row_at arguments (drop 3 ts) i

-- `access_at a accesses ts n i` is argument `i` of the access at index `n` of `accesses` to the expression `a`, which
-- the tokens `ts` begin with.
abbrev pub access_at : ExprTree → List (Access (List ExprTree)) → List Token → ℕ → ℕ → Option Form
access_at a accesses ts n i =
    option_and_then
    (λ x. argument_at x (drop (total (map access_tree_count (take n accesses))) (drop (tree_count a) ts)) i)
    (slice_get accesses n)

-- `member_at f a accesses n i` is operand `i` of the node of the form `f` that has the first operand `a` and the first
-- `n` of `accesses`, at least one: operand 0 is the expression before the last of these accesses, and the other
-- operands are the arguments of that access.
abbrev pub member_at : Form → ExprTree → List (Access (List ExprTree)) → ℕ → ℕ → Option Form
member_at f a accesses n i =
    if i == 0 then Some (left_at f a (n - 1)) else access_at a accesses f.tokens (n - 1) (i - 1)

-- ## Other forms

-- `only_operand_at a ts i`, `operand_of_two f g i` and `operand_of_three f g h i` are operand `i` of one, two and three
-- operands.
abbrev pub only_operand_at : ExprTree → List Token → ℕ → Option Form
only_operand_at a ts i = if i == 0 then Some (whole a ts) else None

abbrev pub operand_of_two : Form → Form → ℕ → Option Form
operand_of_two f g i = if i == 0 then Some f else (if i == 1 then Some g else None)

abbrev pub operand_of_three : Form → Form → Form → ℕ → Option Form
operand_of_three f g h i =
    if i == 0 then Some f else (if i == 1 then Some g else (if i == 2 then Some h else None))

-- `part_of f p` is the node `p` of the form `f`.
abbrev pub part_of : Form → FormNode → Form
part_of f p = record { tree = f.tree; part = p; tokens = f.tokens }

-- `minus_operand t a ts i` is operand `i` of a minus before `a`, whose tree is `t`. A minus before a number belongs to
-- the number, which has no operands.
abbrev pub minus_operand : tree ExprTree → ExprTree → List Token → ℕ → Option Form
minus_operand (tree.Number t) a ts i = None
minus_operand _ a ts i = only_operand_at a ts i

-- `is_negated c` tests whether the comparison `c` means the negation of another one: `>`, `>=` and `!=` do. The
-- negation and the negated comparison are two core nodes with the same written form.
abbrev pub is_negated : Comparison → Bool
is_negated is.Less = false
is_negated is.LessOrEqual = false
is_negated is.Greater = true
is_negated is.GreaterOrEqual = true
is_negated is.Equal = false
is_negated is.NotEqual = true
is_negated is.In = false

-- `is_outer p` tests whether the node `p` is not `Inner`.
abbrev pub is_outer : FormNode → Bool
is_outer part.Whole = true
is_outer (part.First n) = true
is_outer part.Test = true
is_outer part.Inner = false

-- `both a b` tests whether `a` and `b` are true.
abbrev pub both : Bool → Bool → Bool
both true b = b
both false b = false

-- `compared_at negated f a b i` is operand `i` of a comparison of `a` and `b`; if `negated`, of the negation, whose
-- only operand is the inner node of the form `f`.
abbrev pub compared_at : Bool → Form → ExprTree → ExprTree → ℕ → Option Form
compared_at true f a b i = if i == 0 then Some (part_of f part.Inner) else None
compared_at false f a b i = operand_of_two (whole a f.tokens) (whole b (drop 1 (drop (tree_count a) f.tokens))) i

-- `in_test_at p f a path b i` is operand `i` of the node `p` of the form `f`, which is `a is path in b` and means
-- `a is path && a in b`.
abbrev pub in_test_at : FormNode → Form → ExprTree → PathTree → ExprTree → ℕ → Option Form
in_test_at part.Whole f a path b i = operand_of_two (part_of f part.Test) (part_of f part.Inner) i
in_test_at (part.First n) f a path b i = None
in_test_at part.Test f a path b i = only_operand_at a f.tokens i
in_test_at part.Inner f a path b i =
    operand_of_two (whole a f.tokens)
    (whole b (drop 1 (drop (path_count path) (drop 1 (drop (tree_count a) f.tokens))))) i

-- ## All forms

-- `operand_step t f i` is operand `i` of the core node of the form `f`, whose tree is `t`.
abbrev pub operand_step : tree ExprTree → Form → ℕ → Option Form
operand_step (tree.Boolean value) f i = None
operand_step (tree.Number t) f i = None
operand_step (tree.Text t) f i = None
operand_step (tree.Variable variable) f i = None
operand_step (tree.Uid uid) f i = None
operand_step (tree.Call path arguments) f i = row_at arguments (drop 1 (drop (path_count path) f.tokens)) i
operand_step (tree.Parentheses a) f i = None
operand_step (tree.Set members) f i = row_at members (drop 1 f.tokens) i
operand_step (tree.Record entries) f i = entry_at entries (drop 1 f.tokens) i
operand_step (tree.Member a accesses) f i = member_at f a accesses (kept f.part (length accesses)) i
operand_step (tree.Not a) f i = only_operand_at a (drop 1 f.tokens) i
operand_step (tree.Minus a) f i = minus_operand (out-ExprTree a) a (drop 1 f.tokens) i
operand_step (tree.Product a more) f i = chain_at f a (piece_at a more f.tokens) (kept f.part (length more)) i
operand_step (tree.Sum a terms) f i = chain_at f a (term_at a terms f.tokens) (kept f.part (length terms)) i
operand_step (tree.Compare a operator b) f i = compared_at (both (is_outer f.part) (is_negated operator)) f a b i
operand_step (tree.Has a key) f i = only_operand_at a f.tokens i
operand_step (tree.Like a t) f i = only_operand_at a f.tokens i
operand_step (tree.Is a path) f i = only_operand_at a f.tokens i
operand_step (tree.IsIn a path b) f i = in_test_at f.part f a path b i
operand_step (tree.And a more) f i = chain_at f a (piece_at a more f.tokens) (kept f.part (length more)) i
operand_step (tree.Or a more) f i = chain_at f a (piece_at a more f.tokens) (kept f.part (length more)) i
operand_step (tree.If a b c) f i =
    let second = drop 1 (drop (tree_count a) (drop 1 f.tokens)) in
    operand_of_three (whole a (drop 1 f.tokens)) (whole b second) (whole c (drop 1 (drop (tree_count b) second))) i

-- `operand f i` is the form of operand `i` of the core node of `f`; `None` if the node has no such operand.
abbrev pub operand : Form → ℕ → Option Form
operand f i = operand_step (out-ExprTree f.tree) f i

-- `node_at f path` is the form of the core node that `path` leads to from the core node of `f`, where the form of each
-- operand on the path is without the parentheses around it; `None` if there is no such node.
abbrev pub node_at : Form → List ℕ → Option Form
node_at f [] = Some f
node_at f (i ∷ path) = option_and_then (λ g. node_at (unwrapped g) path) (operand f i)

-- `tokens_after_test p f a path b` are the tokens after the node `p` of the form `f`, which is `a is path in b`.
abbrev pub tokens_after_test : FormNode → Form → ExprTree → PathTree → ExprTree → List Token
tokens_after_test part.Test f a path b = drop (path_count path) (drop 1 (drop (tree_count a) f.tokens))
tokens_after_test _ f a path b = drop (tree_count f.tree) f.tokens

-- `up_to ts rest` are the tokens `ts` up to `rest`, with which they end.
abbrev pub up_to : List Token → List Token → List Token
up_to ts rest = take (length ts - length rest) ts

-- `tokens_after_step t f` are the tokens after the form `f`, whose tree is `t`.
abbrev pub tokens_after_step : tree ExprTree → Form → List Token
tokens_after_step (tree.Member a accesses) f =
    drop (total (map access_tree_count (take (kept f.part (length accesses)) accesses))) (drop (tree_count a) f.tokens)
tokens_after_step (tree.Product a more) f =
    drop (each_count (map tree_count (take (kept f.part (length more)) more))) (drop (tree_count a) f.tokens)
tokens_after_step (tree.Sum a terms) f =
    drop (each_count (map term_count (take (kept f.part (length terms)) terms))) (drop (tree_count a) f.tokens)
tokens_after_step (tree.And a more) f =
    drop (each_count (map tree_count (take (kept f.part (length more)) more))) (drop (tree_count a) f.tokens)
tokens_after_step (tree.Or a more) f =
    drop (each_count (map tree_count (take (kept f.part (length more)) more))) (drop (tree_count a) f.tokens)
tokens_after_step (tree.IsIn a path b) f = tokens_after_test f.part f a path b
tokens_after_step _ f = drop (tree_count f.tree) f.tokens

-- `own_tokens f` are the tokens that the form `f` is written with.
abbrev pub own_tokens : Form → List Token
own_tokens f = up_to f.tokens (tokens_after_step (out-ExprTree f.tree) f)

-- `tokens_at x ts path` are the tokens of the form of the core node at `path` of the expression `x`; the tokens `ts`
-- begin with `x`.
abbrev pub tokens_at : ExprTree → List Token → List ℕ → Option (List Token)
tokens_at x ts path = option_map own_tokens (node_at (unwrapped (whole x ts)) path)
