-- Defines the limits on the size of a policy.
-- Rules of this product: the core expression of a policy is at most 1,000 high and has at most 1,000,000 nodes. A
-- policy's id has 1 to 256 bytes, the text of a policy that is parsed alone at most 262,144, and a file at most
-- 8,388,608.
use Rattle.std.specs.Prelude.{◌≡◌, ℕ, suc, ◌+◌, ◌≤◌, max, List, [], ◌∷◌, length}
use Rattle.grammar_desugaring.specs.grammar_syntax.declared.name_trees.UidTree.{UidTree}
use Rattle.grammar_parsing.specs.declared.tree.PartTree.{PartTree}
use Rattle.grammar_parsing.specs.declared.tree.PartTree.TheVariants as part
use Rattle.grammar_parsing.specs.declared.tree.ActionTree.{ActionTree}
use Rattle.grammar_parsing.specs.declared.tree.ActionTree.TheVariants as action
use Rattle.grammar_parsing.specs.declared.tree.PolicyTree.{PolicyTree}
use Rattle.grammar_core.specs.Size as size
use Rattle.grammar_core.specs.Size.{most_height, most_nodes}
pub use Rattle.policy_grammar.specs.Texts.{most_policy_bytes, most_file_bytes}
use Rattle.policy_grammar.specs.declared.policy.Policy.{Policy}
use Rattle.policy_grammar.specs.PolicyExpression.{expression_of}
use Rattle.policy_grammar.specs.Conditions.{conditions_of}
use Rattle.policy_grammar.specs.CoreOf.{IsCoreOf}

-- A `Shape` is what determines the size of a core expression. It is a leaf (a literal or a variable), a node over one
-- operand or over two, a set of one or more literals, or any expression of a given height and number of nodes.
pub data Shape : Type 0 where
  leaf : Shape
  over : Shape → Shape
  both : Shape → Shape → Shape
  literals : ℕ → Shape
  sized : ℕ → ℕ → Shape

-- `node_count s` is the number of nodes of the shape `s`; a shared node counts at each occurrence.
abbrev pub node_count : Shape → ℕ
node_count leaf = 1
node_count (over a) = node_count a + 1
node_count (both a b) = node_count a + node_count b + 1
node_count (literals n) = n + 1
node_count (sized high many) = many

-- `height s` is the height of the shape `s`; a leaf has height 1.
abbrev pub height : Shape → ℕ
height leaf = 1
height (over a) = height a + 1
height (both a b) = max (height a) (height b) + 1
height (literals n) = 2
height (sized high many) = high

-- `part_shape part` is the shape of `part`, a scope's part on the principal or the resource. A part without a
-- constraint is `true`, and `e is T in f` is `(e is T) && (e in f)`.
abbrev pub part_shape : PartTree → Shape
part_shape part.Any = leaf
part_shape (part.Equal uid) = both leaf leaf
part_shape (part.In uid) = both leaf leaf
part_shape (part.Is name) = over leaf
part_shape (part.IsIn name uid) = both (over leaf) (both leaf leaf)

-- `action_shape action` is the shape of `action`, a scope's part on the action. A part without a constraint is `true`,
-- `action in []` is `false`, and `action in [E, ..]` is `in` over `action` and the set `[E, ..]`.
abbrev pub action_shape : ActionTree → Shape
action_shape action.Any = leaf
action_shape (action.Equal uid) = both leaf leaf
action_shape (action.In uid) = both leaf leaf
action_shape (action.InList []) = leaf
action_shape (action.InList (uid ∷ uids)) = both leaf (literals (suc (length uids)))

-- `shape_over tree conditions` is the shape of `principal && (action && (resource && conditions))`, where the first
-- three parts are those of the policy `tree`, and the last one has the shape `conditions`.
abbrev pub shape_over : PolicyTree → Shape → Shape
shape_over tree conditions =
    both (part_shape tree.principal) (both (action_shape tree.action) (both (part_shape tree.resource) conditions))

-- `shape_of text tree` is the shape of the whole expression of the policy `tree`, whose tokens are in `text`.
abbrev pub shape_of : List ℕ → PolicyTree → Shape
shape_of text tree =
    let e = conditions_of text tree.conditions in
    shape_over tree (sized (size.height e) (size.node_count e))

-- `most_id_bytes` is the greatest length of an id, in bytes.
abbrev pub most_id_bytes : ℕ
most_id_bytes = 256

-- `IsSmallShape shape` holds if `shape` is within the limits of height and nodes.
abbrev pub IsSmallShape : Shape → Type 0
IsSmallShape shape = (height shape ≤ most_height) × (node_count shape ≤ most_nodes)

-- `IsSmallOver tree high many` holds if the policy `tree` is within the limits, given that its conditions have the
-- height `high` and `many` nodes.
abbrev pub IsSmallOver : PolicyTree → ℕ → ℕ → Type 0
IsSmallOver tree high many = IsSmallShape (shape_over tree (sized high many))

-- `IsSmallTree text tree` holds if the core expression of the policy `tree` is within the limits.
abbrev pub IsSmallTree : List ℕ → PolicyTree → Type 0
IsSmallTree text tree = IsSmallShape (shape_of text tree)

-- `IsSmallPolicy policy` holds if the expression of `policy` is within the limits.
abbrev pub IsSmallPolicy : Policy → Type 0
IsSmallPolicy policy = size.IsSmall (expression_of policy)

-- `IsId name` holds if `name` may be a policy's id: 1 to 256 bytes.
abbrev pub IsId : List ℕ → Type 0
IsId name = (1 ≤ length name) × (length name ≤ most_id_bytes)

-- ## Theorems

-- `ShapesAreSizes`: the shape of a policy's tree has the height and the nodes of the policy's expression.
abbrev pub ShapesAreSizes : Type 0
ShapesAreSizes = (text : List ℕ) (tree : PolicyTree) (policy : Policy) → IsCoreOf text tree policy →
    (height (shape_of text tree) ≡ size.height (expression_of policy))
    × (node_count (shape_of text tree) ≡ size.node_count (expression_of policy))

-- `NineNodesMore`: a policy without conditions, whose only constraint is a nonempty list of actions, has nine nodes
-- more than the list has actions.
abbrev pub NineNodesMore : Type 0
NineNodesMore = (text : List ℕ) (tree : PolicyTree) (uid : UidTree) (uids : List UidTree) →
    tree.principal ≡ part.Any → tree.action ≡ action.InList (uid ∷ uids) →
    tree.resource ≡ part.Any → tree.conditions ≡ [] → node_count (shape_of text tree) ≡ length (uid ∷ uids) + 9

-- `HeadsAreLow`: the expression of a policy is at most 3 higher than that of its conditions, or at most 6 high,
-- whichever is greater.
abbrev pub HeadsAreLow : Type 0
HeadsAreLow = (tree : PolicyTree) (conditions : Shape) →
    height (shape_over tree conditions) ≤ max 6 (height conditions + 3)
