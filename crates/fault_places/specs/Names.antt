-- Defines the tokens of the name that a core node of a policy's expression itself has: the uid of a literal, and the
-- type after `is`.
-- Source: Cedar reference guide 4.0, "Grammar specification for Cedar policy syntax" (Path, Uid).
-- Rules of this product: a path into a part of the scope follows the expression that the part abbreviates.
use Rattle.std.specs.Prelude.{ℕ, List, [], ◌∷◌, map, take, drop, Option, Some, None, option_and_then, slice_get}
use Rattle.grammar_syntax.specs.declared.token.Token.{Token}
use Rattle.grammar_syntax.specs.declared.name_trees.PathTree.{PathTree}
use Rattle.grammar_syntax.specs.declared.name_trees.UidTree.{UidTree}
use Rattle.grammar_syntax.specs.declared.tree.ExprTree.{ExprTree}
use Rattle.grammar_syntax.specs.declared.tree.ExprTree.TheOpen.{ExprTree-F as tree}
use Rattle.grammar_syntax.specs.declared.tree.ExprTree.TheViews.{out-ExprTree}
use Rattle.grammar_parsing.specs.declared.tree.PartTree.{PartTree}
use Rattle.grammar_parsing.specs.declared.tree.PartTree.TheVariants as part
use Rattle.grammar_parsing.specs.declared.tree.ActionTree.{ActionTree}
use Rattle.grammar_parsing.specs.declared.tree.ActionTree.TheVariants as action
use Rattle.grammar_parsing.specs.declared.tree.PolicyTree.{PolicyTree}
use Rattle.fault_places.specs.TokenCounts.{path_count, uid_count, tree_count, each_count}
use Rattle.fault_places.specs.declared.forms.FormNode.{FormNode}
use Rattle.fault_places.specs.declared.forms.FormNode.TheVariants as node
use Rattle.fault_places.specs.Forms.{Form, whole, unwrapped, node_at, up_to}
use Rattle.fault_places.specs.Places.{Turn, stop, left, right, off, turn}
use Rattle.fault_places.specs.Places.{NodePlace, whole_policy, in_entity, in_action, in_unless, in_expression, nowhere}
use Rattle.fault_places.specs.Places.{place_at}

-- `path_tokens path ts` and `uid_tokens uid ts` are the tokens of a Path or a Uid that the tokens `ts` begin with.
abbrev pub path_tokens : PathTree → List Token → List Token
path_tokens path ts = up_to ts (drop (path_count path) ts)

abbrev pub uid_tokens : UidTree → List Token → List Token
uid_tokens uid ts = up_to ts (drop (uid_count uid) ts)

-- ## In expressions

-- `tested a path ts` are the tokens of the type `path` in `a is path`; the tokens `ts` begin with `a is path`.
abbrev pub tested : ExprTree → PathTree → List Token → List Token
tested a path ts = path_tokens path (drop 1 (drop (tree_count a) ts))

-- `in_test p ts` are the tokens `ts` of the type in `a is path in b` if the node `p` is the test `a is path`, else
-- `None`.
abbrev pub in_test : FormNode → List Token → Option (List Token)
in_test node.Whole ts = None
in_test (node.First n) ts = None
in_test node.Test ts = Some ts
in_test node.Inner ts = None

-- `name_step t f` are the tokens of the name that the core node of the form `f`, whose tree is `t`, has itself.
abbrev pub name_step : tree ExprTree → Form → Option (List Token)
name_step (tree.Uid uid) f = Some (uid_tokens uid f.tokens)
name_step (tree.Is a path) f = Some (tested a path f.tokens)
name_step (tree.IsIn a path b) f = in_test f.part (tested a path f.tokens)
name_step _ f = None

-- `own_name f` are the tokens of the name that the core node of the form `f` has itself.
abbrev pub own_name : Form → Option (List Token)
own_name f = name_step (out-ExprTree f.tree) f

-- `name_in x ts path` are the tokens of the name that the core node at `path` of the expression `x` has itself; the
-- tokens `ts` begin with `x`.
abbrev pub name_in : ExprTree → List Token → List ℕ → Option (List Token)
name_in x ts path = option_and_then own_name (node_at (unwrapped (whole x ts)) path)

-- ## In the scope

-- `at_end t name` is `name` if the path with the first turn `t` ends at once, and `at_second t name` is `name` if that
-- path leads to the second operand and ends there; each is `None` otherwise.
abbrev pub at_end : Turn → Option (List Token) → Option (List Token)
at_end stop name = name
at_end (left path) name = None
at_end (right path) name = None
at_end off name = None

abbrev pub at_second : Turn → Option (List Token) → Option (List Token)
at_second stop name = None
at_second (left path) name = None
at_second (right path) name = at_end (turn path) name
at_second off name = None

-- `in_both t name uid` is the name or the uid to which a path with the first turn `t` leads in `x is T in uid`, which
-- means `x is T && x in uid`.
abbrev pub in_both : Turn → Option (List Token) → Option (List Token) → Option (List Token)
in_both stop name uid = None
in_both (left path) name uid = at_end (turn path) name
in_both (right path) name uid = at_second (turn path) uid
in_both off name uid = None

-- `entity_name p ts path` are the tokens of the name at `path` of the scope's constraint `p` on the principal or the
-- resource; the tokens `ts` begin with `p`.
abbrev pub entity_name : PartTree → List Token → List ℕ → Option (List Token)
entity_name part.Any ts path = None
entity_name (part.Equal uid) ts path = at_second (turn path) (Some (uid_tokens uid (drop 2 ts)))
entity_name (part.In uid) ts path = at_second (turn path) (Some (uid_tokens uid (drop 2 ts)))
entity_name (part.Is name) ts path = at_end (turn path) (Some (path_tokens name (drop 2 ts)))
entity_name (part.IsIn name uid) ts path =
    in_both (turn path) (Some (path_tokens name (drop 2 ts)))
    (Some (uid_tokens uid (drop 1 (drop (path_count name) (drop 2 ts)))))

-- `uid_at uids ts i` are the tokens of uid `i` of a list, whose opening bracket precedes the tokens `ts`.
abbrev pub uid_at : List UidTree → List Token → ℕ → Option (List Token)
uid_at uids ts i =
    option_and_then (λ uid. Some (uid_tokens uid (drop (each_count (map uid_count (take i uids))) ts)))
    (slice_get uids i)

-- `item_name uids ts path` are the tokens of the uid to which `path` leads from the list `uids`, whose opening bracket
-- precedes the tokens `ts`.
abbrev pub item_name : List UidTree → List Token → List ℕ → Option (List Token)
item_name uids ts [] = None
item_name uids ts (i ∷ path) = at_end (turn path) (uid_at uids ts i)

-- `listed_name t uids ts` are the tokens of the uid to which a path with the first turn `t` leads in `action in [..]`,
-- whose list is `uids`; its opening bracket precedes the tokens `ts`.
abbrev pub listed_name : Turn → List UidTree → List Token → Option (List Token)
listed_name stop uids ts = None
listed_name (left path) uids ts = None
listed_name (right path) uids ts = item_name uids ts path
listed_name off uids ts = None

-- `action_name p ts path` are the tokens of the name at `path` of the scope's constraint `p` on the action; the tokens
-- `ts` begin with `p`.
abbrev pub action_name : ActionTree → List Token → List ℕ → Option (List Token)
action_name action.Any ts path = None
action_name (action.Equal uid) ts path = at_second (turn path) (Some (uid_tokens uid (drop 2 ts)))
action_name (action.In uid) ts path = at_second (turn path) (Some (uid_tokens uid (drop 2 ts)))
action_name (action.InList uids) ts path = listed_name (turn path) uids (drop 3 ts)

-- ## In a policy

-- `named place` are the tokens of the name that the core node at `place` has itself.
abbrev pub named : NodePlace → Option (List Token)
named (whole_policy ts) = None
named (in_entity part ts path) = entity_name part ts path
named (in_action part ts path) = action_name part ts path
named (in_unless c ts) = None
named (in_expression x ts path) = name_in x ts path
named nowhere = None

-- `named_at ts tree path` are the tokens of the name that the core node at `path` of the expression of the policy
-- `tree` has itself, where `ts` are all tokens of the policy's text.
abbrev pub named_at : List Token → PolicyTree → List ℕ → Option (List Token)
named_at ts tree path = named (place_at ts tree path)
