-- Defines the place in a policy of a core node of its whole expression, and the tokens that it is written with.
-- Source: Cedar reference guide 4.0, "Basic policy construction" (scope, conditions).
-- Rules of this product: the expression is principal && (action && (resource && conditions)), and conditions are joined
-- to the right. A node of a part of the scope is written with that part, and a conjunction of parts or conditions with
-- the policy.
use Rattle.std.specs.Prelude.{ℕ, ◌+◌, ◌==◌, if◌then◌else◌, List, [], ◌∷◌, length, map, drop}
use Rattle.std.specs.Prelude.{Option, Some, None, unwrap_or, position}
use Rattle.grammar_syntax.specs.declared.token.Token.{Token}
use Rattle.grammar_parsing.specs.declared.tree.PartTree.{PartTree}
use Rattle.grammar_parsing.specs.declared.tree.PartTree.TheVariants as part
use Rattle.grammar_parsing.specs.declared.tree.ActionTree.{ActionTree}
use Rattle.grammar_parsing.specs.declared.tree.ActionTree.TheVariants as action
use Rattle.grammar_parsing.specs.declared.tree.Condition.{Condition}
use Rattle.grammar_parsing.specs.declared.tree.ConditionWord.{ConditionWord}
use Rattle.grammar_parsing.specs.declared.tree.ConditionWord.TheVariants as word
use Rattle.grammar_parsing.specs.declared.tree.PolicyTree.{PolicyTree}
use Rattle.grammar_syntax.specs.declared.tree.ExprTree.{ExprTree}
use Rattle.fault_places.specs.TokenCounts.{path_count, uid_count, tree_count, row_count}
use Rattle.fault_places.specs.declared.turns.Turn as code
use Rattle.fault_places.specs.declared.turns.Turn.TheVariants as coded
use Rattle.fault_places.specs.declared.places.NodePlace as code_place
use Rattle.fault_places.specs.declared.places.NodePlace.TheVariants as coded_place
use Rattle.fault_places.specs.Forms.{tokens_at, up_to}

-- ## Turns

-- A `Turn` is the first step of a path at a core node with one or two operands: the path ends, leads to the first or
-- the second operand (and perhaps on from there), or leads to an operand that does not exist.
pub data Turn : Type 0 where
  stop : Turn
  left : List ℕ → Turn
  right : List ℕ → Turn
  off : Turn

-- `abstract_turn t` is the abstract value of the turn `t` of the code.
abbrev pub abstract_turn : code.Turn → Turn
abstract_turn coded.Stop = stop
abstract_turn (coded.Left path) = left path.now
abstract_turn (coded.Right path) = right path.now
abstract_turn coded.Off = off

-- `to i path` is the turn to operand `i`, from which `path` leads on.
abbrev pub to : ℕ → List ℕ → Turn
to i path = if i == 0 then left path else (if i == 1 then right path else off)

-- `turn path` is the first turn of `path`.
abbrev pub turn : List ℕ → Turn
turn [] = stop
turn (i ∷ path) = to i path

-- ## Counts

-- `part_count p` is how many tokens the scope's constraint `p` on the principal or the resource is written with, and
-- `action_count p` how many the constraint `p` on the action.
abbrev pub part_count : PartTree → ℕ
part_count part.Any = 1
part_count (part.Equal uid) = 2 + uid_count uid
part_count (part.In uid) = 2 + uid_count uid
part_count (part.Is path) = 2 + path_count path
part_count (part.IsIn path uid) = (2 + path_count path + 1) + uid_count uid

abbrev pub action_count : ActionTree → ℕ
action_count action.Any = 1
action_count (action.Equal uid) = 2 + uid_count uid
action_count (action.In uid) = 2 + uid_count uid
action_count (action.InList uids) = 3 + row_count (map uid_count uids)

-- `condition_count c` is how many tokens the condition `c` is written with: three more than its expression, for the
-- word and two braces.
abbrev pub condition_count : Condition → ℕ
condition_count c = 2 + tree_count c.expression + 1

-- ## Places

-- A `NodePlace` is the place of a core node of a policy's expression.
pub data NodePlace : Type 0 where
  -- the node joins parts or conditions of the policy; the tokens are those of the policy from its effect on
  whole_policy : List Token → NodePlace
  -- the node is at a path of the scope's constraint on the principal or the resource, which the tokens begin with
  in_entity : PartTree → List Token → List ℕ → NodePlace
  -- the node is at a path of the scope's constraint on the action, which the tokens begin with
  in_action : ActionTree → List Token → List ℕ → NodePlace
  -- the node is the negation of an `unless`, which the tokens begin with
  in_unless : Condition → List Token → NodePlace
  -- the node is at a path of an expression, which the tokens begin with
  in_expression : ExprTree → List Token → List ℕ → NodePlace
  -- the policy has no such node
  nowhere : NodePlace

-- `place_of p` is the abstract value of the place `p` of the code.
abbrev pub place_of : code_place.NodePlace → NodePlace
place_of (coded_place.Policy ts) = whole_policy ts.now
place_of (coded_place.Entity part ts path) = in_entity part.now ts.now path.now
place_of (coded_place.Action part ts path) = in_action part.now ts.now path.now
place_of (coded_place.Unless c ts) = in_unless c.now ts.now
place_of (coded_place.Expression x ts path) = in_expression x.now ts.now path.now
place_of coded_place.Nowhere = nowhere

-- `joint_at t policy here there` is the place to which a path with the first turn `t` leads in a conjunction of parts
-- or conditions: the policy if the path ends at the conjunction, else what `here` gives for the first operand, or
-- `there` for the second. `policy` are the policy's tokens from its effect on.
abbrev pub joint_at : Turn → List Token → (List ℕ → NodePlace) → (List ℕ → NodePlace) → NodePlace
joint_at stop policy here there = whole_policy policy
joint_at (left path) policy here there = here path
joint_at (right path) policy here there = there path
joint_at off policy here there = nowhere

-- ## Conditions

-- `unless_at t c ts` is the place to which a path with the first turn `t` leads in the condition `c`, an
-- `unless { e }`, which means `!e`: that negation has the whole condition's tokens. The tokens `ts` begin with `c`.
abbrev pub unless_at : Turn → Condition → List Token → NodePlace
unless_at stop c ts = in_unless c ts
unless_at (left path) c ts = in_expression c.expression (drop 2 ts) path
unless_at (right path) c ts = nowhere
unless_at off c ts = nowhere

-- `by_word word c ts path` is the place at `path` of the condition `c`, whose first word is `word`; the tokens `ts`
-- begin with `c`.
abbrev pub by_word : ConditionWord → Condition → List Token → List ℕ → NodePlace
by_word word.When c ts path = in_expression c.expression (drop 2 ts) path
by_word word.Unless c ts path = unless_at (turn path) c ts

-- `at_condition c ts path` is the place of the node at `path` of the expression that the condition `c` means; the
-- tokens `ts` begin with `c`.
abbrev pub at_condition : Condition → List Token → List ℕ → NodePlace
at_condition c ts path = by_word c.word c ts path

-- `if_stop t policy` is the place of a policy with the tokens `policy` if the path with the first turn `t` ends, and
-- `nowhere` if it goes on.
abbrev pub if_stop : Turn → List Token → NodePlace
if_stop stop policy = whole_policy policy
if_stop (left path) policy = nowhere
if_stop (right path) policy = nowhere
if_stop off policy = nowhere

-- `at_conditions policy cs ts path` is the place of the node at `path` of the conjunction of the conditions `cs`,
-- joined to the right; the tokens `ts` begin with `cs`.
abbrev pub at_conditions : List Token → List Condition → List Token → List ℕ → NodePlace
at_conditions policy [] ts path = if_stop (turn path) policy
at_conditions policy (c ∷ []) ts path = at_condition c ts path
at_conditions policy (c ∷ (d ∷ cs)) ts path =
    joint_at (turn path) policy (at_condition c ts) (at_conditions policy (d ∷ cs) (drop (condition_count c) ts))

-- ## The policy

-- `from_resource policy tree ts path` is the place of the node at `path` of `resource && conditions` of the policy
-- `tree`, and `from_action policy tree ts path` that of the node at `path` of `action && (resource && conditions)`. The
-- tokens `ts` begin with the constraint on the resource, or on the action.
abbrev pub from_resource : List Token → PolicyTree → List Token → List ℕ → NodePlace
from_resource policy tree ts path =
    joint_at (turn path) policy (in_entity tree.resource ts)
    (at_conditions policy tree.conditions (drop 1 (drop (part_count tree.resource) ts)))

abbrev pub from_action : List Token → PolicyTree → List Token → List ℕ → NodePlace
from_action policy tree ts path =
    joint_at (turn path) policy (in_action tree.action ts)
    (from_resource policy tree (drop 1 (drop (action_count tree.action) ts)))

-- `from_effect policy tree path` is the place of the node at `path` of the expression of the policy `tree`. The tokens
-- `policy` begin with the policy's effect; `principal` follows the effect and a parenthesis.
abbrev pub from_effect : List Token → PolicyTree → List ℕ → NodePlace
from_effect policy tree path =
    joint_at (turn path) policy (in_entity tree.principal (drop 2 policy))
    (from_action policy tree (drop 1 (drop (part_count tree.principal) (drop 2 policy))))

-- `from_byte at ts` are the tokens from the one that starts at the byte `at`; none if no token does.
abbrev pub from_byte : ℕ → List Token → List Token
from_byte at ts = drop (unwrap_or (position (λ t. t.start == at) ts) (length ts)) ts

-- `place_at ts tree path` is the place of the node at `path` of the expression of the policy `tree`, where `ts` are all
-- tokens of the policy's text. Annotations precede the policy's effect.
abbrev pub place_at : List Token → PolicyTree → List ℕ → NodePlace
place_at ts tree path = from_effect (from_byte tree.effect.start ts) tree path

-- ## What is written there

-- `written place` are the tokens of the least written form around the node at `place`.
abbrev pub written : NodePlace → Option (List Token)
written (whole_policy ts) = Some ts
written (in_entity part ts path) = Some (up_to ts (drop (part_count part) ts))
written (in_action part ts path) = Some (up_to ts (drop (action_count part) ts))
written (in_unless c ts) = Some (up_to ts (drop (condition_count c) ts))
written (in_expression x ts path) = tokens_at x ts path
written nowhere = None

-- `written_at ts tree path` are the tokens of the node at `path` of the expression of the policy `tree`, where `ts` are
-- all tokens of the policy's text.
abbrev pub written_at : List Token → PolicyTree → List ℕ → Option (List Token)
written_at ts tree path = written (place_at ts tree path)
