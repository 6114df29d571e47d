-- Defines when declared actions are a hierarchy of their own: their parents are actions, and no action is cyclic.
-- Source: Cedar reference guide 4.0, "Schema JSON format", `actions` and `memberOf`: the groups that an action is a
-- member of are actions, and no action is its own ancestor. Bytes whose actions break these rules are not a schema.
use Rattle.std.specs.Prelude.{List, [], Contains, Option, Some, None, IsSome}
use Rattle.values.specs.declared.entity_uid.EntityUid.{EntityUid}
use Rattle.evaluator.specs.ancestor_search.Hierarchy.{Parents}
use Rattle.evaluator.specs.ancestor_search.LeastCycle.{HasNoCycle}
use Rattle.entity_data.specs.Entities.{Actions}

-- `stated_parents o` are the parents in `o`, or `[]` if `o` is `None`. Here `o` has the parents of a declared action,
-- or is `None` for a uid that no declared action has.
abbrev pub stated_parents : Option (List EntityUid) → List EntityUid
stated_parents None = []
stated_parents (Some parents) = parents

-- `edges_of actions` are the edges from the declared actions `actions` to their parents.
abbrev pub edges_of : Actions → Parents
edges_of actions u = stated_parents (actions u)

-- `IsActionHierarchy actions` holds if the parents of the declared actions `actions` are among these actions, and none
-- of these is cyclic.
pub record IsActionHierarchy (actions : Actions) : Type 0 where
  pub among : (u parent : EntityUid) → Contains (edges_of actions u) parent → IsSome (actions parent)
  pub acyclic : HasNoCycle (edges_of actions)
